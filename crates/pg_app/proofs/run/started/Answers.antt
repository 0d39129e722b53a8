-- A run on the words that were collected.
use Rattle.pg_app.specs.Run.{IsRun}
use Rattle.pg_app.proofs.run.started.Goals as goal

pub returns-in-Ok-clause-ran : goal.returns-in-Ok-clause-ran
returns-in-Ok-clause-ran g c =
    let room = c.args.room.now in
    let out = c.args.out.now in
    let same = c.as_slice.ensures.value in
    let ran = c.run.ensures in
    let is : IsRun c.in-Ok.words.items (g.R.Room.told room)
    (g.R.Room.faults room) (g.R.Room.faults c.run.new.room) (g.R.Room.taken room) (g.R.Room.taken c.run.new.room)
    c.run.result (g.K.Sink.written out) (g.K.Sink.written c.run.new.out) (g.K.Sink.faults out) (g.K.Sink.faults c.run.new.out) =
    record {
      range = ran.range;
      read_fault = rw (← same) ran.read_fault;
      nothing_read = ran.nothing_read;
      write_fault = ran.write_fault;
      too_long = rw (← same) ran.too_long;
      usage = rw (← same) ran.usage;
      shapeless = rw (← same) ran.shapeless;
      defined = rw (← same) ran.defined;
      only = rw (← same) ran.only;
      part = rw (← same) ran.part;
      complete = rw (← same) ran.complete;
      safe = rw (← same) ran.safe;
      denied = rw (← same) ran.denied;
    } in
    rw c.in-Ok.is is
