-- The bytes that were fetched are read, or the call ends.
use Rattle.pg_app.specs.File.{outline_file}
use Rattle.pg_app.proofs.Endings.{refused_stops}
use Rattle.pg_app.proofs.fetch.fetched_outline.Goals as goal

pub returns-in-Ok-clause-stops : goal.returns-in-Ok-clause-stops
returns-in-Ok-clause-stops g c =
    let room = c.args.room.now in
    refused_stops c.read_outline.result (g.R.Room.told room) (outline_file c.args.name.now) c.in-Ok.bytes.items
    (g.R.Room.faults room c.args.name.now) (g.R.Room.faults c.fetched.new.room c.args.name.now) (g.R.Room.taken room) (g.R.Room.taken c.fetched.new.room)
    (g.K.Sink.written c.args.out.now) (g.K.Sink.written c.read_outline.new.out) (g.K.Sink.faults c.args.out.now) (g.K.Sink.faults c.read_outline.new.out)
    c.in-Ok.ensures.fetched (rw (c.as_slice.ensures.value, c.in-Ok.ensures.unwritten) at c.read_outline.ensures.refused)
