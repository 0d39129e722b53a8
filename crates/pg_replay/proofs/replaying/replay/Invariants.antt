use Rattle.pg_replay.proofs.Going.{IsGoing}
use Rattle.pg_replay.proofs.replaying.replay.Given as goal

abbrev pub invariant-lines : goal.invariant-lines
invariant-lines g l =
    IsGoing l.o l.s l.k l.state.state l.found (g.K.Sink.written l.fn.out) (g.K.Sink.written l.out) (g.K.Sink.faults l.fn.out) (g.K.Sink.faults l.out)
