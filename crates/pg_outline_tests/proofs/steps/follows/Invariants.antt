use Rattle.pg_machine.specs.State.{IsWellFormed}
use Rattle.pg_outline_tests.proofs.steps.follows.Given as goal

abbrev pub invariant-loop-thread : goal.invariant-loop-thread
invariant-loop-thread l = IsWellFormed l.p l.state.state
