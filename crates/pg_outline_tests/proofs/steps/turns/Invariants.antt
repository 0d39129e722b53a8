use Rattle.pg_machine.specs.State.{IsWellFormed}
use Rattle.pg_outline_tests.proofs.steps.turns.Given as goal

abbrev pub invariant-loop-i : goal.invariant-loop-i
invariant-loop-i l = IsWellFormed l.p l.state.state
