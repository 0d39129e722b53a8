use Rattle.pg_assertion.specs.Formula.{plain}
use Rattle.pg_machine.specs.State.{IsWellFormed}
use Rattle.pg_walk.specs.Told.{Walks}
use Rattle.pg_walk.proofs.walk.walk.Given as goal

-- the first k lines were walked
abbrev pub invariant-lines : goal.invariant-lines
invariant-lines l = IsWellFormed l.program l.state.state × Walks l.program (plain l.question) l.schedule l.k l.state.state l.told.items
