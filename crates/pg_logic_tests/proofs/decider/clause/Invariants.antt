use Rattle.std.proofs.Common.{◌≤◌, All}
use Rattle.pg_region.specs.Literal.{Literal}
use Rattle.pg_logic_tests.proofs.decider.clause.Given as goal

abbrev pub invariant-loop-number : goal.invariant-loop-number
invariant-loop-number l = All (λ (x : Literal). x.atom ≤ l.atoms) l.clause.items
