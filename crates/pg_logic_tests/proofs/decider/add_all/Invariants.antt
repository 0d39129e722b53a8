use Rattle.std.proofs.Common.{◌≤◌, All}
use Rattle.pg_region.specs.Literal.{Literal}
use Rattle.pg_logic_tests.proofs.decider.add_all.Given as goal

abbrev pub invariant-loop-numbers : goal.invariant-loop-numbers
invariant-loop-numbers l = All (All (λ (x : Literal). x.atom ≤ 5)) l.region.clauses
