use Rattle.std.proofs.Common.{◌≤◌, All}
use Rattle.pg_region.specs.Literal.{Literal}
use Rattle.pg_logic_tests.proofs.decider.link.Given as goal

abbrev pub invariant-loop-k : goal.invariant-loop-k
invariant-loop-k l = All (All (λ (x : Literal). x.atom ≤ l.atoms)) l.region.clauses
