use Rattle.std.proofs.Common.{◌≤◌, length}
use Rattle.pg_logic_tests.proofs.decider.are_leaves.Given as goal

abbrev pub invariant-loop-i : goal.invariant-loop-i
invariant-loop-i l = (l.atoms ≤ l.workspace.atoms) × (length l.region.clauses ≤ l.workspace.clauses)
