use Rattle.std.proofs.Common.{◌≡◌, ◌+◌, ◌≤◌, length, vec_capacity}
use Rattle.pg_decider.specs.Assignment.{on}
use Rattle.pg_judge.specs.Outcome.{truths_of}
use Rattle.pg_judge.proofs.bench.Bench.tell.Given as goal

abbrev pub invariant-loop-a : goal.invariant-loop-a
invariant-loop-a l =
    (length l.truths.items ≡ l.a + 1) × (l.truths.items ≡ truths_of l.a (on l.self.workspace.literals)) × (l.atoms + 1 ≤ vec_capacity l.truths)
