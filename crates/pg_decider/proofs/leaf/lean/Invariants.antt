use Rattle.std.proofs.Common.{◌≡◌, ◌<◌, ◌≤◌, ◌+◌, ◌*◌, length, drop}
use Rattle.pg_decider.specs.Lean.{AreMarks, Leaning}
use Rattle.pg_decider.proofs.leaf.lean.Given as goal

abbrev pub invariant-literals : goal.invariant-literals
invariant-literals l =
    (l.path ≤ l.j) × (l.j ≤ length l.trail.literals) × (l.j ≤ l.from) × (l.from < length l.list)
    × (length l.marks ≡ 2 * l.trail.atoms + 3)
    × AreMarks l.fn.reader.clauses l.marks (drop l.from l.list)
    × Leaning l.fn.reader.clauses l.trail.literals l.j (drop l.from l.list)
    × (l.reader.clauses ≡ l.fn.reader.clauses)

abbrev pub decreases-literals : goal.decreases-literals
decreases-literals l = l.j
