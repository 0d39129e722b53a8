use Rattle.std.proofs.Common.{◌≡◌, drop, vec_capacity}
use Rattle.pg_tree.specs.Checking.{Checking}
use Rattle.pg_tree.proofs.check.find_fault.Given as goal

abbrev pub invariant-lines : goal.invariant-lines
invariant-lines l =
    (l.path.atoms ≡ l.fn.path.atoms) × (vec_capacity l.marks ≡ vec_capacity l.fn.marks)
    × ((l.reader.clauses ≡ l.fn.reader.clauses) × (l.reader.atoms ≡ l.fn.reader.atoms))
    × Checking l.fn.reader.atoms l.fn.reader.clauses l.tree l.path.literals l.marks.items l.is_open l.last (drop l.k l.tree)
