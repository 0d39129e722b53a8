use Rattle.std.proofs.Common.{◌≡◌, ◌≤◌, length, take, drop}
use Rattle.pg_decider.specs.Assignment.{on}
use Rattle.pg_tree.specs.Fault.{leaf_fault}
use Rattle.pg_tree.proofs.check.leaf_steps.Given as goal

abbrev pub invariant-numbers : goal.invariant-numbers
invariant-numbers l =
    (l.path.atoms ≡ l.fn.path.atoms) × ((l.reader.clauses ≡ l.fn.reader.clauses) × (l.reader.atoms ≡ l.fn.reader.atoms))
    × (length l.fn.path.literals ≤ length l.path.literals)
    × (take (length l.fn.path.literals) l.path.literals ≡ l.fn.path.literals)
    × (leaf_fault l.fn.reader.clauses l.line (on l.fn.path.literals) l.numbers ≡ leaf_fault l.fn.reader.clauses l.line (on l.path.literals) (drop l.i l.numbers))
