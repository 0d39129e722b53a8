use Rattle.std.proofs.Common.{◌≡◌, ◌+◌, ◌≤◌, drop}
use Rattle.pg_decider.specs.Assignment.{on}
use Rattle.pg_decider.specs.Noted.{run}
use Rattle.pg_decider.specs.declared.split.Found.TheVariants.{Nothing}
use Rattle.pg_decider.proofs.split.split.Given as goal

abbrev pub invariant-clauses : goal.invariant-clauses
invariant-clauses l = (l.reader.clauses ≡ l.fn.reader.clauses) × (l.reader.atoms ≡ l.fn.reader.atoms) × (l.reader.looks ≤ l.fn.reader.looks + l.k)
    × (run (on l.trail.literals) Nothing l.fn.reader.clauses ≡ run (on l.trail.literals) l.found (drop l.k l.fn.reader.clauses))
