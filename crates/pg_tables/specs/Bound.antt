-- The most clauses and literals that a table may have.
use Rattle.std.specs.Prelude.{ℕ, ◌≤◌, List, length}
use Rattle.pg_program.specs.Limits.{largest_domain, most_scalars, most_locations, most_threads}
use Rattle.pg_assertion.specs.Layout.{Sizes}
use Rattle.pg_region.specs.Pieces.{total}
use Rattle.pg_tables.specs.declared.clause.StepLiteral.{StepLiteral}

-- a layout has no more values, scalars, locations and threads than another
pub record AreWithin (l m : Sizes) : Type 0 where
  pub domain : l.domain ≤ m.domain
  pub scalars : l.scalars ≤ m.scalars
  pub locations : l.locations ≤ m.locations
  pub threads : l.threads ≤ m.threads

-- the largest layout in a version of the language
abbrev pub largest : ℕ → Sizes
largest version =
    record { domain = largest_domain version; scalars = most_scalars; locations = most_locations version; threads = most_threads }

-- a table has at most m clauses, and at most n literals in all of them together
pub record AreFew (cs : List (List StepLiteral)) (m n : ℕ) : Type 0 where
  pub clauses : length cs ≤ m
  pub literals : total cs ≤ n
