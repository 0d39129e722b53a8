-- What a contract sees of a reader.
use Rattle.std.specs.Prelude.{ℕ, List}
use Rattle.pg_region.specs.Literal.{Literal}

-- the clauses of an obligation, the greatest number of its atoms, and how often a clause was looked at
pub record Reading : Type 0 where
  pub clauses : List (List Literal)
  pub atoms : ℕ
  pub looks : ℕ
