-- The clauses of one obligation in a region.
use Rattle.std.specs.Prelude.{ℕ, ◌+◌, ◌-◌, ◌<◌, ◌≤◌, ◌^◌, List, ◌++◌, length, slice_range, All}
use Rattle.pg_region.specs.Literal.{Literal}
use Rattle.pg_region.specs.declared.range.ClauseRange.{ClauseRange}
use Rattle.pg_region.specs.declared.range.Loaded.{Loaded}

-- how many clauses a range has
abbrev pub count_of : ClauseRange → ℕ
count_of r = (r.top_to - r.top_from) + ((r.rules_to - r.rules_from) + (r.axioms_to - r.axioms_from))

-- the clauses of a range, in the order of their numbers
abbrev pub listed : List (List Literal) → ClauseRange → List (List Literal)
listed cs r = slice_range cs r.top_from r.top_to ++ (slice_range cs r.rules_from r.rules_to ++ slice_range cs r.axioms_from r.axioms_to)

-- each part ends where it begins, or later, and the number of clauses is a number of 32 bits
pub record IsRange (r : ClauseRange) : Type 0 where
  pub top : r.top_from ≤ r.top_to
  pub rules : r.rules_from ≤ r.rules_to
  pub axioms : r.axioms_from ≤ r.axioms_to
  pub few : count_of r < 2 ^ 32

-- the parts end within a list of n clauses
pub record IsWithin (r : ClauseRange) (n : ℕ) : Type 0 where
  pub top : r.top_to ≤ n
  pub rules : r.rules_to ≤ n
  pub axioms : r.axioms_to ≤ n

-- What was loaded fits a region with these clauses: its range is one of that region, and no literal has an atom above the greatest.
pub record Fits (l : Loaded) (clauses : List (List Literal)) : Type 0 where
  pub range : IsRange l.range
  pub within : IsWithin l.range (length clauses)
  pub few_atoms : l.atoms < 2 ^ 31
  pub atoms : All (All (λ x. x.atom ≤ l.atoms)) (listed clauses l.range)
