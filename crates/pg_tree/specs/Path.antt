-- The way down to a node: the literals that were chosen, and which of them leave a second subtree for later.
use Rattle.std.specs.Prelude.{ℕ, ◌<◌, ◌≤◌, Bool, true, false, List, [], ◌∷◌, length, take, slice_index_or}
use Rattle.pg_region.specs.Literal.{Literal, negated}
use Rattle.pg_decider.specs.Assignment.{Assignment, on, added}
use Rattle.pg_decider.specs.Trail.{lit}

-- what contracts see of the true literals: the greatest atom, and the literals in the order in which they were added
pub record PathTable : Type 0 where
  pub atoms : ℕ
  pub literals : List Literal

abbrev pub mark : List ℕ → ℕ → ℕ
mark ms i = slice_index_or ms i 0

-- the literals that are true in a second subtree: those before the mark, and the negation of the one at it
abbrev pub turned : List Literal → ℕ → Assignment
turned ls m = added (negated (lit ls m)) (on (take m ls))

-- the second subtrees that are still to come, before others, the last mark first
abbrev pub pending : List Literal → List ℕ → List Assignment → List Assignment
pending ls [] later = later
pending ls (m ∷ ms) later = pending ls ms (turned ls m ∷ later)

-- marks rise and stand on the path, so there are no more of them than literals
pub record AreMarks (ls : List Literal) (ms : List ℕ) : Type 0 where
  pub low : (i : ℕ) → i < length ms → i ≤ mark ms i
  pub rising : (i j : ℕ) → i < j → j < length ms → mark ms i < mark ms j
  pub inside : (i : ℕ) → i < length ms → mark ms i < length ls

-- the nodes that are still to come: the one at the end of the path, and the second subtrees; none once the tree is complete
abbrev pub to_come : Bool → List Literal → List ℕ → List Assignment
to_come true ls ms = on ls ∷ pending ls ms []
to_come false ls ms = []
