-- When a tree of splits and leaves is valid for clauses. Nothing here depends on how it is checked.
use Rattle.std.specs.Prelude.{◌≡◌, ℕ, ◌-◌, ◌≤◌, false, List, [], ◌∷◌, ◌++◌, length}
use Rattle.pg_region.specs.Literal.{Literal, negated}
use Rattle.pg_region.specs.Region.{clause_at}
use Rattle.pg_decider.specs.Assignment.{Assignment, on, added, AreFalse, IsUnit}
use Rattle.pg_derivation.specs.Derivation.{Node, split, leaf}

-- A tree: a leaf is a list of numbers of clauses, from 1 on; a split has the subtree in which its literal is true, and the one in
-- which it is false.
pub data SplitTree : Type 0 where
  closing : List ℕ → SplitTree
  fork : Literal → SplitTree → SplitTree → SplitTree

-- clause n has one literal without a value, l, and all others are false
pub record Adds (cs : List (List Literal)) (s : Assignment) (n : ℕ) (l : Literal) : Type 0 where
  pub positive : 1 ≤ n
  pub within : n ≤ length cs
  pub unit : IsUnit s (clause_at cs (n - 1)) l

-- a leaf: each clause but the last adds its literal to those that are true, and then the last is all false
abbrev pub IsClosing : List (List Literal) → Assignment → List ℕ → Type 0
IsClosing cs s [] = ⊥
IsClosing cs s (n ∷ []) = (1 ≤ n) × (n ≤ length cs) × AreFalse s (clause_at cs (n - 1))
IsClosing cs s (n ∷ m ∷ ns) = (l : Literal) × (Adds cs s n l × IsClosing cs (added l s) (m ∷ ns))

-- a literal that may be split at: its atom is one of those from 1 to n, and has no value
pub record MaySplit (n : ℕ) (s : Assignment) (l : Literal) : Type 0 where
  pub positive : 1 ≤ l.atom
  pub within : l.atom ≤ n
  pub free : s l ≡ false
  pub unset : s (negated l) ≡ false

-- a valid tree for clauses over n atoms, below the literals that were chosen on the way down to it
abbrev pub IsValid : ℕ → List (List Literal) → Assignment → SplitTree → Type 0
IsValid n cs s (closing ns) = IsClosing cs s ns
IsValid n cs s (fork l a b) = MaySplit n s l × (IsValid n cs (added l s) a × IsValid n cs (added (negated l) s) b)

-- the nodes in preorder
abbrev pub preorder : SplitTree → List Node
preorder (closing ns) = leaf ns ∷ []
preorder (fork l a b) = split l ∷ (preorder a ++ preorder b)

-- these nodes are the preorder of a valid tree
pub record AreValid (n : ℕ) (cs : List (List Literal)) (nodes : List Node) : Type 0 where
  pub tree : SplitTree
  pub valid : IsValid n cs (on []) tree
  pub whole : preorder tree ≡ nodes
