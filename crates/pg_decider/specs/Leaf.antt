-- Which clauses close a leaf of a closed tree: a list of clause numbers, each of which adds a literal that a later one needs, up to
-- a conflict.
use Rattle.std.specs.Prelude.{◌≡◌, ℕ, ◌-◌, ◌≤◌, Bool, true, false, ◌||◌, List, [], ◌∷◌, ◌++◌, length, take}
use Rattle.pg_region.specs.Literal.{Literal, negated}
use Rattle.pg_region.specs.Region.{clause_at}
use Rattle.pg_decider.specs.Assignment.{Assignment, on, added, AreFalse, IsUnit}
use Rattle.pg_decider.specs.Tree.{Tree, IsTree, has_model, lines}
use Rattle.pg_decider.specs.declared.log.TreeNode.{TreeNode}
use Rattle.pg_decider.specs.declared.log.TreeNode.TheVariants.{Split, Leaf}

-- the log of a closed tree
pub record IsLog (cs : List (List Literal)) (log : List TreeNode) : Type 0 where
  pub tree : Tree
  pub is : IsTree cs (on []) tree
  pub closed : has_model tree ≡ false
  pub whole : lines tree ≡ log

-- the paths of the nodes that are still to come, the next one first, after a node
abbrev pub next_paths : List (List Literal) → TreeNode → List (List Literal)
next_paths [] node = []
next_paths (p ∷ more) Leaf = more
next_paths (p ∷ more) (Split l) = (p ++ l ∷ []) ∷ (p ++ negated l ∷ []) ∷ more

abbrev pub paths_after : List (List Literal) → List TreeNode → List (List Literal)
paths_after ps [] = ps
paths_after ps (x ∷ xs) = paths_after (next_paths ps x) xs

abbrev pub first_path : List (List Literal) → List Literal
first_path [] = []
first_path (p ∷ more) = p

-- the path of the node at place k of a log, from 0 on: the literals that were chosen down to it
abbrev pub path_of : List TreeNode → ℕ → List Literal
path_of log k = first_path (paths_after ([] ∷ []) (take k log))

-- l stands negated in one of the clauses with these numbers
abbrev pub stands_negated : List (List Literal) → Literal → List ℕ → Bool
stands_negated cs l [] = false
stands_negated cs l (n ∷ ns) = stands_negated cs l ns || on (clause_at cs (n - 1)) (negated l)

-- clause n forces the literal l, which has no value, and a later clause needs it
pub record Adds (cs : List (List Literal)) (s : Assignment) (n : ℕ) (ns : List ℕ) (l : Literal) : Type 0 where
  pub positive : 1 ≤ n
  pub within : n ≤ length cs
  pub unit : IsUnit s (clause_at cs (n - 1)) l
  pub used : stands_negated cs l ns ≡ true

-- numbers of clauses that lead from s to a conflict, none of them in vain: each but the last adds a literal, and the last clause is
-- all false
abbrev pub IsLeaf : List (List Literal) → Assignment → List ℕ → Type 0
IsLeaf cs s [] = ⊥
IsLeaf cs s (n ∷ []) = (1 ≤ n) × (n ≤ length cs) × AreFalse s (clause_at cs (n - 1))
IsLeaf cs s (n ∷ m ∷ ns) = (l : Literal) × (Adds cs s n (m ∷ ns) l × IsLeaf cs (added l s) (m ∷ ns))
