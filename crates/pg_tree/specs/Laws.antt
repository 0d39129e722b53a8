-- Laws of valid trees.
use Rattle.std.specs.Prelude.{◌≡◌, ℕ, ◌<◌, ◌↔◌, None, List, [], length, slice_index_or}
use Rattle.pg_region.specs.Literal.{Literal}
use Rattle.pg_decider.specs.Assignment.{Assignment, on}
use Rattle.pg_decider.specs.Laws.{AreOver, IsWhole}
use Rattle.pg_decider.specs.Leaf.{IsLog, IsLeaf, path_of}
use Rattle.pg_decider.specs.Split.{AllMet}
use Rattle.pg_decider.specs.declared.log.TreeNode.{TreeNode}
use Rattle.pg_decider.specs.declared.log.TreeNode.TheVariants.{Split, Leaf}
use Rattle.pg_derivation.specs.Derivation.{Node, split, leaf, TreeLine, nodes_of}
use Rattle.pg_tree.specs.Valid.{AreValid}
use Rattle.pg_tree.specs.Fault.{tree_fault}

-- lines have no fault exactly where their nodes are the preorder of a valid tree
abbrev pub NoFaultIsValid : Type 0
NoFaultIsValid = (n : ℕ) (cs : List (List Literal)) (xs : List TreeLine) → (tree_fault n cs xs ≡ None) ↔ AreValid n cs (nodes_of xs)

-- where clauses have a valid tree, values for all atoms never satisfy them
abbrev pub ValidIsUnsatisfiable : Type 0
ValidIsUnsatisfiable = (n : ℕ) (cs : List (List Literal)) (nodes : List Node) → AreValid n cs nodes → (s : Assignment) → IsWhole s → AllMet s cs → ⊥

-- What is written for a node of a log, whose path is p: a split as it is, and for a leaf clauses that close it.
abbrev pub IsWritten : List (List Literal) → List Literal → TreeNode → Node → Type 0
IsWritten cs p (Split l) (split m) = l ≡ m
IsWritten cs p (Split l) (leaf ns) = ⊥
IsWritten cs p Leaf (split m) = ⊥
IsWritten cs p Leaf (leaf ns) = IsLeaf cs (on p) ns

-- the nodes are what is written for a log, place by place
pub record AreWritten (cs : List (List Literal)) (log : List TreeNode) (nodes : List Node) : Type 0 where
  pub long : length nodes ≡ length log
  pub each : (k : ℕ) → k < length log → IsWritten cs (path_of log k) (slice_index_or log k Leaf) (slice_index_or nodes k (leaf []))

-- what is written for the log of a closed tree, over clauses of n atoms, is valid
abbrev pub WrittenIsValid : Type 0
WrittenIsValid = (n : ℕ) (cs : List (List Literal)) (log : List TreeNode) (nodes : List Node) → AreOver n cs → IsLog cs log → AreWritten cs log nodes → AreValid n cs nodes
