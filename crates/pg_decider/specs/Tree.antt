-- The plain tree over clauses: how each node ends, which nodes there are, and those that are visited.
use Rattle.std.specs.Prelude.{◌≡◌, ℕ, ◌+◌, Bool, true, false, ◌||◌, if◌then◌else◌, Option, Some, None, List, [], ◌∷◌, ◌++◌}
use Rattle.pg_region.specs.Literal.{Literal, negated}
use Rattle.pg_decider.specs.Assignment.{Assignment, added, HasConflict, IsClosure}
use Rattle.pg_decider.specs.Split.{split_literal, AllMet}
use Rattle.pg_decider.specs.declared.settle.Node.{Node}
use Rattle.pg_decider.specs.declared.settle.Node.TheVariants.{Shut, Met, Open}
use Rattle.pg_decider.specs.declared.log.TreeNode.{TreeNode}
use Rattle.pg_decider.specs.declared.log.TreeNode.TheVariants.{Split, Leaf}

-- How a node ends whose closure is u: it is shut by a conflict; without one, it is met where each clause has a true literal, and
-- else it is open and splits at a literal.
abbrev pub NodeIs : List (List Literal) → Assignment → Node → Type 0
NodeIs cs u Shut = HasConflict cs u
NodeIs cs u Met = (HasConflict cs u → ⊥) × AllMet u cs
NodeIs cs u (Open l) = (HasConflict cs u → ⊥) × (split_literal u cs ≡ Some l)

-- how the node of a path ends, a path being the set of the literals that were chosen down to it
pub record IsNode (cs : List (List Literal)) (path : Assignment) (n : Node) : Type 0 where
  pub set : Assignment
  pub closure : IsClosure cs path set
  pub is : NodeIs cs set n

-- a tree, in which a node that is met has its closure
pub data Tree : Type 0 where
  shut : Tree
  met : Assignment → Tree
  fork : Literal → Tree → Tree → Tree

-- the tree below a path: the first child of a node adds its split literal, and the second the negation
abbrev pub IsTree : List (List Literal) → Assignment → Tree → Type 0
IsTree cs path shut = IsNode cs path Shut
IsTree cs path (met u) = IsNode cs path Met × IsClosure cs path u
IsTree cs path (fork l a b) = IsNode cs path (Open l) × (IsTree cs (added l path) a × IsTree cs (added (negated l) path) b)

abbrev pub has_model : Tree → Bool
has_model shut = false
has_model (met u) = true
has_model (fork l a b) = has_model a || has_model b

-- the closure of the first node that is met
abbrev pub or_model : Option Assignment → Option Assignment → Option Assignment
or_model None o = o
or_model (Some u) o = Some u

abbrev pub model_of : Tree → Option Assignment
model_of shut = None
model_of (met u) = Some u
model_of (fork l a b) = or_model (model_of a) (model_of b)

-- how many nodes there are, and how many are visited: depth first, the first child first, up to the first that is met
abbrev pub size : Tree → ℕ
size shut = 1
size (met u) = 1
size (fork l a b) = (1 + size a) + size b

abbrev pub visited : Tree → ℕ
visited shut = 1
visited (met u) = 1
visited (fork l a b) = if has_model a then 1 + visited a else (1 + visited a) + visited b

-- the nodes in preorder
abbrev pub lines : Tree → List TreeNode
lines shut = Leaf ∷ []
lines (met u) = Leaf ∷ []
lines (fork l a b) = Split l ∷ (lines a ++ lines b)
