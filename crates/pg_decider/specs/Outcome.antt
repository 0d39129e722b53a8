-- What the decider answers for a tree and a budget of nodes.
use Rattle.std.specs.Prelude.{◌≡◌, ℕ, ◌<◌, ◌≤◌, true, false, Some, List, []}
use Rattle.pg_region.specs.Literal.{Literal}
use Rattle.pg_decider.specs.Assignment.{Assignment, on}
use Rattle.pg_decider.specs.Tree.{Tree, IsTree, has_model, model_of, visited, lines}
use Rattle.pg_decider.specs.declared.log.TreeNode.{TreeNode}
use Rattle.pg_decider.specs.declared.verdict.Verdict.{Verdict}
use Rattle.pg_decider.specs.declared.verdict.Verdict.TheVariants.{Closed, Model, Spent}

-- Closed and Model have the number of visited nodes, and come where it is within the budget. After Closed the log is the tree in
-- preorder, and after Model the assignment is the closure of the first node that is met. Spent comes where more are visited.
abbrev pub Answers : Verdict → ℕ → List TreeNode → Assignment → Tree → Type 0
Answers (Closed n) budget log s t = (has_model t ≡ false) × (visited t ≡ n) × (n ≤ budget) × (lines t ≡ log)
Answers (Model n) budget log s t = (has_model t ≡ true) × (visited t ≡ n) × (n ≤ budget) × (model_of t ≡ Some s)
Answers Spent budget log s t = budget < visited t

-- it is answered for the tree of these clauses, whose root has no literal
pub record IsOutcome (cs : List (List Literal)) (v : Verdict) (budget : ℕ) (log : List TreeNode) (s : Assignment) : Type 0 where
  pub tree : Tree
  pub is : IsTree cs (on []) tree
  pub answers : Answers v budget log s tree

-- something that holds where a tree is closed
abbrev pub IfClosed : Verdict → Type 0 → Type 0
IfClosed (Closed n) P = P
IfClosed (Model n) P = Unit {0}
IfClosed Spent P = Unit {0}

-- how many nodes were visited within the budget
abbrev pub nodes_of : Verdict → ℕ → ℕ
nodes_of (Closed n) budget = n
nodes_of (Model n) budget = n
nodes_of Spent budget = budget
