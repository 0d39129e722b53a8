-- What is left of a tree after some of its nodes were visited.
use Rattle.std.specs.Prelude.{◌≡◌, ℕ, ◌+◌, Bool, false, ◌||◌, if◌then◌else◌, Option, None, List, [], ◌∷◌, ◌++◌, take, reverse}
use Rattle.pg_region.specs.Literal.{Literal}
use Rattle.pg_decider.specs.Assignment.{Assignment, on, added}
use Rattle.pg_decider.specs.Tree.{Tree, IsTree, has_model, or_model, model_of, visited, lines}
use Rattle.pg_decider.specs.declared.log.TreeNode.{TreeNode}
use Rattle.pg_decider.specs.declared.search.Branch.{Branch}

-- the same of trees that are visited one after the other, up to the first model
abbrev pub visited_all : List Tree → ℕ
visited_all [] = 0
visited_all (t ∷ ts) = if has_model t then visited t else visited t + visited_all ts

abbrev pub any_model : List Tree → Bool
any_model [] = false
any_model (t ∷ ts) = has_model t || any_model ts

abbrev pub model_all : List Tree → Option Assignment
model_all [] = None
model_all (t ∷ ts) = or_model (model_of t) (model_all ts)

abbrev pub lines_all : List Tree → List TreeNode
lines_all [] = []
lines_all (t ∷ ts) = lines t ++ lines_all ts

-- the trees of the branches that are still to be visited, the last branch last
abbrev pub AreTrees : List (List Literal) → List Literal → List Branch → List Tree → Type 0
AreTrees cs t [] [] = Unit {0}
AreTrees cs t [] (x ∷ xs) = ⊥
AreTrees cs t (b ∷ bs) [] = ⊥
AreTrees cs t (b ∷ bs) (x ∷ xs) = IsTree cs (added b.literal (on (take b.mark t))) x × AreTrees cs t bs xs

-- Of the whole tree so many nodes were visited, whose lines are the log. What is left is the tree of the trail, and after it
-- those of the branches, the last branch first.
pub record Says (cs : List (List Literal)) (t : List Literal) (bs : List Branch) (done : ℕ) (log : List TreeNode) (whole : Tree) : Type 0 where
  pub first : Tree
  pub rest : List Tree
  pub is_first : IsTree cs (on t) first
  pub are_rest : AreTrees cs t bs rest
  pub nodes : visited whole ≡ done + visited_all (first ∷ reverse rest)
  pub models : has_model whole ≡ any_model (first ∷ reverse rest)
  pub model : model_of whole ≡ model_all (first ∷ reverse rest)
  pub logged : lines whole ≡ log ++ lines_all (first ∷ reverse rest)
