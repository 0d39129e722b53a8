-- The way down a log to one of its nodes.
use Rattle.std.specs.Prelude.{◌≡◌, ℕ, List, [], ◌∷◌, ◌++◌, take}
use Rattle.pg_region.specs.Literal.{Literal}
use Rattle.pg_decider.specs.Leaf.{paths_after, IsLog}
use Rattle.pg_decider.specs.Reached.{AreWithin}
use Rattle.pg_decider.specs.Search.{AreBranches}
use Rattle.pg_decider.specs.Trail.{TrailTable}
use Rattle.pg_decider.specs.declared.log.TreeNode.{TreeNode}
use Rattle.pg_decider.specs.declared.search.Branch.{Branch}

-- the paths of the branches before other paths, the last branch first
abbrev pub pending : List Literal → List Branch → List (List Literal) → List (List Literal)
pending t [] ps = ps
pending t (b ∷ bs) ps = pending t bs ((take b.mark t ++ b.literal ∷ []) ∷ ps)

-- the trail is the path of the node at place k, and the branches give the paths of those that are to come
pub record Walking (t : TrailTable) (bs : List Branch) (log : List TreeNode) (k : ℕ) : Type 0 where
  pub branches : AreBranches [] [] t bs
  pub paths : paths_after ([] ∷ []) (take k log) ≡ t.literals ∷ pending t.literals bs []

-- the log of a closed tree over clauses within n atoms
pub record IsLogOver (n : ℕ) (log : List TreeNode) : Type 0 where
  pub clauses : List (List Literal)
  pub over : AreWithin n clauses
  pub log_is : IsLog clauses log
