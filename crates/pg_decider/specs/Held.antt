-- What contracts see of a workspace and of a log.
use Rattle.std.specs.Prelude.{ℕ, List}
use Rattle.pg_region.specs.Literal.{Literal}
use Rattle.pg_decider.specs.declared.log.TreeNode.{TreeNode}

-- the atoms and the clauses that a workspace was made for, and the literals that are true in it
pub record WorkspaceTable : Type 0 where
  pub atoms : ℕ
  pub clauses : ℕ
  pub literals : List Literal

-- the lines of a log, and how many it has room for
pub record LogTable : Type 0 where
  pub lines : List TreeNode
  pub room : ℕ
