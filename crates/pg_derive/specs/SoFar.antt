-- What is put before the next line, and before the next obligation. `old` and `new` are what the sink tells that it has written, `before`
-- and `now` its counts of faults.
use Rattle.std.specs.Prelude.{◌≡◌, ℕ, ◌≤◌, List, Option}
use Rattle.pg_io.specs.Written.{appended}
use Rattle.pg_region.specs.Literal.{Literal}
use Rattle.pg_decider.specs.declared.log.TreeNode.{TreeNode}
use Rattle.pg_outline.specs.Outline.{OutlineTable}
use Rattle.pg_derive.specs.Begun.{IsFirstText, AreTexts}

-- the lines of the first k nodes
pub record IsTreeSoFar (cs : List (List Literal)) (log : List TreeNode) (k : ℕ) (old new : Option (List ℕ)) (before now : ℕ) : Type 0 where
  pub text : List ℕ
  pub first : IsFirstText cs log k text
  pub written : new ≡ appended old text
  pub faults : before ≤ now

-- the header, and the trees of the first k obligations
pub record IsSoFar (o : OutlineTable) (k : ℕ) (old new : Option (List ℕ)) (before now : ℕ) : Type 0 where
  pub text : List ℕ
  pub texts : AreTexts o k text
  pub written : new ≡ appended old text
  pub faults : before ≤ now
