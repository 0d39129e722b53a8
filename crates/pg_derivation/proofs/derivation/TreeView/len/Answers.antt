use Rattle.std.proofs.Common.{sym}
use Rattle.pg_derivation.proofs.Trees.{length-tree_in, is_tree}
use Rattle.pg_derivation.proofs.derivation.TreeView.len.Goals as goal

pub returns-clause-count : goal.returns-clause-count
returns-clause-count c = rw (← c.self.view_is) (sym (length-tree_in _ _ _))

pub returns-clause-tree : goal.returns-clause-tree
returns-clause-tree c = rw (← c.self.view_is) (is_tree _ _ _ c.self.invariant)
