use Rattle.pg_decider.proofs.Sound.{tree-unique}
use Rattle.pg_decider.proofs.laws.a_tree_is_unique.Goals as goal

pub returns : goal.returns
returns c = tree-unique
