use Rattle.pg_decider.proofs.Sound.{small-tree}
use Rattle.pg_decider.proofs.laws.a_small_tree_exists.Goals as goal

pub returns : goal.returns
returns c = small-tree
