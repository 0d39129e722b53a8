use Rattle.pg_layers.proofs.Sizes.{never_full}
use Rattle.pg_layers.proofs.layers.lay_axioms.Goals as goal

pub unreachable-requires : goal.unreachable-requires
unreachable-requires c = never_full c.args.region.now _ _ c.requires.room c.in-Err.ensures
