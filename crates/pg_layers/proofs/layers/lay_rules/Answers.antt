use Rattle.pg_layers.proofs.Sizes.{never_full}
use Rattle.pg_layers.proofs.layers.lay_rules.Goals as goal

pub unreachable-requires : goal.unreachable-requires
unreachable-requires c = never_full c.args.region.now _ _ c.requires.room c.in-Err.ensures
