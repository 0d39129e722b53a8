use Rattle.pg_layers.proofs.Laying.{top_room, topped}
use Rattle.pg_layers.proofs.Sizes.{never_full}
use Rattle.pg_layers.proofs.layers.with_top.Goals as goal

pub unreachable-requires : goal.unreachable-requires
unreachable-requires c =
    never_full c.args.region.now _ _
    (top_room c.args.o.now c.args.ob c.args.k.now c.args.region.now c.program-made.ensures.made c.bounded.ensures.limits c.bounded.ensures.bounds c.requires.room c.requires.lies)
    c.in-Err.ensures

pub returns : goal.returns
returns c = topped c.args.o.now c.args.ob c.args.k.now c.args.region.now c.offer_top.new.into c.requires.lies c.in-Ok.ensures
