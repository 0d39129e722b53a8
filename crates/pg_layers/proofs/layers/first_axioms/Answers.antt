use Rattle.std.proofs.Common.{refl}
use Rattle.pg_layers.proofs.Laying.{room_first, room_second, based}
use Rattle.pg_layers.proofs.layers.first_axioms.Goals as goal

pub lay_axioms-requires-clause-room : goal.lay_axioms-requires-clause-room
lay_axioms-requires-clause-room c = room_first c.args.o.now c.args.region.now c.bounded.ensures.bounds c.requires.room c.requires.empty

pub lay_axioms-requires-2-clause-room : goal.lay_axioms-requires-2-clause-room
lay_axioms-requires-2-clause-room c = room_second c.args.o.now c.args.region.now c.lay_axioms.new.region c.bounded.ensures.bounds c.requires.room c.requires.empty c.lay_axioms.ensures

pub returns : goal.returns
returns c =
    based c.args.o.now _ c.args.region.now c.lay_axioms.new.region c.lay_axioms-2.new.region c.requires.empty c.lay_axioms.ensures c.lay_axioms-2.ensures
    refl c.clauses-middle.ensures c.mark.ensures c.clauses.ensures c.mark-2.ensures c.clauses-2.ensures
