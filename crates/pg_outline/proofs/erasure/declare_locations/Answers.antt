use Rattle.pg_outline.proofs.EraseNames.{new_location}
use Rattle.pg_outline.proofs.erasure.declare_locations.Goals as goal

pub declare-requires-clause-absent : goal.declare-requires-clause-absent
declare-requires-clause-absent c = new_location c.args.names.now c.locations-x-end.ensures.distinct c.loop-x.x c.location_name.result.now c.loop-x.kept c.location_name.ensures c.loop-x.invariant
