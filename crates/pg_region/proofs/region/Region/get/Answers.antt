use Rattle.std.proofs.Common.{◌<◌, length, arith}
use Rattle.pg_region.proofs.Pieces.{length-pieces}
use Rattle.pg_region.proofs.region.Region.get.Goals as goal

pub piece-requires-clause-place : goal.piece-requires-clause-place
piece-requires-clause-place c =
    rw c.deref-2.ensures.value
    (let h : c.args.id < length c.args.self.now.clauses = c.requires in
    let h2 = rw (← c.self.view_is) at h in
    omega (arith, h2, length-pieces c.self.inside.words.items 0 c.self.inside.ends.items))
