use Rattle.std.proofs.Common.{◌-◌, length, arith, ap, ◌∙◌, vec_len, vec_capacity, length-append}
use Rattle.pg_region.proofs.Pieces.{length-pieces, pieces-push}
use Rattle.pg_region.proofs.Tables.{same_table, region-pushed, takes-true}
use Rattle.pg_region.proofs.region.Region.push.Goals as goal

pub invariant_of-self : goal.invariant_of-self
invariant_of-self c =
    rw (c.append.ensures.capacity, c.push_reserved.ensures.capacity, c.push_reserved.ensures.items, c.append.ensures.items)
    (region-pushed c.self.inside.words.items c.args.clause.now c.self.inside.ends.items _ _ _ c.self.invariant
    (omega (arith, ap length c.append.ensures.items))
    (omega (arith, ap length c.append.ensures.items, length-append c.self.inside.words.items c.args.clause.now)) (omega arith))

pub returns-clause-ok : goal.returns-clause-ok
returns-clause-ok c =
    let ws = c.self.inside.words.items in
    let ends = c.self.inside.ends.items in
    let long = ap length c.append.ensures.items ∙ length-append ws c.args.clause.now in
    rw (← c.self.view_is) (
      takes-true (length c.args.clause.now) (vec_capacity c.self.inside.words - vec_len c.self.inside.words) (vec_capacity c.self.inside.ends - vec_len c.self.inside.ends) (omega arith) (omega arith),
      omega (arith, length-pieces ws 0 ends),
      same_table _ _ _ _ _ _ _ _
          (rw (c.push_reserved.ensures.items, c.append.ensures.items) (pieces-push ws c.args.clause.now 0 ends _ c.self.invariant.pieces_end (omega (arith, ap length c.append.ensures.items))))
          (omega (arith, long, c.append.ensures.capacity))
          (omega (arith, c.push_reserved.ensures.len, c.push_reserved.ensures.capacity))
          (omega (arith, c.saturating_add-self-inside.ensures)),
    )
