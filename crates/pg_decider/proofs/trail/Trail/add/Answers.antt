use Rattle.std.proofs.Common.{length, ap, arith}
use Rattle.std.proofs.lemmas.List.{length_push, length-set}
use Rattle.pg_decider.proofs.Trails.{trail-added, trail-room, trail-below}
use Rattle.pg_decider.proofs.trail.Trail.add.Goals as goal

pub push_reserved-requires : goal.push_reserved-requires
push_reserved-requires c =
    let a = c.requires.atom in
    let a2 = rw (← c.self.view_is) at a in
    let f = c.requires.free in
    let f2 = rw (← c.self.view_is) at f in
    let o = c.requires.open in
    let o2 = rw (← c.self.view_is) at o in
    omega (arith, trail-room c.self.inside.values.items c.self.inside.literals.items _ c.args.l c.self.invariant.0 (omega (arith, a2, c.self.invariant.0.atoms)) f2 o2)

pub push_reserved-requires-2 : goal.push_reserved-requires-2
push_reserved-requires-2 c =
    let a = c.requires.atom in
    let a2 = rw (← c.self.view_is) at a in
    let f = c.requires.free in
    let f2 = rw (← c.self.view_is) at f in
    let o = c.requires.open in
    let o2 = rw (← c.self.view_is) at o in
    omega (arith, c.self.invariant.1, c.self.invariant.2, trail-below c.self.inside.values.items c.self.inside.literals.items _ c.args.l c.self.invariant.0 (omega (arith, a2, c.self.invariant.0.atoms)) f2 o2)

pub invariant_of-self : goal.invariant_of-self
invariant_of-self c =
    let a = c.requires.atom in
    let a2 = rw (← c.self.view_is) at a in
    let f = c.requires.free in
    let f2 = rw (← c.self.view_is) at f in
    let o = c.requires.open in
    let o2 = rw (← c.self.view_is) at o in (
      rw (c.push_reserved.ensures.items, c.push_reserved.ensures.capacity, c.atom.ensures, c.coded.ensures, c.positive.ensures)
          (trail-added c.self.inside.values.items c.self.inside.literals.items _ c.args.l c.self.invariant.0 (omega (arith, a2, c.self.invariant.0.atoms)) f2 o2),
      omega (arith, ap length c.push_reserved.ensures.items, ap length c.push_reserved-2.ensures.items, length_push c.self.inside.literals.items c.args.l, length_push c.self.inside.reasons.items c.args.reason, c.self.invariant.1),
      omega (arith, c.push_reserved-2.ensures.capacity, c.self.invariant.2, length-set c.self.inside.values.items c.atom.result c.coded.result),
    )
