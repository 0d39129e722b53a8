use Rattle.std.proofs.Common.{arith}
use Rattle.pg_decider.proofs.Trails.{trail-added, trail-room}
use Rattle.pg_tree.proofs.path.Path.add.Goals as goal

pub push_reserved-requires : goal.push_reserved-requires
push_reserved-requires c =
    let a = c.requires.atom in
    let a2 = rw (← c.self.view_is) at a in
    let f = c.requires.free in
    let f2 = rw (← c.self.view_is) at f in
    let o = c.requires.open in
    let o2 = rw (← c.self.view_is) at o in
    omega (arith, trail-room c.self.inside.values.items c.self.inside.literals.items _ c.args.l c.self.invariant (omega (arith, a2, c.self.invariant.atoms)) f2 o2)

pub invariant_of-self : goal.invariant_of-self
invariant_of-self c =
    let a = c.requires.atom in
    let a2 = rw (← c.self.view_is) at a in
    let f = c.requires.free in
    let f2 = rw (← c.self.view_is) at f in
    let o = c.requires.open in
    let o2 = rw (← c.self.view_is) at o in
    rw (c.push_reserved.ensures.items, c.push_reserved.ensures.capacity, c.atom.ensures, c.coded.ensures, c.positive.ensures)
    (trail-added c.self.inside.values.items c.self.inside.literals.items _ c.args.l c.self.invariant (omega (arith, a2, c.self.invariant.atoms)) f2 o2)
