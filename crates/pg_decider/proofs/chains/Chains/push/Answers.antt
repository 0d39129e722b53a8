use Rattle.std.proofs.Common.{◌<◌, length, arith}
use Rattle.pg_decider.proofs.Started.{length-lists, chain_table, size-below, pushed}
use Rattle.pg_decider.proofs.chains.Chains.push.Goals as goal

pub overflow_add-start : goal.overflow_add-start
overflow_add-start c =
    let next = c.self.inside.next.items in
    let ss = c.self.inside.starts.items in
    let h = c.requires.list in
    let h2 = rw (← c.self.view_is) at h in
    let lt : c.args.list < length ss = omega (arith, h2, length-lists next ss) in
    let f = c.requires.free in
    let f2 = rw (← c.self.view_is) at f in
    omega (arith, f2.room, c.self.invariant.1, size-below next ss c.args.list _ lt c.index-start.ensures)

pub invariant_of-self : goal.invariant_of-self
invariant_of-self c =
    let h = c.requires.list in
    let h2 = rw (← c.self.view_is) at h in
    let f = c.requires.free in
    let f2 = rw (← c.self.view_is) at f in
    let p = pushed c.self.inside.next.items c.self.inside.starts.items c.args.list c.args.slot _ c.self.invariant.0 h2 c.index-start.ensures f2 in
    (p.chains, omega (arith, p.long, c.self.invariant.1))

pub returns : goal.returns
returns c =
    let h = c.requires.list in
    let h2 = rw (← c.self.view_is) at h in
    let f = c.requires.free in
    let f2 = rw (← c.self.view_is) at f in
    let p = pushed c.self.inside.next.items c.self.inside.starts.items c.args.list c.args.slot _ c.self.invariant.0 h2 c.index-start.ensures f2 in
    rw (← c.self.view_is) (chain_table _ _ _ (length c.self.inside.next.items) p.lists p.long)
