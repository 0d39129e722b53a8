use Rattle.std.proofs.Common.{length, arith}
use Rattle.pg_decider.proofs.Started.{slot-read, popped, same_lists}
use Rattle.pg_decider.proofs.chains.Chains.pop.Goals as goal

pub index-requires : goal.index-requires
index-requires c =
    let h = c.requires in
    let h2 = rw (← c.self.view_is) at h in
    omega (arith, slot-read c.self.inside.next.items c.self.inside.starts.items c.args.list _ c.self.invariant.0 h2 c.index-start.ensures (omega arith))

pub invariant_of-self : goal.invariant_of-self
invariant_of-self c =
    let h = c.requires in
    let h2 = rw (← c.self.view_is) at h in
    ((popped c.self.inside.next.items c.self.inside.starts.items c.args.list c.index.result.now _ c.self.invariant.0 h2 c.index-start.ensures (omega arith) c.index.ensures).chains, c.self.invariant.1)

pub returns : goal.returns
returns c =
    let h = c.requires in
    let h2 = rw (← c.self.view_is) at h in
    let p = popped c.self.inside.next.items c.self.inside.starts.items c.args.list c.index.result.now _ c.self.invariant.0 h2 c.index-start.ensures (omega arith) c.index.ensures in
    rw (← c.self.view_is) (p.first, same_lists _ _ (length c.self.inside.next.items) p.lists, p.free)
