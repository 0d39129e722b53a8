use Rattle.std.proofs.Common.{◌<◌, ℕ, List, length, sym, subst, arith}
use Rattle.pg_decider.specs.Chains.{AreChains}
use Rattle.pg_decider.specs.Starts.{lists_of}
use Rattle.pg_decider.proofs.Started.{lists-detached, length-lists, same_lists}
use Rattle.pg_decider.proofs.Chained.{chains-moved}
use Rattle.pg_decider.proofs.chains.Chains.detach.Goals as goal

pub invariant_of-self : goal.invariant_of-self
invariant_of-self c =
    let next = c.self.inside.next.items in
    let ss = c.self.inside.starts.items in
    let m = c.args.list in
    let h = c.requires.list in
    let h2 = rw (← c.self.view_is) at h in
    let e = c.requires.empty in
    let e2 = rw (← c.self.view_is) at e in
    let lt : m < length ss = omega (arith, h2, length-lists next ss) in (
      subst (λ (l : List (List ℕ)). AreChains l (length next)) (sym (lists-detached next ss m _ lt c.index-start.ensures))
          (chains-moved (lists_of next ss) (length next) m c.self.invariant.0 h2.0 h2.1 e2),
      c.self.invariant.1,
    )

pub returns-clause-moved : goal.returns-clause-moved
returns-clause-moved c =
    let next = c.self.inside.next.items in
    let ss = c.self.inside.starts.items in
    let m = c.args.list in
    let h = c.requires.list in
    let h2 = rw (← c.self.view_is) at h in
    let lt : m < length ss = omega (arith, h2, length-lists next ss) in
    rw (← c.self.view_is) (same_lists _ _ (length next) (lists-detached next ss m _ lt c.index-start.ensures))

pub returns-clause-chains : goal.returns-clause-chains
returns-clause-chains c = rw (← c.self.view_is) c.self.invariant.0
