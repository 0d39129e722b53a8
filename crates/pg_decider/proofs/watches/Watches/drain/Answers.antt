use Rattle.std.proofs.Common.{◌≡◌, List, [], length, set, drop, refl, sym, ap, subst, ◌∙◌, arith}
use Rattle.std.proofs.lemmas.List.{length-set}
use Rattle.pg_region.specs.Literal.{Literal}
use Rattle.pg_decider.specs.Chains.{chain, ChainTable}
use Rattle.pg_decider.specs.Watch.{place, Draining}
use Rattle.pg_decider.proofs.Placing.{placed-popped}
use Rattle.pg_decider.proofs.Drained.{draining-start, draining-step, popped-slot}
use Rattle.pg_decider.proofs.watches.Watches.drain.Goals as goal

pub slots-init : goal.slots-init
slots-init c = (
  refl,
  refl,
  (refl, omega (arith, ap (λ (t : ChainTable). length t.lists) c.detach.ensures.moved, length-set c.args.self.now.chains.lists 0 (chain c.args.self.now.chains.lists c.place_of.result), length-set (set c.args.self.now.chains.lists 0 (chain c.args.self.now.chains.lists c.place_of.result)) c.place_of.result []), ap (λ (t : ChainTable). t.slots) c.detach.ensures.moved),
  rw (c.detach.ensures.moved, c.place_of.ensures)
      (draining-start c.args.reader.now.clauses c.args.self.now.slots.items c.args.self.now.chains c.args.trail.now c.args.reader.now.looks c.args.f c.requires.shape c.requires.placed c.requires.empty c.requires.atom),
)

pub visit-calm-requires-clause-placed : goal.visit-calm-requires-clause-placed
visit-calm-requires-clause-placed c =
    let d = c.slots.invariant.3 in
    rw (c.in-Some.ensures.1, c.slots.invariant.0)
    (placed-popped c.args.reader.now.clauses c.slots.self.slots.items c.slots.self.chains.lists (place c.args.f) c.in-Some.slot (drop 1 (chain c.slots.self.chains.lists 0)) d.placed (omega (arith, d.shape.lists)) c.in-Some.ensures.0)

pub slots-preserved : goal.slots-preserved
slots-preserved c =
    let cs = c.slots.reader.clauses in
    let same : cs ≡ c.args.reader.now.clauses = c.slots.invariant.0 in
    let d = subst (λ (k : List (List Literal)). Draining k c.args.self.now.slots.items c.args.self.now.chains.lists c.args.trail.now c.args.reader.now.looks c.args.f c.slots.self.slots.items c.slots.self.chains c.slots.trail c.slots.reader.looks c.slots.calm) (sym same) c.slots.invariant.3 in
    let v = c.visit-calm.ensures in (
      v.reader.0 ∙ same,
      v.reader.1 ∙ c.slots.invariant.1,
      (v.room.0 ∙ c.slots.invariant.2.0, omega (arith, v.room.1, c.slots.invariant.2.1, ap (λ (t : ChainTable). length t.lists) c.in-Some.ensures.1, length-set c.slots.self.chains.lists 0 (drop 1 (chain c.slots.self.chains.lists 0))), omega (arith, v.room.2, c.slots.invariant.2.2, ap (λ (t : ChainTable). t.slots) c.in-Some.ensures.1)),
      subst (λ (k : List (List Literal)). Draining k c.args.self.now.slots.items c.args.self.now.chains.lists c.args.trail.now c.args.reader.now.looks c.args.f c.visit-calm.new.self.slots.items c.visit-calm.new.self.chains c.visit-calm.new.trail c.visit-calm.new.reader.looks c.visit-calm.result) same
          (draining-step cs c.args.self.now.slots.items c.args.self.now.chains.lists c.args.trail.now c.args.reader.now.looks c.args.f
          c.slots.self.slots.items c.visit-calm.new.self.slots.items c.slots.self.chains c.pop.new.self c.visit-calm.new.self.chains c.slots.trail c.visit-calm.new.trail
          c.slots.reader.looks c.visit-calm.new.reader.looks c.in-Some.slot c.slots.calm c.visit-calm.result
          c.requires.falsified d c.in-Some.ensures.0 c.in-Some.ensures.1 v.looks v.shape v.placed v.rest v.grown v.shut v.calmer v.watching v.keeps),
    )

pub visit-calm-requires-clause-slot : goal.visit-calm-requires-clause-slot
visit-calm-requires-clause-slot c =
    let d = c.slots.invariant.3 in
    popped-slot c.args.reader.now.clauses c.slots.self.slots.items c.slots.self.chains.lists c.args.f c.in-Some.slot (length c.slots.self.slots.items) (drop 1 (chain c.slots.self.chains.lists 0)) d.placed c.in-Some.ensures.0
