use Rattle.std.proofs.Common.{◌≡◌, ◌+◌, ◌<◌, ◌≤◌, true, false, List, length, take, refl, sym, ap, subst, ◌∙◌, arith}
use Rattle.std.proofs.lemmas.Bool.{both_ways}
use Rattle.pg_region.specs.Literal.{Literal, negated}
use Rattle.pg_region.specs.Pieces.{total}
use Rattle.pg_decider.specs.Assignment.{on, HasConflict}
use Rattle.pg_decider.specs.Trail.{lit, none}
use Rattle.pg_decider.specs.Watch.{Grown, Placed, Propagating, Shape, KeepsWatched}
use Rattle.pg_decider.proofs.Literals.{negated-negated}
use Rattle.pg_decider.proofs.Visits.{on-at, grown-same, grown-trans}
use Rattle.pg_decider.proofs.Counting.{false_count-le}
use Rattle.pg_decider.proofs.Propagated.{propagating-step, looked-once, calm-closed}
use Rattle.pg_decider.proofs.watches.Watches.propagate.Goals as goal

pub literals-init : goal.literals-init
literals-init c = (
  refl,
  refl,
  refl,
  (refl, refl, refl),
  record {
    shape = c.requires.shape;
    placed = c.requires.placed;
    empty = c.requires.empty;
    grown = grown-same c.args.reader.now.clauses c.args.trail.now;
    within = c.requires.from;
    watching = c.requires.watching;
    keeps = λ u uv w. w;
    looked = omega arith;
  },
)

pub drain-requires : goal.drain-requires
drain-requires c =
    let t = c.literals.trail.literals in
    let q = c.literals.next in
    let d = subst (λ (k : List (List Literal)). Propagating k c.args.self.now.slots.items c.args.trail.now c.args.reader.now.looks c.literals.self.slots.items c.literals.self.chains c.literals.trail c.literals.reader.looks c.literals.next) (sym c.literals.invariant.0) c.literals.invariant.4 in
    let lt : q < length t = omega (arith, c.len.ensures.length) in
    let on-l = on-at t q none lt in
    let is : c.negated.result ≡ negated (lit t q) = c.negated.ensures ∙ ap negated c.at-literal.ensures in
    record {
      shape = d.shape;
      placed = d.placed;
      empty = d.empty;
      atom = subst (λ (m : Literal). m.atom ≤ c.literals.trail.atoms) (sym is) (c.len.ensures.trail.over (lit t q) on-l);
      falsified = subst (λ (m : Literal). on t m ≡ true) (sym (ap negated is ∙ negated-negated (lit t q))) on-l;
    }

pub returns-then-not-drain : goal.returns-then-not-drain
returns-then-not-drain c =
    let same = c.literals.invariant.0 in
    let i = c.literals.invariant.4 in
    let d = subst (λ (k : List (List Literal)). Propagating k c.args.self.now.slots.items c.args.trail.now c.args.reader.now.looks c.literals.self.slots.items c.literals.self.chains c.literals.trail c.literals.reader.looks c.literals.next) (sym same) i in
    let is : c.negated.result ≡ negated (lit c.literals.trail.literals c.literals.next) = c.negated.ensures ∙ ap negated c.at-literal.ensures in
    let lt : c.literals.next < length c.literals.trail.literals = omega (arith, c.len.ensures.length) in
    let e = c.drain.ensures in
    let ws = c.drain.new.self.slots.items in
    let t = c.drain.new.trail in
    let k = subst (λ (k : List (List Literal)). KeepsWatched k c.literals.self.slots.items ws (on c.literals.trail.literals)) same e.keeps in
    record {
      reader = (e.reader.0 ∙ same, e.reader.1 ∙ c.literals.invariant.1);
      looks = subst (λ (k : List (List Literal)). c.drain.new.reader.looks ≤ c.args.reader.now.looks + total k) same
          (looked-once c.literals.reader.clauses c.args.self.now.slots.items c.args.trail.now c.args.reader.now.looks c.literals.self.slots.items c.literals.self.chains c.literals.trail c.literals.reader.looks c.drain.new.reader.looks c.literals.next c.negated.result
          d lt is c.len.ensures.trail e.chains e.looks);
      room = (e.room.0 ∙ c.literals.invariant.3.0, e.room.1 ∙ c.literals.invariant.3.1, e.room.2 ∙ c.literals.invariant.3.2);
      shape = subst (λ (k : List (List Literal)). Shape k ws c.drain.new.self.chains t) same e.shape;
      placed = subst (λ (k : List (List Literal)). Placed k ws c.drain.new.self.chains.lists 0 (length ws)) same e.placed;
      empty = e.empty;
      grown = grown-trans c.args.reader.now.clauses c.args.trail.now c.literals.trail t i.grown (subst (λ (k : List (List Literal)). Grown k c.literals.trail t) same e.grown);
      shut = λ z. subst (λ (k : List (List Literal)). HasConflict k (on t.literals)) same (e.shut c.if-not-drain.true);
      closed = λ z. absurd (both_ways false refl z);
      calm = λ z. absurd (both_ways false refl z);
      watched = λ z. absurd (both_ways false refl z);
      keeps = λ u uv w. k u (λ l h. i.grown.reached.above l (uv l h)) (i.keeps u uv w);
    }

pub literals-preserved : goal.literals-preserved
literals-preserved c =
    let d = subst (λ (k : List (List Literal)). Propagating k c.args.self.now.slots.items c.args.trail.now c.args.reader.now.looks c.literals.self.slots.items c.literals.self.chains c.literals.trail c.literals.reader.looks c.literals.next) (sym c.literals.invariant.0) c.literals.invariant.4 in
    let is : c.negated.result ≡ negated (lit c.literals.trail.literals c.literals.next) = c.negated.ensures ∙ ap negated c.at-literal.ensures in
    let lt : c.literals.next < length c.literals.trail.literals = omega (arith, c.len.ensures.length) in
    let e = c.drain.ensures in (
      e.reader.0 ∙ c.literals.invariant.0,
      e.reader.1 ∙ c.literals.invariant.1,
      e.grown.atoms ∙ c.literals.invariant.2,
      (e.room.0 ∙ c.literals.invariant.3.0, e.room.1 ∙ c.literals.invariant.3.1, e.room.2 ∙ c.literals.invariant.3.2),
      subst (λ (k : List (List Literal)). Propagating k c.args.self.now.slots.items c.args.trail.now c.args.reader.now.looks c.drain.new.self.slots.items c.drain.new.self.chains c.drain.new.trail c.drain.new.reader.looks (c.literals.next + 1)) c.literals.invariant.0
          (propagating-step c.literals.reader.clauses c.args.self.now.slots.items c.args.trail.now c.args.reader.now.looks c.literals.self.slots.items c.drain.new.self.slots.items c.literals.self.chains c.drain.new.self.chains c.literals.trail c.drain.new.trail c.literals.reader.looks c.drain.new.reader.looks c.literals.next c.negated.result
          d lt is c.len.ensures.trail e.chains e.looks e.shape e.placed e.empty e.grown
          (λ p pv w. e.watching p pv w c.if-not-drain.false) e.keeps),
    )

pub returns : goal.returns
returns c =
    let i = c.literals.invariant.4 in
    let done = calm-closed c.args.reader.now.clauses c.args.self.now.slots.items c.args.trail.now c.args.reader.now.looks c.literals.self.slots.items c.literals.self.chains c.literals.trail c.literals.reader.looks c.literals.next i (omega (arith, c.len.ensures.length)) c.len.ensures.trail in
    record {
      reader = (c.literals.invariant.0, c.literals.invariant.1);
      looks = omega (arith, i.looked, false_count-le (on (take c.literals.next c.literals.trail.literals)) c.args.reader.now.clauses);
      room = c.literals.invariant.3;
      shape = i.shape;
      placed = i.placed;
      empty = i.empty;
      grown = i.grown;
      shut = λ z. absurd (both_ways true z refl);
      closed = λ z. done.1;
      calm = λ z. done.2;
      watched = λ z. done.0;
      keeps = i.keeps;
    }
