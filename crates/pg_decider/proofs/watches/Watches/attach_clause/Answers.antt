use Rattle.std.proofs.Common.{◌≡◌, ◌<◌, ◌==◌, List, Bool, true, false, [], ◌∷◌, ◌++◌, length, refl, sym, ap, ◌∙◌, subst, arith, ◌+◌, ◌*◌}
use Rattle.std.proofs.lemmas.Bool.{eqb-true, eqb-false, both_ways}
use Rattle.std.proofs.lemmas.List.{length_push, length-set}
use Rattle.pg_region.specs.Literal.{Literal}
use Rattle.pg_region.specs.Reading.{Reading}
use Rattle.pg_region.specs.Region.{clause_at}
use Rattle.pg_decider.specs.Assignment.{on, AreFalse}
use Rattle.pg_decider.specs.Chains.{chain, ChainTable}
use Rattle.pg_decider.specs.Watch.{place, Grown, Attaching}
use Rattle.pg_decider.proofs.Literals.{same-is, same-not}
use Rattle.pg_decider.proofs.Visits.{on-read, grown-same}
use Rattle.pg_decider.proofs.Attached.{look-at, empty-false, alone-false, alone-forced, place-below, both-watches, first-watch, halfway-free, attaching-half, attaching-next, attaching-restart}
use Rattle.pg_decider.proofs.watches.Watches.attach_clause.Goals as goal

pos : (l : List Literal) (b : Bool) → b ≡ (length l == 0) → b ≡ false → 0 < length l
pos l b e f = let h = eqb-false (length l) 0 (sym e ∙ f) in omega arith

pub returns-then-is_empty : goal.returns-then-is_empty
returns-then-is_empty c =
    let cs = c.args.reader.now.clauses in
    let k = c.args.k in
    let t = c.args.trail.now in
    let cl = c.clause-clause.result.now in
    let e = look-at cs cl k c.clause-clause.ensures.clause in
    let none : length cl ≡ 0 = eqb-true (length cl) 0 (sym c.is_empty.ensures ∙ c.if-is_empty.true) in
    record {
      reader = (ap (λ (r : Reading). r.clauses) c.clause-clause.ensures.looks, ap (λ (r : Reading). r.atoms) c.clause-clause.ensures.looks);
      looks = omega (arith, ap (λ (r : Reading). r.looks) c.clause-clause.ensures.looks);
      room = (refl, refl, refl);
      grown = grown-same cs t;
      shut = λ z. record { place = k; within = c.requires.k; false_there = subst (λ (l : List Literal). AreFalse (on t.literals) l) e (empty-false (on t.literals) cl none) };
      attaching = λ z. absurd {A = Attaching cs c.args.self.now.slots.items c.args.self.now.chains t t (k + 1)} (both_ways false refl z);
    }

pub second_of-second-requires : goal.second_of-second-requires
second_of-second-requires c = on-read c.clause-clause.result.now 0 c.index-clause-0.result (pos c.clause-clause.result.now c.is_empty.result c.is_empty.ensures c.if-is_empty.false) c.index-clause-0.is

pub attach_slot-requires : goal.attach_slot-requires
attach_slot-requires c =
    let cs = c.args.reader.now.clauses in
    let k = c.args.k in
    let cl = c.clause-clause.result.now in
    let ws = c.args.self.now.slots.items in
    let ct = c.args.self.now.chains in
    let t = c.args.trail.now in
    let r = c.requires.attaching in
    let a = c.index-clause-0.result in
    let on-cl : on cl a ≡ true = on-read cl 0 a (pos cl c.is_empty.result c.is_empty.ensures c.if-is_empty.false) c.index-clause-0.is in
    let on-a : on (clause_at cs k) a ≡ true = subst (λ (l : List Literal). on l a ≡ true) (look-at cs cl k c.clause-clause.ensures.clause) on-cl in
    let lt : length ws < 2 * length cs = omega (arith, r.size, c.requires.k) in
    record {
      list = place-below cs ws ct t k a r on-a;
      free = halfway-free cs ws ct t (attaching-half cs ws ct t t k r) lt;
      room = omega (arith, c.requires.room);
      few = omega (arith, r.few);
    }

pub attach_slot-requires-2 : goal.attach_slot-requires-2
attach_slot-requires-2 c =
    let cs = c.args.reader.now.clauses in
    let k = c.args.k in
    let cl = c.clause-clause.result.now in
    let ws = c.args.self.now.slots.items in
    let ct = c.args.self.now.chains in
    let t = c.args.trail.now in
    let r = c.requires.attaching in
    let e = look-at cs cl k c.clause-clause.ensures.clause in
    let a = c.index-clause-0.result in
    let on-cl : on cl a ≡ true = on-read cl 0 a (pos cl c.is_empty.result c.is_empty.ensures c.if-is_empty.false) c.index-clause-0.is in
    let on-a : on (clause_at cs k) a ≡ true = subst (λ (l : List Literal). on l a ≡ true) e on-cl in
    let b = c.second_of-second.result in
    let on-b : on (clause_at cs k) b ≡ true = subst (λ (l : List Literal). on l b ≡ true) e c.second_of-second.ensures.on in
    let s = c.attach_slot.ensures in
    let long = ap length s.slots ∙ length_push ws a in
    let lists = ap (λ (x : ChainTable). length x.lists) s.chains ∙ length-set ct.lists (place a) (length ws ∷ chain ct.lists (place a)) in
    let lt : length (ws ++ a ∷ []) < 2 * length cs = omega (arith, r.size, c.requires.k, length_push ws a) in
    record {
      list = omega (arith, place-below cs ws ct t k b r on-b, lists);
      free = rw (s.chains, s.slots) (halfway-free cs _ _ t (first-watch cs ws ct t k a r c.requires.k on-a) lt);
      room = omega (arith, c.requires.room, s.room, lt, ap length s.slots);
      few = omega (arith, r.few, lt, ap length s.slots);
    }

pub force-requires : goal.force-requires
force-requires c =
    let cs = c.args.reader.now.clauses in
    let cl = c.clause-clause.result.now in
    let a = c.index-clause-0.result in
    let on-cl : on cl a ≡ true = on-read cl 0 a (pos cl c.is_empty.result c.is_empty.ensures c.if-is_empty.false) c.index-clause-0.is in
    c.requires.attaching.over c.args.k a (subst (λ (l : List Literal). on l a ≡ true) (look-at cs cl c.args.k c.clause-clause.ensures.clause) on-cl)

pub returns-then-is : goal.returns-then-is
returns-then-is c =
    let cs = c.args.reader.now.clauses in
    let k = c.args.k in
    let cl = c.clause-clause.result.now in
    let e = look-at cs cl k c.clause-clause.ensures.clause in
    let a = c.index-clause-0.result in
    let on-cl : on cl a ≡ true = on-read cl 0 a (pos cl c.is_empty.result c.is_empty.ensures c.if-is_empty.false) c.index-clause-0.is in
    let on-a : on (clause_at cs k) a ≡ true = subst (λ (l : List Literal). on l a ≡ true) e on-cl in
    let b = c.second_of-second.result in
    let on-b : on (clause_at cs k) b ≡ true = subst (λ (l : List Literal). on l b ≡ true) e c.second_of-second.ensures.on in
    let t = c.args.trail.now in
    let u = c.force.new.trail in
    let s1 = c.attach_slot.ensures in
    let s2 = c.attach_slot-2.ensures in
    let ab = same-is a b (sym c.is.ensures ∙ c.if-is.true) in
    let all = c.second_of-second.ensures.one (sym ab) in
    let one : (m : Literal) → on (clause_at cs k) m ≡ true → m ≡ a = λ m h. all m (subst (λ (l : List Literal). on l m ≡ true) (sym e) h) in
    let grown : Grown cs t u = c.force.ensures.grown cs k c.requires.k refl (alone-forced (on t.literals) (clause_at cs k) a on-a one) in
    record {
      reader = (ap (λ (r : Reading). r.clauses) c.clause-clause.ensures.looks, ap (λ (r : Reading). r.atoms) c.clause-clause.ensures.looks);
      looks = omega (arith, ap (λ (r : Reading). r.looks) c.clause-clause.ensures.looks);
      room = (
        s2.room ∙ s1.room,
        ap (λ (x : ChainTable). length x.lists) s2.chains ∙ (length-set _ _ _ ∙ (ap (λ (x : ChainTable). length x.lists) s1.chains ∙ length-set _ _ _)),
        ap (λ (x : ChainTable). x.slots) s2.chains ∙ ap (λ (x : ChainTable). x.slots) s1.chains,
      );
      grown = grown;
      shut = λ z. record { place = k; within = c.requires.k; false_there = subst (λ (l : List Literal). AreFalse (on u.literals) l) e (alone-false (on u.literals) cl a all (c.force.ensures.shut z)) };
      attaching = λ z. rw (s2.chains, s2.slots, s1.chains, s1.slots)
          (attaching-restart cs _ _ t u (k + 1)
          (attaching-next cs c.args.self.now.slots.items c.args.self.now.chains _ t t u k a b c.requires.attaching
          (both-watches cs c.args.self.now.slots.items c.args.self.now.chains t k a b c.requires.attaching c.requires.k on-a on-b)
          grown
          (λ w m h. subst (λ (y : Literal). on u.literals y ≡ true) (sym (one m h)) (c.force.ensures.added z))));
    }

pub returns : goal.returns
returns c =
    let cs = c.args.reader.now.clauses in
    let k = c.args.k in
    let cl = c.clause-clause.result.now in
    let e = look-at cs cl k c.clause-clause.ensures.clause in
    let a = c.index-clause-0.result in
    let on-cl : on cl a ≡ true = on-read cl 0 a (pos cl c.is_empty.result c.is_empty.ensures c.if-is_empty.false) c.index-clause-0.is in
    let on-a : on (clause_at cs k) a ≡ true = subst (λ (l : List Literal). on l a ≡ true) e on-cl in
    let b = c.second_of-second.result in
    let on-b : on (clause_at cs k) b ≡ true = subst (λ (l : List Literal). on l b ≡ true) e c.second_of-second.ensures.on in
    let t = c.args.trail.now in
    let s1 = c.attach_slot.ensures in
    let s2 = c.attach_slot-2.ensures in
    record {
      reader = (ap (λ (r : Reading). r.clauses) c.clause-clause.ensures.looks, ap (λ (r : Reading). r.atoms) c.clause-clause.ensures.looks);
      looks = omega (arith, ap (λ (r : Reading). r.looks) c.clause-clause.ensures.looks);
      room = (
        s2.room ∙ s1.room,
        ap (λ (x : ChainTable). length x.lists) s2.chains ∙ (length-set _ _ _ ∙ (ap (λ (x : ChainTable). length x.lists) s1.chains ∙ length-set _ _ _)),
        ap (λ (x : ChainTable). x.slots) s2.chains ∙ ap (λ (x : ChainTable). x.slots) s1.chains,
      );
      grown = grown-same cs t;
      shut = λ z. absurd (both_ways true z refl);
      attaching = λ z. rw (s2.chains, s2.slots, s1.chains, s1.slots)
          (attaching-next cs c.args.self.now.slots.items c.args.self.now.chains _ t t t k a b c.requires.attaching
          (both-watches cs c.args.self.now.slots.items c.args.self.now.chains t k a b c.requires.attaching c.requires.k on-a on-b)
          (grown-same cs t)
          (λ w m h. absurd (same-not a b (sym c.is.ensures ∙ c.if-is.false) w)));
    }
