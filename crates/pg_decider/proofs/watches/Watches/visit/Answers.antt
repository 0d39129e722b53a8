use Rattle.std.proofs.Common.{◌≡◌, ◌/◌, ◌≤◌, true, false, List, [], length, set, refl, sym, ap, subst, ◌∙◌, arith}
use Rattle.std.proofs.lemmas.Bool.{both_ways}
use Rattle.pg_region.specs.Literal.{Literal, same, negated}
use Rattle.pg_region.specs.Reading.{Reading}
use Rattle.pg_region.specs.Region.{clause_at}
use Rattle.pg_decider.specs.Assignment.{on, AreFalse, Forces}
use Rattle.pg_decider.specs.Chains.{chain}
use Rattle.pg_decider.specs.Trail.{lit}
use Rattle.pg_decider.specs.Watch.{place, other, Grown}
use Rattle.pg_decider.proofs.Watching.{watching-moved, watching-visited, watching-more}
use Rattle.pg_decider.proofs.Visits.{turned, kept, second-is, visited, put, shape-turned, grown-same, place-within, all-false, look-is}
use Rattle.pg_decider.proofs.watches.Watches.visit.Goals as goal

pub push-requires-clause-list : goal.push-requires-clause-list
push-requires-clause-list c =
    let v = visited c.args.reader.now.clauses c.args.self.now.slots.items c.args.self.now.chains c.args.trail.now c.args.f c.args.slot c.requires.shape c.requires.placed c.requires.slot.0 c.requires.slot.1 in
    rw c.place_of.ensures v.listed

pub returns-then-not-calm : goal.returns-then-not-calm
returns-then-not-calm c =
    let cs = c.args.reader.now.clauses in
    let ws = c.args.self.now.slots.items in
    let ct = c.args.self.now.chains in
    let t = c.args.trail.now in
    let v = visited cs ws ct t c.args.f c.args.slot c.requires.shape c.requires.placed c.requires.slot.0 c.requires.slot.1 in
    let p = put cs ws ct _ t t c.place_of.result _ c.requires.shape refl (rw c.place_of.ensures v.some) c.push.ensures in
    record {
      reader = (refl, refl);
      looks = omega arith;
      room = (refl, p.lists, p.slots);
      shape = p.shape;
      placed = rw (c.push.ensures, c.place_of.ensures) (kept cs ws ct t c.args.f c.args.slot c.requires.shape c.requires.placed c.requires.slot.0 c.requires.slot.1);
      rest = p.rest;
      grown = grown-same cs t;
      shut = λ z. c.requires.calm c.if-not-calm.true;
      calmer = λ z. absurd (both_ways false refl z);
      watching = λ q qv w z. absurd (both_ways false refl z);
      keeps = λ u uv w. w;
    }

pub is_true-requires : goal.is_true-requires
is_true-requires c =
    let ws = c.args.self.now.slots.items in
    let v = visited c.args.reader.now.clauses ws c.args.self.now.chains c.args.trail.now c.args.f c.args.slot c.requires.shape c.requires.placed c.requires.slot.0 c.requires.slot.1 in
    subst (λ (l : Literal). l.atom ≤ c.args.trail.now.atoms) (sym (second-is ws c.args.slot _ (length c.args.reader.now.clauses) _ c.other_of.ensures c.requires.slot.0 c.requires.shape.size c.index-second.ensures)) v.atom

pub push-requires-then-is_true-clause-list : goal.push-requires-then-is_true-clause-list
push-requires-then-is_true-clause-list c =
    let v = visited c.args.reader.now.clauses c.args.self.now.slots.items c.args.self.now.chains c.args.trail.now c.args.f c.args.slot c.requires.shape c.requires.placed c.requires.slot.0 c.requires.slot.1 in
    rw c.place_of-then-is_true.ensures v.listed

pub returns-then-is_true : goal.returns-then-is_true
returns-then-is_true c =
    let cs = c.args.reader.now.clauses in
    let ws = c.args.self.now.slots.items in
    let ct = c.args.self.now.chains in
    let t = c.args.trail.now in
    let x = c.args.slot in
    let v = visited cs ws ct t c.args.f x c.requires.shape c.requires.placed c.requires.slot.0 c.requires.slot.1 in
    let p = put cs ws ct _ t t c.place_of-then-is_true.result _ c.requires.shape refl (rw c.place_of-then-is_true.ensures v.some) c.push-then-is_true.ensures in
    let second = second-is ws x _ (length cs) _ c.other_of.ensures c.requires.slot.0 c.requires.shape.size c.index-second.ensures in
    record {
      reader = (refl, refl);
      looks = omega arith;
      room = (refl, p.lists, p.slots);
      shape = p.shape;
      placed = rw (c.push-then-is_true.ensures, c.place_of-then-is_true.ensures) (kept cs ws ct t c.args.f x c.requires.shape c.requires.placed c.requires.slot.0 c.requires.slot.1);
      rest = p.rest;
      grown = grown-same cs t;
      shut = λ z. absurd (both_ways true z refl);
      calmer = λ z. c.if-not-calm.false;
      watching = λ q qv w z. watching-visited cs ws (chain ct.lists 0) q (on t.literals) x w
          (subst (λ (l : Literal). on t.literals l ≡ true) second (sym c.is_true.ensures.value ∙ c.if-is_true.true));
      keeps = λ u uv w. w;
    }

pub clause-clause-requires : goal.clause-clause-requires
clause-clause-requires c =
    let v = visited c.args.reader.now.clauses c.args.self.now.slots.items c.args.self.now.chains c.args.trail.now c.args.f c.args.slot c.requires.shape c.requires.placed c.requires.slot.0 c.requires.slot.1 in
    (omega arith, omega (arith, v.clause))

pub find-requires : goal.find-requires
find-requires c = λ l h. c.requires.shape.over (c.args.slot / 2) l (subst (λ (k : List Literal). on k l ≡ true) (look-is c.args.reader.now.clauses c.clause-clause.result.now c.args.slot c.clause-clause.ensures.clause) h)

pub push-requires-in-Some-clause-list : goal.push-requires-in-Some-clause-list
push-requires-in-Some-clause-list c =
    let cs = c.args.reader.now.clauses in
    let x = c.args.slot in
    let on-m : on (clause_at cs (x / 2)) c.in-Some.next ≡ true = subst (λ (l : List Literal). on l c.in-Some.next ≡ true) (look-is cs c.clause-clause.result.now x c.clause-clause.ensures.clause) c.in-Some.ensures.0 in
    let w = place-within c.in-Some.next c.args.trail.now.atoms (c.requires.shape.over (x / 2) c.in-Some.next on-m) in
    rw c.place_of-in-Some.ensures (omega (arith, w.1, c.requires.shape.lists))

pub returns-in-Some : goal.returns-in-Some
returns-in-Some c =
    let cs = c.args.reader.now.clauses in
    let ws = c.args.self.now.slots.items in
    let ct = c.args.self.now.chains in
    let t = c.args.trail.now in
    let x = c.args.slot in
    let next = c.in-Some.next in
    let second = second-is ws x _ (length cs) _ c.other_of.ensures c.requires.slot.0 c.requires.shape.size c.index-second.ensures in
    let on-m : on (clause_at cs (x / 2)) next ≡ true = subst (λ (l : List Literal). on l next ≡ true) (look-is cs c.clause-clause.result.now x c.clause-clause.ensures.clause) c.in-Some.ensures.0 in
    let w = place-within next t.atoms (c.requires.shape.over (x / 2) next on-m) in
    let p = put cs (set ws x next) ct _ t t c.place_of-in-Some.result _ (shape-turned cs ws ct t x next c.requires.shape) refl (rw c.place_of-in-Some.ensures w.0) c.push-in-Some.ensures in
    let wrong : on t.literals (negated (lit ws x)) ≡ true = subst (λ (l : Literal). on t.literals (negated l) ≡ true) (sym c.requires.slot.1) c.requires.falsified in
    let apart : same next (lit ws (other x)) ≡ false = subst (λ (l : Literal). same next l ≡ false) second c.in-Some.ensures.1 in
    record {
      reader = (ap (λ (r : Reading). r.clauses) c.clause-clause.ensures.looks, ap (λ (r : Reading). r.atoms) c.clause-clause.ensures.looks);
      looks = omega (arith, ap (λ (r : Reading). r.looks) c.clause-clause.ensures.looks);
      room = (refl, p.lists, p.slots);
      shape = p.shape;
      placed = rw (c.push-in-Some.ensures, c.place_of-in-Some.ensures) (turned cs ws ct t (place c.args.f) x next c.requires.shape c.requires.placed c.requires.free c.requires.slot.0 on-m);
      rest = p.rest;
      grown = grown-same cs t;
      shut = λ z. absurd (both_ways true z refl);
      calmer = λ z. c.if-not-calm.false;
      watching = λ q qv w z. watching-moved cs ws (chain ct.lists 0) q (on t.literals) (on t.literals) x (length (set ws x next)) x next
          w qv (λ l h. h) c.is_true.ensures.trail.calm c.requires.slot.0 wrong c.in-Some.ensures.2 apart (λ y ylt ne e. ne e);
      keeps = λ u uv w. watching-moved cs ws [] u u (on t.literals) (length ws) (length (set ws x next)) x next
          w uv uv c.is_true.ensures.trail.calm c.requires.slot.0 wrong c.in-Some.ensures.2 apart (λ y ylt ne e. omega arith);
    }

pub push-requires-2-clause-list : goal.push-requires-2-clause-list
push-requires-2-clause-list c =
    let v = visited c.args.reader.now.clauses c.args.self.now.slots.items c.args.self.now.chains c.args.trail.now c.args.f c.args.slot c.requires.shape c.requires.placed c.requires.slot.0 c.requires.slot.1 in
    rw c.place_of-2.ensures v.listed

pub add_forced-requires-clause-atom : goal.add_forced-requires-clause-atom
add_forced-requires-clause-atom c =
    let ws = c.args.self.now.slots.items in
    let v = visited c.args.reader.now.clauses ws c.args.self.now.chains c.args.trail.now c.args.f c.args.slot c.requires.shape c.requires.placed c.requires.slot.0 c.requires.slot.1 in
    subst (λ (l : Literal). l.atom ≤ c.args.trail.now.atoms) (sym (second-is ws c.args.slot _ (length c.args.reader.now.clauses) _ c.other_of.ensures c.requires.slot.0 c.requires.shape.size c.index-second.ensures)) v.atom

pub returns : goal.returns
returns c =
    let cs = c.args.reader.now.clauses in
    let ws = c.args.self.now.slots.items in
    let ct = c.args.self.now.chains in
    let t = c.args.trail.now in
    let u = c.add_forced.new.trail in
    let x = c.args.slot in
    let s = c.index-second.result.now in
    let v = visited cs ws ct t c.args.f x c.requires.shape c.requires.placed c.requires.slot.0 c.requires.slot.1 in
    let second = second-is ws x _ (length cs) _ c.other_of.ensures c.requires.slot.0 c.requires.shape.size c.index-second.ensures in
    let e = look-is cs c.clause-clause.result.now x c.clause-clause.ensures.clause in
    let forced : Forces (on t.literals) (clause_at cs (x / 2)) s = record {
      has = subst (λ (l : Literal). on (clause_at cs (x / 2)) l ≡ true) (sym second) v.has;
      others = λ m h ne. c.in_default.ensures m (subst (λ (l : List Literal). on l m ≡ true) (sym e) h) ne;
    } in
    let grown : Grown cs t u = c.add_forced.ensures.grown cs (x / 2) v.clause refl forced in
    let p = put cs ws ct _ t u c.place_of-2.result _ c.requires.shape grown.atoms (rw c.place_of-2.ensures v.some) c.push-2.ensures in
    record {
      reader = (ap (λ (r : Reading). r.clauses) c.clause-clause.ensures.looks, ap (λ (r : Reading). r.atoms) c.clause-clause.ensures.looks);
      looks = omega (arith, ap (λ (r : Reading). r.looks) c.clause-clause.ensures.looks);
      room = (refl, p.lists, p.slots);
      shape = p.shape;
      placed = rw (c.push-2.ensures, c.place_of-2.ensures) (kept cs ws ct t c.args.f x c.requires.shape c.requires.placed c.requires.slot.0 c.requires.slot.1);
      rest = p.rest;
      grown = grown;
      shut = λ z. record {
        place = x / 2;
        within = v.clause;
        false_there = subst (λ (l : List Literal). AreFalse (on u.literals) l) e
            (all-false c.clause-clause.result.now (on u.literals) s (λ m h ne. grown.reached.above (negated m) (c.in_default.ensures m h ne)) (c.add_forced.ensures.shut z));
      };
      calmer = λ z. c.if-not-calm.false;
      watching = λ q qv w z. watching-visited cs ws (chain ct.lists 0) q (on u.literals) x
          (watching-more cs ws (chain ct.lists 0) q (on t.literals) (on u.literals) x w grown.reached.above)
          (subst (λ (l : Literal). on u.literals l ≡ true) second (c.add_forced.ensures.added z));
      keeps = λ u uv w. w;
    }
