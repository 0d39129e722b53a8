use Rattle.std.proofs.Common.{◌≡◌, ℕ, ◌+◌, ◌-◌, ◌*◌, ◌<◌, ◌≤◌, Bool, true, false, ◌||◌, List, [], ◌∷◌, ◌++◌, length, get_or, set, take, drop, refl, sym, ap, subst, ◌∙◌, arith, inl, inr, ◌⊎◌}
use Rattle.std.proofs.lemmas.Bool.{or_left, or_right, both_ways, false_from_ne_true}
use Rattle.std.proofs.lemmas.List.{take_more, get_or-set_same, get_or-set_other, drop-set, drop_all}
use Rattle.pg_region.specs.Literal.{Literal, negated, same}
use Rattle.pg_region.specs.Region.{clause_at}
use Rattle.pg_decider.specs.Assignment.{on, added, AreFalse}
use Rattle.pg_decider.specs.Leaf.{stands_negated, IsLeaf}
use Rattle.pg_decider.specs.Lean.{Leaning, AreMarks}
use Rattle.pg_decider.specs.Trail.{lit, none, reason, TrailTable, IsTrail}
use Rattle.pg_decider.specs.Watch.{place, IsReason}
use Rattle.pg_decider.proofs.Literals.{negated-negated, on-push, added-cases, added-here, same-refl, same-cases, same-from, same-not, place-same}
use Rattle.pg_decider.proofs.Visits.{sign_bit-le}
use Rattle.pg_decider.proofs.Propagated.{on-take, fresh-at}

-- a literal that stands in clause n is needed negated before it
names : (cs : List (List Literal)) (n : ℕ) (ns : List ℕ) (m : Literal) → on (clause_at cs (n - 1)) m ≡ true → stands_negated cs (negated m) (n ∷ ns) ≡ true
names cs n ns m h = or_right (stands_negated cs (negated m) ns) (on (clause_at cs (n - 1)) (negated (negated m))) (subst (λ (y : Literal). on (clause_at cs (n - 1)) y ≡ true) (sym (negated-negated m)) h)

pub leaning-start : (cs : List (List Literal)) (t : List Literal) (j n : ℕ) → length t ≤ j → 1 ≤ n → n ≤ length cs → AreFalse (on (take j t)) (clause_at cs (n - 1)) → Leaning cs t j (n ∷ [])
leaning-start cs t j n le pos within f = record {
  serves = λ s sub all. (pos, within, record { each = λ m h. all (negated m) (f.each m h) (names cs n [] m h) });
}

on-next : (t : List Literal) (j : ℕ) (m : Literal) → j < length t → on (take (j + 1) t) m ≡ true → (lit t j ≡ m) ⊎ (on (take j t) m ≡ true)
on-next t j m lt h = added-cases (lit t j) m (on (take j t)) (sym (on-push (take j t) (lit t j) m) ∙ subst (λ (ls : List Literal). on ls m ≡ true) (take_more t j none lt) h)

on-before : (t : List Literal) (j : ℕ) (m : Literal) → j < length t → on (take j t) m ≡ true → on (take (j + 1) t) m ≡ true
on-before t j m lt h = subst (λ (ls : List Literal). on ls m ≡ true) (sym (take_more t j none lt)) (on-push (take j t) (lit t j) m ∙ or_right (same (lit t j) m) (on (take j t) m) h)

on-last : (t : List Literal) (j : ℕ) → j < length t → on (take (j + 1) t) (lit t j) ≡ true
on-last t j lt = subst (λ (ls : List Literal). on ls (lit t j) ≡ true) (sym (take_more t j none lt)) (on-push (take j t) (lit t j) (lit t j) ∙ added-here (lit t j) (on (take j t)))

-- a literal that no later clause names is left out
pub leaning-skip : (cs : List (List Literal)) (t : List Literal) (j : ℕ) (ns : List ℕ) → j < length t → stands_negated cs (lit t j) ns ≡ false → Leaning cs t (j + 1) ns → Leaning cs t j ns
leaning-skip cs t j ns lt out r = record {
  serves = λ s sub all. r.serves s (λ m h. on-before t j m lt (sub m h)) (λ m h named. elim (on-next t j m lt h) [
    | inl e ↦ absurd (both_ways (stands_negated cs m ns) (subst (λ (y : Literal). stands_negated cs y ns ≡ false) e out) named)
    | inr b ↦ all m b named
  ]);
}

-- one that a later clause names is kept, with its reason
pub leaning-keep : (cs : List (List Literal)) (t : TrailTable) (j : ℕ) (ns : List ℕ) → IsTrail t.atoms t.literals → j < length t.literals → IsReason cs t j → stands_negated cs (lit t.literals j) ns ≡ true →
    Leaning cs t.literals (j + 1) ns → Leaning cs t.literals j (reason t j ∷ ns)
leaning-keep cs t j [] trail lt why named r = absurd (both_ways false refl named)
leaning-keep cs t j (m ∷ ns) trail lt why named r = record {
  serves = λ s sub all.
      let l = lit t.literals j in
      let n = reason t j in (
        l,
        (
          record {
            positive = why.positive;
            within = why.within;
            unit = record {
              free = false_from_ne_true (s l) (λ h. both_ways (on (take j t.literals) l) (fresh-at t.atoms t.literals j trail lt) (sub l h));
              unset = false_from_ne_true (s (negated l)) (λ h. trail.calm l (on-take (j + 1) t.literals l (on-last t.literals j lt)) (on-take j t.literals (negated l) (sub (negated l) h)));
              forced = record { has = why.unit.forced.has; others = λ o h ne. all (negated o) (why.unit.forced.others o h ne) (names cs n (m ∷ ns) o h) };
            };
            used = named;
          },
          r.serves (added l s)
              (λ o h. elim (added-cases l o s h) [
                | inl e ↦ subst (λ (y : Literal). on (take (j + 1) t.literals) y ≡ true) e (on-last t.literals j lt)
                | inr b ↦ on-before t.literals j o lt (sub o b)
              ])
              (λ o h w. elim (on-next t.literals j o lt h) [
                | inl e ↦ subst (λ (y : Literal). added l s y ≡ true) e (added-here l s)
                | inr b ↦ or_right (same l o) (s o) (all o b (or_left (stands_negated cs o (m ∷ ns)) (on (clause_at cs (n - 1)) (negated o)) w))
              ]),
        ),
      );
}

pub leaning-done : (cs : List (List Literal)) (t : List Literal) (j : ℕ) (ns : List ℕ) → Leaning cs t j ns → IsLeaf cs (on (take j t)) ns
leaning-done cs t j ns r = r.serves (on (take j t)) (λ l h. h) (λ l h named. h)

take-read : (c : List Literal) (i : ℕ) (x : Literal) → i < length c → x ≡ get_or c i x → take (i + 1) c ≡ take i c ++ x ∷ []
take-read c i x lt is = take_more c i x lt ∙ ap (λ (y : Literal). take i c ++ y ∷ []) (sym is)

pub false-more : (c t : List Literal) (i : ℕ) (x : Literal) → i < length c → x ≡ get_or c i x → on t (negated x) ≡ true → ((m : Literal) → on (take i c) m ≡ true → on t (negated m) ≡ true) →
    (m : Literal) → on (take (i + 1) c) m ≡ true → on t (negated m) ≡ true
false-more c t i x lt is here before m h =
    elim (added-cases x m (on (take i c)) (sym (on-push (take i c) x m) ∙ subst (λ (l : List Literal). on l m ≡ true) (take-read c i x lt is) h)) [
      | inl s ↦ subst (λ (y : Literal). on t (negated y) ≡ true) s here
      | inr s ↦ before m s
    ]

-- one more literal of a clause is marked
pub mark-more : (c : List Literal) (i : ℕ) (x : Literal) (marks old : List Bool) → i < length c → x ≡ get_or c i x → place (negated x) < length marks →
    ((m : Literal) → place m < length marks → get_or marks (place m) false ≡ (get_or old (place m) false || on (take i c) (negated m))) →
    (m : Literal) → place m < length marks → get_or (set marks (place (negated x)) true) (place m) false ≡ (get_or old (place m) false || on (take (i + 1) c) (negated m))
mark-more c i x marks old lt is room before m mlt =
    let more : on (take (i + 1) c) (negated m) ≡ (same x (negated m) || on (take i c) (negated m)) =
    ap (λ (l : List Literal). on l (negated m)) (take-read c i x lt is) ∙ on-push (take i c) x (negated m) in
    elim (same-cases (negated x) m) [
      | inl e ↦
          let here : same x (negated m) ≡ true = subst (λ (y : Literal). same x (negated y) ≡ true) e (subst (λ (y : Literal). same x y ≡ true) (sym (negated-negated x)) (same-refl x)) in
          ap (λ (y : Literal). get_or (set marks (place (negated x)) true) (place y) false) (sym e)
          ∙ (get_or-set_same marks (place (negated x)) true false room
          ∙ sym (or_right (get_or old (place m) false) (on (take (i + 1) c) (negated m)) (more ∙ or_left (same x (negated m)) (on (take i c) (negated m)) here)))
      | inr ne ↦
          let apart : same x (negated m) ≡ false = same-from x (negated m) (λ e. same-not (negated x) m ne (ap negated e ∙ negated-negated m)) in
          get_or-set_other marks (place (negated x)) (place m) true false (λ e. same-not (negated x) m ne (sym (place-same m (negated x) e)))
          ∙ (before m mlt ∙ ap (λ (b : Bool). get_or old (place m) false || b) (sym (more ∙ ap (λ (b : Bool). b || on (take i c) (negated m)) apart)))
    ]

pub drop-last : (xs : List ℕ) (n y : ℕ) → n + 1 ≡ length xs → drop n (set xs n y) ≡ y ∷ []
drop-last xs n y e = drop-set xs n y (omega arith) ∙ ap (λ (l : List ℕ). y ∷ l) (drop_all (n + 1) xs (omega arith))

pub drop-next : (xs : List ℕ) (n from y : ℕ) → n + 1 ≡ from → from ≤ length xs → drop n (set xs n y) ≡ y ∷ drop from xs
drop-next xs n from y e le = drop-set xs n y (omega arith) ∙ ap (λ (k : ℕ). y ∷ drop k xs) e

pub marks-start : (cs : List (List Literal)) (old marks : List Bool) (n : ℕ) (c : List Literal) → c ≡ clause_at cs (n - 1) → ((i : ℕ) → get_or old i false ≡ false) → length marks ≡ length old →
    ((l : Literal) → place l < length old → get_or marks (place l) false ≡ (get_or old (place l) false || on c (negated l))) → AreMarks cs marks (n ∷ [])
marks-start cs old marks n c is none-old long h = record {
  says = λ l lt. h l (omega arith) ∙ (ap (λ (b : Bool). b || on c (negated l)) (none-old (place l)) ∙ ap (λ (d : List Literal). false || on d (negated l)) is);
}

pub marks-next : (cs : List (List Literal)) (old marks : List Bool) (n : ℕ) (ns : List ℕ) (c : List Literal) → c ≡ clause_at cs (n - 1) → AreMarks cs old ns → length marks ≡ length old →
    ((l : Literal) → place l < length old → get_or marks (place l) false ≡ (get_or old (place l) false || on c (negated l))) → AreMarks cs marks (n ∷ ns)
marks-next cs old marks n ns c is r long h = record {
  says = λ l lt. h l (omega arith) ∙ (ap (λ (b : Bool). b || on c (negated l)) (r.says l (omega arith)) ∙ ap (λ (d : List Literal). stands_negated cs l ns || on d (negated l)) is);
}

-- what a mark says
pub marked : (cs : List (List Literal)) (marks : List Bool) (ns : List ℕ) (b : Bool) (r : ℕ) (l m : Literal) (n : ℕ) → AreMarks cs marks ns → r ≡ place l → l ≡ m → m.atom ≤ n → length marks ≡ 2 * n + 3 → get_or marks r false ≡ b → stands_negated cs m ns ≡ b
marked cs marks ns b r l m n h er el le long is =
    let e : r ≡ place m = er ∙ ap place el in
    sym (h.says m (omega (arith, sign_bit-le m.positive))) ∙ (ap (λ (k : ℕ). get_or marks k false) (sym e) ∙ is)
