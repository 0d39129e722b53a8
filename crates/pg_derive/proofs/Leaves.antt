-- Where the closure of a set has a conflict, there are clauses that lead from the set to one, none of them in vain.
use Rattle.std.proofs.Common.{◌≡◌, ℕ, zero, suc, ◌+◌, ◌-◌, ◌<◌, ◌≤◌, Bool, true, false, not, ◌&&◌, ◌||◌, List, [], ◌∷◌, length, refl, sym, ap, subst, arith, inl, inr, ◌⊎◌}
use Rattle.std.proofs.lemmas.Bool.{cases_Bool, both_ways, and_from, and_parts, or_left, or_right, or_cases, false_from_ne_true}
use Rattle.pg_region.specs.Literal.{Literal, same, negated}
use Rattle.pg_region.specs.Region.{clause_at}
use Rattle.pg_decider.specs.Assignment.{Assignment, on, added, Within, Forces, IsUnit, AreFalse, HasConflict, IsClosed, IsClosure}
use Rattle.pg_decider.specs.Leaf.{stands_negated, IsLeaf}
use Rattle.pg_decider.specs.Split.{free, bit}
use Rattle.pg_decider.proofs.Literals.{same-is, same-refl, same-cases, negated-negated, added-cases, added-here}

-- ---- tests of what a clause says

abbrev all_false : Assignment → List Literal → Bool
all_false s [] = true
all_false s (m ∷ c) = s (negated m) && all_false s c

abbrev others_false : Assignment → Literal → List Literal → Bool
others_false s l [] = true
others_false s l (m ∷ c) = (same m l || s (negated m)) && others_false s l c

all-false-from : (s : Assignment) (c : List Literal) → ((m : Literal) → on c m ≡ true → s (negated m) ≡ true) → all_false s c ≡ true
all-false-from s [] h = refl
all-false-from s (m ∷ c) h = and_from (s (negated m)) (all_false s c) (h m (or_left (same m m) (on c m) (same-refl m))) (all-false-from s c (λ k i. h k (or_right (same m k) (on c k) i)))

all-false-to : (s : Assignment) (c : List Literal) → all_false s c ≡ true → (m : Literal) → on c m ≡ true → s (negated m) ≡ true
all-false-to s [] h m i = absurd (both_ways false refl i)
all-false-to s (k ∷ c) h m i =
    let p = and_parts (s (negated k)) (all_false s c) h in
    elim (or_cases (same k m) (on c m) i) [
      | inl e ↦ subst (λ (y : Literal). s (negated y) ≡ true) (same-is k m e) p.0
      | inr e ↦ all-false-to s c p.1 m e
    ]

others-from : (s : Assignment) (l : Literal) (c : List Literal) → ((m : Literal) → on c m ≡ true → same m l ≡ false → s (negated m) ≡ true) → others_false s l c ≡ true
others-from s l [] h = refl
others-from s l (m ∷ c) h = and_from (same m l || s (negated m)) (others_false s l c) (go (same m l) refl) (others-from s l c (λ k i ne. h k (or_right (same m k) (on c k) i) ne))
  where
    go : (b : Bool) → same m l ≡ b → (same m l || s (negated m)) ≡ true
    go true e = or_left (same m l) (s (negated m)) e
    go false e = or_right (same m l) (s (negated m)) (h m (or_left (same m m) (on c m) (same-refl m)) e)

conflict-at : (cs : List (List Literal)) (s : Assignment) → HasConflict cs s ⊎ (HasConflict cs s → ⊥)
conflict-at [] s = inr (λ h. absurd (omega (arith, h.within)))
conflict-at (c ∷ cs) s = go (cases_Bool (all_false s c)) (conflict-at cs s)
  where
    go : (all_false s c ≡ true) ⊎ (all_false s c ≡ false) → HasConflict cs s ⊎ (HasConflict cs s → ⊥) → HasConflict (c ∷ cs) s ⊎ (HasConflict (c ∷ cs) s → ⊥)
    go (inl f) y = inl (record { place = 0; within = omega arith; false_there = record { each = all-false-to s c f } })
    go (inr f) (inl h) = inl (record { place = suc h.place; within = omega (arith, h.within); false_there = h.false_there })
    go (inr f) (inr n) = inr (λ h. at h.place h.within h.false_there)
      where
        at : (k : ℕ) → k < length (c ∷ cs) → AreFalse s (clause_at (c ∷ cs) k) → ⊥
        at zero lt a = both_ways (all_false s c) f (all-false-from s c a.each)
        at (suc k) lt a = n (record { place = k; within = omega (arith, lt); false_there = a })

-- ---- a clause that adds a literal

record UnitIn (s : Assignment) (c : List Literal) : Type 0 where
  literal : Literal
  unit : IsUnit s c literal

unit-from : (s : Assignment) (c : List Literal) (m : Literal) → on c m ≡ true → s m ≡ false → s (negated m) ≡ false → others_false s m c ≡ true → UnitIn s c
unit-from s c m i out off f = record { literal = m; unit = record { free = out; unset = off; forced = record { has = i; others = others-to c f } } }
  where
    others-to : (c : List Literal) → others_false s m c ≡ true → (k : Literal) → on c k ≡ true → same k m ≡ false → s (negated k) ≡ true
    others-to [] h k i ne = absurd (both_ways false refl i)
    others-to (x ∷ c) h k i ne =
        let p = and_parts (same x m || s (negated x)) (others_false s m c) h in
        elim (or_cases (same x k) (on c k) i) [
          | inl e ↦
              let is = same-is x k e in
              elim (or_cases (same x m) (s (negated x)) p.0) [
                | inl z ↦ absurd (both_ways (same k m) ne (subst (λ (y : Literal). same y m ≡ true) is z))
                | inr z ↦ subst (λ (y : Literal). s (negated y) ≡ true) is z
              ]
          | inr e ↦ others-to c p.1 k e ne
        ]

unit-among : (s : Assignment) (c d : List Literal) → ((m : Literal) → on d m ≡ true → on c m ≡ true) → UnitIn s c ⊎ ((l : Literal) → on d l ≡ true → IsUnit s c l → ⊥)
unit-among s c [] sub = inr (λ l i u. absurd (both_ways false refl i))
unit-among s c (m ∷ d) sub = go (cases_Bool (s m)) (cases_Bool (s (negated m))) (cases_Bool (others_false s m c)) (unit-among s c d (λ k i. sub k (or_right (same m k) (on d k) i)))
  where
    Rest : Type 0
    Rest = UnitIn s c ⊎ ((l : Literal) → on (m ∷ d) l ≡ true → IsUnit s c l → ⊥)

    further : (IsUnit s c m → ⊥) → ((l : Literal) → on d l ≡ true → IsUnit s c l → ⊥) → Rest
    further here rest = inr (λ l i u. elim (or_cases (same m l) (on d l) i) [
      | inl e ↦ here (subst (λ (y : Literal). IsUnit s c y) (sym (same-is m l e)) u)
      | inr e ↦ rest l e u
    ])

    go : (s m ≡ true) ⊎ (s m ≡ false) → (s (negated m) ≡ true) ⊎ (s (negated m) ≡ false) → (others_false s m c ≡ true) ⊎ (others_false s m c ≡ false)
        → UnitIn s c ⊎ ((l : Literal) → on d l ≡ true → IsUnit s c l → ⊥) → Rest
    go a b f (inl u) = inl u
    go (inl a) b f (inr rest) = further (λ u. both_ways (s m) u.free a) rest
    go (inr a) (inl b) f (inr rest) = further (λ u. both_ways (s (negated m)) u.unset b) rest
    go (inr a) (inr b) (inl f) (inr rest) = inl (unit-from s c m (sub m (or_left (same m m) (on d m) (same-refl m))) a b f)
    go (inr a) (inr b) (inr f) (inr rest) = further (λ u. both_ways (others_false s m c) f (others-from s m c u.forced.others)) rest

record UnitAt (cs : List (List Literal)) (s : Assignment) : Type 0 where
  place : ℕ
  within : place < length cs
  literal : Literal
  unit : IsUnit s (clause_at cs place) literal

unit-at : (cs : List (List Literal)) (s : Assignment) → UnitAt cs s ⊎ ((k : ℕ) (l : Literal) → k < length cs → IsUnit s (clause_at cs k) l → ⊥)
unit-at [] s = inr (λ k l lt u. absurd (omega (arith, lt)))
unit-at (c ∷ cs) s = go (unit-among s c c (λ m i. i)) (unit-at cs s)
  where
    go : UnitIn s c ⊎ ((l : Literal) → on c l ≡ true → IsUnit s c l → ⊥) → UnitAt cs s ⊎ ((k : ℕ) (l : Literal) → k < length cs → IsUnit s (clause_at cs k) l → ⊥)
        → UnitAt (c ∷ cs) s ⊎ ((k : ℕ) (l : Literal) → k < length (c ∷ cs) → IsUnit s (clause_at (c ∷ cs) k) l → ⊥)
    go (inl u) y = inl (record { place = 0; within = omega arith; literal = u.literal; unit = u.unit })
    go (inr h) (inl u) = inl (record { place = suc u.place; within = omega (arith, u.within); literal = u.literal; unit = u.unit })
    go (inr h) (inr n) = inr at
      where
        at : (k : ℕ) (l : Literal) → k < length (c ∷ cs) → IsUnit s (clause_at (c ∷ cs) k) l → ⊥
        at zero l lt u = h l u.forced.has u
        at (suc k) l lt u = n k l (omega (arith, lt)) u

-- without a conflict and without a unit, a set is closed
calm-closed : (cs : List (List Literal)) (s : Assignment) → (HasConflict cs s → ⊥) → ((k : ℕ) (l : Literal) → k < length cs → IsUnit s (clause_at cs k) l → ⊥) → IsClosed cs s
calm-closed cs s calm none = record { each = each }
  where
    each : (k : ℕ) (l : Literal) → k < length cs → Forces s (clause_at cs k) l → s l ≡ true
    each k l lt f = elim (cases_Bool (s l)) [
      | inl e ↦ e
      | inr out ↦ elim (cases_Bool (s (negated l))) [
        | inl n ↦ absurd (calm (record {
          place = k;
          within = lt;
          false_there = record {
            each = λ m i. elim (same-cases m l) [
              | inl e ↦ subst (λ (y : Literal). s (negated y) ≡ true) (sym e) n
              | inr ne ↦ f.others m i ne
            ];
          };
        }))
        | inr off ↦ absurd (none k l lt (record { free = out; unset = off; forced = f }))
      ]
    ]

-- ---- each unit leaves fewer clauses with a literal without a value

abbrev any_free : Assignment → List Literal → Bool
any_free s [] = false
any_free s (m ∷ c) = free s m || any_free s c

abbrev loose : Assignment → List (List Literal) → ℕ
loose s [] = 0
loose s (c ∷ cs) = bit (any_free s c) + loose s cs

free-before : (l m : Literal) (s : Assignment) → free (added l s) m ≡ true → free s m ≡ true
free-before l m s = go (same l m) (s m) (same l (negated m)) (s (negated m))
  where
    go : (p q x y : Bool) → (not (p || q) && not (x || y)) ≡ true → (not q && not y) ≡ true
    go true q x y h = absurd (both_ways false refl h)
    go false true x y h = absurd (both_ways false refl h)
    go false false true y h = absurd (both_ways false refl h)
    go false false false y h = h

any-before : (l : Literal) (s : Assignment) (c : List Literal) → any_free (added l s) c ≡ true → any_free s c ≡ true
any-before l s [] h = h
any-before l s (m ∷ c) h = elim (or_cases (free (added l s) m) (any_free (added l s) c) h) [
  | inl e ↦ or_left (free s m) (any_free s c) (free-before l m s e)
  | inr e ↦ or_right (free s m) (any_free s c) (any-before l s c e)
]

bit-le : (a b : Bool) → (a ≡ true → b ≡ true) → bit a ≤ bit b
bit-le true true h = omega arith
bit-le false true h = omega arith
bit-le true false h = absurd (both_ways false refl (h refl))
bit-le false false h = omega arith

bit-less : (a b : Bool) → a ≡ false → b ≡ true → bit a + 1 ≤ bit b
bit-less true b h e = absurd (both_ways true h refl)
bit-less false true h e = omega arith
bit-less false false h e = absurd (both_ways false refl e)

loose-le : (l : Literal) (s : Assignment) (cs : List (List Literal)) → loose (added l s) cs ≤ loose s cs
loose-le l s [] = omega arith
loose-le l s (c ∷ cs) = omega (arith, bit-le (any_free (added l s) c) (any_free s c) (any-before l s c), loose-le l s cs)

loose-less : (l : Literal) (s : Assignment) (cs : List (List Literal)) (k : ℕ) → k < length cs → any_free (added l s) (clause_at cs k) ≡ false → any_free s (clause_at cs k) ≡ true
    → loose (added l s) cs + 1 ≤ loose s cs
loose-less l s [] k lt h e = absurd (omega (arith, lt))
loose-less l s (c ∷ cs) zero lt h e = omega (arith, bit-less (any_free (added l s) c) (any_free s c) h e, loose-le l s cs)
loose-less l s (c ∷ cs) (suc k) lt h e = omega (arith, bit-le (any_free (added l s) c) (any_free s c) (any-before l s c), loose-less l s cs k (omega (arith, lt)) h e)

any-from : (s : Assignment) (c : List Literal) (l : Literal) → on c l ≡ true → free s l ≡ true → any_free s c ≡ true
any-from s [] l i f = absurd (both_ways false refl i)
any-from s (m ∷ c) l i f = elim (or_cases (same m l) (on c l) i) [
  | inl e ↦ or_left (free s m) (any_free s c) (subst (λ (y : Literal). free s y ≡ true) (sym (same-is m l e)) f)
  | inr e ↦ or_right (free s m) (any_free s c) (any-from s c l e f)
]

none-free : (s : Assignment) (c : List Literal) → ((m : Literal) → on c m ≡ true → (s m || s (negated m)) ≡ true) → any_free s c ≡ false
none-free s [] h = refl
none-free s (m ∷ c) h = go (s m) (s (negated m)) (any_free s c) (h m (or_left (same m m) (on c m) (same-refl m))) (none-free s c (λ k i. h k (or_right (same m k) (on c k) i)))
  where
    go : (p q r : Bool) → (p || q) ≡ true → r ≡ false → ((not p && not q) || r) ≡ false
    go true q r h e = e
    go false true r h e = e
    go false false r h e = absurd (both_ways false refl h)

unit-fewer : (s : Assignment) (cs : List (List Literal)) (k : ℕ) (l : Literal) → k < length cs → IsUnit s (clause_at cs k) l → loose (added l s) cs + 1 ≤ loose s cs
unit-fewer s cs k l lt u = loose-less l s cs k lt
    (none-free (added l s) (clause_at cs k) (λ m i. elim (same-cases m l) [
      | inl e ↦ or_left (added l s m) (added l s (negated m)) (subst (λ (y : Literal). added l s y ≡ true) (sym e) (added-here l s))
      | inr ne ↦ or_right (added l s m) (added l s (negated m)) (or_right (same l (negated m)) (s (negated m)) (u.forced.others m i ne))
    ]))
    (any-from s (clause_at cs k) l u.forced.has (and_from (not (s l)) (not (s (negated l))) (ap not u.free) (ap not u.unset)))

-- ---- the list

pub record HasLeaf (cs : List (List Literal)) (s : Assignment) : Type 0 where
  pub numbers : List ℕ
  pub is : IsLeaf cs s numbers

-- a literal that stands in clause n is named negated
names : (cs : List (List Literal)) (n : ℕ) (ns : List ℕ) (m : Literal) → on (clause_at cs (n - 1)) m ≡ true → stands_negated cs (negated m) (n ∷ ns) ≡ true
names cs n ns m i = or_right (stands_negated cs (negated m) ns) (on (clause_at cs (n - 1)) (negated (negated m))) (subst (λ (y : Literal). on (clause_at cs (n - 1)) y ≡ true) (sym (negated-negated m)) i)

-- a list serves a smaller set that has all that the list names negated
leaf-less : (cs : List (List Literal)) (s t : Assignment) (ns : List ℕ) → Within s t → ((o : Literal) → t o ≡ true → stands_negated cs o ns ≡ true → s o ≡ true) → IsLeaf cs t ns → IsLeaf cs s ns
leaf-less cs s t [] sub all h = h
leaf-less cs s t (n ∷ []) sub all h = (h.0, h.1, record { each = λ m i. all (negated m) (h.2.each m i) (names cs n [] m i) })
leaf-less cs s t (n ∷ m ∷ ns) sub all h = (
  l,
  (
    record {
      positive = h.1.0.positive;
      within = h.1.0.within;
      unit = record {
        free = false_from_ne_true (s l) (λ e. both_ways (t l) h.1.0.unit.free (sub l e));
        unset = false_from_ne_true (s (negated l)) (λ e. both_ways (t (negated l)) h.1.0.unit.unset (sub (negated l) e));
        forced = record { has = h.1.0.unit.forced.has; others = λ o i ne. all (negated o) (h.1.0.unit.forced.others o i ne) (names cs n (m ∷ ns) o i) };
      };
      used = h.1.0.used;
    },
    leaf-less cs (added l s) (added l t) (m ∷ ns)
        (λ o e. elim (added-cases l o s e) [
          | inl is ↦ subst (λ (y : Literal). added l t y ≡ true) is (added-here l t)
          | inr b ↦ or_right (same l o) (t o) (sub o b)
        ])
        (λ o e w. elim (added-cases l o t e) [
          | inl is ↦ subst (λ (y : Literal). added l s y ≡ true) is (added-here l s)
          | inr b ↦ or_right (same l o) (s o) (all o b (or_left (stands_negated cs o (m ∷ ns)) (on (clause_at cs (n - 1)) (negated o)) w))
        ])
        h.1.1,
  ),
)
  where
    l : Literal
    l = h.0

leaf-step : (cs : List (List Literal)) (s : Assignment) (k : ℕ) (l : Literal) → k < length cs → IsUnit s (clause_at cs k) l → HasLeaf cs (added l s) → HasLeaf cs s
leaf-step cs s k l lt u h = go h.numbers h.is (cases_Bool (stands_negated cs l h.numbers))
  where
    keep : (m : ℕ) (ns : List ℕ) → IsLeaf cs (added l s) (m ∷ ns) → stands_negated cs l (m ∷ ns) ≡ true → HasLeaf cs s
    keep m ns is named = record {
      numbers = (k + 1) ∷ m ∷ ns;
      is = (
        l,
        (
          record {
            positive = omega arith;
            within = omega (arith, lt);
            unit = subst (λ (j : ℕ). IsUnit s (clause_at cs j) l) (let e : k ≡ k + 1 - 1 = omega arith in e) u;
            used = named;
          },
          is,
        ),
      );
    }

    go : (ns : List ℕ) → IsLeaf cs (added l s) ns → (stands_negated cs l ns ≡ true) ⊎ (stands_negated cs l ns ≡ false) → HasLeaf cs s
    go [] is b = absurd is
    go (m ∷ ns) is (inl named) = keep m ns is named
    go (m ∷ ns) is (inr free) = record {
      numbers = m ∷ ns;
      is = leaf-less cs s (added l s) (m ∷ ns) (λ o e. or_right (same l o) (s o) e) (λ o e w. elim (added-cases l o s e) [
        | inl i ↦ absurd (both_ways (stands_negated cs o (m ∷ ns)) (subst (λ (y : Literal). stands_negated cs y (m ∷ ns) ≡ false) i free) w)
        | inr b ↦ b
      ]) is;
    }

conflict-wider : (cs : List (List Literal)) (u v : Assignment) → Within u v → HasConflict cs u → HasConflict cs v
conflict-wider cs u v sub h = record { place = h.place; within = h.within; false_there = record { each = λ m i. sub (negated m) (h.false_there.each m i) } }

module _ (cs : List (List Literal)) (s u : Assignment) (closure : IsClosure cs s u) (shut : HasConflict cs u) where
  leaf-here : (v : Assignment) → HasConflict cs v → HasLeaf cs v
  leaf-here v h = record {
    numbers = (h.place + 1) ∷ [];
    is = (omega arith, omega (arith, h.within), subst (λ (j : ℕ). AreFalse v (clause_at cs j)) (let e : h.place ≡ h.place + 1 - 1 = omega arith in e) h.false_there);
  }

  -- a set that is calm is not closed
  no-end : (v : Assignment) → Within s v → (HasConflict cs v → ⊥) → ((k : ℕ) (l : Literal) → k < length cs → IsUnit v (clause_at cs k) l → ⊥) → ⊥
  no-end v above calm none = calm (conflict-wider cs u v (closure.least v above (calm-closed cs v calm none)) shut)

  leaf-from : (fuel : ℕ) (v : Assignment) → Within s v → loose v cs ≤ fuel → HasLeaf cs v
  leaf-from zero v above le = go (conflict-at cs v) (unit-at cs v)
    where
      go : HasConflict cs v ⊎ (HasConflict cs v → ⊥) → UnitAt cs v ⊎ ((k : ℕ) (l : Literal) → k < length cs → IsUnit v (clause_at cs k) l → ⊥) → HasLeaf cs v
      go (inl h) x = leaf-here v h
      go (inr calm) (inl m) = absurd (omega (arith, le, unit-fewer v cs m.place m.literal m.within m.unit))
      go (inr calm) (inr none) = absurd (no-end v above calm none)
  leaf-from (suc fuel) v above le =
      go (conflict-at cs v) (unit-at cs v)
      (λ m. leaf-step cs v m.place m.literal m.within m.unit
      (leaf-from fuel (added m.literal v) (λ o e. or_right (same m.literal o) (v o) (above o e)) (omega (arith, le, unit-fewer v cs m.place m.literal m.within m.unit))))
    where
      go : HasConflict cs v ⊎ (HasConflict cs v → ⊥) → UnitAt cs v ⊎ ((k : ℕ) (l : Literal) → k < length cs → IsUnit v (clause_at cs k) l → ⊥) → (UnitAt cs v → HasLeaf cs v) → HasLeaf cs v
      go (inl h) x next = leaf-here v h
      go (inr calm) (inl m) next = next m
      go (inr calm) (inr none) next = absurd (no-end v above calm none)

  pub leaf-exists : HasLeaf cs s
  leaf-exists = leaf-from (loose s cs) s (λ l h. h) (omega arith)
