use Rattle.std.proofs.Common.{◌≡◌, ℕ, zero, suc, ◌+◌, ◌*◌, ◌/◌, ◌<◌, ◌≤◌, Bool, true, false, List, [], ◌∷◌, ◌++◌, length, take, refl, sym, ap, subst, ◌∙◌, arith, inl, inr}
use Rattle.std.proofs.lemmas.Bool.{cases_Bool, cases_eq, cases_lt, both_ways, or_cases, or_left, or_right}
use Rattle.std.proofs.lemmas.List.{take_more, take_all, get_or_past}
use Rattle.pg_region.specs.Literal.{Literal, same, negated}
use Rattle.pg_region.specs.Pieces.{total}
use Rattle.pg_region.specs.Region.{clause_at}
use Rattle.pg_decider.specs.Assignment.{on}
use Rattle.pg_decider.specs.Chains.{chain, AreChains}
use Rattle.pg_decider.specs.Counted.{false_in, false_count, met_of, met_in}
use Rattle.pg_decider.specs.Split.{bit}
use Rattle.pg_decider.specs.Trail.{lit}
use Rattle.pg_decider.specs.Watch.{place, other, Placed, Watching}
use Rattle.pg_decider.specs.Weigh.{occurs}
use Rattle.pg_decider.proofs.Weighing.{occurs-here, weigh-at}
use Rattle.pg_decider.proofs.Literals.{place-same, same-is, same-refl, negated-negated, on-push}
use Rattle.pg_decider.proofs.Watching.{twice}

bit-le : (b : Bool) → bit b ≤ 1
bit-le true = omega arith
bit-le false = omega arith

bit-up : (a b : Bool) → (a ≡ true → b ≡ true) → bit a ≤ bit b
bit-up true b h = rw (h refl) (omega arith)
bit-up false b h = omega arith

bit-true : (b : Bool) → b ≡ true → bit b ≡ 1
bit-true b h = ap bit h

bit-false : (b : Bool) → b ≡ false → bit b ≡ 0
bit-false b h = ap bit h

-- the false literals are at most all
pub false_in-le : (s : Literal → Bool) (c : List Literal) → false_in s c ≤ length c
false_in-le s [] = omega arith
false_in-le s (m ∷ c) = omega (arith, bit-le (s (negated m)), false_in-le s c)

pub false_count-le : (s : Literal → Bool) (cs : List (List Literal)) → false_count s cs ≤ total cs
false_count-le s [] = omega arith
false_count-le s (c ∷ cs) = omega (arith, false_in-le s c, false_count-le s cs)

-- one more literal on the trail makes its occurrences false, which were not
one-more : (t : List Literal) (l m : Literal) → on t l ≡ false → bit (on t (negated m)) + bit (same (negated l) m) ≤ bit (on (t ++ l ∷ []) (negated m))
one-more t l m out = elim (cases_Bool (same (negated l) m)) [
  | inl e ↦
      let is : l ≡ negated m = sym (negated-negated l) ∙ ap negated (same-is (negated l) m e) in
      let before : on t (negated m) ≡ false = subst (λ (y : Literal). on t y ≡ false) is out in
      let after : on (t ++ l ∷ []) (negated m) ≡ true = on-push t l (negated m) ∙ or_left (same l (negated m)) (on t (negated m)) (subst (λ (y : Literal). same l y ≡ true) is (same-refl l)) in
      omega (arith, bit-true (same (negated l) m) e, bit-false (on t (negated m)) before, bit-true (on (t ++ l ∷ []) (negated m)) after)
  | inr e ↦
      omega (arith, bit-false (same (negated l) m) e, bit-up (on t (negated m)) (on (t ++ l ∷ []) (negated m)) (λ h. on-push t l (negated m) ∙ or_right (same l (negated m)) (on t (negated m)) h))
]

pub false_in-more : (t : List Literal) (l : Literal) (c : List Literal) → on t l ≡ false → false_in (on t) c + met_of (negated l) c ≤ false_in (on (t ++ l ∷ [])) c
false_in-more t l [] out = omega arith
false_in-more t l (m ∷ c) out = omega (arith, one-more t l m out, false_in-more t l c out)

pub false_count-more : (t : List Literal) (l : Literal) (cs : List (List Literal)) → on t l ≡ false → false_count (on t) cs + met_in (negated l) cs ≤ false_count (on (t ++ l ∷ [])) cs
false_count-more t l [] out = omega arith
false_count-more t l (c ∷ cs) out = omega (arith, false_in-more t l c out, false_count-more t l cs out)

-- a literal of a clause is met_of there
pub met-on : (f : Literal) (c : List Literal) → on c f ≡ true → 1 ≤ met_of f c
met-on f [] h = absurd (both_ways false refl h)
met-on f (m ∷ c) h = elim (or_cases (same m f) (on c f) h) [
  | inl e ↦ omega (arith, bit-true (same f m) (subst (λ (y : Literal). same f y ≡ true) (sym (same-is m f e)) (same-refl f)))
  | inr e ↦ omega (arith, met-on f c e)
]

met_in-append : (f : Literal) (cs ds : List (List Literal)) → met_in f (cs ++ ds) ≡ met_in f cs + met_in f ds
met_in-append f [] ds = omega arith
met_in-append f (c ∷ cs) ds = omega (arith, met_in-append f cs ds)

-- the slots of the first n clauses that stand in a list
abbrev slots_of : ℕ → List ℕ → ℕ
slots_of zero xs = 0
slots_of (suc n) xs = (occurs (2 * n) xs + occurs (2 * n + 1) xs) + slots_of n xs

slots-none : (n y : ℕ) → 0 ≤ slots_of n (y ∷ [])
slots-none n y = omega arith

slots-cons : (n y : ℕ) (ys : List ℕ) → slots_of n (y ∷ ys) ≡ slots_of n (y ∷ []) + slots_of n ys
slots-cons zero y ys = refl
slots-cons (suc n) y ys = omega (arith, slots-cons n y ys)

slots-one : (n y : ℕ) → y < 2 * n → 1 ≤ slots_of n (y ∷ [])
slots-one zero y lt = absurd (omega arith)
slots-one (suc n) y lt = elim (cases_eq y (2 * n)) [
  | inl e ↦ omega (arith, subst (λ (z : ℕ). occurs z (y ∷ []) ≡ 1 + 0) e (occurs-here y []))
  | inr e ↦ elim (cases_eq y (2 * n + 1)) [
    | inl f ↦ omega (arith, subst (λ (z : ℕ). occurs z (y ∷ []) ≡ 1 + 0) f (occurs-here y []))
    | inr f ↦ omega (arith, slots-one n y (omega arith))
  ]
]

slots-all : (n : ℕ) (xs : List ℕ) → ((x : ℕ) → 0 < occurs x xs → x < 2 * n) → length xs ≤ slots_of n xs
slots-all n [] h = omega arith
slots-all n (y ∷ ys) h =
    omega (arith, slots-cons n y ys, slots-one n y (h y (omega (arith, occurs-here y ys))), slots-all n ys (λ x o. h x (omega arith)))

slots-met : (f : Literal) (cs : List (List Literal)) (n : ℕ) (xs : List ℕ) → n ≤ length cs → ((k : ℕ) → k < length cs → occurs (2 * k) xs + occurs (2 * k + 1) xs ≤ met_of f (clause_at cs k)) →
    slots_of n xs ≤ met_in f (take n cs)
slots-met f cs zero xs le h = omega arith
slots-met f cs (suc n) xs le h =
    let e : take (n + 1) cs ≡ take n cs ++ clause_at cs n ∷ [] = take_more cs n [] (omega arith) in
    let e2 : take (suc n) cs ≡ take n cs ++ clause_at cs n ∷ [] = ap (λ (k : ℕ). take k cs) (sym-suc n) ∙ e in
    omega (arith, ap (met_in f) e2, met_in-append f (take n cs) (clause_at cs n ∷ []), h n (omega arith), slots-met f cs n xs (omega arith) h)
  where
    sym-suc : (n : ℕ) → suc n ≡ n + 1
    sym-suc n = omega arith

-- the chain of a false literal is no longer than the literal stands in the clauses
pub chain-met : (cs : List (List Literal)) (ws : List Literal) (ls : List (List ℕ)) (slots g n : ℕ) (late : List ℕ) (p s : Literal → Bool) (but : ℕ) (f : Literal) →
    Placed cs ws ls g n → length ws ≡ 2 * length cs → AreChains ls slots → Watching cs ws late p s but → ((l : Literal) → s l ≡ true → s (negated l) ≡ true → ⊥) → s (negated f) ≡ true → 0 < place f →
    length (chain ls (place f)) ≤ met_in f cs
chain-met cs ws ls slots g n late p s but f r size ch w calm wrong pos =
    let xs = chain ls (place f) in
    omega (
      arith,
      slots-all (length cs) xs (λ x h. omega (arith, r.sound x (place f) pos h, size)),
      slots-met f cs (length cs) xs (omega arith) each,
      ap (met_in f) (take_all (length cs) cs (omega arith)),
    )
  where
    half : (k : ℕ) → (2 * k + 1) / 2 ≡ k
    half k = omega arith

    single : (x : ℕ) → occurs x (chain ls (place f)) ≤ 1
    single x = elim (cases_lt (place f) (length ls)) [
      | inl lt ↦ omega (arith, weigh-at (occurs x) ls (place f) [] lt, ch.once x)
      | inr le ↦ omega (arith, ap (occurs x) (get_or_past ls (place f) [] le))
    ]

    is-f : (x : ℕ) → 0 < occurs x (chain ls (place f)) → (x < length ws) × (lit ws x ≡ f)
    is-f x h = let q = r.sound x (place f) pos h in (q.0, place-same (lit ws x) f q.1)

    on-f : (x : ℕ) → 0 < occurs x (chain ls (place f)) → on (clause_at cs (x / 2)) f ≡ true
    on-f x h = let q = is-f x h in subst (λ (l : Literal). on (clause_at cs (x / 2)) l ≡ true) q.1 (r.has x q.0)

    not-both : (k : ℕ) → 0 < occurs (2 * k) (chain ls (place f)) → 0 < occurs (2 * k + 1) (chain ls (place f)) → ⊥
    not-both k h i =
        let a = is-f (2 * k) h in
        let b = is-f (2 * k + 1) i in
        let o : lit ws (2 * k) ≡ lit ws (other (2 * k)) = a.1 ∙ (sym b.1 ∙ ap (λ (y : ℕ). lit ws y) (sym (twice k).0)) in
        calm f (w.one (2 * k) f a.0 o (on-f (2 * k) h)) wrong

    each : (k : ℕ) → k < length cs → occurs (2 * k) (chain ls (place f)) + occurs (2 * k + 1) (chain ls (place f)) ≤ met_of f (clause_at cs k)
    each k lt = elim (cases_lt 0 (occurs (2 * k) (chain ls (place f)))) [
      | inl h ↦ elim (cases_lt 0 (occurs (2 * k + 1) (chain ls (place f)))) [
        | inl i ↦ absurd (not-both k h i)
        | inr i ↦ omega (arith, single (2 * k), met-on f (clause_at cs k) (subst (λ (y : ℕ). on (clause_at cs y) f ≡ true) (twice k).1 (on-f (2 * k) h)))
      ]
      | inr h ↦ elim (cases_lt 0 (occurs (2 * k + 1) (chain ls (place f)))) [
        | inl i ↦ omega (arith, single (2 * k + 1), met-on f (clause_at cs k) (subst (λ (y : ℕ). on (clause_at cs y) f ≡ true) (half k) (on-f (2 * k + 1) i)))
        | inr i ↦ omega arith
      ]
    ]
