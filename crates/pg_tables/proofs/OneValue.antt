-- That something has exactly one value.
use Rattle.std.proofs.Common.{◌≡◌, ℕ, zero, suc, ◌+◌, ◌*◌, ◌<◌, ◌≤◌, Bool, true, false, ◌||◌, nat_lt, List, [], ◌∷◌, ◌++◌, length, map, refl, sym, ap, ◌∙◌, ◌⊎◌, inl, inr, arith, length-append}
use Rattle.std.proofs.lemmas.List.{map-append, length-map}
use Rattle.std.proofs.lemmas.List.FromFn.{length-range_with_len}
use Rattle.std.proofs.lemmas.List.Elements.{All-cons, All-nil}
use Rattle.std.proofs.lemmas.Bool.{ltb-true, cases_lt}
use Rattle.std.specs.List.{range_with_len, list_any}
use Rattle.pg_assertion.specs.Layout.{Sizes, values}
use Rattle.pg_assertion.specs.StepAtom.{IsStepAtom}
use Rattle.pg_assertion.specs.declared.step_atom.StepAtom.{StepAtom}
use Rattle.pg_tables.specs.declared.clause.StepLiteral.{StepLiteral}
use Rattle.pg_tables.specs.Clause.{yes, implies, AreStepAtoms}
use Rattle.pg_tables.specs.Table.{exactly_one, IsOneOf}
use Rattle.pg_tables.specs.Truth.{AllTrue}
use Rattle.pg_tables.specs.Bound.{AreWithin}
use Rattle.pg_tables.proofs.Lists.{range-split}
use Rattle.pg_tables.proofs.Truth.{all-one, all-append, all-when, all-values, ruled}
use Rattle.pg_tables.proofs.Bounds.{IsAtMost, pairs, most-none, most-cons, most-append, most-values_less}

-- ---- the clause that some value has its atom

some-more : (a : ℕ → StepAtom) (v : ℕ)
    → implies [] (map a (range_with_len 0 (v + 1))) ≡ implies [] (map a (range_with_len 0 v)) ++ (yes (a v) ∷ [])
some-more a v =
    let e : 0 + v ≡ v = omega arith in
    ap (λ r. implies [] (map a r)) (range-split 0 v 1 ∙ ap (λ k. range_with_len 0 v ++ range_with_len k 1) e)
    ∙ ap (map yes) (map-append a (range_with_len 0 v) (v ∷ []))
    ∙ map-append yes (map a (range_with_len 0 v)) (a v ∷ [])

pub some-atoms : (l : Sizes) (a : ℕ → StepAtom) (k n : ℕ) → ((v : ℕ) → IsOneOf k n v → IsStepAtom l (a v))
    → AreStepAtoms l (implies [] (map a (range_with_len k n)))
some-atoms l a k zero h = All-nil (λ x. IsStepAtom l x.atom)
some-atoms l a k (suc n) h = All-cons (λ x. IsStepAtom l x.atom) (yes (a k)) (implies [] (map a (range_with_len (k + 1) n))) (h k (record { from = omega arith; to = omega arith }))
    (some-atoms l a (k + 1) n (λ v o. h v (record { from = omega (arith, o.from); to = omega (arith, o.to) })))

pub some-are : (a : ℕ → StepAtom) (v : ℕ) (old new : List StepLiteral) (b : StepAtom)
    → length old ≡ v → old ≡ implies [] (map a (range_with_len 0 v)) → b ≡ a v → new ≡ old ++ (yes b ∷ [])
    → (length new ≡ v + 1) × (new ≡ implies [] (map a (range_with_len 0 (v + 1))))
some-are a v old new b n e k h =
    let w : new ≡ implies [] (map a (range_with_len 0 v)) ++ (yes (a v) ∷ []) = rw (← k, ← e) h in (
      ap length h ∙ length-append old (yes b ∷ []) ∙ ap (λ m. m + 1) n,
      w ∙ sym (some-more a v),
    )

-- ---- truth

first : (b c : Bool) → b ≡ true → (b || c) ≡ true
first b c h = ap (λ x. x || c) h

second : (b c : Bool) → c ≡ true → (b || c) ≡ true
second true c h = refl
second false c h = h

any_of : (f : ℕ → Bool) (k v : ℕ) (rest : Bool) → f v ≡ true → k ≤ v → (k < v → rest ≡ true) → (k < v) ⊎ (v ≤ k) → (f k || rest) ≡ true
any_of f k v rest is h later (inl lt) = second (f k) rest (later lt)
any_of f k v rest is h later (inr le) = let e : v ≡ k = omega arith in first (f k) rest (ap f (sym e) ∙ is)

any_at : (f : ℕ → Bool) (k n v : ℕ) → k ≤ v → v < k + n → f v ≡ true → list_any f (range_with_len k n) ≡ true
any_at f k zero v h t is = absurd (omega arith)
any_at f k (suc n) v h t is = any_of f k v _ is h (λ lt. any_at f (k + 1) n v (omega arith) (omega arith) is) (cases_lt k v)

-- The table is true where one value of the domain has its atom, and no other one.
pub all-exactly_one : (val : StepAtom → Bool) (l : Sizes) (a : ℕ → StepAtom) (v : ℕ) → v < l.domain → val (a v) ≡ true → ((w : ℕ) → val (a w) ≡ true → w ≡ v)
    → AllTrue val (exactly_one l a)
all-exactly_one val l a v inside holds one =
    all-append val _ _
    (all-one val _ (ruled holds_at val a (λ w. refl) [] (values l) (λ t. any_at holds_at 0 l.domain v (omega arith) (omega (arith, inside)) holds)))
    (all-values val l (λ u iu. all-values val l (λ w iw. all-when val (nat_lt u w) (λ lt.
    all-one val _ (ruled holds_at val a (λ k. refl) (u ∷ w ∷ []) [] (λ t. absurd (omega (arith, ltb-true u w lt, one u t.0, one w t.1.0))))))))
  where
    holds_at : ℕ → Bool
    holds_at w = val (a w)

-- ---- bounds

pub most-exactly_one : (g : ℕ → ℕ) (up : (m n : ℕ) → m ≤ n → g m ≤ g n) {l m : Sizes} (w : AreWithin l m) (a : ℕ → StepAtom)
    → IsAtMost g (exactly_one l a) (g m.domain + pairs m.domain * g 2)
most-exactly_one g up {l} {m} w a =
    most-append g _ _ _ _ some (most-values_less g w (λ u v. implies (a u ∷ a v ∷ []) [] ∷ []) (g 2) (λ u v. record { bound = omega arith }))
  where
    long : length (implies [] (map a (values l))) ≤ m.domain
    long = omega (arith, length-map (map a (values l)) yes, length-map (values l) a, length-range_with_len 0 l.domain, w.domain)

    some : IsAtMost g (implies [] (map a (values l)) ∷ []) (g m.domain)
    some = record { bound = omega (arith, (most-cons g (implies [] (map a (values l))) [] 0 (most-none g)).bound, up _ _ long) }
