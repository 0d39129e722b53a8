use Rattle.std.proofs.Common.{◌≡◌, ℕ, ◌+◌, ◌*◌, ◌==◌, Bool, true, false, not, ◌||◌, List, [], ◌∷◌, ◌++◌, refl, sym, ap, subst, ◌∙◌, arith, inl, inr, ◌⊎◌}
use Rattle.std.proofs.lemmas.Bool.{cases_Bool, eqb-true, eq-eqb, and_parts, and_from, both_ways, or_cases, or_left}
use Rattle.pg_region.specs.Literal.{Literal, same, same_sign, negated, sign_bit}
use Rattle.pg_decider.specs.Assignment.{on, added}
use Rattle.pg_decider.specs.Watch.{place}

same_sign-is : (a b : Bool) → same_sign a b ≡ true → a ≡ b
same_sign-is true b h = sym h
same_sign-is false true h = absurd (both_ways (not true) refl h)
same_sign-is false false h = refl

same_sign-refl : (a : Bool) → same_sign a a ≡ true
same_sign-refl true = refl
same_sign-refl false = refl

same_sign-not : (a : Bool) → same_sign a (not a) ≡ false
same_sign-not true = refl
same_sign-not false = refl

pub same_parts : (l m : Literal) → l.atom ≡ m.atom → l.positive ≡ m.positive → l ≡ m
same_parts l m a b =
    let make : ℕ → Bool → Literal = λ n p. record { atom = n; positive = p } in
    ap (λ (n : ℕ). make n l.positive) a ∙ ap (λ (p : Bool). make m.atom p) b

pub same-is : (l m : Literal) → same l m ≡ true → l ≡ m
same-is l m h =
    let p = and_parts (l.atom == m.atom) (same_sign l.positive m.positive) h in
    same_parts l m (eqb-true l.atom m.atom p.0) (same_sign-is l.positive m.positive p.1)

pub same-refl : (l : Literal) → same l l ≡ true
same-refl l = and_from (l.atom == l.atom) (same_sign l.positive l.positive) (eq-eqb l.atom l.atom refl) (same_sign-refl l.positive)

pub same-cases : (l m : Literal) → (l ≡ m) ⊎ (same l m ≡ false)
same-cases l m = elim (cases_Bool (same l m)) [
  | inl h ↦ inl (same-is l m h)
  | inr h ↦ inr h
]

pub same-not : (l m : Literal) → same l m ≡ false → l ≡ m → ⊥
same-not l m h e = both_ways (same l l) (subst (λ (x : Literal). same l x ≡ false) (sym e) h) (same-refl l)

pub same-from : (l m : Literal) → (l ≡ m → ⊥) → same l m ≡ false
same-from l m h = elim (same-cases l m) [
  | inl e ↦ absurd (h e)
  | inr e ↦ e
]

not-not : (b : Bool) → not (not b) ≡ b
not-not true = refl
not-not false = refl

pub negated-negated : (l : Literal) → negated (negated l) ≡ l
negated-negated l = same_parts (negated (negated l)) l refl (not-not l.positive)

pub same-negated : (l : Literal) → same l (negated l) ≡ false
same-negated l = grind (arith, same_sign-not l.positive)

pub negated-other : (l : Literal) → l ≡ negated l → ⊥
negated-other l e = same-not l (negated l) (same-negated l) e

sign_bit-same : (a b : Bool) (m n : ℕ) → (2 * m + sign_bit a) + 1 ≡ (2 * n + sign_bit b) + 1 → (m ≡ n) × (a ≡ b)
sign_bit-same true true m n h = (omega arith, refl)
sign_bit-same true false m n h = absurd (omega arith)
sign_bit-same false true m n h = absurd (omega arith)
sign_bit-same false false m n h = (omega arith, refl)

pub place-same : (l m : Literal) → place l ≡ place m → l ≡ m
place-same l m h = let p = sign_bit-same l.positive m.positive l.atom m.atom h in same_parts l m p.0 p.1

pub added-here : (l : Literal) (s : Literal → Bool) → added l s l ≡ true
added-here l s = or_left (same l l) (s l) (same-refl l)

pub added-cases : (l m : Literal) (s : Literal → Bool) → added l s m ≡ true → (l ≡ m) ⊎ (s m ≡ true)
added-cases l m s h = elim (or_cases (same l m) (s m) h) [
  | inl e ↦ inl (same-is l m e)
  | inr e ↦ inr e
]

pub on-append : (t u : List Literal) (l : Literal) → on (t ++ u) l ≡ (on t l || on u l)
on-append [] u l = refl
on-append (m ∷ t) u l = grind (arith, on-append t u l)

pub on-push : (t : List Literal) (l m : Literal) → on (t ++ l ∷ []) m ≡ added l (on t) m
on-push [] l m = refl
on-push (n ∷ t) l m = ap (λ (b : Bool). same n m || b) (on-push t l m) ∙ on-swap (same n m) (same l m) (on t m)
  where
    on-swap : (a b c : Bool) → (a || (b || c)) ≡ (b || (a || c))
    on-swap true true c = refl
    on-swap true false c = refl
    on-swap false b c = refl
