-- Tests of every number below a bound.
use Rattle.std.proofs.Common.{◌≡◌, ℕ, zero, suc, ◌<◌, Bool, true, false, inl, inr, refl, sym, ap, ◌∙◌, arith}
use Rattle.std.proofs.lemmas.Bool.{cases_order, and_parts, and_from, and_left, and_right}
use Rattle.pg_machine.specs.Memory.{every_below}

pub every_below-all : (f : ℕ → Bool) (n : ℕ) → ((p : ℕ) → p < n → f p ≡ true) → every_below f n ≡ true
every_below-all f zero h = refl
every_below-all f (suc n) h = and_from (f n) (every_below f n) (h n (omega arith)) (every_below-all f n (λ p lt. h p (omega arith)))

pub every_below-at : (f : ℕ → Bool) (n p : ℕ) → every_below f n ≡ true → p < n → f p ≡ true
every_below-at f zero p h lt = absurd (omega arith)
every_below-at f (suc n) p h lt =
    let parts = and_parts (f n) (every_below f n) h in
    elim (cases_order p n) [
      | inl e ↦ ap f e ∙ parts.0
      | inr (inl less) ↦ every_below-at f n p parts.1 less
      | inr (inr more) ↦ absurd (omega arith)
    ]

pub every_below-fails : (f : ℕ → Bool) (n p : ℕ) → p < n → f p ≡ false → every_below f n ≡ false
every_below-fails f zero p lt h = absurd (omega arith)
every_below-fails f (suc n) p lt h = elim (cases_order p n) [
  | inl e ↦ and_left (f n) (every_below f n) (ap f (sym e) ∙ h)
  | inr (inl less) ↦ and_right (f n) (every_below f n) (every_below-fails f n p less h)
  | inr (inr more) ↦ absurd (omega arith)
]
