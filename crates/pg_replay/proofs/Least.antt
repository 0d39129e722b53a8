-- The least number that meets a test.
use Rattle.std.proofs.Common.{◌≡◌, ℕ, zero, suc, ◌<◌, ◌⊎◌, Bool, true, false, inl, inr, refl, ap, ◌∙◌, arith}
use Rattle.std.proofs.lemmas.Bool.{cases_lt}

pub record IsLeast (f : ℕ → Bool) (n least : ℕ) : Type 0 where
  pub within : least < n
  pub here : f least ≡ true
  pub before : (q : ℕ) → q < least → f q ≡ false

-- there is one below n, or none
pub least_below : (f : ℕ → Bool) (n : ℕ) → ((q : ℕ) → q < n → f q ≡ false) ⊎ ((least : ℕ) × IsLeast f n least)
least_below f zero = inl (λ q lt. absurd (omega arith))
least_below f (suc n) = by (least_below f n) (f n) refl
  where
    by : ((q : ℕ) → q < n → f q ≡ false) ⊎ ((least : ℕ) × IsLeast f n least) → (b : Bool) → f n ≡ b
        → ((q : ℕ) → q < suc n → f q ≡ false) ⊎ ((least : ℕ) × IsLeast f (suc n) least)
    by (inr h) b e = let within = h.1.within in inr (h.0, record { within = omega (arith, within); here = h.1.here; before = h.1.before })
    by (inl none) true e = inr (n, record { within = omega arith; here = e; before = none })
    by (inl none) false e = inl (λ q lt. elim (cases_lt q n) [
      | inl less ↦ none q less
      | inr le ↦ let same : q ≡ n = omega (arith, lt, le) in ap f same ∙ e
    ])
