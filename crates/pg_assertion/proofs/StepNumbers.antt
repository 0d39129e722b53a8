-- The laws of the numbers of the atoms of a step.
use Rattle.std.proofs.Common.{◌≡◌, ℕ, ◌+◌, ◌-◌, ◌*◌, ◌<◌, ◌≤◌, ◌⊎◌, inl, inr, refl, ap, sym, arith}
use Rattle.std.proofs.lemmas.Bool.{cases_lt}
use Rattle.pg_assertion.specs.declared.atom.ViewAtom.{ViewAtom}
use Rattle.pg_assertion.specs.declared.layout.Side.{Side}
use Rattle.pg_assertion.specs.declared.layout.Side.TheVariants.{Before, After}
use Rattle.pg_assertion.specs.declared.step_atom.StepAtom.{StepAtom}
use Rattle.pg_assertion.specs.declared.step_atom.StepAtom.TheVariants.{On, Value, Expected, Success, Taken}
use Rattle.pg_assertion.specs.Layout.{Sizes, IsAtom, atoms, number, number_on}
use Rattle.pg_assertion.specs.StepAtom.{IsStepAtom, step_number, step_atoms, StepNumbersTellAtomsApart, StepNumbersHaveNoGap}
use Rattle.pg_assertion.proofs.LayoutOrder.{has_atom, number_on_within, numbers_tell_sides_apart}

-- ---- apart

-- a number of a side is too small for one of the step's own
own_above : (l : Sizes) (a : ViewAtom) (s : Side) (n : ℕ) → IsAtom l a → 2 * atoms l < n → number_on l a s ≡ n → ⊥
own_above l a s n p above e = omega (arith, (number_on_within l a s p).1, above, e)

tell_apart : StepNumbersTellAtomsApart
tell_apart l (On a s) (On b t) p q e = let same = numbers_tell_sides_apart.1 l a b s t p q e in cc
tell_apart l (On a s) (Value v) p q e = absurd (own_above l a s (step_number l (Value v)) p (omega arith) e)
tell_apart l (On a s) (Expected v) p q e = absurd (own_above l a s (step_number l (Expected v)) p (omega arith) e)
tell_apart l (On a s) Success p q e = absurd (own_above l a s (step_number l Success) p (omega arith) e)
tell_apart l (On a s) Taken p q e = absurd (own_above l a s (step_number l Taken) p (omega arith) e)
tell_apart l (Value v) (On a s) p q e = absurd (own_above l a s (step_number l (Value v)) q (omega arith) (sym e))
tell_apart l (Value v) (Value w) p q e = let same : v ≡ w = omega (arith, e) in ap Value same
tell_apart l (Value v) (Expected w) p q e = absurd (omega (arith, p, q, e))
tell_apart l (Value v) Success p q e = absurd (omega (arith, p, e))
tell_apart l (Value v) Taken p q e = absurd (omega (arith, p, e))
tell_apart l (Expected v) (On a s) p q e = absurd (own_above l a s (step_number l (Expected v)) q (omega arith) (sym e))
tell_apart l (Expected v) (Value w) p q e = absurd (omega (arith, p, q, e))
tell_apart l (Expected v) (Expected w) p q e = let same : v ≡ w = omega (arith, e) in ap Expected same
tell_apart l (Expected v) Success p q e = absurd (omega (arith, p, e))
tell_apart l (Expected v) Taken p q e = absurd (omega (arith, p, e))
tell_apart l Success (On a s) p q e = absurd (own_above l a s (step_number l Success) q (omega arith) (sym e))
tell_apart l Success (Value w) p q e = absurd (omega (arith, q, e))
tell_apart l Success (Expected w) p q e = absurd (omega (arith, q, e))
tell_apart l Success Success p q e = refl
tell_apart l Success Taken p q e = absurd (omega (arith, e))
tell_apart l Taken (On a s) p q e = absurd (own_above l a s (step_number l Taken) q (omega arith) (sym e))
tell_apart l Taken (Value w) p q e = absurd (omega (arith, q, e))
tell_apart l Taken (Expected w) p q e = absurd (omega (arith, q, e))
tell_apart l Taken Success p q e = absurd (omega (arith, e))
tell_apart l Taken Taken p q e = refl

pub step_numbers_tell_atoms_apart : StepNumbersTellAtomsApart
step_numbers_tell_atoms_apart = tell_apart

-- ---- no gap

within : (l : Sizes) (a : StepAtom) → IsStepAtom l a → (1 ≤ step_number l a) × (step_number l a ≤ step_atoms l)
within l (On a s) p = let w = number_on_within l a s p in (w.0, omega (arith, w.1))
within l (Value v) p = (omega arith, omega (arith, p))
within l (Expected v) p = (omega arith, omega (arith, p))
within l Success p = (omega arith, omega arith)
within l Taken p = (omega arith, omega arith)

-- the atom of a number, kind by kind
abbrev HasAtom : Sizes → ℕ → Type 0
HasAtom l n = (a : StepAtom) × IsStepAtom l a × (step_number l a ≡ n)

on_side : (l : Sizes) (n m : ℕ) (s : Side) → ((a : ViewAtom) × IsAtom l a × (number l a ≡ m)) → ((a : ViewAtom) → number l a ≡ m → number_on l a s ≡ n) → HasAtom l n
on_side l n m s h same = (On h.0 s, h.1, same h.0 h.2)

after_both : (l : Sizes) (n : ℕ) → 2 * atoms l < n → n ≤ step_atoms l → HasAtom l n
after_both l n from to = values (cases_lt (n - 2 * atoms l - 1) l.domain)
  where
    last : ((n - 2 * atoms l - 1 < 2 * l.domain + 1) ⊎ (2 * l.domain + 1 ≤ n - 2 * atoms l - 1)) → 2 * l.domain ≤ n - 2 * atoms l - 1 → HasAtom l n
    last (inl low) high = (Success, tt, omega (arith, low, high, from))
    last (inr low) high = (Taken, tt, omega (arith, low, high, from, to))

    expected : ((n - 2 * atoms l - 1 < 2 * l.domain) ⊎ (2 * l.domain ≤ n - 2 * atoms l - 1)) → l.domain ≤ n - 2 * atoms l - 1 → HasAtom l n
    expected (inl low) high = (Expected (n - 2 * atoms l - 1 - l.domain), omega (arith, low, high), omega (arith, low, high, from))
    expected (inr low) high = last (cases_lt (n - 2 * atoms l - 1) (2 * l.domain + 1)) low

    values : ((n - 2 * atoms l - 1 < l.domain) ⊎ (l.domain ≤ n - 2 * atoms l - 1)) → HasAtom l n
    values (inl low) = (Value (n - 2 * atoms l - 1), low, omega (arith, low, from))
    values (inr low) = expected (cases_lt (n - 2 * atoms l - 1) (2 * l.domain)) low

no_gap : (l : Sizes) (n : ℕ) → 1 ≤ n → n ≤ step_atoms l → HasAtom l n
no_gap l n from to = before (cases_lt (atoms l) n)
  where
    after : ((2 * atoms l < n) ⊎ (n ≤ 2 * atoms l)) → atoms l < n → HasAtom l n
    after (inl high) low = after_both l n high to
    after (inr high) low = on_side l n (n - atoms l) After (has_atom l (n - atoms l) (omega (arith, low)) (omega (arith, high))) (λ a e. omega (arith, e, low))

    before : ((atoms l < n) ⊎ (n ≤ atoms l)) → HasAtom l n
    before (inl high) = after (cases_lt (2 * atoms l) n) high
    before (inr high) = on_side l n n Before (has_atom l n from high) (λ a e. e)

pub step_numbers_have_no_gap : StepNumbersHaveNoGap
step_numbers_have_no_gap = (within, no_gap)
