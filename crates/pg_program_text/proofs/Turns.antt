-- What depends on how many turns a loop has left: the turn is the i-th of n, from 0.
use Rattle.std.proofs.Common.{◌≡◌, ℕ, zero, suc, ◌+◌, ◌-◌, ◌<◌, ◌≤◌, ap, arith}

-- the next turn is one of them
pub next_turn : {A : Type 0} (f : ℕ → A) (n i : ℕ) → i < n → f (n - i) ≡ f (suc (n - (i + 1)))
next_turn f n i below = let left : n - i ≡ suc (n - (i + 1)) = omega arith in ap f left

pub no_turn : {A : Type 0} (f : ℕ → A) (n i : ℕ) → n ≤ i → f (n - i) ≡ f zero
no_turn f n i out = let left : n - i ≡ zero = omega arith in ap f left
