-- A reader that goes on by turns, with so many turns at most: what it leads to, by what its next turn meets. The turn
-- is the i-th of n, from 0, and `turns k` is what the reader gives with k turns left.
use Rattle.std.proofs.Common.{◌≡◌, ℕ, zero, suc, ◌+◌, ◌-◌, ◌<◌, ◌≤◌, ap, ◌∙◌, arith}
use Rattle.pg_assertion_text.specs.Input.{Outcome, Parser, and_then}

pub turns_left : (n i : ℕ) → i < n → n - i ≡ suc (n - (i + 1))
turns_left n i h = omega arith

pub no_turns : (n i : ℕ) → n ≤ i → n - i ≡ zero
no_turns n i h = omega arith

-- A turn reads something first, and goes on by what that is. Where each turn is of that form (`is`, by `refl` under
-- `unfolding`), the next one gives what its first step gives, and what follows that.
pub turn : {A B : Type 0} (turns : ℕ → Outcome B) (first : Outcome A) (go : A → Parser B) (n i : ℕ) (whole : Outcome B) (o : Outcome A)
    → turns (suc (n - (i + 1))) ≡ and_then first go → i < n → whole ≡ turns (n - i) → first ≡ o → whole ≡ and_then o go
turn turns first go n i whole o is below so_far gives =
    so_far ∙ ap turns (turns_left n i below) ∙ is ∙ ap (λ p. and_then p go) gives

-- A turn that has come to its second step, in the same way.
pub after_turn : {A B : Type 0} (step : Outcome A) (go : A → Parser B) (whole : Outcome B) (o : Outcome A) → whole ≡ and_then step go → step ≡ o → whole ≡ and_then o go
after_turn step go whole o is gives = is ∙ ap (λ p. and_then p go) gives

-- there are no turns left
pub run_out : {B : Type 0} (turns : ℕ → Outcome B) (n i : ℕ) (whole : Outcome B) → n ≤ i → whole ≡ turns (n - i) → whole ≡ turns zero
run_out turns n i whole out so_far = so_far ∙ ap turns (no_turns n i out)
