-- What is shown of a location: less up to a later position, and up to the greater of two positions what is shown up to both.
use Rattle.std.proofs.Common.{◌≡◌, ℕ, ◌≤◌, ◌==◌, max, true, ◌&&◌, inl, inr, sym, ap, ◌∙◌, arith}
use Rattle.std.proofs.lemmas.Bool.{cases_lt, and_parts, and_from}
use Rattle.pg_machine.specs.Memory.{Memory, is_at, last, value_at}
use Rattle.pg_machine.proofs.Reached.{reaches-less, reaches-within, last_upto-above, last_upto-grows, last-alone, within-last, same_truth}
use Rattle.pg_views.specs.Atom.{is_shown, is_last}
use Rattle.pg_views.proofs.Axioms.{shown_where}
use Rattle.pg_views.proofs.Nested.{shown-within}

-- ---- bounds

pub shown-less : (m : Memory) (x c n k v : ℕ) → n ≤ k → is_shown m x c k v ≡ true → is_shown m x c n v ≡ true
shown-less m x c n k v le = shown-within m x c k c n (reaches-less m.messages x c n c k (omega arith) le) v

-- of two up-sets of positions the smaller is their intersection, and so it is of the values there
pub shown-both : (m : Memory) (x c n k v : ℕ) → is_shown m x c (max n k) v ≡ (is_shown m x c n v && is_shown m x c k v)
shown-both m x c n k v =
    same_truth (is_shown m x c (max n k) v) (is_shown m x c n v && is_shown m x c k v)
    (λ h. and_from (is_shown m x c n v) (is_shown m x c k v) (shown-less m x c n (max n k) v (omega arith) h) (shown-less m x c k (max n k) v (omega arith) h))
    (λ h. let two = and_parts (is_shown m x c n v) (is_shown m x c k v) h in elim (cases_lt n k) [
      | inl less ↦ shown-less m x c (max n k) k v (omega (arith, less)) two.1
      | inr le ↦ shown-less m x c (max n k) n v (omega (arith, le)) two.0
    ])

-- what is shown of all positions up to a bound is shown from a position on that is the bound at most, up to another such one
pub shown-from : (m : Memory) (x c k n v : ℕ) → is_at m.messages x c ≡ true → c ≤ n → k ≤ n → is_shown m x 0 n v ≡ true → is_shown m x c k v ≡ true
shown-from m x c k n v at from upto =
    let above = last_upto-above m.messages x n c at from in
    let grows = last_upto-grows m.messages x k n upto in
    shown-within m x 0 n c k (reaches-within m.messages x c k 0 n (omega (arith, above, grows))) v

-- and it is the last value, where the bound covers the last position
pub shown-covered : (m : Memory) (x n v : ℕ) → last m.messages x ≤ n → is_shown m x 0 n v ≡ true → is_last m x v ≡ true
shown-covered m x n v covered h =
    let at = shown_where m x 0 n v h in
    let alone = last-alone m.messages x 0 n (within-last m.messages x 0 n covered) at.0 at.1.reached in
    ap (λ (p : ℕ). value_at m x p == v) (sym alone) ∙ at.1.value
