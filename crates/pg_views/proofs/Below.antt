-- Tests of some number below a bound, and what a view shows.
use Rattle.std.proofs.Common.{◌≡◌, ℕ, zero, suc, ◌<◌, ◌≤◌, Bool, true, false, not, ◌&&◌, ◌||◌, ◌==◌, nat_le, List, length, Option, Some, None, is_some, MatchOption, inl, inr, refl, sym, ap, subst, ◌∙◌, arith}
use Rattle.std.proofs.lemmas.Bool.{cases_order, and_parts, and_from, and_left, and_right, or_left, or_right, or_from, false_from_ne_true, true≢false, le-leb, eq-eqb, ne_eqb}
use Rattle.pg_machine.specs.Memory.{Memory, is_at, is_clear, reaches, last}
use Rattle.pg_machine.specs.State.{coh_of}
use Rattle.pg_machine.specs.Moves.{Seen, can_read}
use Rattle.pg_machine.specs.Fault.{IsLeastHiding}
use Rattle.pg_machine.proofs.Scan.{is_at-within}
use Rattle.pg_machine.proofs.Faults.{hidden-not_clear}
use Rattle.pg_views.specs.Atom.{some_below, shows, is_shown}
use Rattle.pg_views.specs.Parts.{IsFirstShown}

-- ---- some number

pub some_below-here : (f : ℕ → Bool) (n p : ℕ) → p < n → f p ≡ true → some_below f n ≡ true
some_below-here f zero p lt h = absurd (omega arith)
some_below-here f (suc n) p lt h = elim (cases_order p n) [
  | inl e ↦ or_left (f n) (some_below f n) (ap f (sym e) ∙ h)
  | inr (inl less) ↦ or_right (f n) (some_below f n) (some_below-here f n p less h)
  | inr (inr more) ↦ absurd (omega arith)
]

pub some_below-none : (f : ℕ → Bool) (n : ℕ) → ((p : ℕ) → p < n → f p ≡ false) → some_below f n ≡ false
some_below-none f zero h = refl
some_below-none f (suc n) h = or_from (f n) (some_below f n) (h n (omega arith)) (some_below-none f n (λ p lt. h p (omega arith)))

pub some_below-not : (f : ℕ → Bool) (n p : ℕ) → p < n → some_below f n ≡ false → f p ≡ false
some_below-not f n p lt h = false_from_ne_true (f p) (λ k. true≢false (sym (some_below-here f n p lt k) ∙ h))

pub some_below-implied : (f g : ℕ → Bool) (n : ℕ) → ((p : ℕ) → f p ≡ true → g p ≡ true) → some_below f n ≡ true → some_below g n ≡ true
some_below-implied f g zero h k = k
some_below-implied f g (suc n) h k = by (f n) refl k (λ r. some_below-implied f g n h r)
  where
    by : (b : Bool) → f n ≡ b → (b || some_below f n) ≡ true → (some_below f n ≡ true → some_below g n ≡ true) → some_below g (suc n) ≡ true
    by true e r rest = or_left (g n) (some_below g n) (h n e)
    by false e r rest = or_right (g n) (some_below g n) (rest r)

-- ---- what a view shows

-- a position that is hidden is not reached
pub reaches-hidden : (ms : List (ℕ × ℕ)) (x c n p later : ℕ) → IsLeastHiding ms x p n later → reaches ms x c n p ≡ false
reaches-hidden ms x c n p later h =
    let clear = false_from_ne_true (is_clear ms x p n) (λ k. hidden-not_clear ms x p n later h.hiding k) in
    and_right (is_at ms x p) (nat_le c p && is_clear ms x p n) (and_right (nat_le c p) (is_clear ms x p n) clear)

pub reaches-elsewhere : (ms : List (ℕ × ℕ)) (x c n p : ℕ) → is_at ms x p ≡ false → reaches ms x c n p ≡ false
reaches-elsewhere ms x c n p h = and_left (is_at ms x p) (nat_le c p && is_clear ms x p n) h

pub reaches-before : (ms : List (ℕ × ℕ)) (x c n p : ℕ) → nat_le c p ≡ false → reaches ms x c n p ≡ false
reaches-before ms x c n p h = and_right (is_at ms x p) (nat_le c p && is_clear ms x p n) (and_left (nat_le c p) (is_clear ms x p n) h)

pub reaches-all : (ms : List (ℕ × ℕ)) (x c n p : ℕ) → is_at ms x p ≡ true → nat_le c p ≡ true → is_clear ms x p n ≡ true → reaches ms x c n p ≡ true
reaches-all ms x c n p at from clear =
    and_from (is_at ms x p) (nat_le c p && is_clear ms x p n) at (and_from (nat_le c p) (is_clear ms x p n) from clear)

-- where a position shows a value, the value is shown
pub shown-at : (m : Memory) (x c n v p : ℕ) → shows m x c n v p ≡ true → is_shown m x c n v ≡ true
shown-at m x c n v p h =
    let reached = (and_parts (reaches m.messages x c n p) _ h).0 in
    let at = (and_parts (is_at m.messages x p) _ reached).0 in
    let within = is_at-within m.messages x p at in
    some_below-here (shows m x c n v) (suc (length m.messages)) p (omega (arith, within)) h

-- ---- what the scans find

pub reached-by : (ms : List (ℕ × ℕ)) (x c n p : ℕ) (o : Option ℕ) (b : Bool) → is_at ms x p ≡ true → c ≤ p → MatchOption o (is_clear ms x p n ≡ true) (λ q. IsLeastHiding ms x p n q)
    → is_some o ≡ not b → b ≡ reaches ms x c n p
reached-by ms x c n p None true at le h k = sym (reaches-all ms x c n p at (le-leb c p le) h)
reached-by ms x c n p None false at le h k = absurd (true≢false (sym k))
reached-by ms x c n p (Some later) true at le h k = absurd (true≢false k)
reached-by ms x c n p (Some later) false at le h k = sym (reaches-hidden ms x c n p later h)

pub shown-by : (m : Memory) (x c n v : ℕ) (o : Option ℕ) → MatchOption o (is_shown m x c n v ≡ false) (λ p. IsFirstShown m x c n v p) → is_some o ≡ is_shown m x c n v
shown-by m x c n v None h = sym h
shown-by m x c n v (Some p) h = sym (shown-at m x c n v p h.shown)

-- the same positions of the same memory by other names
pub read-same : (n : Seen) (x q : ℕ) (m : Memory) (y d k : ℕ) → m ≡ n.memory → y ≡ x → d ≡ coh_of n.views x → k ≡ n.views.vrn → reaches m.messages y d k q ≡ can_read n x q
read-same n x q m y d k b e f g =
    ap (λ (l : Memory). reaches l.messages y d k q) b
    ∙ (ap (λ z. reaches n.memory.messages z d k q) e
    ∙ (ap (λ z. reaches n.memory.messages x z k q) f ∙ ap (λ z. reaches n.memory.messages x (coh_of n.views x) z q) g))

pub shown-same : (l m : Memory) (x c n y d k v : ℕ) → l ≡ m → y ≡ x → d ≡ c → k ≡ n → is_shown l y d k v ≡ is_shown m x c n v
shown-same l m x c n y d k v b e f g =
    ap (λ z. is_shown z y d k v) b ∙ (ap (λ z. is_shown m z d k v) e ∙ (ap (λ z. is_shown m x z k v) f ∙ ap (λ z. is_shown m x c z v) g))

pub first-same : (l m : Memory) (x c n y d k v p : ℕ) → l ≡ m → y ≡ x → d ≡ c → k ≡ n → IsFirstShown l y d k v p → IsFirstShown m x c n v p
first-same l m x c n y d k v p b e f g h =
    subst (λ z. IsFirstShown m x c z v p) g
    (subst (λ z. IsFirstShown m x z k v p) f (subst (λ z. IsFirstShown m z d k v p) e (subst (λ z. IsFirstShown z y d k v p) b h)))

-- ---- the last position alone

pub newest-unread : (n : Seen) (x q : ℕ) → can_read n x q ≡ false → (not (can_read n x q) || (q == last n.memory.messages x)) ≡ true
newest-unread n x q h = or_left (not (can_read n x q)) (q == last n.memory.messages x) (ap not h)

pub newest-last : (n : Seen) (x q : ℕ) → q ≡ last n.memory.messages x → (not (can_read n x q) || (q == last n.memory.messages x)) ≡ true
newest-last n x q h = or_right (not (can_read n x q)) (q == last n.memory.messages x) (eq-eqb q (last n.memory.messages x) h)

pub newest-other : (n : Seen) (x q : ℕ) → can_read n x q ≡ true → (q ≡ last n.memory.messages x → ⊥) → (not (can_read n x q) || (q == last n.memory.messages x)) ≡ false
newest-other n x q h k = or_from (not (can_read n x q)) (q == last n.memory.messages x) (ap not h) (ne_eqb q (last n.memory.messages x) k)
