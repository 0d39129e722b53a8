-- After a later load a thread may read less.
use Rattle.std.proofs.Common.{◌≡◌, ℕ, zero, suc, ◌≤◌, ◌==◌, max, Bool, true, false, cond, ◌&&◌, List, [], ◌∷◌, length, set, get_or, inl, inr, refl, sym, ◌∙◌, arith}
use Rattle.std.proofs.lemmas.Bool.{cases_lt, and_parts, and_from, and_left, and_right, false_from_ne_true, eqb-true, eqb-false, true≢false}
use Rattle.pg_machine.specs.Memory.{reaches}
use Rattle.pg_machine.specs.State.{coh_of}
use Rattle.pg_machine.specs.Moves.{Seen, load_seen, loaded}
use Rattle.pg_machine.proofs.Scan.{is_at-within}
use Rattle.pg_machine.proofs.Reached.{Reaches, reaches_of, reaches-less, same_truth}
use Rattle.pg_views.specs.Atom.{shows, is_shown, reads, may_read, may_read_then}
use Rattle.pg_views.specs.Parts.{IsFirstShown}
use Rattle.pg_views.proofs.Below.{some_below-here, some_below-none, some_below-implied, some_below-not}

set-order : (l : List ℕ) (x p q y : ℕ) → p ≤ q → get_or (set l x p) y 0 ≤ get_or (set l x q) y 0
set-order [] x p q y le = omega arith
set-order (c ∷ l) zero p q zero le = le
set-order (c ∷ l) zero p q (suc y) le = omega arith
set-order (c ∷ l) (suc x) p q zero le = omega arith
set-order (c ∷ l) (suc x) p q (suc y) le = set-order l x p q y le

-- the read view after a load at p, and after one at q
read-order : (c n p q : ℕ) → c ≤ p → p ≤ q → cond (p == c) n (max n p) ≤ cond (q == c) n (max n q)
read-order c n p q from le = by (p == c) (q == c) refl refl
  where
    by : (a b : Bool) → (p == c) ≡ a → (q == c) ≡ b → cond a n (max n p) ≤ cond b n (max n q)
    by true true e f = omega arith
    by true false e f = omega arith
    by false true e f = let same = eqb-true q c f in let other = eqb-false p c e in absurd (other (omega (arith, same, from, le)))
    by false false e f = omega (arith, le)

pub may_read-later : (n : Seen) (x p q y w : ℕ) → coh_of n.views x ≤ p → p ≤ q → may_read (loaded n x q) y w ≡ true → may_read (loaded n x p) y w ≡ true
may_read-later n x p q y w from le h =
    some_below-implied (at q) (at p) (suc (length n.memory.messages)) (λ r k.
    let parts = and_parts (reaches n.memory.messages y (coh_of (load_seen n.views x q) y) (load_seen n.views x q).vrn r) _ k in
    and_from _ _
    (reaches-less n.memory.messages y (coh_of (load_seen n.views x p) y) (load_seen n.views x p).vrn (coh_of (load_seen n.views x q) y) (load_seen n.views x q).vrn (set-order n.views.coh x p q y le) (read-order (coh_of n.views x) n.views.vrn p q from le) r parts.0)
    parts.1) h
  where
    at : ℕ → ℕ → Bool
    at k = shows n.memory y (coh_of (load_seen n.views x k) y) (load_seen n.views x k).vrn w

-- so the first position at which a thread may read v decides what it may read then
pub then-first : (n : Seen) (x v y w p : ℕ) → IsFirstShown n.memory x (coh_of n.views x) n.views.vrn v p → may_read (loaded n x p) y w ≡ may_read_then n x v y w
then-first n x v y w p h =
    same_truth (may_read (loaded n x p) y w) (may_read_then n x v y w)
    (λ k. some_below-here test (suc (length n.memory.messages)) p (omega (arith, within)) (and_from (reads n x v p) (may_read (loaded n x p) y w) h.shown k))
    (λ k. by (may_read (loaded n x p) y w) refl k)
  where
    test : ℕ → Bool
    test q = reads n x v q && may_read (loaded n x q) y w

    reached : Reaches n.memory.messages x (coh_of n.views x) n.views.vrn p
    reached = reaches_of n.memory.messages x (coh_of n.views x) n.views.vrn p (and_parts (reaches n.memory.messages x (coh_of n.views x) n.views.vrn p) _ h.shown).0

    within : p ≤ length n.memory.messages
    within = is_at-within n.memory.messages x p reached.at

    later : may_read (loaded n x p) y w ≡ false → (q : ℕ) → p ≤ q → may_read (loaded n x q) y w ≡ false
    later e q le = false_from_ne_true (may_read (loaded n x q) y w) (λ k. true≢false (sym (may_read-later n x p q y w reached.from le k) ∙ e))

    by : (b : Bool) → may_read (loaded n x p) y w ≡ b → may_read_then n x v y w ≡ true → may_read (loaded n x p) y w ≡ true
    by true e k = e
    by false e k = absurd (true≢false (sym k ∙ some_below-none test (suc (length n.memory.messages)) (λ q lt. elim (cases_lt q p) [
      | inl less ↦ and_left (reads n x v q) (may_read (loaded n x q) y w) (h.least q less)
      | inr le ↦ and_right (reads n x v q) (may_read (loaded n x q) y w) (later e q le)
    ])))

-- and where it may not read v, nothing is read then
pub then-none : (n : Seen) (x v y w : ℕ) → is_shown n.memory x (coh_of n.views x) n.views.vrn v ≡ false → may_read_then n x v y w ≡ false
then-none n x v y w h =
    some_below-none (λ q. reads n x v q && may_read (loaded n x q) y w) (suc (length n.memory.messages)) (λ q lt.
    and_left (reads n x v q) (may_read (loaded n x q) y w) (some_below-not (shows n.memory x (coh_of n.views x) n.views.vrn v) (suc (length n.memory.messages)) q lt h))
