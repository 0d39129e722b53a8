-- What bounds the positions of a thread's views.
use Rattle.std.proofs.Common.{◌≡◌, ℕ, ◌≤◌, max, Bool, true, false, cond, length, inl, inr, ap, arith}
use Rattle.std.proofs.lemmas.Bool.{cases_lt}
use Rattle.std.proofs.lemmas.List.{get_or_past}
use Rattle.pg_machine.specs.Memory.{Memory, is_at}
use Rattle.pg_machine.specs.State.{Views, coh_of, maxcoh, vpa_of, vpc_of, AreViews}
use Rattle.pg_machine.proofs.PositionLists.{greatest-least, at-bounded}

-- the coherence views are positions of the memory, and so is the greatest one
pub maxcoh-within : (m : Memory) (w : Views) → AreViews m w → maxcoh w ≤ length m.messages
maxcoh-within m w h = let size = h.size.coh in greatest-least w.coh (length m.messages) (λ i lt. (h.coherent i (omega (arith, size, lt))).0)

-- so they are for every location, since one that is missing reads 0
pub coh-at : (m : Memory) (w : Views) → AreViews m w → (x : ℕ) → is_at m.messages x (coh_of w x) ≡ true
coh-at m w h x = elim (cases_lt x (length m.initial)) [
  | inl inside ↦ (h.coherent x inside).1
  | inr past ↦ let size = h.size.coh in ap (is_at m.messages x) (get_or_past w.coh x 0 (omega (arith, size, past)))
]

pub vpa-within : (m : Memory) (w : Views) → AreViews m w → (x : ℕ) → vpa_of w x ≤ maxcoh w
vpa-within m w h x = at-bounded w.vpa (maxcoh w) x h.asynchronous

pub vpc-within : (m : Memory) (w : Views) → AreViews m w → (x : ℕ) → vpc_of w x ≤ maxcoh w
vpc-within m w h x = at-bounded w.vpc (maxcoh w) x h.committed

-- the read view or the ready view n, after a load at p, is no less
pub view-loaded : (b : Bool) (n p : ℕ) → n ≤ cond b n (max n p)
view-loaded true n p = omega arith
view-loaded false n p = omega arith
