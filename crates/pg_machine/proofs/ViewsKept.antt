-- What each move keeps of a thread's views, and of those of the others.
use Rattle.std.proofs.Common.{◌≡◌, ℕ, zero, suc, ◌+◌, ◌<◌, ◌≤◌, ◌==◌, max, Bool, true, false, cond, List, length, replicate, get_or, set, inl, inr, refl, sym, ap, ◌∙◌, arith}
use Rattle.std.specs.List.{All}
use Rattle.std.proofs.Math.Nat.{max-le}
use Rattle.std.proofs.lemmas.Bool.{cases_eq}
use Rattle.std.proofs.lemmas.List.{length-set, length_push, length-replicate, get_or-replicate, get_or-set_same, get_or-set_other}
use Rattle.std.proofs.lemmas.List.Elements.{All-weaker, All-set, All-replicate}
use Rattle.pg_machine.specs.Memory.{Memory, is_at, message_appended}
use Rattle.pg_program.specs.NameTable.{line_count}
use Rattle.pg_machine.specs.State.{Views, greatest, coh_of, vpa_of, vpc_of, maxcoh, ordered, AreViews, fresh_views}
use Rattle.pg_machine.specs.Moves.{greater, store_seen, load_seen, mfence_seen, sfence_seen, flush_seen, flushopt_seen, swap_seen}
use Rattle.pg_machine.proofs.PositionLists.{greatest_on-within, greatest-raised, at-bounded, greater-bounded, greater-length}
use Rattle.pg_machine.proofs.Appended.{same_number, is_to-front, is_to-new}
use Rattle.pg_machine.proofs.ViewLaws.{maxcoh-within}

-- ---- messages

-- a position of a memory is one of the memory with a message more
position-stays : (m : Memory) (st : ℕ × ℕ) (x c : ℕ) → c ≤ length m.messages → is_at m.messages x c ≡ true → is_at (message_appended m st).messages x c ≡ true
position-stays m st x zero le h = refl
position-stays m st x (suc i) le h = is_to-front m.messages st x i (omega (arith, le)) ∙ h

-- ---- positions

raised-within : (m : ℕ) (ps : List ℕ) (i n : ℕ) → All (λ p. p ≤ m) ps → n ≤ m → All (λ p. p ≤ m) (set ps i (max (get_or ps i 0) n))
raised-within m ps i n h le = All-set (λ (p : ℕ). p ≤ m) ps i (max (get_or ps i 0) n) (max-le (at-bounded ps m i h) le) h

-- ---- views

pub fresh_are_views : (m : Memory) (n k : ℕ) → length m.initial ≡ n → line_count m.lines ≡ k → AreViews m (fresh_views n k)
fresh_are_views m n k size on = record {
  size = record { coh = length-replicate n 0 ∙ sym size; vpa = length-replicate k 0 ∙ sym on; vpc = length-replicate k 0 ∙ sym on };
  coherent = λ x lt.
      let at : get_or (replicate n 0) x 0 ≡ 0 = get_or-replicate n x 0 0 (omega (arith, size, lt)) in
      (omega (arith, at), ap (λ (p : ℕ). is_at m.messages x p) at);
  read = omega arith;
  ready = omega arith;
  asynchronous = All-replicate (λ (p : ℕ). p ≤ maxcoh (fresh_views n k)) k 0 (omega arith);
  committed = All-replicate (λ (p : ℕ). p ≤ maxcoh (fresh_views n k)) k 0 (omega arith);
}

pub mfence_views : (m : Memory) (w : Views) → AreViews m w → AreViews m (mfence_seen w)
mfence_views m w h = record {
  size = record { coh = h.size.coh; vpa = h.size.vpa; vpc = greater-length w.vpc w.vpa ∙ h.size.vpc };
  coherent = h.coherent;
  read = omega arith;
  ready = omega arith;
  asynchronous = h.asynchronous;
  committed = greater-bounded w.vpc w.vpa (maxcoh w) h.committed h.asynchronous;
}

pub sfence_views : (m : Memory) (w : Views) → AreViews m w → AreViews m (sfence_seen w)
sfence_views m w h = record {
  size = record { coh = h.size.coh; vpa = h.size.vpa; vpc = greater-length w.vpc w.vpa ∙ h.size.vpc };
  coherent = h.coherent;
  read = let a = h.read in let b = h.ready in omega (arith, a, b);
  ready = omega arith;
  asynchronous = h.asynchronous;
  committed = greater-bounded w.vpc w.vpa (maxcoh w) h.committed h.asynchronous;
}

pub flush_views : (m : Memory) (w : Views) (l : ℕ) → AreViews m w → AreViews m (flush_seen w l)
flush_views m w l h = record {
  size = record { coh = h.size.coh; vpa = length-set w.vpa l (max (vpa_of w l) (maxcoh w)) ∙ h.size.vpa; vpc = length-set w.vpc l (max (vpc_of w l) (maxcoh w)) ∙ h.size.vpc };
  coherent = h.coherent;
  read = h.read;
  ready = h.ready;
  asynchronous = raised-within (maxcoh w) w.vpa l (maxcoh w) h.asynchronous (omega arith);
  committed = raised-within (maxcoh w) w.vpc l (maxcoh w) h.committed (omega arith);
}

pub flushopt_views : (m : Memory) (w : Views) (on : List ℕ) (l : ℕ) → AreViews m w → AreViews m (flushopt_seen on w l)
flushopt_views m w on l h = record {
  size = record { coh = h.size.coh; vpa = length-set w.vpa l (max (vpa_of w l) (ordered on w l)) ∙ h.size.vpa; vpc = h.size.vpc };
  coherent = h.coherent;
  read = h.read;
  ready = h.ready;
  asynchronous = raised-within (maxcoh w) w.vpa l (ordered on w l) h.asynchronous (max-le (greatest_on-within on w.coh l) h.ready);
  committed = h.committed;
}

within-more : (a b : ℕ) (ps : List ℕ) → a ≤ b → All (λ p. p ≤ a) ps → All (λ p. p ≤ b) ps
within-more a b ps le h = All-weaker (λ (p : ℕ). p ≤ a) (λ (p : ℕ). p ≤ b) (λ p low. omega (arith, low, le)) ps h

-- a coherence view becomes a position of its location, above the one before
coherent-moved : (m : Memory) (coh : List ℕ) (x p : ℕ) → ((y : ℕ) → y < length m.initial → (get_or coh y 0 ≤ length m.messages) × (is_at m.messages y (get_or coh y 0) ≡ true))
    → length coh ≡ length m.initial → x < length m.initial → p ≤ length m.messages → is_at m.messages x p ≡ true
    → (y : ℕ) → y < length m.initial → (get_or (set coh x p) y 0 ≤ length m.messages) × (is_at m.messages y (get_or (set coh x p) y 0) ≡ true)
coherent-moved m coh x p h size inside le at y lt = elim (cases_eq y x) [
  | inl e ↦
      let here : get_or (set coh x p) y 0 ≡ p = ap (λ (z : ℕ). get_or (set coh x p) z 0) e ∙ get_or-set_same coh x p 0 (omega (arith, size, inside)) in
      (omega (arith, here, le), ap (λ (z : ℕ). is_at m.messages y z) here ∙ (ap (λ (z : ℕ). is_at m.messages z p) e ∙ at))
  | inr ne ↦
      let there : get_or (set coh x p) y 0 ≡ get_or coh y 0 = get_or-set_other coh x y p 0 ne in
      let before = h y lt in
      let low = before.0 in
      (omega (arith, there, low), ap (λ (z : ℕ). is_at m.messages y z) there ∙ before.1)
]

cond-within : (b : Bool) (a p m : ℕ) → a ≤ m → p ≤ m → cond b a (max a p) ≤ m
cond-within true a p m h k = h
cond-within false a p m h k = max-le h k

cond-both : (b : Bool) (a c p : ℕ) → a ≤ c → cond b a (max a p) ≤ cond b c (max c p)
cond-both true a c p h = h
cond-both false a c p h = omega arith

pub load_views : (m : Memory) (w : Views) (x p : ℕ) → AreViews m w → x < length m.initial → is_at m.messages x p ≡ true → p ≤ length m.messages → coh_of w x ≤ p → AreViews m (load_seen w x p)
load_views m w x p h inside at le from =
    let size = h.size.coh in
    let top = greatest-raised w.coh x p (omega (arith, size, inside)) from in
    let grows : maxcoh w ≤ greatest (set w.coh x p) = omega (arith, top) in
    let ready = h.ready in
    record {
      size = record { coh = length-set w.coh x p ∙ size; vpa = h.size.vpa; vpc = h.size.vpc };
      coherent = coherent-moved m w.coh x p h.coherent size inside le at;
      read = cond-both (p == coh_of w x) w.vrn w.vpr p h.read;
      ready = cond-within (p == coh_of w x) w.vpr p (greatest (set w.coh x p)) (omega (arith, ready, grows)) (omega (arith, top));
      asynchronous = within-more (maxcoh w) (greatest (set w.coh x p)) w.vpa grows h.asynchronous;
      committed = within-more (maxcoh w) (greatest (set w.coh x p)) w.vpc grows h.committed;
    }

-- in a memory with a message more each thread's views stay views
pub views_stay : (m : Memory) (st : ℕ × ℕ) (w : Views) → AreViews m w → AreViews (message_appended m st) w
views_stay m st w h = record {
  size = record { coh = h.size.coh; vpa = h.size.vpa; vpc = h.size.vpc };
  coherent = λ x lt.
      let c = h.coherent x lt in
      let long = length_push m.messages st in
      let le = c.0 in
      (omega (arith, le, long), position-stays m st x (get_or w.coh x 0) le c.1);
  read = h.read;
  ready = h.ready;
  asynchronous = h.asynchronous;
  committed = h.committed;
}

pub store_views : (m : Memory) (x v : ℕ) (w : Views) → AreViews m w → x < length m.initial → AreViews (message_appended m (x, v)) (store_seen w x (length m.messages + 1))
store_views m x v w h inside =
    let n = length m.messages in
    let next = message_appended m (x, v) in
    let before = views_stay m (x, v) w h in
    let size = h.size.coh in
    let long = length_push m.messages (x, v) in
    let new : suc n ≡ n + 1 = omega arith in
    let at : is_at next.messages x (n + 1) ≡ true = ap (is_at next.messages x) (sym new) ∙ (is_to-new m.messages (x, v) x ∙ same_number x) in
    let low = (h.coherent x inside).0 in
    let top = greatest-raised w.coh x (n + 1) (omega (arith, size, inside)) (omega (arith, low)) in
    let grows : maxcoh w ≤ greatest (set w.coh x (n + 1)) = omega (arith, top) in
    let ready = h.ready in
    record {
      size = record { coh = length-set w.coh x (n + 1) ∙ size; vpa = h.size.vpa; vpc = h.size.vpc };
      coherent = coherent-moved next w.coh x (n + 1) before.coherent size inside (omega (arith, long)) at;
      read = h.read;
      ready = omega (arith, ready, grows);
      asynchronous = within-more (maxcoh w) (greatest (set w.coh x (n + 1))) w.vpa grows h.asynchronous;
      committed = within-more (maxcoh w) (greatest (set w.coh x (n + 1))) w.vpc grows h.committed;
    }

-- after a store the greatest coherence view is the position of its message
pub top_stored : (m : Memory) (x : ℕ) (w : Views) → AreViews m w → x < length m.initial → maxcoh (store_seen w x (length m.messages + 1)) ≡ length m.messages + 1
top_stored m x w h inside =
    let n = length m.messages in
    let size = h.size.coh in
    let within = maxcoh-within m w h in
    let low = (h.coherent x inside).0 in
    let top = greatest-raised w.coh x (n + 1) (omega (arith, size, inside)) (omega (arith, low)) in
    omega (arith, within, top)

pub swap_is : (m : Memory) (x : ℕ) (w : Views) → AreViews m w → x < length m.initial → swap_seen w x (length m.messages + 1) ≡ mfence_seen (store_seen w x (length m.messages + 1))
swap_is m x w h inside =
    let coh = set w.coh x (length m.messages + 1) in
    ap (λ (p : ℕ). let v : Views = record { coh = coh; vrn = p; vpr = p; vpa = w.vpa; vpc = greater w.vpc w.vpa } in v) (sym (top_stored m x w h inside))
