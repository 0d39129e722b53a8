-- What a step leaves of each thread: it moves none of its own views back, and the views of the others stay.
use Rattle.std.proofs.Common.{◌≡◌, ℕ, ◌+◌, ◌-◌, ◌<◌, ◌≤◌, ◌==◌, max, List, [], length, map, get_or, Option, Some, None, inl, inr, sym, ap, subst, ◌∙◌, arith}
use Rattle.std.specs.List.{All}
use Rattle.std.proofs.lemmas.Bool.{cases_eq}
use Rattle.std.proofs.lemmas.List.{length-map, map-set, get_or-map, get_or-set_same, get_or-set_other}
use Rattle.std.proofs.lemmas.List.Elements.{All-head, All-get_or}
use Rattle.pg_program.specs.declared.syntax.Stmt.{Stmt}
use Rattle.pg_program.specs.declared.syntax.Act.{Act}
use Rattle.pg_program.specs.declared.syntax.Act.TheOpen.{Act-F, Assign, Store, Load, Cas, Mfence, Sfence, Flush, Flushopt, If, While}
use Rattle.pg_program.specs.Words.{locations_in}
use Rattle.pg_program.specs.Program.{ProgramTable, IsProgram}
use Rattle.pg_machine.specs.declared.event.Event.{Event}
use Rattle.pg_machine.specs.Memory.{Memory, line_of}
use Rattle.pg_machine.specs.State.{Views, State, greatest, coh_of, maxcoh, vpa_of, vpc_of, ordered, committed, point_of, AreViews, IsWellFormed}
use Rattle.pg_machine.specs.Moves.{Seen, store_seen, load_seen, mfence_seen, sfence_seen, flush_seen, flushopt_seen, swap_seen}
use Rattle.pg_machine.specs.Step.{Left, Row, IsStep, act_of, moved, seen_by, views_of}
use Rattle.pg_machine.proofs.Scan.{is_at-within}
use Rattle.pg_machine.proofs.Formed.{stmt_locations}
use Rattle.pg_machine.proofs.Faults.{IsReached, is_reached}
use Rattle.pg_machine.proofs.ViewsKept.{load_views, mfence_views}
use Rattle.pg_machine.proofs.PositionLists.{set-grows, greatest-raised, greatest-above, greatest-least, greater-at}
use Rattle.pg_machine.proofs.ViewLaws.{maxcoh-within, vpc-within, view-loaded}

-- ---- views that move forth

pub record Grows (w v : Views) : Type 0 where
  pub coh : (x : ℕ) → coh_of w x ≤ coh_of v x
  pub read : w.vrn ≤ v.vrn
  pub ready : w.vpr ≤ v.vpr
  pub asynchronous : (l : ℕ) → vpa_of w l ≤ vpa_of v l
  pub committed : (l : ℕ) → vpc_of w l ≤ vpc_of v l

pub stays : (w : Views) → Grows w w
stays w = record { coh = λ x. omega arith; read = omega arith; ready = omega arith; asynchronous = λ x. omega arith; committed = λ x. omega arith }

pub grows-on : (u v w : Views) → Grows u v → Grows v w → Grows u w
grows-on u v w h k = record {
  coh = λ x. let a = h.coh x in let b = k.coh x in omega (arith, a, b);
  read = let a = h.read in let b = k.read in omega (arith, a, b);
  ready = let a = h.ready in let b = k.ready in omega (arith, a, b);
  asynchronous = λ x. let a = h.asynchronous x in let b = k.asynchronous x in omega (arith, a, b);
  committed = λ x. let a = h.committed x in let b = k.committed x in omega (arith, a, b);
}

-- what is written back is committed, of each line
back-grows : (m : Memory) (w : Views) → AreViews m w → (l : ℕ) → vpc_of w l ≤ vpc_of (mfence_seen w) l
back-grows m w h l = let e = greater-at w.vpc w.vpa l (h.size.vpc ∙ sym h.size.vpa) in omega (arith, e)

mfence-grows : (m : Memory) (w : Views) → AreViews m w → Grows w (mfence_seen w)
mfence-grows m w h = record {
  coh = λ x. omega arith;
  read = let a = h.read in let b = h.ready in omega (arith, a, b);
  ready = h.ready;
  asynchronous = λ x. omega arith;
  committed = back-grows m w h;
}

sfence-grows : (m : Memory) (w : Views) → AreViews m w → Grows w (sfence_seen w)
sfence-grows m w h = record { coh = λ x. omega arith; read = omega arith; ready = h.ready; asynchronous = λ x. omega arith; committed = back-grows m w h }

store-grows : (m : Memory) (w : Views) (x : ℕ) → AreViews m w → Grows w (store_seen w x (length m.messages + 1))
store-grows m w x h =
    let within = maxcoh-within m w h in
    let mine = greatest-above w.coh x in
    record { coh = λ y. set-grows w.coh x (length m.messages + 1) y (omega (arith, within, mine)); read = omega arith; ready = omega arith; asynchronous = λ y. omega arith; committed = λ y. omega arith }

swap-grows : (m : Memory) (w : Views) (x : ℕ) → AreViews m w → Grows w (swap_seen w x (length m.messages + 1))
swap-grows m w x h =
    let within = maxcoh-within m w h in
    let less = h.read in
    let upto = h.ready in
    record {
      coh = (store-grows m w x h).coh;
      read = omega (arith, within, less, upto);
      ready = omega (arith, within, upto);
      asynchronous = λ y. omega arith;
      committed = back-grows m w h;
    }

load-grows : (w : Views) (x p : ℕ) → coh_of w x ≤ p → Grows w (load_seen w x p)
load-grows w x p le = record {
  coh = λ y. set-grows w.coh x p y le;
  read = view-loaded (p == coh_of w x) w.vrn p;
  ready = view-loaded (p == coh_of w x) w.vpr p;
  asynchronous = λ y. omega arith;
  committed = λ y. omega arith;
}

flush-grows : (w : Views) (l : ℕ) → Grows w (flush_seen w l)
flush-grows w l = record {
  coh = λ y. omega arith;
  read = omega arith;
  ready = omega arith;
  asynchronous = λ y. set-grows w.vpa l (max (vpa_of w l) (maxcoh w)) y (omega arith);
  committed = λ y. set-grows w.vpc l (max (vpc_of w l) (maxcoh w)) y (omega arith);
}

flushopt-grows : (on : List ℕ) (w : Views) (l : ℕ) → Grows w (flushopt_seen on w l)
flushopt-grows on w l = record {
  coh = λ y. omega arith;
  read = omega arith;
  ready = omega arith;
  asynchronous = λ y. set-grows w.vpa l (max (vpa_of w l) (ordered on w l)) y (omega arith);
  committed = λ y. omega arith;
}

miss-grows : (m : Memory) (w : Views) (x p : ℕ) → AreViews m w → x < length m.initial → IsReached m.messages x (coh_of w x) (maxcoh w) p → Grows w (mfence_seen (load_seen (mfence_seen w) x p))
miss-grows m w x p h inside can =
    let f = mfence_views m w h in
    grows-on w (mfence_seen w) (mfence_seen (load_seen (mfence_seen w) x p)) (mfence-grows m w h)
    (grows-on (mfence_seen w) (load_seen (mfence_seen w) x p) (mfence_seen (load_seen (mfence_seen w) x p)) (load-grows (mfence_seen w) x p can.from)
    (mfence-grows m (load_seen (mfence_seen w) x p) (load_views m (mfence_seen w) x p f inside can.at (is_at-within m.messages x p can.at) can.from)))

-- ---- what an act leaves

in-left : (w : Views) (left l : Left) → left ≡ l → Grows w l.seen.views → Grows w left.seen.views
in-left w left l e h = subst (λ (k : Left). Grows w k.seen.views) (sym e) h

pub row-grows : (d : ℕ) (n : Seen) (r : List ℕ) (act : Act-F Act Stmt) (choice : Option ℕ) → AreViews n.memory n.views → All (λ x. x < length n.memory.initial) (locations_in act) → (left : Left)
    → Row d n r act choice left → Grows n.views left.seen.views
row-grows d n r (Assign q e) None views inside left h = in-left n.views left _ h (stays n.views)
row-grows d n r (Store x e) None views inside left h = in-left n.views left _ h (store-grows n.memory n.views x views)
row-grows d n r (Load q x) (Some p) views inside left h =
    in-left n.views left _ h.1 (load-grows n.views x p (is_reached n.memory.messages x (coh_of n.views x) n.views.vrn p h.0).from)
row-grows d n r (Cas q x e f) None views inside left h = in-left n.views left _ h.1 (swap-grows n.memory n.views x views)
row-grows d n r (Cas q x e f) (Some p) views inside left h =
    in-left n.views left _ h.2
    (miss-grows n.memory n.views x p views (All-head (λ (y : ℕ). y < length n.memory.initial) x [] inside) (is_reached n.memory.messages x (coh_of n.views x) (maxcoh n.views) p h.0))
row-grows d n r Mfence None views inside left h = in-left n.views left _ h (mfence-grows n.memory n.views views)
row-grows d n r Sfence None views inside left h = in-left n.views left _ h (sfence-grows n.memory n.views views)
row-grows d n r (Flush x) None views inside left h = in-left n.views left _ h (flush-grows n.views (line_of n.memory x))
row-grows d n r (Flushopt x) None views inside left h = in-left n.views left _ h (flushopt-grows n.memory.lines n.views (line_of n.memory x))
row-grows d n r (If test first second) None views inside left h = in-left n.views left _ h (stays n.views)
row-grows d n r (While test first) None views inside left h = in-left n.views left _ h (stays n.views)
row-grows d n r act choice views inside left h = absurd h

-- ---- the threads

abbrev no_views : Views
no_views = record { coh = []; vrn = 0; vpr = 0; vpa = []; vpc = [] }

-- the views of a thread of a well-formed state
pub thread-views : (p : ProgramTable) (s : State) (t : ℕ) → IsWellFormed p s → 1 ≤ t → t ≤ length p.threads → AreViews s.memory (views_of s t)
thread-views p s t h low high = let threads = h.threads in All-get_or (AreViews s.memory) s.views (t - 1) no_views (omega (arith, threads, low, high)) h.views

-- those of the thread that acts, and of another one
pub own-views : (s : State) (t k : ℕ) (left : Left) → 1 ≤ t → t ≤ length s.views → views_of (moved s t left k) t ≡ left.seen.views
own-views s t k left low high = get_or-set_same s.views (t - 1) left.seen.views no_views (omega (arith, low, high))

pub other-views : (s : State) (t u k : ℕ) (left : Left) → 1 ≤ t → 1 ≤ u → (u ≡ t → ⊥) → views_of (moved s t left k) u ≡ views_of s u
other-views s t u k left low from other =
    get_or-set_other s.views (t - 1) (u - 1) left.seen.views no_views (λ q. other (let e : u ≡ t = omega (arith, low, from, q) in e))

-- and their points
pub own-point : (s : State) (t k : ℕ) (left : Left) → 1 ≤ t → t ≤ length s.points → point_of (moved s t left k) t ≡ k
own-point s t k left low high = get_or-set_same s.points (t - 1) k 0 (omega (arith, low, high))

pub other-point : (s : State) (t u k : ℕ) (left : Left) → 1 ≤ t → 1 ≤ u → (u ≡ t → ⊥) → point_of (moved s t left k) u ≡ point_of s u
other-point s t u k left low from other = get_or-set_other s.points (t - 1) (u - 1) k 0 (λ q. other (let e : u ≡ t = omega (arith, low, from, q) in e))

-- what was committed: by the step it becomes its maximum with the committed view that the thread is left with
pub committed-moved : (s : State) (t k : ℕ) (left : Left) (l : ℕ) → 1 ≤ t → t ≤ length s.views → vpc_of (views_of s t) l ≤ vpc_of left.seen.views l
    → committed (moved s t left k) l ≡ max (committed s l) (vpc_of left.seen.views l)
committed-moved s t k left l low high le =
    let of : Views → ℕ = λ (w : Views). vpc_of w l in
    let size = length-map s.views of in
    let mine : get_or (map of s.views) (t - 1) 0 ≡ vpc_of (views_of s t) l = get_or-map of s.views (t - 1) no_views 0 (omega (arith, low, high)) in
    ap greatest (map-set of s.views (t - 1) left.seen.views)
    ∙ greatest-raised (map of s.views) (t - 1) (vpc_of left.seen.views l) (omega (arith, size, low, high)) (omega (arith, mine, le))

-- what a thread committed was committed
pub committed-above : (s : State) (t l : ℕ) → 1 ≤ t → t ≤ length s.views → vpc_of (views_of s t) l ≤ committed s l
committed-above s t l low high =
    let of : Views → ℕ = λ (w : Views). vpc_of w l in
    let mine : get_or (map of s.views) (t - 1) 0 ≡ vpc_of (views_of s t) l = get_or-map of s.views (t - 1) no_views 0 (omega (arith, low, high)) in
    let above = greatest-above (map of s.views) (t - 1) in
    omega (arith, mine, above)

-- and what was committed is a position of the memory
pub committed-within : (p : ProgramTable) (s : State) (l : ℕ) → IsWellFormed p s → committed s l ≤ length s.memory.messages
committed-within p s l h =
    let of : Views → ℕ = λ (w : Views). vpc_of w l in
    let size = length-map s.views of in
    greatest-least (map of s.views) (length s.memory.messages) (λ i lt.
    let inside : i < length s.views = omega (arith, size, lt) in
    let is = All-get_or (AreViews s.memory) s.views i no_views inside h.views in
    let mine : get_or (map of s.views) i 0 ≡ vpc_of (get_or s.views i no_views) l = get_or-map of s.views i no_views 0 inside in
    let upto = vpc-within s.memory (get_or s.views i no_views) is l in
    let top = maxcoh-within s.memory (get_or s.views i no_views) is in
    omega (arith, mine, upto, top))

-- ---- a step

module _ (p : ProgramTable) (s : State) (e : Event) (next : State) (built : IsProgram p) (h : IsWellFormed p s) (is : IsStep p s e next) where
  -- it moves no view of its thread back
  pub step-grows : Grows (views_of s e.thread) is.1.left.seen.views
  step-grows =
      row-grows p.names.domain (seen_by s e.thread) s.scalars (act_of is.1.stmt) e.choice (thread-views p s e.thread h is.1.thread.0 is.1.thread.1) (stmt_locations p s built h e.thread (point_of s e.thread) is.1.stmt is.1.thread.0 is.1.thread.1 is.1.stands) is.1.left is.1.row

  -- its thread has the views that its act leaves
  pub step-own : views_of next e.thread ≡ is.1.left.seen.views
  step-own =
      let threads = h.threads in
      let high = is.1.thread.1 in
      ap (λ (q : State). views_of q e.thread) is.1.becomes ∙ own-views s e.thread is.0.target is.1.left is.1.thread.0 (omega (arith, threads, high))

  -- and each other thread its own
  pub step-other : (t : ℕ) → 1 ≤ t → (t ≡ e.thread → ⊥) → views_of next t ≡ views_of s t
  step-other t from other = ap (λ (q : State). views_of q t) is.1.becomes ∙ other-views s e.thread t is.0.target is.1.left is.1.thread.0 from other

  -- so it moves no view of any thread back
  pub step-forth : (t : ℕ) → 1 ≤ t → Grows (views_of s t) (views_of next t)
  step-forth t from = elim (cases_eq t e.thread) [
    | inl same ↦
        subst (λ (k : ℕ). Grows (views_of s k) (views_of next k)) (sym same)
        (subst (λ (w : Views). Grows (views_of s e.thread) w) (sym step-own) step-grows)
    | inr other ↦ subst (λ (w : Views). Grows (views_of s t) w) (sym (step-other t from other)) (stays (views_of s t))
  ]

  -- and takes back nothing that was committed
  pub step-commits : (l : ℕ) → committed next l ≡ max (committed s l) (vpc_of is.1.left.seen.views l)
  step-commits l =
      let threads = h.threads in
      let high = is.1.thread.1 in
      ap (λ (q : State). committed q l) is.1.becomes ∙ committed-moved s e.thread is.0.target is.1.left l is.1.thread.0 (omega (arith, threads, high)) (step-grows.committed l)
