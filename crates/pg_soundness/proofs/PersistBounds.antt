-- Up to where the values are shown that a crash may leave after a step, and those that it may leave after a fence.
use Rattle.std.proofs.Common.{◌≡◌, ℕ, ◌<◌, ◌≤◌, max, List, length, get_or, sym, ap, ◌∙◌, arith}
use Rattle.std.proofs.lemmas.List.{get_or-set_same, get_or-set_other}
use Rattle.pg_assertion.specs.declared.atom.ViewAtom.TheVariants.{Persist, Async}
use Rattle.pg_program.specs.declared.point.Step.{Step}
use Rattle.pg_program.specs.declared.syntax.Stmt.{Stmt}
use Rattle.pg_program.specs.Program.{ProgramTable}
use Rattle.pg_machine.specs.declared.event.Event.{Event}
use Rattle.pg_machine.specs.Memory.{Memory, line_of}
use Rattle.pg_machine.specs.State.{Views, State, AreViews, maxcoh, ordered, vpa_of, vpc_of, committed}
use Rattle.pg_machine.specs.Moves.{Seen, mfence_seen, load_seen, flush_seen, flushopt_seen}
use Rattle.pg_machine.specs.Step.{Left, views_of}
use Rattle.pg_machine.proofs.PositionLists.{greater-at, greater-length, line-within}
use Rattle.pg_views.specs.Atom.{is_shown, committed_to, committed_next, atom_holds}
use Rattle.pg_soundness.proofs.Stepped.{Stepped}

-- what a step of thread t leaves, where its act leaves it to see n
pub record LeavesSeen (s next : State) (t : ℕ) (n : Seen) : Type 0 where
  pub memory : next.memory ≡ n.memory
  pub lines : n.memory.lines ≡ s.memory.lines
  pub commits : (l : ℕ) → committed next l ≡ max (committed s l) (vpc_of n.views l)
  pub own : views_of next t ≡ n.views
  pub others : (u : ℕ) → 1 ≤ u → (u ≡ t → ⊥) → views_of next u ≡ views_of s u
  pub was : (l : ℕ) → vpc_of (views_of s t) l ≤ committed s l

pub leaves-seen : (p : ProgramTable) (s : State) (e : Event) (step : Step) (next : State) (stmt : Stmt) (left : Left) (n : Seen) → Stepped p s e step next stmt left → left.seen ≡ n
    → LeavesSeen s next e.thread n
leaves-seen p s e step next stmt left n h is = record {
  memory = h.memory ∙ ap (λ (k : Seen). k.memory) is;
  lines = sym (ap (λ (k : Seen). k.memory.lines) is) ∙ (h.on_lines_left ∙ sym h.on_lines);
  commits = λ l. h.commits l ∙ ap (λ (k : Seen). max (committed s l) (vpc_of k.views l)) is;
  own = ap (λ (k : Seen). k.views) (h.own ∙ is);
  others = λ u low other. ap (λ (k : Seen). k.views) (h.other u low other);
  was = λ l. let c = h.committed_before l in omega (arith, c);
}

-- ---- atoms by their bounds

module _ (s next : State) (t : ℕ) (n : Seen) (h : LeavesSeen s next t n) where
  line : (z : ℕ) → line_of next.memory z ≡ line_of s.memory z
  line z = ap (λ (m : Memory). line_of m z) h.memory ∙ ap (λ (k : List ℕ). get_or k z 0) h.lines

  committed-is : (z : ℕ) → committed_to next z ≡ max (committed_to s z) (vpc_of n.views (line_of s.memory z))
  committed-is z = ap (committed next) (line z) ∙ h.commits (line_of s.memory z)

  pub persist-upto : (z v b : ℕ) → max (committed_to s z) (vpc_of n.views (line_of s.memory z)) ≡ b → atom_holds next (Persist z v) ≡ is_shown n.memory z 0 b v
  persist-upto z v b e = ap (λ (m : Memory). is_shown m z 0 (committed_to next z) v) h.memory ∙ ap (λ (k : ℕ). is_shown n.memory z 0 k v) (committed-is z ∙ e)

  async-upto : (u z v a b : ℕ) → vpa_of (views_of next u) (line_of s.memory z) ≡ a → max (max (committed_to s z) (vpc_of n.views (line_of s.memory z))) a ≡ b
      → atom_holds next (Async u z v) ≡ is_shown n.memory z 0 b v
  async-upto u z v a b f e =
      let c = committed-is z in
      let w : vpa_of (views_of next u) (line_of next.memory z) ≡ a = ap (vpa_of (views_of next u)) (line z) ∙ f in
      ap (λ (m : Memory). is_shown m z 0 (committed_next next u z) v) h.memory ∙ ap (λ (k : ℕ). is_shown n.memory z 0 k v) (let q : committed_next next u z ≡ b = omega (arith, c, w, e) in q)

  pub own-upto : (z v b : ℕ) → max (max (committed_to s z) (vpc_of n.views (line_of s.memory z))) (vpa_of n.views (line_of s.memory z)) ≡ b
      → atom_holds next (Async t z v) ≡ is_shown n.memory z 0 b v
  own-upto z v b e = async-upto t z v (vpa_of n.views (line_of s.memory z)) b (ap (λ (w : Views). vpa_of w (line_of s.memory z)) h.own) e

  pub other-upto : (u z v b : ℕ) → 1 ≤ u → (u ≡ t → ⊥) → max (max (committed_to s z) (vpc_of n.views (line_of s.memory z))) (vpa_of (views_of s u) (line_of s.memory z)) ≡ b
      → atom_holds next (Async u z v) ≡ is_shown n.memory z 0 b v
  other-upto u z v b low other e =
      async-upto u z v (vpa_of (views_of s u) (line_of s.memory z)) b (ap (λ (w : Views). vpa_of w (line_of s.memory z)) (h.others u low other)) e

  -- where the line of z is not written back to
  module _ (z v : ℕ) (kept : vpc_of n.views (line_of s.memory z) ≡ vpc_of (views_of s t) (line_of s.memory z)) where
    pub kept-persist : atom_holds next (Persist z v) ≡ is_shown n.memory z 0 (committed_to s z) v
    kept-persist = let was = h.was (line_of s.memory z) in persist-upto z v (committed_to s z) (omega (arith, was, kept))

    pub kept-own : vpa_of n.views (line_of s.memory z) ≡ vpa_of (views_of s t) (line_of s.memory z) → atom_holds next (Async t z v) ≡ is_shown n.memory z 0 (committed_next s t z) v
    kept-own e = let was = h.was (line_of s.memory z) in own-upto z v (committed_next s t z) (omega (arith, was, kept, e))

    pub kept-other : (u : ℕ) → 1 ≤ u → (u ≡ t → ⊥) → atom_holds next (Async u z v) ≡ is_shown n.memory z 0 (committed_next s u z) v
    kept-other u low other = let was = h.was (line_of s.memory z) in other-upto u z v (committed_next s u z) low other (omega (arith, was, kept))

  -- where what the thread has begun to write back is committed
  module _ (z v : ℕ) (back : vpc_of n.views (line_of s.memory z) ≡ max (vpc_of (views_of s t) (line_of s.memory z)) (vpa_of (views_of s t) (line_of s.memory z))) where
    pub back-persist : atom_holds next (Persist z v) ≡ is_shown n.memory z 0 (committed_next s t z) v
    back-persist = let was = h.was (line_of s.memory z) in persist-upto z v (committed_next s t z) (omega (arith, was, back))

    pub back-own : vpa_of n.views (line_of s.memory z) ≡ vpa_of (views_of s t) (line_of s.memory z) → atom_holds next (Async t z v) ≡ is_shown n.memory z 0 (committed_next s t z) v
    back-own e = let was = h.was (line_of s.memory z) in own-upto z v (committed_next s t z) (omega (arith, was, back, e))

    pub back-other : (u : ℕ) → 1 ≤ u → (u ≡ t → ⊥) → atom_holds next (Async u z v) ≡ is_shown n.memory z 0 (max (committed_next s u z) (committed_next s t z)) v
    back-other u low other =
        let was = h.was (line_of s.memory z) in
        other-upto u z v (max (committed_next s u z) (committed_next s t z)) low other (omega (arith, was, back))

-- ---- what acts write back

pub fence-back : (m : Memory) (w : Views) (l : ℕ) → AreViews m w → vpc_of (mfence_seen w) l ≡ max (vpc_of w l) (vpa_of w l)
fence-back m w l h = greater-at w.vpc w.vpa l (h.size.vpc ∙ sym h.size.vpa)

pub miss-back : (m : Memory) (w : Views) (x p l : ℕ) → AreViews m w → vpc_of (mfence_seen (load_seen (mfence_seen w) x p)) l ≡ max (vpc_of w l) (vpa_of w l)
miss-back m w x p l h =
    let once = fence-back m w l h in
    let size : length (mfence_seen w).vpc ≡ length w.vpa = greater-length w.vpc w.vpa ∙ (h.size.vpc ∙ sym h.size.vpa) in
    let twice = greater-at (mfence_seen w).vpc w.vpa l size in
    omega (arith, once, twice)

module _ (m : Memory) (w : Views) (x z : ℕ) (h : AreViews m w) (lined : length m.lines ≡ length m.initial) (inside : x < length m.initial) where
  on : line_of m x < length w.vpa
  on = let size = h.size.vpa in let within = line-within m.lines x (omega (arith, lined, inside)) in omega (arith, size, within)

  pub begun-here : line_of m z ≡ line_of m x → vpa_of (flushopt_seen m.lines w (line_of m x)) (line_of m z) ≡ max (vpa_of w (line_of m z)) (ordered m.lines w (line_of m z))
  begun-here near =
      ap (vpa_of (flushopt_seen m.lines w (line_of m x))) near
      ∙ (get_or-set_same w.vpa (line_of m x) (max (vpa_of w (line_of m x)) (ordered m.lines w (line_of m x))) 0 on
      ∙ sym (ap (λ (l : ℕ). max (vpa_of w l) (ordered m.lines w l)) near))

  pub begun-there : (line_of m z ≡ line_of m x → ⊥) → vpa_of (flushopt_seen m.lines w (line_of m x)) (line_of m z) ≡ vpa_of w (line_of m z)
  begun-there far = get_or-set_other w.vpa (line_of m x) (line_of m z) (max (vpa_of w (line_of m x)) (ordered m.lines w (line_of m x))) 0 far

  pub flush-vpa-here : line_of m z ≡ line_of m x → vpa_of (flush_seen w (line_of m x)) (line_of m z) ≡ max (vpa_of w (line_of m z)) (maxcoh w)
  flush-vpa-here near =
      ap (vpa_of (flush_seen w (line_of m x))) near
      ∙ (get_or-set_same w.vpa (line_of m x) (max (vpa_of w (line_of m x)) (maxcoh w)) 0 on
      ∙ sym (ap (λ (l : ℕ). max (vpa_of w l) (maxcoh w)) near))

  pub flush-vpc-here : line_of m z ≡ line_of m x → vpc_of (flush_seen w (line_of m x)) (line_of m z) ≡ max (vpc_of w (line_of m z)) (maxcoh w)
  flush-vpc-here near =
      let size = h.size.vpa in
      let other = h.size.vpc in
      let inside-vpa = on in
      ap (vpc_of (flush_seen w (line_of m x))) near
      ∙ (get_or-set_same w.vpc (line_of m x) (max (vpc_of w (line_of m x)) (maxcoh w)) 0 (omega (arith, size, other, inside-vpa))
      ∙ sym (ap (λ (l : ℕ). max (vpc_of w l) (maxcoh w)) near))

  pub flush-vpa-there : (line_of m z ≡ line_of m x → ⊥) → vpa_of (flush_seen w (line_of m x)) (line_of m z) ≡ vpa_of w (line_of m z)
  flush-vpa-there far = get_or-set_other w.vpa (line_of m x) (line_of m z) (max (vpa_of w (line_of m x)) (maxcoh w)) 0 far

  pub flush-vpc-there : (line_of m z ≡ line_of m x → ⊥) → vpc_of (flush_seen w (line_of m x)) (line_of m z) ≡ vpc_of w (line_of m z)
  flush-vpc-there far = get_or-set_other w.vpc (line_of m x) (line_of m z) (max (vpc_of w (line_of m x)) (maxcoh w)) 0 far
