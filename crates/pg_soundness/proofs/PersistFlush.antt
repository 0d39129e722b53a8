-- The rows of what a crash may leave after a flush are true of what the flush leaves.
use Rattle.std.proofs.Common.{◌≡◌, ℕ, ◌<◌, ◌≤◌, ◌==◌, max, Bool, true, false, ◌&&◌, List, [], ◌∷◌, length, get_or, inl, inr, refl, sym, ap, ap₂, subst, ◌∙◌, arith}
use Rattle.std.proofs.lemmas.Bool.{cases_eq, eqb-true, eqb-false, leb-true, or_left}
use Rattle.pg_assertion.specs.declared.atom.ViewAtom.{ViewAtom}
use Rattle.pg_assertion.specs.declared.atom.ViewAtom.TheVariants.{Last, Read, Persist, Async, Ordered, Fenced}
use Rattle.pg_assertion.specs.declared.step_atom.StepAtom.{StepAtom}
use Rattle.pg_assertion.specs.Layout.{Sizes}
use Rattle.pg_program.specs.NameTable.{NameTable, lines}
use Rattle.pg_machine.specs.Memory.{Memory, line_of, last}
use Rattle.pg_machine.specs.State.{Views, State, AreViews, coh_of, maxcoh, ordered, vpa_of, vpc_of}
use Rattle.pg_machine.specs.Moves.{flushed, flush_begun, flush_seen}
use Rattle.pg_machine.specs.Step.{views_of, seen_by}
use Rattle.pg_machine.proofs.PositionLists.{greatest-above, greatest_on-above}
use Rattle.pg_machine.proofs.ViewLaws.{coh-at, vpa-within}
use Rattle.pg_views.specs.Atom.{is_shown, committed_to, committed_next, atom_holds}
use Rattle.pg_tables.specs.Clause.{implies}
use Rattle.pg_tables.specs.Shapes.{before, after, frame}
use Rattle.pg_tables.specs.Steps.{same_line}
use Rattle.pg_tables.specs.Truth.{AllTrue, clause_true}
use Rattle.pg_tables.proofs.Truth.{all-none, all-cons, all-becomes_both, ruled}
use Rattle.pg_rules_persist.specs.Rows.{flush, flushopt, flush_persist, flush_async, flushopt_async}
use Rattle.pg_soundness.proofs.PersistShown.{shown-less, shown-both, shown-from, shown-covered}
use Rattle.pg_soundness.proofs.PersistBounds.{LeavesSeen, persist-upto, own-upto, other-upto, begun-here, begun-there, flush-vpa-here, flush-vpa-there, flush-vpc-here, flush-vpc-there}
use Rattle.pg_soundness.proofs.PersistRows.{RowsAreTrue, AreBounded, StaysAt, IsKept, IsNotBegun, persist-kept, async-kept, other-kept, IsOfStates, row-frame}

module _ (val : StepAtom → Bool) (s next : State) (is : IsOfStates val s next) where
  -- the clauses `a' => b`, and `c & a' => b`
  only : (a b : ViewAtom) → (atom_holds next a ≡ true → atom_holds s b ≡ true) → clause_true val (implies (after a ∷ []) (before b ∷ [])) ≡ true
  only a b f = ruled val val (λ k. k) (λ k. refl) (after a ∷ []) (before b ∷ []) (λ g. or_left (val (before b)) false (is.before b ∙ f (sym (is.after a) ∙ g.0)))

  where_too : (c a b : ViewAtom) → (atom_holds s c ≡ true → atom_holds next a ≡ true → atom_holds s b ≡ true) → clause_true val (implies (before c ∷ after a ∷ []) (before b ∷ [])) ≡ true
  where_too c a b f =
      ruled val val (λ k. k) (λ k. refl) (before c ∷ after a ∷ []) (before b ∷ [])
      (λ g. or_left (val (before b)) false (is.before b ∙ f (sym (is.before c) ∙ g.0) (sym (is.after a) ∙ g.1.0)))

-- the thread t flushes the line of x, where locations stand on the lines of these names
module _ (l : Sizes) (names : NameTable) (val : StepAtom → Bool) (s next : State) (is : IsOfStates val s next) (t x : ℕ) (low : 1 ≤ t) (high : t ≤ l.threads) (few : AreBounded s l.threads) (on : s.memory.lines ≡ lines names) (views : AreViews s.memory (views_of s t)) (lined : length s.memory.lines ≡ length s.memory.initial) (inside : x < length s.memory.initial) where
  abbrev w : Views
  w = views_of s t

  abbrev m : Memory
  m = s.memory

  line-is : (z : ℕ) → line_of m z ≡ get_or (lines names) z 0
  line-is z = ap (λ (k : List ℕ). get_or k z 0) on

  near : (z : ℕ) → same_line names x z ≡ true → line_of m z ≡ line_of m x
  near z e = line-is z ∙ (eqb-true (get_or (lines names) z 0) (get_or (lines names) x 0) e ∙ sym (line-is x))

  far : (z : ℕ) → same_line names x z ≡ false → line_of m z ≡ line_of m x → ⊥
  far z e same = eqb-false (get_or (lines names) z 0) (get_or (lines names) x 0) e (sym (line-is z) ∙ (same ∙ line-is x))

  -- ---- a flush

  module _ (h : LeavesSeen s next t (flushed (seen_by s t) x)) where
    abbrev top : ℕ → ℕ
    top z = max (committed_to s z) (maxcoh w)

    persists : (z v : ℕ) → line_of m z ≡ line_of m x → atom_holds next (Persist z v) ≡ is_shown m z 0 (top z) v
    persists z v e =
        let here = flush-vpc-here m w x z views lined inside e in
        let was = h.was (line_of m z) in
        persist-upto s next t (flushed (seen_by s t) x) h z v (top z) (omega (arith, here, was))

    pends : (u z v : ℕ) → 1 ≤ u → line_of m z ≡ line_of m x → atom_holds next (Async u z v) ≡ is_shown m z 0 (max (committed_next s u z) (top z)) v
    pends u z v from e = elim (cases_eq u t) [
      | inl same ↦
          let mine : atom_holds next (Async t z v) ≡ is_shown m z 0 (max (committed_next s t z) (top z)) v =
          own-upto s next t (flushed (seen_by s t) x) h z v (max (committed_next s t z) (top z)) (omega (arith, here, begun, was)) in
          subst (λ (k : ℕ). atom_holds next (Async k z v) ≡ is_shown m z 0 (max (committed_next s k z) (top z)) v) (sym same) mine
      | inr other ↦ other-upto s next t (flushed (seen_by s t) x) h u z v (max (committed_next s u z) (top z)) from other (omega (arith, here, was))
    ]
      where
        here : vpc_of (flush_seen w (line_of m x)) (line_of m z) ≡ max (vpc_of w (line_of m z)) (maxcoh w)
        here = flush-vpc-here m w x z views lined inside e

        begun : vpa_of (flush_seen w (line_of m x)) (line_of m z) ≡ max (vpa_of w (line_of m z)) (maxcoh w)
        begun = flush-vpa-here m w x z views lined inside e

        was : vpc_of w (line_of m z) ≤ committed_to s z
        was = h.was (line_of m z)

    kept : (z : ℕ) → (line_of m z ≡ line_of m x → ⊥) → IsKept s t (flushed (seen_by s t) x) z
    kept z e = record { committed = flush-vpc-there m w x z views lined inside e }

    idle : (z : ℕ) → (line_of m z ≡ line_of m x → ⊥) → IsNotBegun s t (flushed (seen_by s t) x) z
    idle z e = record { begun = flush-vpa-there m w x z views lined inside e }

    stays : (z : ℕ) → StaysAt s (flushed (seen_by s t) x) z
    stays z = record { shown = λ k v le. refl }

    persist-row : (z v : ℕ) (b : Bool) → same_line names x z ≡ b → AllTrue val (flush_persist b t z v)
    persist-row z v true e =
        let p = persists z v (near z e) in
        let pending = vpa-within m w views (line_of m z) in
        let read = views.read in
        let ready = views.ready in
        let coh = greatest-above w.coh z in
        all-cons val _ _ (only val s next is (Persist z v) (Persist z v) (λ g. shown-less m z 0 (committed_to s z) (top z) v (omega arith) (sym p ∙ g)))
        (all-cons val _ _ (only val s next is (Persist z v) (Read t z v) (λ g. shown-from m z (coh_of w z) w.vrn (top z) v (coh-at m w views z) (omega (arith, coh)) (omega (arith, read, ready)) (sym p ∙ g)))
        (all-cons val _ _ (only val s next is (Persist z v) (Async t z v) (λ g. shown-less m z 0 (committed_next s t z) (top z) v (omega (arith, pending)) (sym p ∙ g)))
        (all-cons val _ _ (where_too val s next is (Fenced t z) (Persist z v) (Last z v) (λ f g.
        let covered = leb-true (last m.messages z) (maxcoh w) f in
        shown-covered m z (top z) v (omega (arith, covered)) (sym p ∙ g)))
        (all-none val))))
    persist-row z v false e = row-frame val s next is (Persist z v) (persist-kept s next t l.threads (flushed (seen_by s t) x) h low high few z v (stays z) (kept z (far z e)))

    async-row : (u z v : ℕ) → 1 ≤ u → u ≤ l.threads → (b : Bool) → same_line names x z ≡ b → AllTrue val (flush_async b u z v)
    async-row u z v from upto true e =
        all-becomes_both val (after (Async u z v)) (before (Async u z v)) (after (Persist z v))
        (is.after (Async u z v)
        ∙ (pends u z v from (near z e)
        ∙ (shown-both m z 0 (committed_next s u z) (top z) v
        ∙ ap₂ (λ (a b : Bool). a && b) (sym (is.before (Async u z v))) (sym (is.after (Persist z v) ∙ persists z v (near z e))))))
    async-row u z v from upto false e =
        row-frame val s next is (Async u z v) (async-kept s next t l.threads (flushed (seen_by s t) x) h low high few z v (stays z) u from upto (kept z (far z e)) (idle z (far z e)))

    pub flush-rows : RowsAreTrue l val (flush names t x)
    flush-rows = record {
      persist = λ z v at. persist-row z v (same_line names x z) refl;
      async = λ u z v from upto at. async-row u z v from upto (same_line names x z) refl;
    }

  -- ---- a flushopt

  module _ (h : LeavesSeen s next t (flush_begun (seen_by s t) x)) (located : l.locations ≡ length s.memory.lines) where
    abbrev most : ℕ → ℕ
    most z = max (committed_next s t z) (ordered m.lines w (line_of m z))

    begins : (z v : ℕ) → line_of m z ≡ line_of m x → atom_holds next (Async t z v) ≡ is_shown m z 0 (most z) v
    begins z v e =
        let begun = begun-here m w x z views lined inside e in
        let was = h.was (line_of m z) in
        own-upto s next t (flush_begun (seen_by s t) x) h z v (most z) (omega (arith, begun, was))

    as-was : (z : ℕ) → IsKept s t (flush_begun (seen_by s t) x) z
    as-was z = record { committed = refl }

    still : (z : ℕ) → StaysAt s (flush_begun (seen_by s t) x) z
    still z = record { shown = λ k v le. refl }

    own-frame : (z v : ℕ) → (line_of m z ≡ line_of m x → ⊥) → AllTrue val (frame (Async t z v))
    own-frame z v e =
        row-frame val s next is (Async t z v)
        (async-kept s next t l.threads (flush_begun (seen_by s t) x) h low high few z v (still z) t low high (as-was z) (record { begun = begun-there m w x z views lined inside e }))

    own-row : (z v : ℕ) → z < l.locations → line_of m z ≡ line_of m x → AllTrue val (flushopt_async true true t z v)
    own-row z v at e =
        let a = begins z v e in
        let read = views.read in
        let coh = greatest_on-above m.lines w.coh (line_of m z) z (omega (arith, located, at)) refl in
        all-cons val _ _ (only val s next is (Async t z v) (Async t z v) (λ g. shown-less m z 0 (committed_next s t z) (most z) v (omega arith) (sym a ∙ g)))
        (all-cons val _ _ (only val s next is (Async t z v) (Read t z v) (λ g. shown-from m z (coh_of w z) w.vrn (most z) v (coh-at m w views z) (omega (arith, coh)) (omega (arith, read)) (sym a ∙ g)))
        (all-cons val _ _ (where_too val s next is (Ordered t z) (Async t z v) (Last z v) (λ f g.
        let covered = leb-true (last m.messages z) (ordered m.lines w (line_of m z)) f in
        shown-covered m z (most z) v (omega (arith, covered)) (sym a ∙ g)))
        (all-none val)))

    pending-row : (u z v : ℕ) → 1 ≤ u → u ≤ l.threads → z < l.locations → (b c : Bool) → (u == t) ≡ b → same_line names x z ≡ c → AllTrue val (flushopt_async b c u z v)
    pending-row u z v from upto at true true f e = subst (λ (k : ℕ). AllTrue val (flushopt_async true true k z v)) (sym (eqb-true u t f)) (own-row z v at (near z e))
    pending-row u z v from upto at true false f e = subst (λ (k : ℕ). AllTrue val (frame (Async k z v))) (sym (eqb-true u t f)) (own-frame z v (far z e))
    pending-row u z v from upto at false c f e =
        row-frame val s next is (Async u z v) (other-kept s next t l.threads (flush_begun (seen_by s t) x) h low high few z v (still z) u from upto (eqb-false u t f) (as-was z))

    pub flushopt-rows : RowsAreTrue l val (flushopt names t x)
    flushopt-rows = record {
      persist = λ z v at. row-frame val s next is (Persist z v) (persist-kept s next t l.threads (flush_begun (seen_by s t) x) h low high few z v (still z) (as-was z));
      async = λ u z v from upto at. pending-row u z v from upto at (u == t) (same_line names x z) refl refl;
    }
