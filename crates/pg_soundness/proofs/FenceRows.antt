-- The rows of the fences are true.
use Rattle.std.proofs.Common.{◌≡◌, ℕ, ◌≤◌, ◌==◌, Bool, true, length, Option, refl, sym, ap, ◌∙◌}
use Rattle.pg_program.specs.declared.syntax.Stmt.{Stmt}
use Rattle.pg_program.specs.declared.syntax.Act.{Act}
use Rattle.pg_program.specs.declared.syntax.Act.TheOpen.{Act-F}
use Rattle.pg_program.specs.declared.point.Step.{Step}
use Rattle.pg_program.specs.Program.{ProgramTable}
use Rattle.pg_assertion.specs.declared.atom.ViewAtom.{ViewAtom}
use Rattle.pg_assertion.specs.declared.atom.ViewAtom.TheVariants.{Read, Then, Newest, Ordered, Fenced}
use Rattle.pg_assertion.specs.declared.step_atom.StepAtom.{StepAtom}
use Rattle.pg_assertion.specs.Layout.{Sizes, sizes}
use Rattle.pg_machine.specs.declared.event.Event.{Event}
use Rattle.pg_machine.specs.State.{State}
use Rattle.pg_machine.specs.Moves.{Seen, fenced, store_fenced}
use Rattle.pg_machine.specs.Step.{Left, seen_by}
use Rattle.pg_views.specs.Atom.{may_read, may_read_then, reads_newest, covers_ordered, covers_fenced, atom_holds}
use Rattle.pg_views.specs.Valuation.{step_atom_holds}
use Rattle.pg_tables.specs.Shapes.{before, after, frame}
use Rattle.pg_tables.specs.Truth.{AllTrue}
use Rattle.pg_tables.proofs.Truth.{all-only_where, all-becomes}
use Rattle.pg_rules_access.specs.Fence.{fence_loses, fence_view, mfence, sfence}
use Rattle.pg_soundness.proofs.Stepped.{Stepped}
use Rattle.pg_soundness.proofs.Rows.{AreRows, by_own}
use Rattle.pg_soundness.proofs.Views.{fence-read, fence-then, fence-newest, fence-ordered, store_fence-ordered}
use Rattle.pg_soundness.proofs.Kept.{framed, same_other, same_last, kept-at}

module _ (p : ProgramTable) (s : State) (e : Event) (step : Step) (next : State) (stmt : Stmt) (left : Left) (h : Stepped p s e step next stmt left) (act : Act-F Act Stmt) (choice : Option ℕ) where
  abbrev val : StepAtom → Bool
  val = step_atom_holds p.names.domain act choice s next

  abbrev l : Sizes
  l = sizes p.names (length p.threads)

  abbrev n : Seen
  n = seen_by s e.thread

  module _ (same : left.seen.memory ≡ s.memory) where
    -- what another thread sees stays
    other-frame : (t : ℕ) → 1 ≤ t → (t ≡ e.thread → ⊥) → (f : Seen → Bool) → f (seen_by next t) ≡ f (seen_by s t)
    other-frame t from other f = ap f (same_other p s e step next stmt left h act choice same t from other)

    loses : (t : ℕ) → 1 ≤ t → (a : ℕ → ViewAtom) (f : Seen → Bool) → ((u : ℕ) (q : State) → atom_holds q (a u) ≡ f (seen_by q u))
        → (f left.seen ≡ true → f n ≡ true) → AllTrue val (fence_loses (t == e.thread) (a t))
    loses t from a f is less =
        by_own val e.thread (λ b u. fence_loses b (a u)) t
        (all-only_where val (after (a e.thread)) (before (a e.thread)) (λ holds. is e.thread s ∙ less (ap f (sym h.own) ∙ (sym (is e.thread next) ∙ holds))))
        (λ other. framed p s e step next stmt left h act choice (a t) (is t next ∙ (other-frame t from other f ∙ sym (is t s))))

    views : (t z : ℕ) → 1 ≤ t → (a : ℕ → ViewAtom) (f : Seen → Bool) → ((u : ℕ) (q : State) → atom_holds q (a u) ≡ f (seen_by q u))
        → f left.seen ≡ covers_fenced n z → AllTrue val (fence_view (t == e.thread) t z (a t))
    views t z from a f is covers =
        by_own val e.thread (λ b u. fence_view b u z (a u)) t
        (all-becomes val (after (a e.thread)) (before (Fenced e.thread z)) (is e.thread next ∙ (ap f h.own ∙ covers)))
        (λ other. framed p s e step next stmt left h act choice (a t) (is t next ∙ (other-frame t from other f ∙ sym (is t s))))

  pub mfence_rows : left.seen ≡ fenced n → AreRows val l (mfence e.thread)
  mfence_rows sees =
      let same : left.seen.memory ≡ s.memory = ap (λ (m : Seen). m.memory) sees in
      let by : (f : Seen → Bool) → f left.seen ≡ f (fenced n) = λ f. ap f sees in
      record {
        last = λ z v i. same_last p s e step next stmt left h act choice same z v;
        read = λ t z v i. loses same t i.0.first (λ u. Read u z v) (λ m. may_read m z v) (λ u q. refl) (λ is. fence-read n h.own_views z v (sym (by (λ m. may_read m z v)) ∙ is));
        pairs = λ t z v u w i. loses same t i.0.first (λ k. Then k z v u w) (λ m. may_read_then m z v u w) (λ k q. refl)
            (λ is. fence-then n h.own_views z v u w (sym (by (λ m. may_read_then m z v u w)) ∙ is));
        newest = λ t z i. views same t z i.0.first (λ u. Newest u z) (λ m. reads_newest m z) (λ u q. refl) (by (λ m. reads_newest m z) ∙ fence-newest n h.own_views z);
        ordered = λ t z i. views same t z i.0.first (λ u. Ordered u z) (λ m. covers_ordered m z) (λ u q. refl) (by (λ m. covers_ordered m z) ∙ fence-ordered n h.own_views z);
        fenced = λ t z i. framed p s e step next stmt left h act choice (Fenced t z) (kept-at p s e step next stmt left h act choice same t i.0.first (λ m. covers_fenced m z) (by (λ m. covers_fenced m z)));
      }

  pub sfence_rows : left.seen ≡ store_fenced n → AreRows val l (sfence e.thread)
  sfence_rows sees =
      let same : left.seen.memory ≡ s.memory = ap (λ (m : Seen). m.memory) sees in
      let by : (f : Seen → Bool) → f left.seen ≡ f (store_fenced n) = λ f. ap f sees in
      let frames : (t : ℕ) → 1 ≤ t → (a : ViewAtom) (f : Seen → Bool) → atom_holds next a ≡ f (seen_by next t) → atom_holds s a ≡ f (seen_by s t) → f (store_fenced n) ≡ f n → AllTrue val (frame a) =
      λ t from a f new old kept. framed p s e step next stmt left h act choice a (new ∙ (kept-at p s e step next stmt left h act choice same t from f (by f ∙ kept) ∙ sym old)) in
      record {
        last = λ z v i. same_last p s e step next stmt left h act choice same z v;
        read = λ t z v i. frames t i.0.first (Read t z v) (λ m. may_read m z v) refl refl refl;
        pairs = λ t z v u w i. frames t i.0.first (Then t z v u w) (λ m. may_read_then m z v u w) refl refl refl;
        newest = λ t z i. frames t i.0.first (Newest t z) (λ m. reads_newest m z) refl refl refl;
        ordered = λ t z i. views same t z i.0.first (λ u. Ordered u z) (λ m. covers_ordered m z) (λ u q. refl) (by (λ m. covers_ordered m z) ∙ store_fence-ordered n h.own_views z);
        fenced = λ t z i. frames t i.0.first (Fenced t z) (λ m. covers_fenced m z) refl refl refl;
      }
