-- The rows of a load are true.
use Rattle.std.proofs.Common.{◌≡◌, ◌≢◌, ℕ, ◌<◌, ◌≤◌, ◌==◌, Bool, true, false, List, [], ◌∷◌, length, get_or, set, Option, refl, sym, ap, ◌∙◌, arith}
use Rattle.std.proofs.lemmas.Bool.{and_from}
use Rattle.std.proofs.lemmas.List.{get_or-set_same, get_or-set_other}
use Rattle.pg_program.specs.declared.syntax.Stmt.{Stmt}
use Rattle.pg_program.specs.declared.syntax.Act.{Act}
use Rattle.pg_program.specs.declared.syntax.Act.TheOpen.{Act-F}
use Rattle.pg_program.specs.declared.point.Step.{Step}
use Rattle.pg_program.specs.Program.{ProgramTable}
use Rattle.pg_program.specs.Words.{is_in, targets}
use Rattle.pg_assertion.specs.declared.atom.ViewAtom.{ViewAtom}
use Rattle.pg_assertion.specs.declared.atom.ViewAtom.TheVariants.{Scalar, Read, Then, Newest, Ordered, Fenced}
use Rattle.pg_assertion.specs.declared.step_atom.StepAtom.{StepAtom}
use Rattle.pg_assertion.specs.Layout.{Sizes, sizes}
use Rattle.pg_machine.specs.declared.event.Event.{Event}
use Rattle.pg_machine.specs.Memory.{value_at}
use Rattle.pg_machine.specs.State.{State, coh_of}
use Rattle.pg_machine.specs.Moves.{Seen, can_read, loaded}
use Rattle.pg_machine.specs.Step.{Left, leaves, seen_by}
use Rattle.pg_machine.proofs.Reached.{reaches_of}
use Rattle.pg_machine.proofs.Scan.{is_at-within}
use Rattle.pg_views.specs.Atom.{may_read, may_read_then, reads_newest, covers_ordered, covers_fenced, atom_holds}
use Rattle.pg_views.specs.Valuation.{step_atom_holds}
use Rattle.pg_views.proofs.Axioms.{then-at}
use Rattle.pg_views.proofs.Below.{shown-at}
use Rattle.pg_tables.specs.Shapes.{before, after, frame}
use Rattle.pg_tables.specs.Truth.{AllTrue}
use Rattle.pg_tables.proofs.Truth.{all-one, all-cons, all-append, all-values, all-only_where}
use Rattle.pg_rules_access.specs.Load.{load_loses, load_gains, load_scalar, load_read, load_then, load_view, load}
use Rattle.pg_soundness.proofs.Stepped.{Stepped}
use Rattle.pg_soundness.proofs.Rows.{AreRows, by_own, gives, scalar-after}
use Rattle.pg_soundness.proofs.Views as views
use Rattle.pg_soundness.proofs.Kept.{framed, framed_scalar, same_other, same_last}

-- A load of x at p into r: the thread could read x there.
pub record LoadsAt (n : Seen) (before : List ℕ) (r x p : ℕ) (left : Left) : Type 0 where
  pub can : can_read n x p ≡ true
  pub is : left ≡ leaves (loaded n x p) (set before r (value_at n.memory x p))
  pub low : r < length before
  pub inside : x < length n.memory.initial

module _ (p : ProgramTable) (s : State) (e : Event) (step : Step) (next : State) (stmt : Stmt) (left : Left) (h : Stepped p s e step next stmt left) (act : Act-F Act Stmt) (choice : Option ℕ)
    (r x q : ℕ) (at : LoadsAt (seen_by s e.thread) s.scalars r x q left) (free : is_in r (targets stmt) ≡ false) where
  abbrev val : StepAtom → Bool
  val = step_atom_holds p.names.domain act choice s next

  abbrev l : Sizes
  l = sizes p.names (length p.threads)

  abbrev n : Seen
  n = seen_by s e.thread

  abbrev m : Seen
  m = loaded n x q

  sees : seen_by next e.thread ≡ m
  sees = h.own ∙ ap (λ (k : Left). k.seen) at.is

  same : left.seen.memory ≡ s.memory
  same = ap (λ (k : Left). k.seen.memory) at.is

  taken : get_or left.scalars r 0 ≡ value_at n.memory x q
  taken = ap (λ (k : Left). get_or k.scalars r 0) at.is ∙ get_or-set_same s.scalars r (value_at n.memory x q) 0 at.low

  value : get_or next.scalars r 0 ≡ value_at n.memory x q
  value = scalar-after p s e step next stmt left h r free ∙ taken

  -- the value at its position may be read
  pub load_readable : (k : ℕ) → val (after (Scalar r k)) ≡ true → val (before (Read e.thread x k)) ≡ true
  load_readable k holds =
      shown-at n.memory x (coh_of n.views x) n.views.vrn k q
      (and_from (can_read n x q) (value_at n.memory x q == k) at.can (ap (λ (v : ℕ). v == k) (sym value) ∙ holds))

  -- and after it what the thread may read then
  pub load_pairs : (v z w : ℕ) → val (after (Scalar r v)) ≡ true → may_read m z w ≡ true → val (before (Then e.thread x v z w)) ≡ true
  load_pairs v z w holds can =
      let within = is_at-within n.memory.messages x q (reaches_of n.memory.messages x (coh_of n.views x) n.views.vrn q at.can).at in
      then-at n x v z w q (record { within = omega (arith, within); reached = at.can; value = ap (λ (k : ℕ). k == v) (sym value) ∙ holds }) can

  pub load_scalars : (k j : ℕ) → is_in k (targets stmt) ≡ false → AllTrue val (load_scalar (k == r) e.thread x k j)
  load_scalars k j out =
      by_own val r (λ b i. load_scalar b e.thread x i j) k
      (all-only_where val (after (Scalar r j)) (before (Read e.thread x j)) (load_readable j))
      (λ there. framed_scalar p s e step next stmt left h act choice k j out
      (ap (λ (i : Left). get_or i.scalars k 0) at.is ∙ get_or-set_other s.scalars r k (value_at n.memory x q) 0 there))

  -- ---- the atoms of the acting thread

  module _ (a : ViewAtom) (f : Seen → Bool) (old : atom_holds s a ≡ f n) (new : atom_holds next a ≡ f m) where
    own-loses : (f m ≡ true → f n ≡ true) → (reads_newest n x ≡ true → f m ≡ f n) → AllTrue val (load_loses e.thread x a)
    own-loses less keeps =
        all-cons val _ _ (gives val (after a ∷ []) (before a) (λ t. old ∙ less (sym new ∙ t.0)))
        (all-one val _ (gives val (before (Newest e.thread x) ∷ before a ∷ []) (after a) (λ t. new ∙ (keeps t.0 ∙ (sym old ∙ t.1.0)))))

    own-gains : (f n ≡ true → f m ≡ true) → (reads_newest n x ≡ true → f m ≡ f n) → AllTrue val (load_gains e.thread x a)
    own-gains more keeps =
        all-cons val _ _ (gives val (before a ∷ []) (after a) (λ t. new ∙ more (sym old ∙ t.0)))
        (all-one val _ (gives val (before (Newest e.thread x) ∷ after a ∷ []) (before a) (λ t. old ∙ (sym (keeps t.0) ∙ (sym new ∙ t.1.0)))))

  own-read : (z w : ℕ) → AllTrue val (load_read l true e.thread r x e.thread z w)
  own-read z w =
      let new : val (after (Read e.thread z w)) ≡ may_read m z w = ap (λ (k : Seen). may_read k z w) sees in
      all-append val _ _
      (all-only_where val (after (Read e.thread z w)) (before (Read e.thread z w)) (λ holds. views.load-read n x q h.own_views h.lined at.inside at.can z w (sym new ∙ holds)))
      (all-append val _ _
      (all-values val l (λ v iv. all-one val _ (gives val (after (Scalar r v) ∷ after (Read e.thread z w) ∷ []) (before (Then e.thread x v z w)) (λ t. load_pairs v z w t.0 (sym new ∙ t.1.0)))))
      (all-one val _ (gives val (before (Newest e.thread x) ∷ before (Read e.thread z w) ∷ []) (after (Read e.thread z w)) (λ t.
      new ∙ (views.kept-read n x q h.own_views h.lined at.inside at.can t.0 z w ∙ t.1.0)))))

  -- ---- the atoms of each thread

  other-frame : (a : ViewAtom) (t : ℕ) → 1 ≤ t → t ≢ e.thread → (f : Seen → Bool) → atom_holds next a ≡ f (seen_by next t) → atom_holds s a ≡ f (seen_by s t) → AllTrue val (frame a)
  other-frame a t from other f new old =
      framed p s e step next stmt left h act choice a (new ∙ (ap f (same_other p s e step next stmt left h act choice same t from other) ∙ sym old))

  pub load_rows : AreRows val l (load l e.thread r x)
  load_rows = record {
    last = λ z v i. same_last p s e step next stmt left h act choice same z v;
    read = λ t z w i. by_own val e.thread (λ b u. load_read l b e.thread r x u z w) t
        (own-read z w)
        (λ other. other-frame (Read t z w) t i.0.first other (λ k. may_read k z w) refl refl);
    pairs = λ t z v u w i. by_own val e.thread (λ b k. load_then b e.thread x (Then k z v u w)) t
        (own-loses (Then e.thread z v u w) (λ k. may_read_then k z v u w) refl (ap (λ (k : Seen). may_read_then k z v u w) sees)
        (views.load-then n x q h.own_views h.lined at.inside at.can z v u w) (λ newest. views.kept-then n x q h.own_views h.lined at.inside at.can newest z v u w))
        (λ other. other-frame (Then t z v u w) t i.0.first other (λ k. may_read_then k z v u w) refl refl);
    newest = λ t z i. by_own val e.thread (λ b u. load_view b e.thread x (Newest u z)) t
        (own-gains (Newest e.thread z) (λ k. reads_newest k z) refl (ap (λ (k : Seen). reads_newest k z) sees)
        (views.load-newest n x q h.own_views h.lined at.inside at.can z) (λ newest. views.kept-newest n x q h.own_views h.lined at.inside at.can newest z))
        (λ other. other-frame (Newest t z) t i.0.first other (λ k. reads_newest k z) refl refl);
    ordered = λ t z i. by_own val e.thread (λ b u. load_view b e.thread x (Ordered u z)) t
        (own-gains (Ordered e.thread z) (λ k. covers_ordered k z) refl (ap (λ (k : Seen). covers_ordered k z) sees)
        (views.load-ordered n x q h.own_views h.lined at.inside at.can z) (λ newest. views.kept-ordered n x q h.own_views h.lined at.inside at.can newest z))
        (λ other. other-frame (Ordered t z) t i.0.first other (λ k. covers_ordered k z) refl refl);
    fenced = λ t z i. by_own val e.thread (λ b u. load_view b e.thread x (Fenced u z)) t
        (own-gains (Fenced e.thread z) (λ k. covers_fenced k z) refl (ap (λ (k : Seen). covers_fenced k z) sees)
        (views.load-fenced n x q h.own_views h.lined at.inside at.can z) (λ newest. views.kept-fenced n x q h.own_views h.lined at.inside at.can newest z))
        (λ other. other-frame (Fenced t z) t i.0.first other (λ k. covers_fenced k z) refl refl);
  }
