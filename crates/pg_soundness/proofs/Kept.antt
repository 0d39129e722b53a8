-- Steps that append no message: what other threads see stays as it was, and where the acting thread sees the same too, each atom of
-- memory has its frame.
use Rattle.std.proofs.Common.{◌≡◌, ◌≢◌, ℕ, ◌<◌, ◌≤◌, ◌==◌, Bool, false, List, length, get_or, set, Option, sym, ap, inl, inr, ◌∙◌}
use Rattle.std.proofs.lemmas.Bool.{cases_eq}
use Rattle.std.proofs.lemmas.List.{get_or-set_same, get_or-set_other}
use Rattle.pg_program.specs.declared.syntax.Expr.{Expr}
use Rattle.pg_program.specs.declared.syntax.Stmt.{Stmt}
use Rattle.pg_program.specs.declared.syntax.Act.{Act}
use Rattle.pg_program.specs.declared.syntax.Act.TheOpen.{Act-F, Assign}
use Rattle.pg_program.specs.declared.point.Step.{Step}
use Rattle.pg_program.specs.Expr.{value}
use Rattle.pg_program.specs.Program.{ProgramTable}
use Rattle.pg_program.specs.Words.{is_in, targets}
use Rattle.pg_assertion.specs.declared.atom.ViewAtom.{ViewAtom}
use Rattle.pg_assertion.specs.declared.atom.ViewAtom.TheVariants.{Scalar, Last, Read, Then, Newest, Ordered, Fenced}
use Rattle.pg_assertion.specs.declared.step_atom.StepAtom.{StepAtom}
use Rattle.pg_assertion.specs.declared.step_atom.StepAtom.TheVariants.{Value}
use Rattle.pg_assertion.specs.Layout.{Sizes, sizes}
use Rattle.pg_machine.specs.declared.event.Event.{Event}
use Rattle.pg_machine.specs.Memory.{Memory}
use Rattle.pg_machine.specs.State.{State}
use Rattle.pg_machine.specs.Moves.{Seen}
use Rattle.pg_machine.specs.Step.{Left, seen_by, views_of}
use Rattle.pg_views.specs.Atom.{is_last, may_read, may_read_then, reads_newest, covers_ordered, covers_fenced, atom_holds}
use Rattle.pg_views.specs.Valuation.{step_atom_holds}
use Rattle.pg_tables.specs.Shapes.{before, after, frame}
use Rattle.pg_tables.specs.Truth.{AllTrue}
use Rattle.pg_tables.proofs.Truth.{all-becomes}
use Rattle.pg_rules_access.specs.Load.{assign_scalar}
use Rattle.pg_soundness.proofs.Stepped.{Stepped}
use Rattle.pg_soundness.proofs.Rows.{AreRows, by_own, scalar-after}

-- from m a thread may read what it may read from n, and the same is covered
pub record Keeps (n m : Seen) : Type 0 where
  pub read : (z v : ℕ) → may_read m z v ≡ may_read n z v
  pub pairs : (z v u w : ℕ) → may_read_then m z v u w ≡ may_read_then n z v u w
  pub newest : (z : ℕ) → reads_newest m z ≡ reads_newest n z
  pub ordered : (z : ℕ) → covers_ordered m z ≡ covers_ordered n z
  pub fenced : (z : ℕ) → covers_fenced m z ≡ covers_fenced n z

pub keeps-same : (n m : Seen) → m ≡ n → Keeps n m
keeps-same n m e = record {
  read = λ z v. ap (λ (k : Seen). may_read k z v) e;
  pairs = λ z v u w. ap (λ (k : Seen). may_read_then k z v u w) e;
  newest = λ z. ap (λ (k : Seen). reads_newest k z) e;
  ordered = λ z. ap (λ (k : Seen). covers_ordered k z) e;
  fenced = λ z. ap (λ (k : Seen). covers_fenced k z) e;
}

module _ (p : ProgramTable) (s : State) (e : Event) (step : Step) (next : State) (stmt : Stmt) (left : Left) (h : Stepped p s e step next stmt left) (act : Act-F Act Stmt) (choice : Option ℕ) where
  abbrev val : StepAtom → Bool
  val = step_atom_holds p.names.domain act choice s next

  abbrev l : Sizes
  l = sizes p.names (length p.threads)

  pub framed : (a : ViewAtom) → atom_holds next a ≡ atom_holds s a → AllTrue val (frame a)
  framed a same = all-becomes val (after a) (before a) same

  -- a scalar that neither the act nor the bracket assigns
  pub framed_scalar : (q k : ℕ) → is_in q (targets stmt) ≡ false → get_or left.scalars q 0 ≡ get_or s.scalars q 0 → AllTrue val (frame (Scalar q k))
  framed_scalar q k free same = framed (Scalar q k) (ap (λ (v : ℕ). v == k) (scalar-after p s e step next stmt left h q free ∙ same))

  module _ (same : left.seen.memory ≡ s.memory) where
    pub same_other : (t : ℕ) → 1 ≤ t → t ≢ e.thread → seen_by next t ≡ seen_by s t
    same_other t from other = h.other t from other ∙ ap (λ (m : Memory). let n : Seen = record { memory = m; views = views_of s t } in n) same

    pub same_last : (z v : ℕ) → AllTrue val (frame (Last z v))
    same_last z v = framed (Last z v) (ap (λ (m : Memory). is_last m z v) (h.memory ∙ same))

    -- what holds of what the acting thread sees as it did, holds so of each thread
    pub kept-at : (t : ℕ) → 1 ≤ t → (f : Seen → Bool) → f left.seen ≡ f (seen_by s e.thread) → f (seen_by next t) ≡ f (seen_by s t)
    kept-at t from f own = elim (cases_eq t e.thread) [
      | inl mine ↦ ap (λ (u : ℕ). f (seen_by next u)) mine ∙ (ap f h.own ∙ (own ∙ ap (λ (u : ℕ). f (seen_by s u)) (sym mine)))
      | inr other ↦ ap f (same_other t from other)
    ]

    -- where the acting thread sees the same too
    module _ (k : Keeps (seen_by s e.thread) left.seen) where
      pub frames_kept : AreRows val l frame
      frames_kept = record {
        last = λ z v i. same_last z v;
        read = λ t z v i. framed (Read t z v) (kept-at t i.0.first (λ n. may_read n z v) (k.read z v));
        pairs = λ t z v u w i. framed (Then t z v u w) (kept-at t i.0.first (λ n. may_read_then n z v u w) (k.pairs z v u w));
        newest = λ t z i. framed (Newest t z) (kept-at t i.0.first (λ n. reads_newest n z) (k.newest z));
        ordered = λ t z i. framed (Ordered t z) (kept-at t i.0.first (λ n. covers_ordered n z) (k.ordered z));
        fenced = λ t z i. framed (Fenced t z) (kept-at t i.0.first (λ n. covers_fenced n z) (k.fenced z));
      }

-- an assignment to a scalar
module _ (p : ProgramTable) (s : State) (e : Event) (step : Step) (next : State) (stmt : Stmt) (left : Left) (h : Stepped p s e step next stmt left) (r : ℕ) (x : Expr) (choice : Option ℕ) where
  abbrev assign_val : StepAtom → Bool
  assign_val = step_atom_holds p.names.domain (Assign r x) choice s next

  pub true_assigned : left.scalars ≡ set s.scalars r (value s.scalars p.names.domain x) → r < length s.scalars → is_in r (targets stmt) ≡ false
      → (q k : ℕ) → is_in q (targets stmt) ≡ false → AllTrue assign_val (assign_scalar (q == r) q k)
  true_assigned is inside free q k out =
      let v = value s.scalars p.names.domain x in
      by_own assign_val r (λ b i. assign_scalar b i k) q
      (all-becomes assign_val (after (Scalar r k)) (Value k)
      (ap (λ (w : ℕ). w == k) (scalar-after p s e step next stmt left h r free ∙ (ap (λ (m : List ℕ). get_or m r 0) is ∙ get_or-set_same s.scalars r v 0 inside))))
      (λ there. framed_scalar p s e step next stmt left h (Assign r x) choice q k out
      (ap (λ (m : List ℕ). get_or m q 0) is ∙ get_or-set_other s.scalars r q v 0 there))
