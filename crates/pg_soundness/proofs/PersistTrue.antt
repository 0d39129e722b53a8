-- The persistency rules of a step are true of each step of the machine through it, act by act.
use Rattle.std.proofs.Common.{◌≡◌, ℕ, ◌<◌, ◌==◌, Bool, true, false, List, [], length, get_or, Option, Some, None, refl, sym, ap, ap₂, subst, ◌∙◌, arith}
use Rattle.std.specs.List.{All}
use Rattle.std.proofs.lemmas.Bool.{eqb-true, eqb-false}
use Rattle.std.proofs.lemmas.List.Elements.{All-head}
use Rattle.pg_assertion.specs.declared.step_atom.StepAtom.{StepAtom}
use Rattle.pg_assertion.specs.Layout.{Sizes, sizes}
use Rattle.pg_program.specs.declared.point.Step.{Step}
use Rattle.pg_program.specs.declared.syntax.Stmt.{Stmt}
use Rattle.pg_program.specs.declared.syntax.Act.{Act}
use Rattle.pg_program.specs.declared.syntax.Act.TheOpen.{Act-F, Assign, Store, Load, Cas, Mfence, Sfence, Flush, Flushopt, If, While}
use Rattle.pg_program.specs.Expr.{value}
use Rattle.pg_program.specs.Words.{locations_in}
use Rattle.pg_program.specs.Program.{ProgramTable, stmt_at}
use Rattle.pg_machine.specs.declared.event.Event.{Event}
use Rattle.pg_machine.specs.Memory.{Memory, line_of, message_appended}
use Rattle.pg_machine.specs.State.{State}
use Rattle.pg_machine.specs.Moves.{Seen, stored, loaded, fenced, store_fenced, flushed, flush_begun, swapped, missed}
use Rattle.pg_machine.specs.Step.{Left, Row, act_of, seen_by, views_of}
use Rattle.pg_machine.proofs.Moved.{committed-within}
use Rattle.pg_machine.proofs.ViewLaws.{maxcoh-within, vpa-within}
use Rattle.pg_views.specs.Atom.{is_shown}
use Rattle.pg_views.specs.Valuation.{step_atom_holds, valuation}
use Rattle.pg_tables.specs.Shapes.{frame}
use Rattle.pg_tables.specs.Truth.{AllTrue}
use Rattle.pg_rules_persist.specs.Persist.{act_row, persist_rows, rules_of, persist}
use Rattle.pg_soundness.specs.Soundness.{PersistRulesAreTrue}
use Rattle.pg_soundness.proofs.Stepped.{Stepped, stepped, valuation-is}
use Rattle.pg_soundness.proofs.Rows.{all-same}
use Rattle.pg_soundness.proofs.Longer.{shown-here, shown-there}
use Rattle.pg_soundness.proofs.PersistBounds.{LeavesSeen, leaves-seen, fence-back, miss-back}
use Rattle.pg_soundness.proofs.PersistRows.{RowsAreTrue, all-rows, AreBounded, StaysAt, GainsAt, IsOfStates, idle-rows, store-rows, fence-rows, miss-rows, swap-rows}
use Rattle.pg_soundness.proofs.PersistFlush.{flush-rows, flushopt-rows}

module _ (p : ProgramTable) (s : State) (e : Event) (step : Step) (next : State) (stmt : Stmt) (left : Left) (h : Stepped p s e step next stmt left) where
  abbrev l : Sizes
  l = sizes p.names (length p.threads)

  abbrev d : ℕ
  d = p.names.domain

  abbrev n : Seen
  n = seen_by s e.thread

  bounded : AreBounded s (length p.threads)
  bounded = record {
    committed = λ k. committed-within p s k h.formed;
    begun = λ u k from upto.
        let of = h.views u from upto in
        let upto-top = vpa-within s.memory (views_of s u) of k in
        let top = maxcoh-within s.memory (views_of s u) of in
        omega (arith, upto-top, top);
  }

  leaves : (m : Seen) → left.seen ≡ m → LeavesSeen s next e.thread m
  leaves m is = leaves-seen p s e step next stmt left m h is

  module _ (act : Act-F Act Stmt) (choice : Option ℕ) where
    abbrev val : StepAtom → Bool
    val = step_atom_holds d act choice s next

    of-states : IsOfStates val s next
    of-states = record { before = λ a. refl; after = λ a. refl }

    -- the thread sees the same memory, and has written back to no line
    unwritten : (m : Seen) → left.seen ≡ m → m.memory ≡ s.memory → m.views.vpa ≡ n.views.vpa → m.views.vpc ≡ n.views.vpc → RowsAreTrue l val frame
    unwritten m is same a c =
        idle-rows l val s next of-states e.thread m (leaves m is) h.low h.high bounded
        (λ z. record { shown = λ k v le. ap (λ (o : Memory). is_shown o z 0 k v) same })
        (λ z. record { committed = ap (λ (k : List ℕ). get_or k (line_of s.memory z) 0) c })
        (λ z. record { begun = ap (λ (k : List ℕ). get_or k (line_of s.memory z) 0) a })

    -- it stored the value v to x
    stays-there : (x v : ℕ) (m : Seen) → m.memory ≡ message_appended s.memory (x, v) → (z : ℕ) → (z == x) ≡ false → StaysAt s m z
    stays-there x v m is z other = record {
      shown = λ k w le. ap (λ (o : Memory). is_shown o z 0 k w) is ∙ shown-there s.memory x v z 0 k w (eqb-false z x other) le;
    }

    gains-here : (x v : ℕ) (m : Seen) → m.memory ≡ message_appended s.memory (x, v) → (z : ℕ) → (z == x) ≡ true → GainsAt s m z v
    gains-here x v m is z here = record {
      shown = λ k w le.
          ap (λ (o : Memory). is_shown o z 0 k w) (is ∙ ap (λ (y : ℕ). message_appended s.memory (y, v)) (sym (eqb-true z x here)))
          ∙ shown-here s.memory z v 0 k w (omega arith) le;
    }

  -- ---- the acts

  act-true : (act : Act-F Act Stmt) (choice : Option ℕ) → Row d n s.scalars act choice left → All (λ x. x < length s.memory.initial) (locations_in act)
      → RowsAreTrue l (step_atom_holds d act choice s next) (act_row p.names e.thread act)
  act-true (Assign q v) None row on = unwritten (Assign q v) None n (ap (λ (k : Left). k.seen) row) refl refl refl
  act-true (Store x v) None row on =
      let m : Seen = stored n x (value s.scalars d v) in
      store-rows l (step_atom_holds d (Store x v) None s next) s next (of-states (Store x v) None) e.thread m (leaves m (ap (λ (k : Left). k.seen) row)) h.low h.high bounded
      x (value s.scalars d v) (λ k. refl)
      (gains-here (Store x v) None x (value s.scalars d v) m refl)
      (stays-there (Store x v) None x (value s.scalars d v) m refl)
      (λ z. record { committed = refl })
      (λ z. record { begun = refl })
  act-true (Load q x) (Some k) row on = unwritten (Load q x) (Some k) (loaded n x k) (ap (λ (j : Left). j.seen) row.1) refl refl refl
  act-true (Cas q x v w) None row on =
      let m : Seen = swapped n x (value s.scalars d w) in
      swap-rows l (step_atom_holds d (Cas q x v w) None s next) s next (of-states (Cas q x v w) None) e.thread m (leaves m (ap (λ (k : Left). k.seen) row.1)) h.low h.high bounded
      (λ z. record { committed = fence-back s.memory n.views (line_of s.memory z) h.own_views })
      (λ z. record { begun = refl })
      x (value s.scalars d w) refl (λ k. refl)
      (gains-here (Cas q x v w) None x (value s.scalars d w) m refl)
      (stays-there (Cas q x v w) None x (value s.scalars d w) m refl)
  act-true (Cas q x v w) (Some k) row on =
      let m : Seen = missed n x k in
      miss-rows l (step_atom_holds d (Cas q x v w) (Some k) s next) s next (of-states (Cas q x v w) (Some k)) e.thread m (leaves m (ap (λ (j : Left). j.seen) row.2)) h.low h.high bounded
      (λ z. record { committed = miss-back s.memory n.views x k (line_of s.memory z) h.own_views })
      (λ z. record { begun = refl })
      x refl (λ z. record { shown = λ j u le. refl })
  act-true Mfence None row on =
      fence-rows l (step_atom_holds d Mfence None s next) s next (of-states Mfence None) e.thread (fenced n) (leaves (fenced n) (ap (λ (k : Left). k.seen) row)) h.low h.high bounded
      (λ z. record { committed = fence-back s.memory n.views (line_of s.memory z) h.own_views })
      (λ z. record { begun = refl })
      (λ z. record { shown = λ k v le. refl })
  act-true Sfence None row on =
      fence-rows l (step_atom_holds d Sfence None s next) s next (of-states Sfence None) e.thread (store_fenced n) (leaves (store_fenced n) (ap (λ (k : Left). k.seen) row)) h.low h.high bounded
      (λ z. record { committed = fence-back s.memory n.views (line_of s.memory z) h.own_views })
      (λ z. record { begun = refl })
      (λ z. record { shown = λ k v le. refl })
  act-true (Flush x) None row on =
      flush-rows l p.names (step_atom_holds d (Flush x) None s next) s next (of-states (Flush x) None) e.thread x h.low h.high bounded h.on_lines h.own_views h.lined
      (All-head (λ (z : ℕ). z < length s.memory.initial) x [] on) (leaves (flushed n x) (ap (λ (k : Left). k.seen) row))
  act-true (Flushopt x) None row on =
      flushopt-rows l p.names (step_atom_holds d (Flushopt x) None s next) s next (of-states (Flushopt x) None) e.thread x h.low h.high bounded h.on_lines h.own_views h.lined
      (All-head (λ (z : ℕ). z < length s.memory.initial) x [] on) (leaves (flush_begun n x) (ap (λ (k : Left). k.seen) row)) (sym (h.lined ∙ h.located))
  act-true (If test a b) None row on = unwritten (If test a b) None n (ap (λ (k : Left). k.seen) row) refl refl refl
  act-true (While test a) None row on = unwritten (While test a) None n (ap (λ (k : Left). k.seen) row) refl refl refl
  act-true act choice row on = absurd row

  -- ---- the step

  pub persist-true : AllTrue (valuation p e s next) (persist p step)
  persist-true =
      let val = step_atom_holds d (act_of stmt) e.choice s next in
      let rows = all-rows l val (act_row p.names e.thread (act_of stmt)) (act-true (act_of stmt) e.choice h.row h.over_locations) in
      let rules-are : persist p step ≡ persist_rows l (act_row p.names e.thread (act_of stmt)) =
      ap₂ (λ (t k : ℕ). rules_of l p.names t (stmt_at p t k)) h.thread h.point ∙ ap (λ (o : Option Stmt). rules_of l p.names e.thread o) h.stands in
      all-same (valuation p e s next) val (valuation-is p s e step next stmt left h) (persist p step) (subst (AllTrue val) (sym rules-are) rows)

pub persist_rules_are_true : PersistRulesAreTrue
persist_rules_are_true p s e step next built formed is = persist-true p s e step next is.stmt is.left (stepped p s e step next built formed is)
