-- The access rules of a step are true of each step of the machine through it, act by act.
use Rattle.std.proofs.Common.{◌≡◌, ℕ, ◌<◌, ◌≤◌, ◌==◌, Bool, true, false, List, [], ◌++◌, length, get_or, set, Option, Some, None, refl, sym, ap, ap₂, subst, ◌∙◌}
use Rattle.std.specs.List.{All}
use Rattle.std.proofs.lemmas.Bool.{eqb-true, eq-eqb, or_left}
use Rattle.std.proofs.lemmas.List.Elements.{All-head, All-tail}
use Rattle.pg_program.specs.declared.syntax.Expr.{Expr}
use Rattle.pg_program.specs.declared.syntax.Cond.{Cond}
use Rattle.pg_program.specs.declared.syntax.Stmt.{Stmt}
use Rattle.pg_program.specs.declared.syntax.Act.{Act}
use Rattle.pg_program.specs.declared.syntax.Act.TheOpen.{Act-F, Assign, Store, Load, Cas, Mfence, Sfence, Flush, Flushopt, If, While}
use Rattle.pg_program.specs.declared.point.Branch.{Branch}
use Rattle.pg_program.specs.declared.point.Step.{Step}
use Rattle.pg_program.specs.Expr.{reads, value}
use Rattle.pg_program.specs.Limits.{most_scalars}
use Rattle.pg_program.specs.Program.{ProgramTable, stmt_at}
use Rattle.pg_program.specs.Words.{is_in, targets, outside_in, locations_in}
use Rattle.pg_program.proofs.ExprLemmas.{All-front, All-behind}
use Rattle.pg_program.proofs.ProgramLemmas.{has_values}
use Rattle.pg_assertion.specs.declared.atom.ViewAtom.TheVariants.{Scalar}
use Rattle.pg_assertion.specs.declared.step_atom.StepAtom.{StepAtom}
use Rattle.pg_assertion.specs.declared.step_atom.StepAtom.TheVariants.{Value, Expected}
use Rattle.pg_assertion.specs.Layout.{Sizes, sizes}
use Rattle.pg_machine.specs.declared.event.Event.{Event}
use Rattle.pg_machine.specs.Memory.{last_value}
use Rattle.pg_machine.specs.State.{State}
use Rattle.pg_machine.specs.Moves.{Seen, fenced, store_fenced, flushed, flush_begun}
use Rattle.pg_machine.specs.Step.{Left, Row, leaves, act_of, branch_taken, seen_by}
use Rattle.pg_views.specs.Valuation.{step_atom_holds, valuation, is_success}
use Rattle.pg_tables.specs.Shapes.{frame}
use Rattle.pg_tables.specs.Truth.{AllTrue}
use Rattle.pg_tables.proofs.Truth.{all-none, all-append}
use Rattle.pg_rules_access.specs.Access.{act_values, act_row, rules_of, stmt_rules, access}
use Rattle.pg_soundness.specs.Soundness.{AccessRulesAreTrue}
use Rattle.pg_soundness.proofs.Stepped.{Stepped, stepped, valuation-is}
use Rattle.pg_soundness.proofs.Rows.{AreRows, true_rows, true_scalars, all-same}
use Rattle.pg_soundness.proofs.Expressions.{AreBefore, true_value, true_test, true_expects}
use Rattle.pg_soundness.proofs.Assignments.{unassigned, true_bracket}
use Rattle.pg_soundness.proofs.Kept.{Keeps, keeps-same, framed_scalar, frames_kept, true_assigned}
use Rattle.pg_soundness.proofs.FenceRows.{mfence_rows, sfence_rows}
use Rattle.pg_soundness.proofs.LoadRows.{LoadsAt, load_rows, load_scalars}
use Rattle.pg_soundness.proofs.CasRows.{cas_rows, cas_scalars}
use Rattle.pg_soundness.proofs.StoreRows.{store_rows, store_scalars}

-- ---- what the row of an act says

module _ (d : ℕ) (n : Seen) (r : List ℕ) (left : Left) where
  assign-left : (q : ℕ) (e : Expr) (c : Option ℕ) → Row d n r (Assign q e) c left → left ≡ leaves n (set r q (value r d e))
  assign-left q e None h = h
  assign-left q e (Some p) h = absurd h

  mfence-left : (c : Option ℕ) → Row d n r Mfence c left → left ≡ leaves (fenced n) r
  mfence-left None h = h
  mfence-left (Some p) h = absurd h

  sfence-left : (c : Option ℕ) → Row d n r Sfence c left → left ≡ leaves (store_fenced n) r
  sfence-left None h = h
  sfence-left (Some p) h = absurd h

  flush-left : (x : ℕ) (c : Option ℕ) → Row d n r (Flush x) c left → left ≡ leaves (flushed n x) r
  flush-left x None h = h
  flush-left x (Some p) h = absurd h

  flushopt-left : (x : ℕ) (c : Option ℕ) → Row d n r (Flushopt x) c left → left ≡ leaves (flush_begun n x) r
  flushopt-left x None h = h
  flushopt-left x (Some p) h = absurd h

  if-left : (t : Cond) (a b : List Stmt) (c : Option ℕ) → Row d n r (If t a b) c left → left ≡ leaves n r
  if-left t a b None h = h
  if-left t a b (Some p) h = absurd h

  while-left : (t : Cond) (a : List Stmt) (c : Option ℕ) → Row d n r (While t a) c left → left ≡ leaves n r
  while-left t a None h = h
  while-left t a (Some p) h = absurd h

  load-left : (q x : ℕ) (c : Option ℕ) → q < length r → x < length n.memory.initial → Row d n r (Load q x) c left → (p : ℕ) × LoadsAt n r q x p left
  load-left q x None low inside h = absurd h
  load-left q x (Some p) low inside h = (p, record { can = h.0; is = h.1; low = low; inside = inside })

  cas-expected : (q x : ℕ) (e f : Expr) (c : Option ℕ) → Row d n r (Cas q x e f) c left → is_success (Cas q x e f) c ≡ true → last_value n.memory x ≡ value r d e
  cas-expected q x e f None h is = h.0
  cas-expected q x e f (Some p) h is = cc

-- ---- each act

-- In this valuation what an act's expressions say is true, and so is the row of each atom.
record ActTrue (p : ProgramTable) (val : StepAtom → Bool) (t : ℕ) (branch : Branch) (stmt : Stmt) (act : Act-F Act Stmt) : Type 0 where
  values : AllTrue val (act_values (sizes p.names (length p.threads)) branch act)
  scalars : (q k : ℕ) → is_in q (targets stmt) ≡ false → AllTrue val (act_row (sizes p.names (length p.threads)) p.names t act (Scalar q k))
  rows : AreRows val (sizes p.names (length p.threads)) (act_row (sizes p.names (length p.threads)) p.names t act)

module _ (p : ProgramTable) (s : State) (e : Event) (step : Step) (next : State) (stmt : Stmt) (left : Left) (h : Stepped p s e step next stmt left) (few : length p.names.scalars ≤ most_scalars) where
  abbrev l : Sizes
  l = sizes p.names (length p.threads)

  abbrev d : ℕ
  d = p.names.domain

  abbrev n : Seen
  n = seen_by s e.thread

  abbrev val_of : Act-F Act Stmt → StepAtom → Bool
  val_of act = step_atom_holds d act e.choice s next

  are_before : (act : Act-F Act Stmt) → AreBefore (val_of act) l s.scalars
  are_before act = record { some = has_values p h.built; few = few; inside = h.formed.scalars.1; is = λ q k. refl }

  module _ (act : Act-F Act Stmt) (is : act_of stmt ≡ act) where
    row : Row d n s.scalars act e.choice left
    row = subst (λ (a : Act-F Act Stmt). Row d n s.scalars a e.choice left) is h.row

    over : All (λ q. q < length s.scalars) (outside_in act)
    over = subst (λ (a : Act-F Act Stmt). All (λ (q : ℕ). q < length s.scalars) (outside_in a)) is (All-front (λ (q : ℕ). q < length s.scalars) (outside_in (act_of stmt)) _ h.over_scalars)

    declared : All (λ q. q < l.scalars) (outside_in act)
    declared = subst (λ (k : ℕ). All (λ (q : ℕ). q < k) (outside_in act)) h.formed.scalars.0 over

    on : All (λ x. x < length s.memory.initial) (locations_in act)
    on = subst (λ (a : Act-F Act Stmt). All (λ (x : ℕ). x < length s.memory.initial) (locations_in a)) is h.over_locations

    free : (q : ℕ) → is_in q (outside_in act) ≡ true → is_in q (targets stmt) ≡ false
    free q here = unassigned p s e step next stmt left h q (ap (λ (a : Act-F Act Stmt). is_in q (outside_in a)) is ∙ here)

    -- an act that leaves what its thread sees, and all scalars
    kept_rows : (m : Seen) → left ≡ leaves m s.scalars → m.memory ≡ s.memory → Keeps n m → AreRows (val_of act) l frame
    kept_rows m leaves-it same keeps =
        frames_kept p s e step next stmt left h act e.choice (ap (λ (k : Left). k.seen.memory) leaves-it ∙ same) (subst (λ (k : Left). Keeps n k.seen) (sym leaves-it) keeps)

    kept_scalars : (r : List ℕ) → left.scalars ≡ r → r ≡ s.scalars → (q k : ℕ) → is_in q (targets stmt) ≡ false → AllTrue (val_of act) (frame (Scalar q k))
    kept_scalars r leaves-it same q k out = framed_scalar p s e step next stmt left h act e.choice q k out (ap (λ (m : List ℕ). get_or m q 0) (leaves-it ∙ same))

  -- ---- the acts

  assign_true : (q : ℕ) (x : Expr) → act_of stmt ≡ Assign q x → ActTrue p (val_of (Assign q x)) e.thread step.branch stmt (Assign q x)
  assign_true q x is =
      let act : Act-F Act Stmt = Assign q x in
      let leaves-it = assign-left d n s.scalars left q x e.choice (row act is) in
      let f = frames_kept p s e step next stmt left h act e.choice (ap (λ (k : Left). k.seen.memory) leaves-it) (keeps-same n left.seen (ap (λ (k : Left). k.seen) leaves-it)) in
      record {
        values = true_value (val_of act) l s.scalars (are_before act) x Value (All-tail (λ (k : ℕ). k < l.scalars) q (reads x) (declared act is)) (λ v. refl);
        scalars = true_assigned p s e step next stmt left h q x e.choice (ap (λ (k : Left). k.scalars) leaves-it) (All-head (λ (k : ℕ). k < length s.scalars) q (reads x) (over act is)) (free act is q (or_left (q == q) (is_in q (reads x)) (eq-eqb q q refl)));
        rows = record { last = f.last; read = f.read; pairs = f.pairs; newest = f.newest; ordered = f.ordered; fenced = f.fenced };
      }

  store_true : (x : ℕ) (v : Expr) → act_of stmt ≡ Store x v → ActTrue p (val_of (Store x v)) e.thread step.branch stmt (Store x v)
  store_true x v is =
      let act : Act-F Act Stmt = Store x v in
      record {
        values = true_value (val_of act) l s.scalars (are_before act) v Value (declared act is) (λ k. refl);
        scalars = λ q k out. subst (λ (a : Act-F Act Stmt). AllTrue (val_of a) (act_row l p.names e.thread act (Scalar q k))) is (store_scalars p s e step next stmt left h x v is q k out);
        rows = subst (λ (a : Act-F Act Stmt). AreRows (val_of a) l (act_row l p.names e.thread act)) is (store_rows p s e step next stmt left h x v is);
      }

  load_true : (q x : ℕ) → act_of stmt ≡ Load q x → ActTrue p (val_of (Load q x)) e.thread step.branch stmt (Load q x)
  load_true q x is =
      let act : Act-F Act Stmt = Load q x in
      let low = All-head (λ (k : ℕ). k < length s.scalars) q [] (over act is) in
      let at = load-left d n s.scalars left q x e.choice low (All-head (λ (k : ℕ). k < length s.memory.initial) x [] (on act is)) (row act is) in
      let out = free act is q (or_left (q == q) false (eq-eqb q q refl)) in
      record {
        values = all-none (val_of act);
        scalars = load_scalars p s e step next stmt left h act e.choice q x at.0 at.1 out;
        rows = load_rows p s e step next stmt left h act e.choice q x at.0 at.1 out;
      }

  cas_true : (q x : ℕ) (v w : Expr) → act_of stmt ≡ Cas q x v w → ActTrue p (val_of (Cas q x v w)) e.thread step.branch stmt (Cas q x v w)
  cas_true q x v w is =
      let act : Act-F Act Stmt = Cas q x v w in
      let names = All-tail (λ (k : ℕ). k < l.scalars) q (reads v ++ reads w) (declared act is) in
      let out = free act is q (or_left (q == q) (is_in q (reads v ++ reads w)) (eq-eqb q q refl)) in
      record {
        values = all-append (val_of act) _ _
            (true_value (val_of act) l s.scalars (are_before act) v Expected (All-front (λ (k : ℕ). k < l.scalars) (reads v) (reads w) names) (λ k. refl))
            (all-append (val_of act) _ _
            (true_value (val_of act) l s.scalars (are_before act) w Value (All-behind (λ (k : ℕ). k < l.scalars) (reads v) (reads w) names) (λ k. refl))
            (true_expects (val_of act) l x (λ succeeds k expects.
            eq-eqb (last_value s.memory x) k (cas-expected d n s.scalars left q x v w e.choice (row act is) succeeds ∙ eqb-true (value s.scalars d v) k expects))));
        scalars = λ i k other. subst (λ (a : Act-F Act Stmt). AllTrue (val_of a) (act_row l p.names e.thread act (Scalar i k))) is (cas_scalars p s e step next stmt left h q x v w is out i k other);
        rows = subst (λ (a : Act-F Act Stmt). AreRows (val_of a) l (act_row l p.names e.thread act)) is (cas_rows p s e step next stmt left h q x v w is out);
      }

  fence_true : act_of stmt ≡ Mfence → ActTrue p (val_of Mfence) e.thread step.branch stmt Mfence
  fence_true is =
      let leaves-it = mfence-left d n s.scalars left e.choice (row Mfence is) in
      record {
        values = all-none (val_of Mfence);
        scalars = kept_scalars Mfence is s.scalars (ap (λ (k : Left). k.scalars) leaves-it) refl;
        rows = mfence_rows p s e step next stmt left h Mfence e.choice (ap (λ (k : Left). k.seen) leaves-it);
      }

  store_fence_true : act_of stmt ≡ Sfence → ActTrue p (val_of Sfence) e.thread step.branch stmt Sfence
  store_fence_true is =
      let leaves-it = sfence-left d n s.scalars left e.choice (row Sfence is) in
      record {
        values = all-none (val_of Sfence);
        scalars = kept_scalars Sfence is s.scalars (ap (λ (k : Left). k.scalars) leaves-it) refl;
        rows = sfence_rows p s e step next stmt left h Sfence e.choice (ap (λ (k : Left). k.seen) leaves-it);
      }

  flush_true : (x : ℕ) → act_of stmt ≡ Flush x → ActTrue p (val_of (Flush x)) e.thread step.branch stmt (Flush x)
  flush_true x is =
      let act : Act-F Act Stmt = Flush x in
      let leaves-it = flush-left d n s.scalars left x e.choice (row act is) in
      record {
        values = all-none (val_of act);
        scalars = kept_scalars act is s.scalars (ap (λ (k : Left). k.scalars) leaves-it) refl;
        rows = kept_rows act is (flushed n x) leaves-it refl
            (record { read = λ z v. refl; pairs = λ z v u w. refl; newest = λ z. refl; ordered = λ z. refl; fenced = λ z. refl });
      }

  flushopt_true : (x : ℕ) → act_of stmt ≡ Flushopt x → ActTrue p (val_of (Flushopt x)) e.thread step.branch stmt (Flushopt x)
  flushopt_true x is =
      let act : Act-F Act Stmt = Flushopt x in
      let leaves-it = flushopt-left d n s.scalars left x e.choice (row act is) in
      record {
        values = all-none (val_of act);
        scalars = kept_scalars act is s.scalars (ap (λ (k : Left). k.scalars) leaves-it) refl;
        rows = kept_rows act is (flush_begun n x) leaves-it refl
            (record { read = λ z v. refl; pairs = λ z v u w. refl; newest = λ z. refl; ordered = λ z. refl; fenced = λ z. refl });
      }

  -- the branch that is taken is the one of the step
  branch-of : (act : Act-F Act Stmt) → act_of stmt ≡ act → step.branch ≡ branch_taken d s.scalars act
  branch-of act is = h.branch ∙ ap (branch_taken d s.scalars) is

  if_true : (t : Cond) (a b : List Stmt) → act_of stmt ≡ If t a b → ActTrue p (val_of (If t a b)) e.thread step.branch stmt (If t a b)
  if_true t a b is =
      let act : Act-F Act Stmt = If t a b in
      let leaves-it = if-left d n s.scalars left t a b e.choice (row act is) in
      record {
        values = true_test (val_of act) l s.scalars (are_before act) t step.branch (declared act is) refl (branch-of act is);
        scalars = kept_scalars act is s.scalars (ap (λ (k : Left). k.scalars) leaves-it) refl;
        rows = kept_rows act is n leaves-it refl (keeps-same n n refl);
      }

  while_true : (t : Cond) (a : List Stmt) → act_of stmt ≡ While t a → ActTrue p (val_of (While t a)) e.thread step.branch stmt (While t a)
  while_true t a is =
      let act : Act-F Act Stmt = While t a in
      let leaves-it = while-left d n s.scalars left t a e.choice (row act is) in
      record {
        values = true_test (val_of act) l s.scalars (are_before act) t step.branch (declared act is) refl (branch-of act is);
        scalars = kept_scalars act is s.scalars (ap (λ (k : Left). k.scalars) leaves-it) refl;
        rows = kept_rows act is n leaves-it refl (keeps-same n n refl);
      }

  act_true : (act : Act-F Act Stmt) → act_of stmt ≡ act → ActTrue p (val_of act) e.thread step.branch stmt act
  act_true (Assign q x) is = assign_true q x is
  act_true (Store x v) is = store_true x v is
  act_true (Load q x) is = load_true q x is
  act_true (Cas q x v w) is = cas_true q x v w is
  act_true Mfence is = fence_true is
  act_true Sfence is = store_fence_true is
  act_true (Flush x) is = flush_true x is
  act_true (Flushopt x) is = flushopt_true x is
  act_true (If t a b) is = if_true t a b is
  act_true (While t a) is = while_true t a is

  -- ---- the step

  stmt_true : AllTrue (val_of (act_of stmt)) (stmt_rules l p.names e.thread step.branch stmt)
  stmt_true =
      let val = val_of (act_of stmt) in
      let act = act_true (act_of stmt) refl in
      all-append val _ _ act.values
      (all-append val _ _ (true_scalars val l (targets stmt) (act_row l p.names e.thread (act_of stmt)) (λ q k lt out. act.scalars q k out))
      (all-append val _ _ (true_bracket p s e step next stmt left h few)
      (true_rows val l (act_row l p.names e.thread (act_of stmt)) act.rows)))

  -- the rules of the step are those of the statement at which its thread stands
  rules-are : access p step ≡ stmt_rules l p.names e.thread step.branch stmt
  rules-are =
      ap₂ (λ (t k : ℕ). rules_of l p.names t step.branch (stmt_at p t k)) h.thread h.point
      ∙ ap (λ (o : Option Stmt). rules_of l p.names e.thread step.branch o) h.stands

  pub step_true : AllTrue (valuation p e s next) (access p step)
  step_true =
      all-same (valuation p e s next) (val_of (act_of stmt)) (valuation-is p s e step next stmt left h) (access p step)
      (subst (AllTrue (val_of (act_of stmt))) (sym rules-are) stmt_true)

pub access_rules_are_true : AccessRulesAreTrue
access_rules_are_true p few s e step next built formed is =
    step_true p s e step next is.stmt is.left (stepped p s e step next built formed is) few
