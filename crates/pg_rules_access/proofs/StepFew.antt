-- No step of a program has more access rules than the limits allow.
use Rattle.std.proofs.Common.{◌≡◌, ℕ, ◌≤◌, length, Option, None, Some, refl, arith}
use Rattle.std.proofs.lemmas.Bool.{leb-true}
use Rattle.pg_assertion.specs.Layout.{sizes}
use Rattle.pg_program.specs.declared.point.Step.{Step}
use Rattle.pg_program.specs.declared.syntax.Stmt.{Stmt, out-Stmt}
use Rattle.pg_program.specs.declared.syntax.Act.{out-Act}
use Rattle.pg_program.specs.Program.{ProgramTable, IsProgram, stmt_at}
use Rattle.pg_tables.specs.Bound.{AreWithin, largest}
use Rattle.pg_tables.specs.Steps.{IsStepOf}
use Rattle.pg_tables.proofs.Bounds.{IsAtMost, are-few, most-none}
use Rattle.pg_rules_access.specs.Access.{access, rules_of}
use Rattle.pg_rules_access.specs.Bound.{HasAtMost, most_access_rules_1, most_access_literals_1, most_access_rules_2, most_access_literals_2}
use Rattle.pg_rules_access.proofs.StmtOver.{stmt_over, targets_inside, targets_differ, target_is_free}
use Rattle.pg_rules_access.proofs.RowsFew.{more}
use Rattle.pg_rules_access.proofs.AccessFew.{cas_most, AreOrdered, few_act}

module _ (g : ℕ → ℕ) (up : (m n : ℕ) → m ≤ n → g m ≤ g n) (version : ℕ) (some : 1 ≤ (largest version).domain) (ordered : AreOrdered g (largest version)) where
  few : (p : ProgramTable) (step : Step) → IsProgram p → IsStepOf p step → AreWithin (sizes p.names (length p.threads)) (largest version)
      → IsAtMost g (access p step) (cas_most g (largest version))
  few p step is at w = by (stmt_at p step.thread step.point) refl
    where
      by : (o : Option Stmt) → stmt_at p step.thread step.point ≡ o → IsAtMost g (rules_of (sizes p.names (length p.threads)) p.names step.thread step.branch o) (cas_most g (largest version))
      by None e = more g (omega arith) (most-none g)
      by (Some s) e =
          let low = at.thread.0 in
          let high = at.thread.1 in
          let over = stmt_over p is w.scalars step.thread step.point s low high e in
          few_act g up w some p.names step.thread (record { first = low; last = high }) ordered (out-Stmt s).aux
          (record { assigns = over.1; inside = targets_inside p is step.thread step.point s low high e; different = targets_differ p is step.thread step.point s low high e }) step.branch
          (out-Act (out-Stmt s).act) over.0 (λ r h. target_is_free p is step.thread step.point s low high e r h)

pub few_1 : HasAtMost 1 most_access_rules_1 most_access_literals_1
few_1 p step is at w =
    are-few _ _ _
    (few (λ n. 1) (λ m n h. omega arith) 1 (leb-true _ _ refl) (record { cheap = leb-true _ _ refl; store = leb-true _ _ refl; plain = leb-true _ _ refl }) p step is at w)
    (few (λ n. n) (λ m n h. h) 1 (leb-true _ _ refl) (record { cheap = leb-true _ _ refl; store = leb-true _ _ refl; plain = leb-true _ _ refl }) p step is at w)

pub few_2 : HasAtMost 2 most_access_rules_2 most_access_literals_2
few_2 p step is at w =
    are-few _ _ _
    (few (λ n. 1) (λ m n h. omega arith) 2 (leb-true _ _ refl) (record { cheap = leb-true _ _ refl; store = leb-true _ _ refl; plain = leb-true _ _ refl }) p step is at w)
    (few (λ n. n) (λ m n h. h) 2 (leb-true _ _ refl) (record { cheap = leb-true _ _ refl; store = leb-true _ _ refl; plain = leb-true _ _ refl }) p step is at w)
