-- The rules of an act, once it is known which one it is; and those of a step, by its statement.
use Rattle.std.proofs.Common.{◌≡◌, ℕ, Bool, List, length, None, Some, Option, Result, sym, subst, ap, ◌∙◌}
use Rattle.pg_assertion.specs.Layout.{Sizes, sizes}
use Rattle.pg_program.specs.declared.point.Branch.{Branch}
use Rattle.pg_program.specs.declared.point.Step.{Step}
use Rattle.pg_program.specs.declared.syntax.AuxAssign.{AuxAssign}
use Rattle.pg_program.specs.declared.syntax.Stmt.{Stmt, out-Stmt}
use Rattle.pg_program.specs.declared.syntax.Act.{Act, out-Act}
use Rattle.pg_program.specs.declared.syntax.Act.TheOpen.{Act-F}
use Rattle.pg_program.specs.NameTable.{NameTable}
use Rattle.pg_program.specs.Program.{ProgramTable, stmt_at}
use Rattle.pg_region.specs.Literal.{Literal}
use Rattle.pg_region.specs.Sink.{Capacity, SinkView, Emitted}
use Rattle.pg_tables.specs.Clause.{written}
use Rattle.pg_rules_access.specs.Access.{rules, act_values, act_row, rules_of, access}

module _ {F : Type 0} (takes : List (List Literal) → Capacity → List Literal → Bool) (r : Result (Unit {0}) F) (v w : SinkView) (l : Sizes) where
  abbrev pub Gives : NameTable → ℕ → Branch → List AuxAssign → Act-F Act Stmt → Type 0
  Gives names t b aux act = Emitted takes r v w (written (record { layout = l; case = None }) (rules l names aux (act_values l b act) (act_row l names t act)))

  pub gives : (names : NameTable) (t : ℕ) (b : Branch) (aux : List AuxAssign) (act known : Act) (opened : Act-F Act Stmt) → act ≡ known → out-Act known ≡ opened
      → Gives names t b aux opened → Gives names t b aux (out-Act act)
  gives names t b aux act known opened h k e = subst (Gives names t b aux) (sym (ap out-Act h ∙ k)) e

  pub whole : (p : ProgramTable) (step : Step) (names : NameTable) (aux : List AuxAssign) (stmt : Stmt) → l ≡ sizes p.names (length p.threads) → names ≡ p.names
      → aux ≡ (out-Stmt stmt).aux → stmt_at p step.thread step.point ≡ Some stmt → Gives names step.thread step.branch aux (out-Act (out-Stmt stmt).act)
      → Emitted takes r v w (written (record { layout = l; case = None }) (access p step))
  whole p step names aux stmt hl hn ha at e =
      let act = out-Act (out-Stmt stmt).act in
      let one = subst (λ (x : List AuxAssign). Gives names step.thread step.branch x act) ha e in
      let two = subst (λ (n : NameTable). Gives n step.thread step.branch (out-Stmt stmt).aux act) hn one in
      let three = subst (λ (z : Sizes). Emitted takes r v w (written (record { layout = l; case = None }) (rules z p.names (out-Stmt stmt).aux (act_values z step.branch act) (act_row z p.names step.thread act)))) hl two in
      subst (λ (o : Option Stmt). Emitted takes r v w (written (record { layout = l; case = None }) (rules_of (sizes p.names (length p.threads)) p.names step.thread step.branch o))) (sym at) three
