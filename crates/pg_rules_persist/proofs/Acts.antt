-- The rules of a step, by its statement, and the location that its act is on.
use Rattle.std.proofs.Common.{◌≡◌, ℕ, ◌<◌, ◌≤◌, Bool, List, [], length, None, Some, Option, Result, sym, subst}
use Rattle.std.specs.List.{All}
use Rattle.std.proofs.lemmas.List.Elements.{All-head}
use Rattle.pg_assertion.specs.Layout.{Sizes, sizes}
use Rattle.pg_program.specs.declared.point.Step.{Step}
use Rattle.pg_program.specs.declared.syntax.Stmt.{Stmt, out-Stmt}
use Rattle.pg_program.specs.declared.syntax.Act.{Act, out-Act}
use Rattle.pg_program.specs.declared.syntax.Act.TheOpen.{Act-F, Assign, Store, Load, Cas, Mfence, Sfence, Flush, Flushopt, If, While}
use Rattle.pg_program.specs.NameTable.{NameTable}
use Rattle.pg_program.specs.Words.{locations_in}
use Rattle.pg_program.specs.Program.{ProgramTable, IsProgram, stmt_at}
use Rattle.pg_program.proofs.ProgramLemmas.{stmt_of}
use Rattle.pg_region.specs.Literal.{Literal}
use Rattle.pg_region.specs.Sink.{Capacity, SinkView, Emitted}
use Rattle.pg_tables.specs.Clause.{written}
use Rattle.pg_rules_persist.specs.Persist.{IsActOver, act_row, persist_rows, rules_of, persist}

act_over : (l : Sizes) (act : Act-F Act Stmt) → All (λ x. x < l.locations) (locations_in act) → IsActOver l act
act_over l (Store x e) at = All-head (λ z. z < l.locations) x [] at
act_over l (Cas r x e d) at = All-head (λ z. z < l.locations) x [] at
act_over l (Flush x) at = All-head (λ z. z < l.locations) x [] at
act_over l (Flushopt x) at = All-head (λ z. z < l.locations) x [] at
act_over l (Assign r e) at = tt
act_over l (Load r x) at = tt
act_over l Mfence at = tt
act_over l Sfence at = tt
act_over l (If test a b) at = tt
act_over l (While test a) at = tt

pub stmt_over : (p : ProgramTable) → IsProgram p → (t k : ℕ) (s : Stmt) → 1 ≤ t → t ≤ length p.threads → stmt_at p t k ≡ Some s
    → IsActOver (sizes p.names (length p.threads)) (out-Act (out-Stmt s).act)
stmt_over p h t k s low high at = act_over (sizes p.names (length p.threads)) (out-Act (out-Stmt s).act) (stmt_of p h t k s low high at).locations

module _ {F : Type 0} (takes : List (List Literal) → Capacity → List Literal → Bool) (r : Result (Unit {0}) F) (v w : SinkView) (l : Sizes) where
  abbrev Gives : NameTable → ℕ → Act-F Act Stmt → Type 0
  Gives names t act = Emitted takes r v w (written (record { layout = l; case = None }) (persist_rows l (act_row names t act)))

  pub whole : (p : ProgramTable) (step : Step) (names : NameTable) (stmt : Stmt) → l ≡ sizes p.names (length p.threads) → names ≡ p.names
      → stmt_at p step.thread step.point ≡ Some stmt → Gives names step.thread (out-Act (out-Stmt stmt).act)
      → Emitted takes r v w (written (record { layout = l; case = None }) (persist p step))
  whole p step names stmt hl hn at e =
      let act = out-Act (out-Stmt stmt).act in
      let one = subst (λ (n : NameTable). Gives n step.thread act) hn e in
      let two = subst (λ (z : Sizes). Emitted takes r v w (written (record { layout = l; case = None }) (persist_rows z (act_row p.names step.thread act)))) hl one in
      subst (λ (o : Option Stmt). Emitted takes r v w (written (record { layout = l; case = None }) (rules_of (sizes p.names (length p.threads)) p.names step.thread o))) (sym at) two
