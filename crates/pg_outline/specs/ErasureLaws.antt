-- What holds of the erasure of a program.
use Rattle.std.specs.Prelude.{◌≡◌, ℕ, false, [], All, option_map}
use Rattle.pg_program.specs.declared.syntax.Stmt.{out-Stmt}
use Rattle.pg_program.specs.Block.{block}
use Rattle.pg_program.specs.Graph.{statements}
use Rattle.pg_program.specs.NameTable.{is_auxiliary}
use Rattle.pg_program.specs.Program.{ProgramTable, IsProgram, stmt_at, steps_at}
use Rattle.pg_outline.specs.Erasure.{erased, erased_stmt, new_place}

-- a program without auxiliaries and brackets
pub record IsBare (p : ProgramTable) : Type 0 where
  pub scalars : (r : ℕ) → is_auxiliary p.names r ≡ false
  pub brackets : All (λ ss. All (λ s. (out-Stmt s).aux ≡ []) (statements (block ss))) p.threads

-- the erasure of a program is such a program
abbrev pub ErasureIsBare : Type 0
ErasureIsBare = (p : ProgramTable) → IsProgram p → IsProgram (erased p) × IsBare (erased p)

-- and such a program is its own erasure
abbrev pub BareStays : Type 0
BareStays = (p : ProgramTable) → IsProgram p → IsBare p → erased p ≡ p

-- the erasure has the same points, each with its statement erased, and the same steps
abbrev pub StatementsAreErased : Type 0
StatementsAreErased = (p : ProgramTable) (t k : ℕ) → stmt_at (erased p) t k ≡ option_map (erased_stmt (new_place p.names)) (stmt_at p t k)

abbrev pub StepsStay : Type 0
StepsStay = (p : ProgramTable) (t k : ℕ) → steps_at (erased p) t k ≡ steps_at p t k
