-- Reading a whole formula at a place of a text.
use Rattle.std.specs.Prelude.{◌≡◌, ◌≢◌, ℕ, ◌≤◌, Result, Ok, Err, MatchResult}
use Rattle.pg_lex.specs.declared.fault.TextFault.{TextFault}
use Rattle.pg_lex.specs.declared.fault.TextFault.TheVariants.{NoMemory}
use Rattle.pg_lex.specs.Lex.{Cursor}
use Rattle.pg_program.specs.NameTable.{NameTable}
use Rattle.pg_assertion.specs.declared.formula.Formula.{Formula}
use Rattle.pg_assertion.specs.Formula.{Plain, plain, nodes}
use Rattle.pg_assertion_text.specs.Limits.{most_nodes, most_open}
use Rattle.pg_assertion_text.specs.Input.{Outcome, Parser}
use Rattle.pg_assertion_text.specs.Reading.{formula}
use Rattle.pg_assertion_text.specs.Grammar as grammar
use Rattle.pg_assertion_text.specs.Grammar.{Is}
use Rattle.pg_assertion_text.specs.Follows.{Stops}

-- ---- by the grammar

-- A formula of the grammar, with so many brackets and `!` open at once and so many nodes at most, which no token goes on with.
pub record IsFormulaIn {T : Type 0} (open_most nodes_most : ℕ) (stands : NameTable → Cursor → T → Cursor → Type 0) (names : NameTable) (from : Cursor) (f : Plain T) (to : Cursor) : Type 0 where
  pub is : Is names (stands names) grammar.formula open_most from f to
  pub few : nodes f ≤ nodes_most
  pub stops : Stops to

-- within the limits: what there is to read at a place
abbrev pub IsFormula : {T : Type 0} → (NameTable → Cursor → T → Cursor → Type 0) → NameTable → Cursor → Plain T → Cursor → Type 0
IsFormula stands names from f to = IsFormulaIn most_open most_nodes stands names from f to

-- the answer is this formula, want of memory aside
abbrev pub Answers : {T : Type 0} → Plain T → Cursor → Result (Formula T) TextFault → Cursor → Type 0
Answers f to r new = MatchResult r (λ g. (plain g ≡ f) × (new ≡ to)) (λ e. e ≡ NoMemory)

-- from a place there is at most one formula to read
abbrev pub HasOneReading : {T : Type 0} → (NameTable → Cursor → T → Cursor → Type 0) → Type 0
HasOneReading {T} stands =
    (names : NameTable) (from a b : Cursor) (f g : Plain T) → IsFormula stands names from f a → IsFormula stands names from g b → (f ≡ g) × (a ≡ b)

-- ---- with the first fault

abbrev pub placed : {A : Type 0} → Outcome A → Result (A × Cursor) TextFault
placed (Ok p) = Ok (p.0, p.1.cursor)
placed (Err e) = Err e

-- with so many brackets and `!` open at once and so many nodes at most, the formula at a place and the place after it, or the first fault
abbrev pub formula_within : {T : Type 0} → ℕ → ℕ → (NameTable → Parser T) → NameTable → Cursor → Result (Plain T × Cursor) TextFault
formula_within open_most nodes_most read names c = placed (formula (read names) open_most (record { cursor = c; room = nodes_most }))

-- the same within the limits
unfoldable pub formula_at : {T : Type 0} → (NameTable → Parser T) → NameTable → Cursor → Result (Plain T × Cursor) TextFault
formula_at read names c = formula_within most_open most_nodes read names c

-- the outcome, unless memory runs out
abbrev pub ReadsAt : {T : Type 0} → Result (Plain T × Cursor) TextFault → Result (Formula T) TextFault → Cursor → Type 0
ReadsAt outcome (Ok f) new = outcome ≡ Ok (plain f, new)
ReadsAt outcome (Err e) new = e ≢ NoMemory → outcome ≡ Err e
