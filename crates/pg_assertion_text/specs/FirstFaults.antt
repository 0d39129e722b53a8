-- The first fault of a text, in the words of the grammar: the first token with which the text begins no formula any more.
use Rattle.std.specs.Prelude.{◌≢◌, Result, ℕ, suc, ◌+◌, ◌<◌, ◌≤◌, length, Ok, Err}
use Rattle.pg_lex.specs.declared.fault.TextFault.{TextFault}
use Rattle.pg_lex.specs.declared.fault.TextFault.TheVariants.{NoMemory}
use Rattle.pg_lex.specs.Lex.{Cursor}
use Rattle.pg_program.specs.NameTable.{NameTable}
use Rattle.pg_assertion_text.specs.Spelling.{AreNames}
use Rattle.pg_assertion.specs.Formula.{Plain, nodes}
use Rattle.pg_assertion_text.specs.Grammar as grammar
use Rattle.pg_assertion_text.specs.Grammar.{Is}
use Rattle.pg_assertion_text.specs.Agreement.{ahead, Alike, FaultAt, IsLimit}
use Rattle.pg_assertion_text.specs.declared.parse.TheConstants.{MAX_NODES, MAX_OPEN}

-- Some text, whose next tokens are the same so far, has at this place a formula within the limits that goes on beyond the next m tokens.
pub record GoesOn {T : Type 0} (stands : NameTable → Cursor → T → Cursor → Type 0) (names : NameTable) (open_most nodes_most same m : ℕ) (c : Cursor) : Type 0 where
  pub text : Cursor
  pub alike : Alike same c text
  pub formula : Plain T
  pub to : Cursor
  pub is : Is names (stands names) grammar.formula open_most text formula to
  pub few : nodes formula ≤ nodes_most
  pub beyond : (ahead m text).at < to.at

-- a location is declared, and each name is one of the grammar
pub record HasLocation (names : NameTable) : Type 0 where
  pub some : 0 < length names.locations
  pub are : AreNames names

-- A fault is at the first token with which the text begins no formula any more. The tokens before it can be gone on with to a
-- formula, if need be of more nodes than a text may have, where a location is declared. With the token of the fault they can't be
-- within the limits; nor within any larger ones, unless the fault is a limit's, which larger ones take away.
pub record IsFirst {T : Type 0} (stands : NameTable → Cursor → T → Cursor → Type 0) (names : NameTable) (c : Cursor) (e : TextFault) : Type 0 where
  pub before : ℕ
  pub at : FaultAt c before e
  pub could : HasLocation names → (most : ℕ) × GoesOn stands names MAX_OPEN most before before c
  pub no_more : GoesOn stands names MAX_OPEN MAX_NODES (suc before) before c → ⊥
  pub never : (IsLimit e → ⊥) → (open_most nodes_most : ℕ) → MAX_OPEN ≤ open_most → MAX_NODES ≤ nodes_most → GoesOn stands names open_most nodes_most (suc before) before c → ⊥
  pub limit : HasLocation names → IsLimit e → (most : ℕ) × GoesOn stands names (MAX_OPEN + 1) most (suc before) before c

-- an answer that refuses a text does so at such a token, want of memory aside
abbrev pub BlamesFirst : {T A : Type 0} → (NameTable → Cursor → T → Cursor → Type 0) → NameTable → Cursor → Result A TextFault → Type 0
BlamesFirst stands names c (Ok f) = Unit {0}
BlamesFirst stands names c (Err e) = e ≢ NoMemory → IsFirst stands names c e
