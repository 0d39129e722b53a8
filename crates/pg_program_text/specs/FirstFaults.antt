-- The fault of a text without a body, in the words of the grammar: at a token with which no body goes on.
use Rattle.std.specs.Prelude.{◌≢◌, Result, ◌⊎◌, ℕ, suc, ◌<◌, ◌≤◌, length, Ok, Err}
use Rattle.pg_lex.specs.declared.fault.TextFault.{TextFault}
use Rattle.pg_lex.specs.declared.fault.TextFault.TheVariants.{NoMemory}
use Rattle.pg_lex.specs.Lex.{Cursor}
use Rattle.pg_program.specs.NameTable.{NameTable}
use Rattle.pg_assertion_text.specs.Agreement.{ahead, Alike, FaultAt, IsLimit}
use Rattle.pg_program_text.specs.Limits.{Limits, text_limits, AreLarger}
use Rattle.pg_program_text.specs.Thread.{Lines}
use Rattle.pg_program_text.specs.Grammar.{IsBody, BeginsNone}

-- Some text, whose next tokens are the same so far, has at this place a body within the limits, which goes on beyond the next m tokens
-- or is there to be read.
pub record GoesOn (limits : Limits) (names : NameTable) (same m : ℕ) (c : Cursor) : Type 0 where
  pub text : Cursor
  pub alike : Alike same c text
  pub lines : Lines
  pub to : Cursor
  pub body : IsBody limits names text lines.stmts lines.notes to
  pub few : length lines.notes ≤ limits.points
  pub whole : ((ahead m text).at < to.at) ⊎ BeginsNone names to

-- A fault is at a token, and with this token the tokens before it go on to no body within the limits; nor within
-- any larger ones, unless the fault is a limit's.
pub record IsBlamed (names : NameTable) (c : Cursor) (e : TextFault) : Type 0 where
  pub before : ℕ
  pub at : FaultAt c before e
  pub no_more : GoesOn text_limits names (suc before) before c → ⊥
  pub never : (IsLimit e → ⊥) → (more : Limits) → AreLarger more text_limits → GoesOn more names (suc before) before c → ⊥

-- an answer that refuses a text does so at such a token, want of memory aside
abbrev pub BlamesToken : {A : Type 0} → NameTable → Cursor → Result A TextFault → Type 0
BlamesToken names c (Ok t) = Unit {0}
BlamesToken names c (Err e) = e ≢ NoMemory → IsBlamed names c e
