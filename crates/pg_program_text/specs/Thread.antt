-- How statements with their blocks are read, and the body of a thread. A phrase with blocks gives its statements, and the
-- notes of its points in the order of the text.
use Rattle.std.specs.Prelude.{ℕ, zero, suc, ◌+◌, Bool, true, false, if◌then◌else◌, List, [], ◌∷◌, ◌++◌, Option, Some, None, Result, Err, is_ok}
use Rattle.pg_lex.specs.declared.token.Sign.TheVariants as s
use Rattle.pg_lex.specs.declared.fault.TextFault.{TextFault}
use Rattle.pg_lex.specs.declared.fault.TextFault.TheVariants.{At}
use Rattle.pg_lex.specs.declared.fault.TextKind.TheVariants.{Unexpected, TooMany, TooDeep}
use Rattle.pg_lex.specs.Lex.{Cursor, Lexeme}
use Rattle.pg_program.specs.NameTable.{NameTable}
use Rattle.pg_program.specs.declared.syntax.Stmt.{Stmt, roll-Stmt}
use Rattle.pg_program.specs.declared.syntax.Cond.{Cond}
use Rattle.pg_program.specs.declared.syntax.Act.{Act}
use Rattle.pg_program.specs.declared.syntax.Act.TheVariants as act
use Rattle.pg_program.specs.declared.syntax.AuxAssign.{AuxAssign}
use Rattle.pg_assertion.specs.declared.atom.RawAtom.{RawAtom}
use Rattle.pg_assertion.specs.Formula.{Plain}
use Rattle.pg_assertion_text.specs.Input.{Parser, ◌>>=◌, ◌>>◌, pure, refuse, peek, next, expect, is_sign, named}
use Rattle.pg_assertion_text.specs.Parsing.{placed}
use Rattle.pg_program_text.specs.Limits.{Limits, text_limits, most_points}
use Rattle.pg_program_text.specs.declared.keyword.Keyword.{Keyword}
use Rattle.pg_program_text.specs.declared.keyword.Keyword.TheVariants as k
use Rattle.pg_program_text.specs.Keywords.{keyword}
use Rattle.pg_program_text.specs.Stmt.{note, a_test, an_act, bracket}

-- statements, and the notes of the points before them and within them
pub record Lines : Type 0 where
  pub stmts : List Stmt
  pub notes : List (Plain RawAtom)

-- a statement, and the notes of the points within its blocks
pub record Noted : Type 0 where
  pub stmt : Stmt
  pub notes : List (Plain RawAtom)

abbrev pub no_lines : Lines
no_lines = record { stmts = []; notes = [] }

-- a statement without a bracket
abbrev pub bare : Act → Stmt
bare a = roll-Stmt (record { act = a; aux = [] })

-- one more note
abbrev pub with_note : Lines → Plain RawAtom → Lines
with_note l f = record { stmts = l.stmts; notes = l.notes ++ f ∷ [] }

-- one more statement, and the notes within it
abbrev pub with_stmt : Lines → Noted → Lines
with_stmt l n = record { stmts = l.stmts ++ n.stmt ∷ []; notes = l.notes ++ n.notes }

-- `bracket ;`
unfoldable pub ending : Limits → NameTable → Parser (List AuxAssign)
ending limits names = do
  b ← bracket limits names
  (expect s.Semicolon >> pure b)

-- `act bracket ;`
unfoldable pub simple : Limits → NameTable → Parser Noted
simple limits names = do
  a ← an_act limits names
  b ← ending limits names
  pure (record { stmt = roll-Stmt (record { act = a; aux = b }); notes = [] })

-- ---- blocks

abbrev pub ends_by : Bool → Parser Bool
ends_by true = next >> pure true
ends_by false = pure false

-- whether the block ends here, and its `}` is taken then
unfoldable pub ends : Parser Bool
ends = do
  t ← peek
  ends_by (is_sign s.CloseBrace t.kind)

-- one more note and its statement
unfoldable pub line : Limits → NameTable → Parser Noted → Lines → Parser Lines
line limits names stmt l = do
  f ← note limits names
  a ← stmt
  pure (with_stmt (with_note l f) a)

-- the end of the lines, or one more line and the rest
abbrev pub line_or_end : Limits → NameTable → Parser Noted → (Lines → Parser Lines) → Lines → Bool → Parser Lines
line_or_end limits names stmt rest l true = pure l
line_or_end limits names stmt rest l false = line limits names stmt l >>= rest

-- at most n turns
unfoldable pub lines_on : Limits → NameTable → Parser Noted → ℕ → Lines → Parser Lines
lines_on limits names stmt zero l = refuse 0 TooMany
lines_on limits names stmt (suc n) l = do
  end ← ends
  line_or_end limits names stmt (lines_on limits names stmt n) l end

-- The lines of a block up to its `}`. Each has a note, which takes a point, so that there is at most one turn more than
-- there are points to come.
unfoldable pub lines : Limits → NameTable → Parser Noted → Parser Lines
lines limits names stmt = λ i. lines_on limits names stmt (i.room + 1) no_lines i

-- the fault of a brace that opens one block too many, or of a token that begins no block
abbrev pub block_fault : Lexeme → TextFault
block_fault t = At t.place (if is_sign s.OpenBrace t.kind then TooDeep else Unexpected)

abbrev pub refuse_block : Lexeme → Parser Lines
refuse_block t = λ i. Err (block_fault t)

-- `{ lines }`, if one more block may be open
abbrev pub block : Limits → NameTable → Option (Parser Noted) → Parser Lines
block limits names None = next >>= refuse_block
block limits names (Some stmt) = expect s.OpenBrace >> lines limits names stmt

-- ---- branches and loops

abbrev pub else_by : Limits → NameTable → Option (Parser Noted) → Option Keyword → Parser Lines
else_by limits names below (Some k.Else) = next >> block limits names below
else_by limits names below _ = pure no_lines

-- `else` and a block, or no lines
unfoldable pub else_part : Limits → NameTable → Option (Parser Noted) → Parser Lines
else_part limits names below = do
  t ← peek
  else_by limits names below (keyword t)

-- a branch of its test and its two blocks
abbrev pub joined : Cond → Lines → Lines → Noted
joined c a b = record { stmt = bare (act.If c a.stmts b.stmts); notes = a.notes ++ b.notes }

unfoldable pub branch : Limits → NameTable → Option (Parser Noted) → Parser Noted
branch limits names below = do
  c ← a_test limits names
  a ← block limits names below
  b ← else_part limits names below
  pure (joined c a b)

unfoldable pub repeat : Limits → NameTable → Option (Parser Noted) → Parser Noted
repeat limits names below = do
  c ← a_test limits names
  a ← block limits names below
  pure (record { stmt = bare (act.While c a.stmts); notes = a.notes })

-- ---- statements

abbrev pub statement_by : Limits → NameTable → Option (Parser Noted) → Option Keyword → Parser Noted
statement_by limits names below (Some k.If) = next >> branch limits names below
statement_by limits names below (Some k.While) = next >> repeat limits names below
statement_by limits names below _ = simple limits names

unfoldable pub statement_in : Limits → NameTable → Option (Parser Noted) → Parser Noted
statement_in limits names below = do
  t ← peek
  statement_by limits names below (keyword t)

-- with this many blocks that may be open
unfoldable pub statement : Limits → NameTable → ℕ → Parser Noted
statement limits names zero = statement_in limits names None
statement limits names (suc n) = statement_in limits names (Some (statement limits names n))

-- ---- the body of a thread: a note, and statements with a note after each

abbrev pub begins_by : NameTable → Lexeme → Option Keyword → Bool
begins_by names t (Some k.Cas) = false
begins_by names t (Some k.Else) = false
begins_by names t (Some _) = true
begins_by names t None = is_ok (named names t)

-- whether a statement begins with this token
unfoldable pub begins : NameTable → Lexeme → Bool
begins names t = begins_by names t (keyword t)

-- a statement after the last note, or none
abbrev pub stmt_or_end : Limits → NameTable → Lines → Bool → Parser (Lines × Bool)
stmt_or_end limits names l true = do
  a ← statement limits names limits.blocks
  pure (with_stmt l a, true)
stmt_or_end limits names l false = pure (l, false)

-- one more note, and whether the body goes on after it, with its statement then
unfoldable pub line_of_body : Limits → NameTable → Lines → Parser (Lines × Bool)
line_of_body limits names l = do
  f ← note limits names
  t ← peek
  stmt_or_end limits names (with_note l f) (begins names t)

abbrev pub body_goes_on : (Lines → Parser Lines) → Lines × Bool → Parser Lines
body_goes_on rest p = if p.1 then rest p.0 else pure p.0

-- at most n turns
unfoldable pub body_on : Limits → NameTable → ℕ → Lines → Parser Lines
body_on limits names zero l = refuse 0 TooMany
body_on limits names (suc n) l = do
  p ← line_of_body limits names l
  body_goes_on (body_on limits names n) p

abbrev pub body : Limits → NameTable → Parser Lines
body limits names = λ i. body_on limits names (i.room + 1) no_lines i

-- the body at a place and the place after it, or the first fault
unfoldable pub thread_at : NameTable → Cursor → Result (Lines × Cursor) TextFault
thread_at names c = placed (body text_limits names (record { cursor = c; room = most_points }))
