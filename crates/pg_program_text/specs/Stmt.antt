-- How the parts of a statement are read, but for the blocks of branches and loops.
use Rattle.std.specs.Prelude.{ℕ, zero, suc, Bool, true, false, if◌then◌else◌, List, [], ◌∷◌, ◌++◌, Option, Some, Result, Ok, Err}
use Rattle.pg_lex.specs.declared.token.Sign.TheVariants as s
use Rattle.pg_lex.specs.declared.fault.TextFault.{TextFault}
use Rattle.pg_lex.specs.declared.fault.TextFault.TheVariants.{At}
use Rattle.pg_lex.specs.declared.fault.TextKind.{TextKind}
use Rattle.pg_lex.specs.declared.fault.TextKind.TheVariants.{Unexpected, TooMany}
use Rattle.pg_lex.specs.Lex.{Cursor, Lexeme}
use Rattle.pg_program.specs.NameTable.{NameTable, is_auxiliary}
use Rattle.pg_program.specs.declared.name_table.NameRef.{NameRef}
use Rattle.pg_program.specs.declared.name_table.NameRef.TheVariants as place
use Rattle.pg_program.specs.declared.syntax.Expr.{Expr}
use Rattle.pg_program.specs.declared.syntax.Cond.{Cond}
use Rattle.pg_program.specs.declared.syntax.Act.{Act}
use Rattle.pg_program.specs.declared.syntax.Act.TheVariants as act
use Rattle.pg_program.specs.declared.syntax.AuxAssign.{AuxAssign}
use Rattle.pg_assertion.specs.declared.atom.RawAtom.{RawAtom}
use Rattle.pg_assertion.specs.Formula.{Plain}
use Rattle.pg_assertion_text.specs.Input.{Input, Outcome, Parser, ◌>>=◌, ◌>>◌, pure, refuse, allowed, peek, next, node, expect, is_sign, named, location}
use Rattle.pg_assertion_text.specs.Atoms.{raw_atom}
use Rattle.pg_assertion_text.specs.Parsing.{formula_within}
use Rattle.pg_program_text.specs.Limits.{Limits}
use Rattle.pg_program_text.specs.declared.keyword.Keyword.{Keyword}
use Rattle.pg_program_text.specs.declared.keyword.Keyword.TheVariants as k
use Rattle.pg_program_text.specs.Keywords.{keyword}
use Rattle.pg_program_text.specs.Expr.{sum, factor_of}

-- ---- phrases with limits of their own: the room of a thread is for its points

abbrev pub with_room : {A : Type 0} → ℕ → Outcome A → Outcome A
with_room room (Ok p) = Ok (p.0, record p.1 { room = room })
with_room room (Err e) = Err e

-- a phrase of at most n nodes
abbrev pub within : {A : Type 0} → ℕ → Parser A → Parser A
within n p = λ i. with_room i.room (p (record i { room = n }))

unfoldable pub expression : Limits → NameTable → Parser Expr
expression limits names = within limits.expression_nodes (sum (factor_of names limits.brackets))

abbrev pub behind : {A : Type 0} → Input → Result (A × Cursor) TextFault → Outcome A
behind i (Ok p) = Ok (p.0, record i { cursor = p.1 })
behind i (Err e) = Err e

unfoldable pub formula : Limits → NameTable → Parser (Plain RawAtom)
formula limits names = λ i. behind i (formula_within limits.formula_brackets limits.formula_nodes raw_atom names i.cursor)

abbrev pub opens_note : Lexeme → Parser (Unit {0})
opens_note t = if is_sign s.OpenSquare t.kind then node t.place else refuse t.place Unexpected

-- the `[` of a note, which takes a point
unfoldable pub opened : Parser (Unit {0})
opened = do
  t ← next
  opens_note t

-- `[ formula ]`, the note of a point
unfoldable pub note : Limits → NameTable → Parser (Plain RawAtom)
note limits names = do
  f ← (opened >> formula limits names)
  (expect s.CloseSquare >> pure f)

-- ---- tests

abbrev pub equal_at : Lexeme → Result Bool TextFault
equal_at t = if is_sign s.Equal t.kind then Ok true else (if is_sign s.NotEqual t.kind then Ok false else Err (At t.place Unexpected))

-- a result that is settled already, with nothing taken
abbrev pub settled : {A : Type 0} → Result A TextFault → Parser A
settled (Ok a) = pure a
settled (Err e) = λ i. Err e

unfoldable pub test_sign : Parser Bool
test_sign = do
  t ← next
  settled (equal_at t)

unfoldable pub a_test : Limits → NameTable → Parser Cond
a_test limits names = do
  a ← expression limits names
  equal ← test_sign
  b ← expression limits names
  pure (record { left = a; right = b; equal = equal })

-- ---- acts

-- `, expr`
unfoldable pub operand : Limits → NameTable → Parser Expr
operand limits names = expect s.Comma >> expression limits names

-- `, expr )`
unfoldable pub last_operand : Limits → NameTable → Parser Expr
last_operand limits names = do
  a ← operand limits names
  (expect s.Close >> pure a)

-- `( x , expected , desired )`, after `r := cas`
unfoldable pub swap : Limits → NameTable → ℕ → Parser Act
swap limits names r = do
  x ← (expect s.Open >> location names)
  a ← operand limits names
  b ← last_operand limits names
  pure (act.Cas r x a b)

-- a load where a location stands, and else an assignment
abbrev pub load_or_assign : Limits → NameTable → ℕ → Result NameRef TextKind → Parser Act
load_or_assign limits names r (Ok (place.Location x)) = next >> pure (act.Load r x)
load_or_assign limits names r (Ok (place.Scalar q)) = expression limits names >>= (λ a. pure (act.Assign r a))
load_or_assign limits names r (Err why) = expression limits names >>= (λ a. pure (act.Assign r a))

abbrev pub assigned_by : Limits → NameTable → ℕ → Lexeme → Option Keyword → Parser Act
assigned_by limits names r t (Some k.Cas) = next >> swap limits names r
assigned_by limits names r t _ = load_or_assign limits names r (named names t)

-- what stands after `r :=`
unfoldable pub assigned : Limits → NameTable → ℕ → Parser Act
assigned limits names r = do
  t ← peek
  assigned_by limits names r t (keyword t)

abbrev pub to_name : Limits → NameTable → NameRef → Parser Act
to_name limits names (place.Scalar r) = expect s.Assign >> assigned limits names r
to_name limits names (place.Location x) = do
  a ← (expect s.Assign >> expression limits names)
  pure (act.Store x a)

abbrev pub named_act : Limits → NameTable → Lexeme → Parser Act
named_act limits names t = do
  r ← allowed t.place (named names t)
  to_name limits names r

abbrev pub act_by : Limits → NameTable → Lexeme → Option Keyword → Parser Act
act_by limits names t (Some k.Mfence) = pure act.Mfence
act_by limits names t (Some k.Sfence) = pure act.Sfence
act_by limits names t (Some k.Flush) = location names >>= (λ x. pure (act.Flush x))
act_by limits names t (Some k.Flushopt) = location names >>= (λ x. pure (act.Flushopt x))
act_by limits names t _ = named_act limits names t

unfoldable pub an_act : Limits → NameTable → Parser Act
an_act limits names = do
  t ← next
  act_by limits names t (keyword t)

-- ---- brackets

abbrev pub auxiliary_in : NameTable → Result NameRef TextKind → Result ℕ TextKind
auxiliary_in names (Ok (place.Scalar r)) = if is_auxiliary names r then Ok r else Err Unexpected
auxiliary_in names (Ok (place.Location x)) = Err Unexpected
auxiliary_in names (Err why) = Err why

-- one more assignment may come
abbrev pub one_more : ℕ → ℕ → Parser (Unit {0})
one_more place zero = refuse place TooMany
one_more place (suc n) = pure tt

-- `a := expr`, where n assignments may come
unfoldable pub assignment : Limits → NameTable → ℕ → Parser AuxAssign
assignment limits names n = do
  t ← next
  r ← allowed t.place (auxiliary_in names (named names t))
  a ← (one_more t.place n >> expect s.Assign >> expression limits names)
  pure (record { target = r; expr = a })

abbrev pub goes_on_or_ends : Lexeme → Parser Bool
goes_on_or_ends t = if is_sign s.Comma t.kind then pure true else (if is_sign s.Greater t.kind then pure false else refuse t.place Unexpected)

-- whether the bracket goes on, by a comma, or ends
unfoldable pub separator : Parser Bool
separator = do
  t ← next
  goes_on_or_ends t

-- at most n assignments, and one more turn to meet the one that is too many
unfoldable pub assignments_on : Limits → NameTable → ℕ → List AuxAssign → Parser (List AuxAssign)
assignments_on limits names zero found = do
  a ← assignment limits names zero
  pure (found ++ a ∷ [])
assignments_on limits names (suc n) found = do
  a ← assignment limits names (suc n)
  more ← separator
  if more then assignments_on limits names n (found ++ a ∷ []) else pure (found ++ a ∷ [])

abbrev pub bracket_by : Limits → NameTable → Bool → Parser (List AuxAssign)
bracket_by limits names true = next >> assignments_on limits names limits.assignments []
bracket_by limits names false = pure []

-- `< a := e, .. >`, or nothing
unfoldable pub bracket : Limits → NameTable → Parser (List AuxAssign)
bracket limits names = do
  t ← peek
  bracket_by limits names (is_sign s.Less t.kind)
