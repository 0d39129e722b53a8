-- How the text of an outline is read:
--
--   outline = "pierogi" NUMBER ";" "values" NUMBER ";" decl* [ "pre" formula ";" ] [ "crash" crash ";" ] thread+ END
--   thread = "thread" NUMBER "{" body "}"
--
-- The threads are numbered from 1 in the order of the text. The word `thread` takes one of the threads that may come.
use Rattle.std.specs.Prelude.{ℕ, zero, suc, ◌+◌, ◌==◌, Bool, true, false, if◌then◌else◌, List, [], ◌∷◌, ◌++◌, length, Result, Ok, Err}
use Rattle.pg_lex.specs.declared.token.Sign.TheVariants as s
use Rattle.pg_lex.specs.declared.token.TokenKind.{TokenKind}
use Rattle.pg_lex.specs.declared.token.TokenKind.TheVariants as kind
use Rattle.pg_lex.specs.declared.fault.TextKind.{TextKind}
use Rattle.pg_lex.specs.declared.fault.TextKind.TheVariants.{Unexpected, TooMany}
use Rattle.pg_lex.specs.Lex.{Lexeme, start}
use Rattle.pg_program.specs.declared.name_table.NameRef.{NameRef}
use Rattle.pg_program.specs.NameTable.{NameTable, empty_table}
use Rattle.pg_assertion.specs.declared.atom.RawAtom.{RawAtom}
use Rattle.pg_assertion.specs.declared.atom.CrashAtom.{CrashAtom}
use Rattle.pg_assertion.specs.Formula.{Plain, top}
use Rattle.pg_assertion_text.specs.Input.{Input, Parser, ◌>>=◌, ◌>>◌, pure, refuse, allowed, peek, next, node, number, expect, is_sign, named}
use Rattle.pg_assertion_text.specs.Atoms.{raw_atom, crash_atom}
use Rattle.pg_assertion_text.specs.Parsing.{formula_at}
use Rattle.pg_program_text.specs.Stmt.{behind}
use Rattle.pg_program_text.specs.Thread.{Lines, thread_at}
use Rattle.pg_outline_text.specs.declared.word.Keyword.TheVariants as w
use Rattle.pg_outline_text.specs.Limits.{known_version, most_threads}
use Rattle.pg_outline_text.specs.Word.{is_keyword, expect_word}
use Rattle.pg_outline_text.specs.Declaration.{last_number, declarations}
use Rattle.pg_outline_text.specs.Source.{Source}

-- ---- the precondition and the crash formula

-- `formula ;`
abbrev pub given : {T : Type 0} → (NameTable → Parser T) → NameTable → Parser (Plain T)
given read names = do
  f ← (λ i. behind i (formula_at read names i.cursor))
  (expect s.Semicolon >> pure f)

abbrev pub given_by : {T : Type 0} → Bool → Parser (Plain T) → Parser (Plain T)
given_by true f = next >> f
given_by false f = pure top

-- `pre formula ;`, or nothing
unfoldable pub precondition : NameTable → Parser (Plain RawAtom)
precondition names = do
  t ← peek
  given_by (is_keyword w.Pre t) (given raw_atom names)

-- `crash formula ;`, or nothing
unfoldable pub crash_formula : NameTable → Parser (Plain CrashAtom)
crash_formula names = do
  t ← peek
  given_by (is_keyword w.Crash t) (given crash_atom names)

-- ---- threads

abbrev pub opens_thread : Lexeme → Parser (Unit {0})
opens_thread t = if is_keyword w.Thread t then node t.place else refuse t.place Unexpected

-- `thread`, if one more may come
unfoldable pub opened : Parser (Unit {0})
opened = do
  t ← next
  opens_thread t

abbrev pub own_number_in : ℕ → TokenKind → Result (Unit {0}) TextKind
own_number_in k (kind.Number n) = if n == k then Ok tt else Err Unexpected
own_number_in k kind.Word = Err Unexpected
own_number_in k (kind.Letter b) = Err Unexpected
own_number_in k (kind.Sign z) = Err Unexpected
own_number_in k kind.End = Err Unexpected

-- the number k
unfoldable pub own_number : ℕ → Parser (Unit {0})
own_number k = do
  t ← next
  allowed t.place (own_number_in k t.kind)

-- A statement may stand where the last brace does, so that a name which is not declared is unknown there.
abbrev pub end_fault : Result NameRef TextKind → TextKind
end_fault (Ok r) = Unexpected
end_fault (Err why) = why

-- the brace that ends a thread
unfoldable pub close : NameTable → Parser (Unit {0})
close names = do
  t ← next
  if is_sign s.CloseBrace t.kind then pure tt else refuse t.place (end_fault (named names t))

-- thread k
unfoldable pub thread : NameTable → ℕ → Parser Lines
thread names k = do
  l ← (opened >> own_number k >> expect s.OpenBrace >> (λ i. behind i (thread_at names i.cursor)))
  (close names >> pure l)

-- the text ends here
abbrev pub is_end : TokenKind → Bool
is_end kind.End = true
is_end kind.Word = false
is_end (kind.Number n) = false
is_end (kind.Letter b) = false
is_end (kind.Sign z) = false

-- a thread, and the others up to the end of the text; each takes one of those that may come, so that there is at most one turn
-- more than there are to come
unfoldable pub threads_on : NameTable → ℕ → List Lines → Parser (List Lines)
threads_on names zero found = refuse 0 TooMany
threads_on names (suc n) found = do
  l ← thread names (length found + 1)
  t ← peek
  if is_end t.kind then pure (found ++ l ∷ []) else threads_on names n (found ++ l ∷ [])

unfoldable pub threads : NameTable → Parser (List Lines)
threads names = λ i. threads_on names (i.room + 1) [] i

-- ---- whole texts

-- `values NUMBER ;`
unfoldable pub domain : Parser ℕ
domain = expect_word w.Values >> last_number

-- after the declarations
unfoldable pub outline_over : NameTable → Parser Source
outline_over names = do
  pre ← precondition names
  crash ← crash_formula names
  threads ← threads names
  pure (record { names = names; pre = pre; crash = crash; threads = threads })

-- after the version
unfoldable pub outline : Parser Source
outline = do
  d ← (expect s.Semicolon >> domain)
  names ← declarations (empty_table d known_version)
  outline_over names

-- `pierogi NUMBER`
unfoldable pub version : Parser ℕ
version = expect_word w.Pierogi >> number

-- at the beginning of a text
abbrev pub whole : List ℕ → Input
whole text = record { cursor = start text; room = most_threads }
