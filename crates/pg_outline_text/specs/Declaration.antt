-- How declarations are read:
--
--   decl = "location" NAME "=" NUMBER ";" | "register" NAME "of" NUMBER ";" | "auxiliary" NAME ";"
--
-- A name is a new word that is not reserved. Each location begins a line: no text has one on the line of another.
use Rattle.std.specs.Prelude.{ℕ, zero, suc, Bool, true, false, if◌then◌else◌, List, Option, Some, None, Result, Ok, Err}
use Rattle.pg_lex.specs.declared.token.Sign.TheVariants as s
use Rattle.pg_lex.specs.declared.token.TokenKind.{TokenKind}
use Rattle.pg_lex.specs.declared.token.TokenKind.TheVariants as kind
use Rattle.pg_lex.specs.declared.fault.TextKind.{TextKind}
use Rattle.pg_lex.specs.declared.fault.TextKind.TheVariants.{Unexpected, Redeclared, TooMany}
use Rattle.pg_lex.specs.Lex.{Lexeme}
use Rattle.pg_program.specs.declared.name_table.NameKind.{NameKind}
use Rattle.pg_program.specs.declared.name_table.NameKind.TheVariants as name
use Rattle.pg_program.specs.declared.name_table.NameRef.{NameRef}
use Rattle.pg_program.specs.NameTable.{NameTable, find, is_full, with_name}
use Rattle.pg_assertion_text.specs.Words.{is_reserved}
use Rattle.pg_assertion_text.specs.Input.{Parser, ◌>>=◌, ◌>>◌, pure, refuse, allowed, peek, next, number, expect}
use Rattle.pg_outline_text.specs.declared.word.Keyword.TheVariants as w
use Rattle.pg_outline_text.specs.Limits.{declaration_turns}
use Rattle.pg_outline_text.specs.Word.{is_keyword, expect_word}

-- ---- new names

abbrev pub unless_full : Bool → List ℕ → Result (List ℕ) TextKind
unless_full true text = Err TooMany
unless_full false text = Ok text

abbrev pub unless_found : Option NameRef → Bool → List ℕ → Result (List ℕ) TextKind
unless_found (Some r) full text = Err Redeclared
unless_found None full text = unless_full full text

abbrev pub new_name_by : NameTable → NameKind → TokenKind → List ℕ → Result (List ℕ) TextKind
new_name_by names k kind.Word text = if is_reserved text then Err Unexpected else unless_found (find text names) (is_full k names) text
new_name_by names k (kind.Number n) text = Err Unexpected
new_name_by names k (kind.Letter b) text = Err Unexpected
new_name_by names k (kind.Sign z) text = Err Unexpected
new_name_by names k kind.End text = Err Unexpected

-- the name that a token declares, or why it declares none: it is no name, it is declared already, or there are too many
unfoldable pub new_name_in : NameTable → NameKind → Lexeme → Result (List ℕ) TextKind
new_name_in names k t = new_name_by names k t.kind t.text

unfoldable pub new_name : NameTable → NameKind → Parser (List ℕ)
new_name names k = do
  t ← next
  allowed t.place (new_name_in names k t)

-- `NUMBER ;`
unfoldable pub last_number : Parser ℕ
last_number = do
  n ← number
  (expect s.Semicolon >> pure n)

-- ---- declarations, after their first words

unfoldable pub location : NameTable → Parser NameTable
location names = do
  x ← new_name names (name.Location 0)
  v ← (expect s.Equal >> last_number)
  pure (with_name x (name.Location v) names)

unfoldable pub register : NameTable → Parser NameTable
register names = do
  r ← new_name names (name.Register 0)
  t ← (expect_word w.Of >> last_number)
  pure (with_name r (name.Register t) names)

unfoldable pub auxiliary : NameTable → Parser NameTable
auxiliary names = do
  a ← new_name names name.Auxiliary
  (expect s.Semicolon >> pure (with_name a name.Auxiliary names))

-- the declaration of a location, of a register or of an auxiliary, by which of their words comes; or none
abbrev pub declared_by : Bool → Bool → Bool → NameTable → Parser (Option NameTable)
declared_by true b c names = (next >> location names) >>= (λ more. pure (Some more))
declared_by false true c names = (next >> register names) >>= (λ more. pure (Some more))
declared_by false false true names = (next >> auxiliary names) >>= (λ more. pure (Some more))
declared_by false false false names = pure None

unfoldable pub declaration : NameTable → Parser (Option NameTable)
declaration names = do
  t ← peek
  declared_by (is_keyword w.Location t) (is_keyword w.Register t) (is_keyword w.Auxiliary t) names

abbrev pub and_more : (NameTable → Parser NameTable) → NameTable → Option NameTable → Parser NameTable
and_more rest names None = pure names
and_more rest names (Some more) = rest more

-- as many declarations as there are, in at most n turns
unfoldable pub declarations_on : ℕ → NameTable → Parser NameTable
declarations_on zero names = refuse 0 TooMany
declarations_on (suc n) names = do
  more ← declaration names
  and_more (declarations_on n) names more

abbrev pub declarations : NameTable → Parser NameTable
declarations names = declarations_on declaration_turns names
