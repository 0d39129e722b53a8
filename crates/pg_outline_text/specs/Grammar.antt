-- The grammar of outlines:
--
--   outline = "pierogi" 1 ";" "values" NUMBER ";" decl* [ "pre" formula ";" ] [ "crash" crash ";" ] thread+ END
--   decl = "location" NAME "=" NUMBER ";" | "register" NAME "of" NUMBER ";" | "auxiliary" NAME ";"
--   thread = "thread" NUMBER "{" body "}"
--
-- Threads are numbered from 1 in the order of the text. The names are of the version of the text, and each location begins a line.
-- The relations say what stands from one place of a text to another.
use Rattle.std.specs.Prelude.{◌≡◌, ℕ, ◌+◌, ◌≤◌, false, List, [], ◌∷◌, length, None, Ok}
use Rattle.pg_lex.specs.declared.token.Sign.TheVariants as s
use Rattle.pg_lex.specs.declared.token.TokenKind.TheVariants as kind
use Rattle.pg_lex.specs.Lex.{Cursor, Lexeme, token, after, start}
use Rattle.pg_program.specs.declared.name_table.NameKind.{NameKind}
use Rattle.pg_program.specs.declared.name_table.NameKind.TheVariants as name
use Rattle.pg_program.specs.NameTable.{NameTable, empty_table, find, is_full, with_name}
use Rattle.pg_assertion.specs.Formula.{Plain, top}
use Rattle.pg_assertion_text.specs.Words.{Stands, Stand, Item, sign, number, word, is_reserved}
use Rattle.pg_assertion_text.specs.Atoms.{IsRaw, IsCrash}
use Rattle.pg_assertion_text.specs.Parsing.{IsFormula}
use Rattle.pg_program_text.specs.Thread.{Lines}
use Rattle.pg_program_text.specs.Grammar.{IsThreadText}
use Rattle.pg_outline_text.specs.declared.word.Keyword.{Keyword}
use Rattle.pg_outline_text.specs.declared.word.Keyword.TheVariants as w
use Rattle.pg_outline_text.specs.Limits.{known_version, most_threads}
use Rattle.pg_outline_text.specs.Word.{spelling}
use Rattle.pg_outline_text.specs.Source.{Source}

abbrev pub keyword : Keyword → Item
keyword k = word (spelling k)

-- ---- declarations

-- a word that is no reserved one and not declared yet, for a kind of names of which one more may come
pub record IsNewName (names : NameTable) (k : NameKind) (from : Cursor) (text : List ℕ) (to : Cursor) : Type 0 where
  pub lexeme : Lexeme
  pub read : token from ≡ Ok lexeme
  pub is_word : lexeme.kind ≡ kind.Word
  pub text_is : lexeme.text ≡ text
  pub free : is_reserved text ≡ false
  pub new : find text names ≡ None
  pub room : is_full k names ≡ false
  pub behind : to ≡ after from

-- one declaration, and the names with it
pub data IsDeclaration (names : NameTable) : Cursor → NameTable → Cursor → Type 0 where
  a_location : (x : List ℕ) (v : ℕ) (from mid end to : Cursor)
      → Stands names (keyword w.Location) from mid → IsNewName names (name.Location v) mid x end
      → Stand names (sign s.Equal ∷ number v ∷ sign s.Semicolon ∷ []) end to
      → IsDeclaration names from (with_name x (name.Location v) names) to
  a_register : (r : List ℕ) (t : ℕ) (from mid end to : Cursor)
      → Stands names (keyword w.Register) from mid → IsNewName names (name.Register t) mid r end
      → Stand names (keyword w.Of ∷ number t ∷ sign s.Semicolon ∷ []) end to
      → IsDeclaration names from (with_name r (name.Register t) names) to
  an_auxiliary : (a : List ℕ) (from mid end to : Cursor)
      → Stands names (keyword w.Auxiliary) from mid → IsNewName names name.Auxiliary mid a end
      → Stands names (sign s.Semicolon) end to
      → IsDeclaration names from (with_name a name.Auxiliary names) to

pub data AreDeclarations : NameTable → Cursor → NameTable → Cursor → Type 0 where
  no_more : (names : NameTable) (from : Cursor) → AreDeclarations names from names from
  one_more : (names more all : NameTable) (from mid to : Cursor)
      → IsDeclaration names from more mid → AreDeclarations more mid all to → AreDeclarations names from all to

-- ---- the precondition and the crash formula

-- a formula behind its word, or none, which is `true`
pub data IsGiven {T : Type 0} (stands : NameTable → Cursor → T → Cursor → Type 0) (names : NameTable) (k : Keyword) : Cursor → Plain T → Cursor → Type 0 where
  left_out : (from : Cursor) → IsGiven stands names k from top from
  written : (f : Plain T) (from mid end to : Cursor)
      → Stands names (keyword k) from mid → IsFormula stands names mid f end → Stands names (sign s.Semicolon) end to
      → IsGiven stands names k from f to

-- ---- threads

-- the text ends here, but for blanks and comments
pub record IsEnd (c : Cursor) : Type 0 where
  pub lexeme : Lexeme
  pub read : token c ≡ Ok lexeme
  pub is_end : lexeme.kind ≡ kind.End

-- thread k
pub record IsThreadOfText (names : NameTable) (k : ℕ) (from : Cursor) (l : Lines) (to : Cursor) : Type 0 where
  pub mid : Cursor
  pub end : Cursor
  pub head : Stand names (keyword w.Thread ∷ number k ∷ sign s.OpenBrace ∷ []) from mid
  pub body : IsThreadText names mid l end
  pub close : Stands names (sign s.CloseBrace) end to

-- thread k and those behind it, up to the end of the text
pub data AreThreads (names : NameTable) : ℕ → Cursor → List Lines → Type 0 where
  last_one : (k : ℕ) (l : Lines) (from to : Cursor) → IsThreadOfText names k from l to → IsEnd to → AreThreads names k from (l ∷ [])
  one_thread : (k : ℕ) (l : Lines) (ls : List Lines) (from to : Cursor)
      → IsThreadOfText names k from l to → AreThreads names (k + 1) to ls → AreThreads names k from (l ∷ ls)

-- ---- whole texts

-- the text is that of the source
pub record IsSourceText (text : List ℕ) (o : Source) : Type 0 where
  pub decls : Cursor
  pub pre_at : Cursor
  pub crash_at : Cursor
  pub threads_at : Cursor
  pub domain : ℕ
  pub head : Stand (empty_table domain known_version)
      (keyword w.Pierogi ∷ number known_version ∷ sign s.Semicolon ∷ keyword w.Values ∷ number domain ∷ sign s.Semicolon ∷ []) (start text) decls
  pub declared : AreDeclarations (empty_table domain known_version) decls o.names pre_at
  pub pre : IsGiven IsRaw o.names w.Pre pre_at o.pre crash_at
  pub crash : IsGiven IsCrash o.names w.Crash crash_at o.crash threads_at
  pub threads : AreThreads o.names 1 threads_at o.threads
  pub few : length o.threads ≤ most_threads
