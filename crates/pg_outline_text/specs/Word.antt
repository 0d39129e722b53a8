-- The words that an outline is laid out by.
use Rattle.std.specs.Prelude.{ℕ, Bool, false, if◌then◌else◌, List, codes}
use Rattle.std.specs.Str.{bytes_eq}
use Rattle.pg_lex.specs.declared.token.TokenKind.{TokenKind}
use Rattle.pg_lex.specs.declared.token.TokenKind.TheVariants as kind
use Rattle.pg_lex.specs.declared.fault.TextKind.TheVariants.{Unexpected}
use Rattle.pg_lex.specs.Lex.{Lexeme}
use Rattle.pg_assertion_text.specs.Input.{Parser, ◌>>=◌, pure, refuse, next}
use Rattle.pg_outline_text.specs.declared.word.Keyword.{Keyword}
use Rattle.pg_outline_text.specs.declared.word.Keyword.TheVariants.{Pierogi, Values, Location, Register, Of, Auxiliary, Pre, Crash, Thread}

abbrev pub spelling : Keyword → List ℕ
spelling Pierogi = codes "pierogi"
spelling Values = codes "values"
spelling Location = codes "location"
spelling Register = codes "register"
spelling Of = codes "of"
spelling Auxiliary = codes "auxiliary"
spelling Pre = codes "pre"
spelling Crash = codes "crash"
spelling Thread = codes "thread"

abbrev pub is_word_by : List ℕ → TokenKind → List ℕ → Bool
is_word_by w kind.Word text = bytes_eq text w
is_word_by w (kind.Number n) text = false
is_word_by w (kind.Letter b) text = false
is_word_by w (kind.Sign s) text = false
is_word_by w kind.End text = false

-- the token is this word
unfoldable pub is_keyword : Keyword → Lexeme → Bool
is_keyword k t = is_word_by (spelling k) t.kind t.text

-- a word that has to come
unfoldable pub expect_word : Keyword → Parser (Unit {0})
expect_word k = do
  t ← next
  if is_keyword k t then pure tt else refuse t.place Unexpected
