-- The reserved words that statements are spelled with.
use Rattle.std.specs.Prelude.{ℕ, List, codes, Option, Some, None, if◌then◌else◌}
use Rattle.std.specs.Str.{bytes_eq}
use Rattle.pg_lex.specs.declared.token.TokenKind.{TokenKind}
use Rattle.pg_lex.specs.declared.token.TokenKind.TheVariants as kind
use Rattle.pg_lex.specs.Lex.{Lexeme}
use Rattle.pg_program_text.specs.declared.keyword.Keyword.{Keyword}
use Rattle.pg_program_text.specs.declared.keyword.Keyword.TheVariants.{Mfence, Sfence, Flush, Flushopt, Cas, If, Else, While}

abbrev pub spelling : Keyword → List ℕ
spelling Mfence = codes "mfence"
spelling Sfence = codes "sfence"
spelling Flush = codes "flush"
spelling Flushopt = codes "flushopt"
spelling Cas = codes "cas"
spelling If = codes "if"
spelling Else = codes "else"
spelling While = codes "while"

-- the keyword that a word is, if it is one
abbrev pub keyword_of : List ℕ → Option Keyword
keyword_of w =
    if bytes_eq w (codes "mfence") then Some Mfence
    else (if bytes_eq w (codes "sfence") then Some Sfence
    else (if bytes_eq w (codes "flush") then Some Flush
    else (if bytes_eq w (codes "flushopt") then Some Flushopt
    else (if bytes_eq w (codes "cas") then Some Cas
    else (if bytes_eq w (codes "if") then Some If
    else (if bytes_eq w (codes "else") then Some Else
    else (if bytes_eq w (codes "while") then Some While
    else None)))))))

abbrev pub keyword_by : TokenKind → List ℕ → Option Keyword
keyword_by kind.Word text = keyword_of text
keyword_by (kind.Number n) text = None
keyword_by (kind.Letter b) text = None
keyword_by (kind.Sign s) text = None
keyword_by kind.End text = None

-- the keyword that a token is, if it is one
unfoldable pub keyword : Lexeme → Option Keyword
keyword t = keyword_by t.kind t.text
