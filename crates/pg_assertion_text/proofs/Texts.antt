-- The words that a lexer gives are text.
use Rattle.std.proofs.Common.{◌≡◌, Ok, Err}
use Rattle.std.specs.Prelude.{Result, MatchResult, IfOk}
use Rattle.pg_lex.specs.declared.token.Token.{Token}
use Rattle.pg_lex.specs.declared.fault.TextFault.{TextFault}
use Rattle.pg_lex.specs.Lex.{Cursor, lexeme, token}
use Rattle.pg_lex.proofs.Words.{word_is_utf8}
use Rattle.pg_assertion_text.specs.Words.{IsText}

pub text_of : (c : Cursor) (r : Result Token TextFault) (P : Token → Type 0) (Q : TextFault → Type 0)
    → ((t : Token) → P t → token c ≡ Ok (lexeme t)) → MatchResult r P Q → IfOk r (λ t. IsText (lexeme t))
text_of c (Ok t) P Q f h = word_is_utf8 c (lexeme t) (f t h)
text_of c (Err e) P Q f h = tt
