-- What may stand after a formula that is read whole.
use Rattle.std.specs.Prelude.{◌≡◌, false, Ok}
use Rattle.pg_lex.specs.declared.token.Sign.{Sign}
use Rattle.pg_lex.specs.declared.token.Sign.TheVariants.{And, Or, Arrow}
use Rattle.pg_lex.specs.Lex.{Cursor, Lexeme, token}
use Rattle.pg_assertion_text.specs.Input.{is_sign}

-- a token that is not this sign
pub record Leaves (s : Sign) (c : Cursor) : Type 0 where
  pub lexeme : Lexeme
  pub read : token c ≡ Ok lexeme
  pub differs : is_sign s lexeme.kind ≡ false

-- a token that no formula goes on with
pub record Stops (c : Cursor) : Type 0 where
  pub lexeme : Lexeme
  pub read : token c ≡ Ok lexeme
  pub and : is_sign And lexeme.kind ≡ false
  pub or : is_sign Or lexeme.kind ≡ false
  pub arrow : is_sign Arrow lexeme.kind ≡ false
