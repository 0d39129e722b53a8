use Rattle.pg_assertion_text.proofs.Texts.{text_of}
use Rattle.pg_assertion_text.proofs.tokens.Tokens.peek.Goals as goal

pub returns-clause-text : goal.returns-clause-text
returns-clause-text c = text_of c.self.inside.lexer c.peek.result _ _ (λ t h. h) c.peek.ensures
