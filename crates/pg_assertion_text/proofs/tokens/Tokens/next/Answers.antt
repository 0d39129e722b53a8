use Rattle.pg_assertion_text.proofs.Texts.{text_of}
use Rattle.pg_assertion_text.proofs.tokens.Tokens.next.Goals as goal

pub returns-clause-text : goal.returns-clause-text
returns-clause-text c = text_of c.self.inside.lexer c.next.result _ _ (λ t h. h.0) c.next.ensures
