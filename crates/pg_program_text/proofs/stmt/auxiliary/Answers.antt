use Rattle.std.proofs.Common.{◌∙◌, sym, ap, Ok}
use Rattle.pg_lex.specs.Lex.{lexeme}
use Rattle.pg_program_text.proofs.Names.{scalar_within}
use Rattle.pg_program_text.proofs.stmt.auxiliary.Goals as goal

pub is_auxiliary-requires : goal.is_auxiliary-requires
is_auxiliary-requires c =
    scalar_within c.args.names.now (lexeme c.args.token.now) c.in-Ok-Scalar.r (sym c.named.ensures ∙ c.in-Ok-Scalar.is ∙ ap (λ r. Ok r) c.in-Ok-Scalar.field-0-is)
