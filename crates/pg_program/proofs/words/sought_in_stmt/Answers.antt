use Rattle.std.proofs.Common.{◌∙◌, ap, refl}
use Rattle.std.specs.List.{find}
use Rattle.pg_program.specs.Clause.{is_sought}
use Rattle.pg_program.specs.Words.{outside, bracket_scalars, scalars_of}
use Rattle.pg_program.proofs.FoundLemmas.{found_both}
use Rattle.pg_program.proofs.words.sought_in_stmt.Goals as goal

pub returns : goal.returns
returns c =
    let p = is_sought c.args.sought c.args.names.now in
    c.or.ensures
    ∙ found_both p _ _ (outside c.args.stmt.now) _ (scalars_of c.args.stmt.now) c.sought_outside.ensures
    (c.sought_in_bracket.ensures ∙ ap (λ l. find p (bracket_scalars l)) c.as_slice.ensures) refl
