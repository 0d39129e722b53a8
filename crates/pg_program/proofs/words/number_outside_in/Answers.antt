use Rattle.std.proofs.Common.{◌∙◌, ap, refl}
use Rattle.pg_program.specs.Fault.{first_outside}
use Rattle.pg_program.specs.Words.{bracket_numbers, numbers_of}
use Rattle.pg_program.proofs.FoundLemmas.{outside_both}
use Rattle.pg_program.proofs.words.number_outside_in.Goals as goal

pub returns : goal.returns
returns c =
    c.or.ensures
    ∙ outside_both c.args.domain _ _ _ _ (numbers_of c.args.stmt.now) c.number_of_act.ensures
    (c.number_of_bracket.ensures ∙ ap (λ l. first_outside c.args.domain (bracket_numbers l)) c.as_slice.ensures) refl
