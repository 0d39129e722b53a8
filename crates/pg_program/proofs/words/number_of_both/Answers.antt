use Rattle.std.proofs.Common.{◌∙◌, refl}
use Rattle.pg_program.proofs.FoundLemmas.{outside_both}
use Rattle.pg_program.proofs.words.number_of_both.Goals as goal

pub returns : goal.returns
returns c = c.or.ensures ∙ outside_both c.args.domain _ _ _ _ _ c.number_outside.ensures c.number_outside-2.ensures refl
