use Rattle.std.proofs.Common.{◌∙◌, refl}
use Rattle.pg_program.specs.Clause.{is_sought}
use Rattle.pg_program.proofs.FoundLemmas.{found_both}
use Rattle.pg_program.proofs.words.sought_in_both.Goals as goal

pub returns : goal.returns
returns c = c.or.ensures ∙ found_both (is_sought c.args.sought c.args.names.now) _ _ _ _ _ c.sought_in.ensures c.sought_in-2.ensures refl
