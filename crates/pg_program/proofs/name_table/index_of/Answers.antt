use Rattle.std.proofs.Common.{◌∙◌}
use Rattle.pg_program.proofs.NameLemmas.{place_in-by_bytes}
use Rattle.pg_program.proofs.name_table.index_of.Goals as goal

pub returns-in-Some : goal.returns-in-Some
returns-in-Some g c = c.in-Some.ensures.index ∙ place_in-by_bytes c.args.name.now c.args.entries.now.entries

pub returns-in-None : goal.returns-in-None
returns-in-None g c = c.in-None.ensures.index ∙ place_in-by_bytes c.args.name.now c.args.entries.now.entries
