use Rattle.pg_program.proofs.GraphLaws.{each_has_steps}
use Rattle.pg_program.proofs.laws.each_statement_has_steps.Goals as goal

pub returns : goal.returns
returns c = each_has_steps
