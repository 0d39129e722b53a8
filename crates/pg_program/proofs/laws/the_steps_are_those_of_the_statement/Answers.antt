use Rattle.pg_program.proofs.GraphLaws.{steps_of_statements}
use Rattle.pg_program.proofs.laws.the_steps_are_those_of_the_statement.Goals as goal

pub returns : goal.returns
returns c = steps_of_statements
