use Rattle.pg_program.proofs.FlowLaws.{steps_flow}
use Rattle.pg_program.proofs.laws.steps_lead_as_the_nesting_says.Goals as goal

pub returns : goal.returns
returns c = steps_flow
