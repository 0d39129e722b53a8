use Rattle.pg_program.proofs.GraphLaws.{steps_lead_within}
use Rattle.pg_program.proofs.laws.steps_lead_within_their_thread.Goals as goal

pub returns : goal.returns
returns c = steps_lead_within
