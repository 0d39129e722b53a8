-- Where an outline is made no file is read.
use Rattle.pg_app.proofs.Endings.{made_ends}
use Rattle.pg_app.proofs.run.perform.Goals as goal

pub returns-in-Made-clause-ends : goal.returns-in-Made-clause-ends
returns-in-Made-clause-ends g c = rw c.in-Made.is (made_ends c.in-Made.statements c.in-Made.budget c.judge_made.ensures)
