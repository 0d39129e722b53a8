-- Each call ends with one of the program's statuses.
use Rattle.pg_app.proofs.Endings.{started_in_range}
use Rattle.pg_app.proofs.perform.Goals as goal

pub returns : goal.returns
returns g c = started_in_range c.collected_words.result c.started.result c.started.ensures.range c.started.ensures.refused c.collected_words.ensures
