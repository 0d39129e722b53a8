use Rattle.pg_io.proofs.real.read_within.Goals as goal

pub returns-then-read-limit-clause-empty : goal.returns-then-read-limit-clause-empty
returns-then-read-limit-clause-empty g c = c.clear-then-read-limit.ensures.items
