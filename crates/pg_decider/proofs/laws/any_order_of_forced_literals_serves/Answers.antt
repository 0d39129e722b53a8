use Rattle.pg_decider.proofs.Sound.{any-order-closes, any-order-conflicts}
use Rattle.pg_decider.proofs.laws.any_order_of_forced_literals_serves.Goals as goal

pub returns-clause-closes : goal.returns-clause-closes
returns-clause-closes c = any-order-closes

pub returns-clause-conflicts : goal.returns-clause-conflicts
returns-clause-conflicts c = any-order-conflicts
