use Rattle.pg_rules_access.proofs.StepFew.{few_1, few_2}
use Rattle.pg_rules_access.proofs.laws.access_rules_are_counted.Goals as goal

pub returns : goal.returns
returns c = record { most_1 = few_1; most_2 = few_2 }
