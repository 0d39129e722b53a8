use Rattle.pg_soundness.proofs.AccessTrue.{access_rules_are_true}
use Rattle.pg_soundness.proofs.laws.access_rules_are_true.Goals as goal

pub returns : goal.returns
returns c = access_rules_are_true
