use Rattle.pg_soundness.proofs.PersistTrue.{persist_rules_are_true}
use Rattle.pg_soundness.proofs.persist.persist_rules_are_true.Goals as goal

pub returns : goal.returns
returns c = persist_rules_are_true
