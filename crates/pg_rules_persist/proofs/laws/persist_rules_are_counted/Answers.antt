use Rattle.pg_rules_persist.proofs.PersistFew.{few_1, few_2, cas_1, cas_2, flush_2}
use Rattle.pg_rules_persist.proofs.laws.persist_rules_are_counted.Goals as goal

pub returns : goal.returns
returns c = record { most_1 = few_1; most_2 = few_2; cas_1 = cas_1; cas_2 = cas_2; flush_2 = flush_2 }
