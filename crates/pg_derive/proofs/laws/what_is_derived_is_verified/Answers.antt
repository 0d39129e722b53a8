use Rattle.pg_derive.proofs.Verified.{derived-verified}
use Rattle.pg_derive.proofs.laws.what_is_derived_is_verified.Goals as goal

pub returns : goal.returns
returns c = derived-verified (record { axioms = c.axioms_are_counted.ensures.most_2; access = c.access_rules_are_counted.ensures.most_2; persist = c.persist_rules_are_counted.ensures.most_2 })
