use Rattle.pg_derivation.proofs.Numbers.{literal_fits}
use Rattle.pg_derivation.proofs.words.literal.Goals as goal

pub returns-in-Some-clause-fits : goal.returns-in-Some-clause-fits
returns-in-Some-clause-fits c = literal_fits _ _ c.in-Some.ensures
