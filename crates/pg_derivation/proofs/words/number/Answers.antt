use Rattle.pg_derivation.proofs.Numbers.{number_fits}
use Rattle.pg_derivation.proofs.words.number.Goals as goal

pub returns-in-Some-clause-fits : goal.returns-in-Some-clause-fits
returns-in-Some-clause-fits c = number_fits _ _ c.in-Some.ensures
