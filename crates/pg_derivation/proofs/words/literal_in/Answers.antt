use Rattle.pg_derivation.proofs.Numbers.{number_fits}
use Rattle.pg_derivation.proofs.words.literal_in.Goals as goal

pub of-requires : goal.of-requires
of-requires c = number_fits _ _ c.in_ok-number_in.ensures

pub of-requires-else-first-eq45 : goal.of-requires-else-first-eq45
of-requires-else-first-eq45 c = number_fits _ _ c.in_ok-number_in-2.ensures
