use Rattle.pg_assertion.proofs.ExpansionSizes.{expansions_have_their_size}
use Rattle.pg_assertion.proofs.expansion.expansions_have_their_size.Goals as goal

pub returns : goal.returns
returns c = expansions_have_their_size
