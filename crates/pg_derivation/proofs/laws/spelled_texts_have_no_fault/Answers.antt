use Rattle.pg_derivation.proofs.Spelled.{spelled_is_found}
use Rattle.pg_derivation.proofs.laws.spelled_texts_have_no_fault.Goals as goal

pub returns : goal.returns
returns c = spelled_is_found
