use Rattle.pg_derive.proofs.Verified.{answer-unique}
use Rattle.pg_derive.proofs.laws.a_derivation_has_one_answer.Goals as goal

pub returns : goal.returns
returns c = answer-unique
