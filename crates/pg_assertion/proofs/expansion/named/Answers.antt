use Rattle.std.proofs.Common.{arith}
use Rattle.std.proofs.lemmas.Grind.{common_steps}
use Rattle.pg_assertion.proofs.ExpansionTerms.{named-more}
use Rattle.pg_assertion.proofs.expansion.named.Goals as goal

pub loop-x-preserved : goal.loop-x-preserved
loop-x-preserved c = grind (arith, common_steps, named-more)
