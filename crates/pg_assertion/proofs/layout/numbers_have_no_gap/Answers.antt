use Rattle.pg_assertion.proofs.LayoutOrder.{numbers_have_no_gap}
use Rattle.pg_assertion.proofs.layout.numbers_have_no_gap.Goals as goal

pub returns : goal.returns
returns c = numbers_have_no_gap
