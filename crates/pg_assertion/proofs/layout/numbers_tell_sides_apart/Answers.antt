use Rattle.pg_assertion.proofs.LayoutOrder.{numbers_tell_sides_apart}
use Rattle.pg_assertion.proofs.layout.numbers_tell_sides_apart.Goals as goal

pub returns : goal.returns
returns c = numbers_tell_sides_apart
