use Rattle.pg_assertion.proofs.LayoutOrder.{places_are_numbers}
use Rattle.pg_assertion.proofs.layout.places_are_numbers.Goals as goal

pub returns : goal.returns
returns c = places_are_numbers
