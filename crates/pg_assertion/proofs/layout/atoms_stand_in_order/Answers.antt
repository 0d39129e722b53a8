use Rattle.pg_assertion.proofs.LayoutOrder.{atoms_stand_in_order}
use Rattle.pg_assertion.proofs.layout.atoms_stand_in_order.Goals as goal

pub returns : goal.returns
returns c = atoms_stand_in_order
