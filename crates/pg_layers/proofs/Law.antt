-- The clauses of an obligation decide it.
use Rattle.pg_layers.specs.Clauses.{layout_of, entailment_of}
use Rattle.pg_layers.specs.Decide.{ClausesDecide}
use Rattle.pg_layers.proofs.Decides.{only_then, then_follows}
use Rattle.pg_layers.proofs.Members.{is_obligation}
use Rattle.pg_layers.proofs.Parts.{entailment_over}

pub clauses_decide : ClausesDecide
clauses_decide o ob made has =
    let l = layout_of o in
    let e = entailment_of o ob in
    (only_then l e, then_follows l e (entailment_over o made ob (is_obligation o.program ob has)))
