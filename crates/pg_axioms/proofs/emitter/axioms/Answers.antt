use Rattle.std.proofs.lemmas.Result.{err_from_is_err_and}
use Rattle.pg_axioms.proofs.Parts.{first-stops, second-stops, all-given}
use Rattle.pg_axioms.proofs.emitter.axioms.Goals as goal

pub returns-in_err-offer_last_values : goal.returns-in_err-offer_last_values
returns-in_err-offer_last_values g c =
    let p = err_from_is_err_and c.from_residual.result c.from_residual.ensures.1 in
    rw p.1 (first-stops c.args.layout.now c.args.side g.S.ClauseSink.takes _ _ c.in_err-offer_last_values.ensures)

pub returns-in_err-offer_views : goal.returns-in_err-offer_views
returns-in_err-offer_views g c =
    let p = err_from_is_err_and c.from_residual-in_err-offer_views.result c.from_residual-in_err-offer_views.ensures.1 in
    rw p.1 (second-stops c.args.layout.now c.args.side g.S.ClauseSink.takes _ _ _ c.in_ok-offer_last_values.ensures c.in_err-offer_views.ensures)

pub returns : goal.returns
returns g c =
    all-given c.args.layout.now c.args.side g.S.ClauseSink.takes c.offer_loads.result _ _ _ _ c.in_ok-offer_last_values.ensures c.in_ok-offer_views.ensures c.offer_loads.ensures
