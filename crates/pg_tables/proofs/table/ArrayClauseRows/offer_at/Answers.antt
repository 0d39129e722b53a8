use Rattle.std.proofs.Common.{arith}
use Rattle.std.proofs.lemmas.Result.{err_from_is_err_and}
use Rattle.pg_tables.proofs.Lists.{List-stops}
use Rattle.pg_tables.proofs.table.ArrayClauseRows.offer_at.Goals as goal

pub returns-in_err-offer : goal.returns-in_err-offer
returns-in_err-offer g c =
    let p = err_from_is_err_and c.from_residual.result c.from_residual.ensures.1 in
    rw p.1 (List-stops c.args.setting.now g.S.ClauseSink.takes _ _ _ c.args.self.now c.loop-clause.clause-index c.clause-item.result
    (omega arith) c.loop-clause.invariant c.in_err-offer.ensures)
