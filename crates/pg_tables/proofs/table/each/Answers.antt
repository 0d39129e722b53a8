use Rattle.std.proofs.Common.{arith}
use Rattle.std.proofs.lemmas.Result.{err_from_is_err_and}
use Rattle.pg_tables.proofs.Lists.{Each-stops, Each-goes_on}
use Rattle.pg_tables.proofs.table.each.Goals as goal

pub returns-in_err-offer_at : goal.returns-in_err-offer_at
returns-in_err-offer_at g c =
    let p = err_from_is_err_and c.from_residual.result c.from_residual.ensures.1 in
    rw p.1 (Each-stops c.args.setting.now (λ k. g.F.Rows.rows c.args.setting.now.layout c.args.rows.now (c.args.i, k)) g.S.ClauseSink.takes (g.S.ClauseSink.view c.args.into.now) _ _
    c.args.from c.args.count c.loop-k.k (omega arith) (omega arith) c.loop-k.invariant c.in_err-offer_at.ensures)

pub loop-k-preserved : goal.loop-k-preserved
loop-k-preserved g c =
    Each-goes_on c.args.setting.now (λ k. g.F.Rows.rows c.args.setting.now.layout c.args.rows.now (c.args.i, k)) _ _ _
    c.args.from c.loop-k.k (omega arith) c.loop-k.invariant c.in_ok-offer_at.ensures
