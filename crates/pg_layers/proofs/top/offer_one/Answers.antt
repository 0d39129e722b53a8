use Rattle.std.proofs.Common.{[]}
use Rattle.std.proofs.lemmas.Result.{err_from_is_err_and}
use Rattle.pg_assertion.specs.Formula.{plain}
use Rattle.pg_assertion.specs.declared.layout.Side.TheVariants.{Before}
use Rattle.pg_layers.specs.Top.{placed}
use Rattle.pg_layers.proofs.Given.{still_new, given-stops, given-then}
use Rattle.pg_layers.proofs.top.offer_one.Goals as goal

pub returns-in_err-next : goal.returns-in_err-next
returns-in_err-next g c =
    let l = c.args.layout.now in
    let p = err_from_is_err_and c.from_residual.result c.from_residual.ensures.1 in
    rw p.1 (given-stops g.S.ClauseSink.takes c.args.next (placed l Before (plain c.args.f.now)) ([]) (placed l c.args.side (plain c.args.goal.now)) _ _ c.in_err-next.ensures)

pub offer_goal-requires-clause-new : goal.offer_goal-requires-clause-new
offer_goal-requires-clause-new g c = still_new g.S.ClauseSink.takes _ _ c.args.next c.in_ok-next.next _ _ c.in_ok-next.ensures c.requires.new

pub returns : goal.returns
returns g c =
    let l = c.args.layout.now in
    given-then g.S.ClauseSink.takes c.args.next (placed l Before (plain c.args.f.now)) ([]) (placed l c.args.side (plain c.args.goal.now)) c.offer_goal.result _ _ _ c.in_ok-next.next c.in_ok-next.ensures c.offer_goal.ensures
