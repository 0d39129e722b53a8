use Rattle.pg_program.specs.Block.{block}
use Rattle.pg_program.proofs.AppendLemmas.{owes_nothing}
use Rattle.pg_program.proofs.GraphLemmas.{links_none, links_all, parts_fit, first_fits, second_fits, rest_fits}
use Rattle.pg_program.proofs.graph.+link.Goals as goal

pub returns-in-None : goal.returns-in-None
returns-in-None t c = links_none _ c.args.thread c.args.first c.args.exit (block c.args.stmts.now) c.in-None.ensures

pub leads-to-requires : goal.leads-to-requires
leads-to-requires t c = parts_fit c.args.first t _ _ _ _ _ c.in-Some.ensures c.requires

pub returns-in_err-push_steps : goal.returns-in_err-push_steps
returns-in_err-push_steps t c = owes_nothing c.from_residual.result _ c.from_residual.ensures.0

pub link-requires : goal.link-requires
link-requires t c = first_fits c.args.first t _ _ _ _ _ c.in-Some.ensures c.decreases c.requires

pub returns-in_err-link : goal.returns-in_err-link
returns-in_err-link t c = owes_nothing c.from_residual-in_err-link.result _ c.from_residual-in_err-link.ensures.0

pub link-requires-2 : goal.link-requires-2
link-requires-2 t c = second_fits c.args.first t _ _ _ _ _ c.leads-to.result.second c.in-Some.ensures c.decreases c.requires c.leads-to.ensures.second

pub returns-in_err-link-2 : goal.returns-in_err-link-2
returns-in_err-link-2 t c = owes_nothing c.from_residual-in_err-link-2.result _ c.from_residual-in_err-link-2.ensures.0

pub link-requires-3 : goal.link-requires-3
link-requires-3 t c =
    rest_fits c.args.first t _ _ _ _ _ c.leads-to.result.second c.leads-to.result.later c.in-Some.ensures c.decreases c.requires c.leads-to.ensures.second c.leads-to.ensures.later

pub returns : goal.returns
returns t c =
    let to = c.leads-to.result in
    links_all c.link-3.result _ _ _ _ _ c.args.thread c.args.first c.args.exit _ _ _ _ _ to.second to.later to.next to.back to.yes to.no
    c.in-Some.ensures c.leads-to.ensures.second c.leads-to.ensures.later c.leads-to.ensures.next c.leads-to.ensures.back c.leads-to.ensures.yes c.leads-to.ensures.no
    c.in_ok-push_steps.ensures c.in_ok-link.ensures c.in_ok-link-2.ensures c.link-3.ensures
