use Rattle.std.proofs.lemmas.Result.{err_from_is_err_and}
use Rattle.std.proofs.Common.{ap, ◌∙◌}
use Rattle.pg_assertion.specs.Formula.{plain}
use Rattle.pg_layers.proofs.OverAxioms.{is_thread, is_below}
use Rattle.pg_layers.proofs.Given.{fresh_fits, fresh-stops, fresh-then}
use Rattle.pg_layers.proofs.obligation.offer_fresh.Goals as goal

pub offer-requires : goal.offer-requires
offer-requires g c =
    let l = c.args.layout.now in
    let f = fresh_fits c.args.o.now l c.names-names.result.now c.program.ensures.made c.requires.layout (c.names-names.ensures.names ∙ ap (λ p. p.names) c.program.ensures.program) in (
      λ k o. f.zero k (is_below l.scalars k o),
      (
        λ k o. (f.initial k (is_below l.locations k o), f.declared),
        (
          λ t p x o. (is_thread l t p, is_below l.locations x o),
          λ x o v p. ((is_below l.locations x o, is_below l.domain v p), f.inside x, f.declared),
        ),
      ),
    )

pub returns-in_err-offer : goal.returns-in_err-offer
returns-in_err-offer g c =
    let names = c.names-names.ensures.names ∙ ap (λ p. p.names) c.program.ensures.program in
    let p = err_from_is_err_and c.from_residual.result c.from_residual.ensures.1 in
    rw p.1 (fresh-stops g.S.ClauseSink.takes c.args.o.now c.args.layout.now c.names-names.result.now c.requires.layout names _ _ c.in_err-offer.ensures)

pub returns : goal.returns
returns g c =
    let names = c.names-names.ensures.names ∙ ap (λ p. p.names) c.program.ensures.program in
    fresh-then g.S.ClauseSink.takes c.args.o.now c.args.layout.now c.names-names.result.now c.requires.layout names c.offer_goal.result _ _ _ c.args.next (plain c.pre.result.now)
    c.requires.next c.pre.ensures.formula c.in_ok-offer.ensures c.offer_goal.ensures
