use Rattle.std.proofs.Common.{List, None, refl, subst}
use Rattle.pg_assertion.specs.declared.atom.ViewAtom.{ViewAtom}
use Rattle.pg_region.specs.Sink.{Emitted}
use Rattle.pg_tables.specs.declared.clause.StepLiteral.{StepLiteral}
use Rattle.pg_tables.specs.Clause.{written}
use Rattle.pg_rules_persist.specs.Persist.{persist_rows}
use Rattle.pg_rules_persist.proofs.emitter.offer_act.Goals as goal

pub offer-requires : goal.offer-requires
offer-requires g c = λ a h. (refl, h, c.requires.thread, c.requires.locations, c.of-kind.ensures.within c.args.layout.now c.requires.act)

pub returns : goal.returns
returns g c =
    let l = c.args.layout.now in
    subst (λ (row : ViewAtom → List (List StepLiteral)). Emitted g.S.ClauseSink.takes c.offer.result (g.S.ClauseSink.view c.args.into.now) (g.S.ClauseSink.view c.offer.new.into)
    (written (record { layout = l; case = None }) (persist_rows l row)))
    (c.of-kind.ensures.row c.args.names.now c.args.thread) c.offer.ensures
