use Rattle.pg_program.specs.declared.syntax.Act.TheVariants.{outs-Assign, outs-Store, outs-Load, outs-Cas, outs-Mfence, outs-Sfence}
use Rattle.pg_rules_access.proofs.Acts.{gives}
use Rattle.pg_rules_access.proofs.emitter.offer_act.Goals as goal

pub returns-in-Assign : goal.returns-in-Assign
returns-in-Assign g c =
    gives g.S.ClauseSink.takes c.offer_assign.result (g.S.ClauseSink.view c.args.into.now) (g.S.ClauseSink.view c.offer_assign.new.into) c.args.layout.now
    c.args.context.now.names.now c.args.context.now.thread c.args.context.now.branch c.args.context.now.aux.now c.args.act.now _ _ c.in-Assign.is (outs-Assign c.in-Assign.target c.in-Assign.expr) c.offer_assign.ensures

pub returns-in-Store : goal.returns-in-Store
returns-in-Store g c =
    gives g.S.ClauseSink.takes c.offer_store.result (g.S.ClauseSink.view c.args.into.now) (g.S.ClauseSink.view c.offer_store.new.into) c.args.layout.now
    c.args.context.now.names.now c.args.context.now.thread c.args.context.now.branch c.args.context.now.aux.now c.args.act.now _ _ c.in-Store.is (outs-Store c.in-Store.location c.in-Store.expr) c.offer_store.ensures

pub returns-in-Load : goal.returns-in-Load
returns-in-Load g c =
    gives g.S.ClauseSink.takes c.offer_load.result (g.S.ClauseSink.view c.args.into.now) (g.S.ClauseSink.view c.offer_load.new.into) c.args.layout.now
    c.args.context.now.names.now c.args.context.now.thread c.args.context.now.branch c.args.context.now.aux.now c.args.act.now _ _ c.in-Load.is (outs-Load c.in-Load.target c.in-Load.location) c.offer_load.ensures

pub returns-in-Cas : goal.returns-in-Cas
returns-in-Cas g c =
    gives g.S.ClauseSink.takes c.offer_cas.result (g.S.ClauseSink.view c.args.into.now) (g.S.ClauseSink.view c.offer_cas.new.into) c.args.layout.now
    c.args.context.now.names.now c.args.context.now.thread c.args.context.now.branch c.args.context.now.aux.now c.args.act.now _ _ c.in-Cas.is (outs-Cas c.in-Cas.target c.in-Cas.location c.in-Cas.expected c.in-Cas.desired) c.offer_cas.ensures

pub returns-in-Mfence : goal.returns-in-Mfence
returns-in-Mfence g c =
    gives g.S.ClauseSink.takes c.offer_mfence.result (g.S.ClauseSink.view c.args.into.now) (g.S.ClauseSink.view c.offer_mfence.new.into) c.args.layout.now
    c.args.context.now.names.now c.args.context.now.thread c.args.context.now.branch c.args.context.now.aux.now c.args.act.now _ _ c.in-Mfence.is outs-Mfence c.offer_mfence.ensures

pub returns-in-Sfence : goal.returns-in-Sfence
returns-in-Sfence g c =
    gives g.S.ClauseSink.takes c.offer_sfence.result (g.S.ClauseSink.view c.args.into.now) (g.S.ClauseSink.view c.offer_sfence.new.into) c.args.layout.now
    c.args.context.now.names.now c.args.context.now.thread c.args.context.now.branch c.args.context.now.aux.now c.args.act.now _ _ c.in-Sfence.is outs-Sfence c.offer_sfence.ensures
