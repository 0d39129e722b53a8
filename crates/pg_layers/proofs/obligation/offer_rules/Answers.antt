use Rattle.std.proofs.Common.{length, sym, ap, subst, ◌∙◌}
use Rattle.std.proofs.lemmas.Result.{err_from_is_err_and}
use Rattle.pg_program.specs.Program.{ProgramTable}
use Rattle.pg_assertion.specs.Layout.{sizes}
use Rattle.pg_tables.specs.Steps.{IsStepOf}
use Rattle.pg_layers.proofs.Given.{rules_then, rules_stop}
use Rattle.pg_layers.proofs.obligation.offer_rules.Goals as goal

pub access_rules-requires-clause-layout : goal.access_rules-requires-clause-layout
access_rules-requires-clause-layout g c = c.requires.layout ∙ ap (λ (p : ProgramTable). sizes p.names (length p.threads)) (sym c.program-p.ensures.program)

pub access_rules-requires-clause-step : goal.access_rules-requires-clause-step
access_rules-requires-clause-step g c = subst (λ (p : ProgramTable). IsStepOf p c.args.step.now) (sym c.program-p.ensures.program) c.requires.step

pub persist_rules-requires-clause-layout : goal.persist_rules-requires-clause-layout
persist_rules-requires-clause-layout g c = c.requires.layout ∙ ap (λ (p : ProgramTable). sizes p.names (length p.threads)) (sym c.program-p.ensures.program)

pub persist_rules-requires-clause-step : goal.persist_rules-requires-clause-step
persist_rules-requires-clause-step g c = subst (λ (p : ProgramTable). IsStepOf p c.args.step.now) (sym c.program-p.ensures.program) c.requires.step

pub returns-in_err-access_rules : goal.returns-in_err-access_rules
returns-in_err-access_rules g c =
    let p = err_from_is_err_and c.from_residual.result c.from_residual.ensures.1 in
    rw p.1 (rules_stop g.S.ClauseSink.takes _ _ c.args.layout.now _ _ c.args.o.now.program c.args.step.now c.requires.layout c.program-p.ensures.program c.in_err-access_rules.ensures)

pub returns : goal.returns
returns g c =
    rules_then g.S.ClauseSink.takes c.persist_rules.result _ _ _ c.args.layout.now _ _ c.args.o.now.program c.args.step.now c.requires.layout c.program-p.ensures.program c.in_ok-access_rules.ensures c.persist_rules.ensures
