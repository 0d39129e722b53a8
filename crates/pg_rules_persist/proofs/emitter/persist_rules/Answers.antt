use Rattle.std.proofs.Common.{◌≡◌, Some, sym, subst}
use Rattle.pg_assertion.specs.Layout.{Sizes}
use Rattle.pg_program.specs.declared.syntax.Stmt.{out-Stmt}
use Rattle.pg_program.specs.declared.syntax.Act.{out-Act}
use Rattle.pg_program.specs.Program.{stmt_at}
use Rattle.pg_rules_persist.specs.Persist.{IsActOver}
use Rattle.pg_rules_persist.proofs.Acts.{stmt_over, whole}
use Rattle.pg_rules_persist.proofs.emitter.persist_rules.Goals as goal

pub offer_act-requires-clause-act : goal.offer_act-requires-clause-act
offer_act-requires-clause-act g c =
    let p = c.args.p.now in
    let step = c.args.step.now in
    let stmt = c.in-Some.stmt.now in
    let at : stmt_at p step.thread step.point ≡ Some stmt = sym c.in-Some.ensures in
    subst (λ (l : Sizes). IsActOver l (out-Act (out-Stmt stmt).act)) (sym c.requires.layout)
    (stmt_over p c.names.ensures.built step.thread step.point stmt c.requires.step.thread.0 c.requires.step.thread.1 at)

pub returns-in-Some : goal.returns-in-Some
returns-in-Some g c =
    let p = c.args.p.now in
    let step = c.args.step.now in
    let stmt = c.in-Some.stmt.now in
    let at : stmt_at p step.thread step.point ≡ Some stmt = sym c.in-Some.ensures in
    whole g.S.ClauseSink.takes c.offer_act.result (g.S.ClauseSink.view c.args.into.now) (g.S.ClauseSink.view c.offer_act.new.into) c.args.layout.now
    p step c.names.result.now stmt c.requires.layout c.names.ensures.names at c.offer_act.ensures
