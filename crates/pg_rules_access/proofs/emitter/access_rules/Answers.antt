use Rattle.std.proofs.Common.{◌≡◌, ◌≤◌, List, length, arith, Some, sym, ap, subst, ◌∙◌}
use Rattle.pg_assertion.specs.Layout.{Sizes}
use Rattle.pg_program.specs.declared.syntax.AuxAssign.{AuxAssign}
use Rattle.pg_program.specs.NameTable.{NameTable}
use Rattle.pg_program.specs.Program.{stmt_at}
use Rattle.pg_rules_access.specs.Values.{AreAssigns}
use Rattle.pg_rules_access.specs.Access.{IsStmtOver}
use Rattle.pg_rules_access.proofs.Acts.{whole}
use Rattle.pg_rules_access.proofs.StmtOver.{stmt_over}
use Rattle.pg_rules_access.proofs.emitter.access_rules.Goals as goal

pub offer_act-requires-clause-context : goal.offer_act-requires-clause-context
offer_act-requires-clause-context g c =
    let p = c.args.p.now in
    let step = c.args.step.now in
    let at : stmt_at p step.thread step.point ≡ Some c.in-Some.stmt.now = sym c.in-Some.ensures in
    let most : c.args.layout.now.scalars ≤ 16 = c.scalars.ensures.limits.few_scalars in
    let few : length p.names.scalars ≤ 16 = omega (arith, most, ap (λ (l : Sizes). l.scalars) c.requires.layout) in
    let over = subst (λ (l : Sizes). IsStmtOver l c.in-Some.stmt.now) (sym c.requires.layout)
    (stmt_over p c.names.ensures.built few step.thread step.point c.in-Some.stmt.now c.requires.step.thread.0 c.requires.step.thread.1 at) in
    let threads = ap (λ (l : Sizes). l.threads) c.requires.layout in
    let high = c.requires.step.thread.1 in
    record {
      scalars = ap (λ (l : Sizes). l.scalars) c.requires.layout ∙ ap (λ (n : NameTable). length n.scalars) (sym c.names.ensures.names);
      locations = ap (λ (l : Sizes). l.locations) c.requires.layout ∙ ap (λ (n : NameTable). length n.locations) (sym c.names.ensures.names);
      thread = record { first = c.requires.step.thread.0; last = omega (arith, threads, high) };
      assigns = subst (λ (aux : List AuxAssign). AreAssigns c.args.layout.now aux) (sym c.as_slice.ensures) over.1;
    }

pub offer_act-requires-clause-act : goal.offer_act-requires-clause-act
offer_act-requires-clause-act g c =
    let p = c.args.p.now in
    let step = c.args.step.now in
    let at : stmt_at p step.thread step.point ≡ Some c.in-Some.stmt.now = sym c.in-Some.ensures in
    let most : c.args.layout.now.scalars ≤ 16 = c.scalars.ensures.limits.few_scalars in
    let few : length p.names.scalars ≤ 16 = omega (arith, most, ap (λ (l : Sizes). l.scalars) c.requires.layout) in
    let over = subst (λ (l : Sizes). IsStmtOver l c.in-Some.stmt.now) (sym c.requires.layout)
    (stmt_over p c.names.ensures.built few step.thread step.point c.in-Some.stmt.now c.requires.step.thread.0 c.requires.step.thread.1 at) in
    over.0

pub returns-in-Some : goal.returns-in-Some
returns-in-Some g c =
    let p = c.args.p.now in
    let step = c.args.step.now in
    let at : stmt_at p step.thread step.point ≡ Some c.in-Some.stmt.now = sym c.in-Some.ensures in
    whole g.S.ClauseSink.takes c.offer_act.result (g.S.ClauseSink.view c.args.into.now) (g.S.ClauseSink.view c.offer_act.new.into) c.args.layout.now
    p step c.names.result.now c.as_slice.result.now c.in-Some.stmt.now c.requires.layout c.names.ensures.names c.as_slice.ensures at c.offer_act.ensures
