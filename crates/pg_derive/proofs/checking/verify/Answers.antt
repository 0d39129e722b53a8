use Rattle.std.proofs.Common.{◌≤◌, length, ap, subst, ◌∙◌, arith}
use Rattle.pg_program.specs.Limits.{most_scalars}
use Rattle.pg_program.specs.NameTable.{NameTable}
use Rattle.pg_program.specs.Program.{ProgramTable}
use Rattle.pg_outline.specs.Outline.{OutlineTable}
use Rattle.pg_judge.specs.Outcome.{obligation_count}
use Rattle.pg_derive.specs.Verified.{AreFirstValid}
use Rattle.pg_derive.proofs.Desks.{is-missing, is-extra, is-verified}
use Rattle.pg_derive.proofs.Full.{checked-never-full}
use Rattle.pg_derive.proofs.Verified.{verified-proved}
use Rattle.pg_derive.proofs.checking.verify.Goals as goal

pub returns-then-trees-count-clause-answer : goal.returns-then-trees-count-clause-answer
returns-then-trees-count-clause-answer c =
    is-missing c.args.o.now c.args.d.now c.trees-trees.result c.count-count.result c.trees-trees.ensures.count (c.count-count.ensures ∙ ap obligation_count c.of.ensures) c.if-trees-count.true
    (subst (λ (q : OutlineTable). AreFirstValid q c.args.d.now c.trees-trees.result) c.in_ok-desk.ensures.outline c.in_ok-check_trees.ensures)

pub returns-then-count-trees-clause-answer : goal.returns-then-count-trees-clause-answer
returns-then-count-trees-clause-answer c =
    is-extra c.args.o.now c.args.d.now c.trees-trees.result c.count-count.result c.trees-trees.ensures.count (c.count-count.ensures ∙ ap obligation_count c.of.ensures) c.if-count-trees.true
    (subst (λ (q : OutlineTable). AreFirstValid q c.args.d.now c.count-count.result) c.in_ok-desk.ensures.outline c.in_ok-check_trees-2.ensures)

pub returns-clause-answer : goal.returns-clause-answer
returns-clause-answer c =
    is-verified c.args.o.now c.args.d.now c.trees-trees.result c.count-count.result c.trees-trees.ensures.count (c.count-count.ensures ∙ ap obligation_count c.of.ensures)
    (omega (arith, c.if-trees-count.false)) (omega (arith, c.if-count-trees.false))
    (subst (λ (q : OutlineTable). AreFirstValid q c.args.d.now c.count-count.result) c.in_ok-desk.ensures.outline c.in_ok-check_trees-2.ensures)

pub returns-clause-proved : goal.returns-clause-proved
returns-clause-proved c =
    let o = c.args.o.now in
    let few : length o.program.names.scalars ≤ most_scalars = omega (arith, ap (λ (p : ProgramTable). length p.names.scalars) c.program.ensures.program, ap (λ (n : NameTable). length n.scalars) c.names.ensures.names, c.scalars-scalars.ensures.count, c.scalars-scalars.ensures.few) in
    verified-proved o c.args.d.now c.count-count.result c.program.ensures.made few
    (is-verified o c.args.d.now c.trees-trees.result c.count-count.result c.trees-trees.ensures.count (c.count-count.ensures ∙ ap obligation_count c.of.ensures)
    (omega (arith, c.if-trees-count.false)) (omega (arith, c.if-count-trees.false))
    (subst (λ (q : OutlineTable). AreFirstValid q c.args.d.now c.count-count.result) c.in_ok-desk.ensures.outline c.in_ok-check_trees-2.ensures))

pub returns-in_err-check_trees-clause-room : goal.returns-in_err-check_trees-clause-room
returns-in_err-check_trees-clause-room c =
    checked-never-full c.in_ok-desk.desk.loader.outline c.args.d.now c.trees-trees.result c.in_err-check_trees.field-0.0 c.from_residual-in_err-check_trees.result c.in_err-check_trees.ensures
    c.from_residual-in_err-check_trees.ensures.1

pub returns-in_err-check_trees-2-clause-room : goal.returns-in_err-check_trees-2-clause-room
returns-in_err-check_trees-2-clause-room c =
    checked-never-full c.in_ok-desk.desk.loader.outline c.args.d.now c.count-count.result c.in_err-check_trees-2.field-0.0 c.from_residual-in_err-check_trees-2.result c.in_err-check_trees-2.ensures
    c.from_residual-in_err-check_trees-2.ensures.1
