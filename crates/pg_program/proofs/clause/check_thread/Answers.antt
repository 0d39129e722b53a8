use Rattle.std.proofs.Common.{◌≡◌, ◌+◌, ◌∙◌, ap, sym, subst, arith, drop, Option, Some, IfSome}
use Rattle.std.proofs.lemmas.Result.{err_from_is_err_and}
use Rattle.pg_program.specs.Block.{block}
use Rattle.pg_program.specs.Graph.{statements}
use Rattle.pg_program.specs.Fault.{Fault, in_thread, first_of, plain_fault}
use Rattle.pg_program.specs.Clause.{clause_of}
use Rattle.pg_program.proofs.GraphLemmas.{length-statements}
use Rattle.pg_program.proofs.ClauseLemmas.{in_thread-drop, drop-all, stops, none_within}
use Rattle.pg_program.proofs.clause.check_thread.Goals as goal

pub unreachable-requires : goal.unreachable-requires
unreachable-requires c =
    let ss = statements (block c.args.stmts.now) in
    let long = length-statements (block c.args.stmts.now) in
    let end = c.count-place-end.ensures in
    let here = c.loop-place-test.true in
    absurd (none_within ss c.loop-place.place (omega arith) c.in-None.ensures)

pub returns-in_err-check_stmt-in-Some : goal.returns-in_err-check_stmt-in-Some
returns-in_err-check_stmt-in-Some c =
    let C = clause_of c.args.clause c.args.names.now in
    let ss = statements (block c.args.stmts.now) in
    let k = c.loop-place.place in
    let rest = in_thread C c.args.thread (k + 1 + 1) (drop (k + 1) ss) in
    let e = c.in_err-check_stmt-in-Some.field-0.0 in
    let p = err_from_is_err_and c.from_residual.result c.from_residual.ensures.1 in
    rw (p.1, p.2)
    (subst (λ (f : Option Fault). IfSome (plain_fault e) (λ g. f ≡ Some g))
    (sym (sym c.loop-place.invariant ∙ in_thread-drop C c.args.thread (k + 1) ss k c.in-Some.stmt.now (sym c.in-Some.ensures)))
    (stops (C (record { thread = c.args.thread; point = k + 1 }) c.in-Some.stmt.now) rest e c.in_err-check_stmt-in-Some.ensures))

pub loop-place-preserved : goal.loop-place-preserved
loop-place-preserved c =
    let C = clause_of c.args.clause c.args.names.now in
    let ss = statements (block c.args.stmts.now) in
    let k = c.loop-place.place in
    let rest = in_thread C c.args.thread (k + 1 + 1) (drop (k + 1) ss) in
    sym (ap (λ (f : Option Fault). first_of f rest) c.in_ok-check_stmt-in-Some.ensures)
    ∙ (sym (in_thread-drop C c.args.thread (k + 1) ss k c.in-Some.stmt.now (sym c.in-Some.ensures)) ∙ c.loop-place.invariant)

pub returns : goal.returns
returns c =
    let C = clause_of c.args.clause c.args.names.now in
    let ss = statements (block c.args.stmts.now) in
    let k = c.loop-place.place in
    let long = length-statements (block c.args.stmts.now) in
    let end = c.count-place-end.ensures in
    let there = c.loop-place-test.false in
    sym c.loop-place.invariant ∙ ap (in_thread C c.args.thread (k + 1)) (drop-all ss k (omega arith))
