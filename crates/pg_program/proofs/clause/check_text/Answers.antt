use Rattle.std.proofs.Common.{◌≡◌, ◌+◌, ◌<◌, ◌∙◌, sym, subst, arith, List, map, length, drop, Option, Some, IfSome, Vec, Global}
use Rattle.std.proofs.lemmas.Result.{err_from_is_err_and}
use Rattle.pg_program.specs.declared.syntax.Stmt.{Stmt}
use Rattle.pg_program.specs.Block.{block}
use Rattle.pg_program.specs.Graph.{statements}
use Rattle.pg_program.specs.Fault.{Fault, in_thread, in_threads, plain_fault}
use Rattle.pg_program.specs.Clause.{clause_of}
use Rattle.pg_program.specs.Program.{IsThread}
use Rattle.pg_program.proofs.ClauseLemmas.{in_threads-drop, item_viewed, length_viewed, All-viewed, stops}
use Rattle.pg_program.proofs.clause.check_text.Goals as goal

pub check_thread-requires : goal.check_thread-requires
check_thread-requires c =
    subst (IsThread c.args.names.now) (sym c.deref.ensures.value)
    (All-viewed (IsThread c.args.names.now) (λ (t : Vec Stmt Global). t.items) c.args.threads.now c.loop-i.i c.index-threads-i.result c.loop-i-test.true c.index-threads-i.is c.requires.each)

pub returns-in_err-check_thread : goal.returns-in_err-check_thread
returns-in_err-check_thread c =
    let C = clause_of c.args.clause c.args.names.now in
    let items : Vec Stmt Global → List Stmt = λ t. t.items in
    let ls = map items c.args.threads.now in
    let i = c.loop-i.i in
    let ss = c.index-threads-i.result.items in
    let here : i < length ls = let h = c.loop-i-test.true in omega (arith, length_viewed items c.args.threads.now) in
    let first = in_thread C (i + 1) 1 (statements (block ss)) in
    let rest = in_threads C (i + 1 + 1) (drop (i + 1) ls) in
    let e = c.in_err-check_thread.field-0.0 in
    let p = err_from_is_err_and c.from_residual.result c.from_residual.ensures.1 in
    rw (p.1, p.2)
    (subst (λ (f : Option Fault). IfSome (plain_fault e) (λ g. f ≡ Some g))
    (sym (sym c.loop-i.invariant ∙ in_threads-drop C (i + 1) ls i ss here (item_viewed items c.args.threads.now i c.index-threads-i.result c.index-threads-i.is)))
    (stops first rest e (subst (λ (l : List Stmt). IfSome (plain_fault e) (λ g. in_thread C (i + 1) 1 (statements (block l)) ≡ Some g)) c.deref.ensures.value c.in_err-check_thread.ensures)))
