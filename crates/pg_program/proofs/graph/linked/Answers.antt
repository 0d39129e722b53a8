use Rattle.std.proofs.Common.{◌<◌, ap, arith, List, Vec, Global}
use Rattle.pg_program.specs.declared.syntax.Stmt.{Stmt}
use Rattle.pg_program.specs.Limits.{most_points}
use Rattle.pg_program.specs.Block.{block}
use Rattle.pg_program.specs.Graph.{size}
use Rattle.pg_program.proofs.ClauseLemmas.{All-viewed}
use Rattle.pg_program.proofs.graph.linked.Goals as goal

pub thread_steps-requires : goal.thread_steps-requires
thread_steps-requires c =
    let short = All-viewed (λ (ss : List Stmt). size (block ss) < most_points) (λ (t : Vec Stmt Global). t.items) c.args.threads.now c.loop-stmts.stmts-index c.stmts-item.result c.loop-stmts-test.true c.stmts-item.is c.requires.short in
    let same = ap (λ (l : List Stmt). size (block l)) c.deref.ensures.value in
    omega (arith, short, same)
