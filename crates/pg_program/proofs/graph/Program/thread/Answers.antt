use Rattle.std.proofs.Common.{◌≡◌, ◌-◌, ◌<◌, ap, arith, List, map, length, Vec, Global}
use Rattle.pg_program.specs.declared.syntax.Stmt.{Stmt}
use Rattle.pg_program.specs.Block.{block}
use Rattle.pg_program.specs.Graph.{size}
use Rattle.pg_program.specs.Program.{ProgramTable, IsThread}
use Rattle.pg_program.proofs.ClauseLemmas.{All-viewed, length_viewed}
use Rattle.pg_program.proofs.graph.Program.thread.Goals as goal

pub returns-clause-short : goal.returns-clause-short
returns-clause-short c =
    let p = c.self.inside in
    let items : Vec Stmt Global → List Stmt = λ t. t.items in
    let count : length (map items p.threads.items) ≡ length c.args.self.now.threads = ap (λ (q : ProgramTable). length q.threads) c.self.view_is in
    let from = c.from.ensures in
    let low = c.requires.0 in
    let high = c.requires.1 in
    let here : c.from.result - 1 < length p.threads.items = omega (arith, length_viewed items p.threads.items) in
    let thread = All-viewed (IsThread p.names) items p.threads.items (c.from.result - 1) c.index.result.now here c.index.ensures c.self.invariant.0.threads.each in
    let short = thread.few in
    let same = ap (λ (l : List Stmt). size (block l)) c.as_slice.ensures.value in
    omega (arith, short, same)
