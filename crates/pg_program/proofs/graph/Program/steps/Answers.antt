use Rattle.std.proofs.Common.{◌≡◌, ◌-◌, ◌∙◌, ap, arith, List, [], map, length, get_or, Vec, Global}
use Rattle.pg_program.specs.declared.syntax.Stmt.{Stmt}
use Rattle.pg_program.specs.Program.{ProgramTable, steps_at}
use Rattle.pg_program.proofs.GraphLemmas.{graphs-of}
use Rattle.pg_program.proofs.graph.Program.steps.Goals as goal

pub returns : goal.returns
returns c =
    let p = c.self.inside in
    let items : Vec Stmt Global → List Stmt = λ t. t.items in
    let ls = map items p.threads.items in
    let t = c.args.at.thread in
    let k = c.args.at.point in
    let count : length ls ≡ length c.args.self.now.threads = ap (λ (q : ProgramTable). length q.threads) c.self.view_is in
    let read = rw (c.deref.ensures.value, c.self.invariant.1, c.from.ensures, c.from-2.ensures) at c.steps_of.ensures in
    let low = c.requires.thread.0 in
    let high = c.requires.thread.1 in
    read ∙ (ap (λ (l : _). get_or l (k - 1) []) (graphs-of ls t low (omega arith))
    ∙ ap (λ (q : ProgramTable). steps_at q t k) c.self.view_is)
