use Rattle.std.proofs.Common.{◌∙◌, arith}
use Rattle.std.proofs.lemmas.Result.{err_from_is_err_and}
use Rattle.pg_region.specs.Range.{listed}
use Rattle.pg_derive.proofs.TreeLines.{node-here, tree-memory, tree-fault, tree-next}
use Rattle.pg_derive.proofs.tree.put_tree.Goals as goal

pub returns-in_err-write_node-clause-lines : goal.returns-in_err-write_node-clause-lines
returns-in_err-write_node-clause-lines g c =
    let p = err_from_is_err_and c.from_residual.result c.from_residual.ensures.1 in
    rw (p.1, p.2)
    (tree-memory (listed c.args.region.now.clauses c.args.loaded.range) c.args.log.now.lines c.nodes.k (g.K.Sink.written c.args.out.now) (g.K.Sink.written c.nodes.out)
    (g.K.Sink.faults c.args.out.now) (g.K.Sink.faults c.nodes.out) c.nodes.invariant.2 (g.K.Sink.faults c.nodes.out))

pub returns-in_err-put-clause-lines : goal.returns-in_err-put-clause-lines
returns-in_err-put-clause-lines g c =
    let p = err_from_is_err_and c.from_residual-in_err-put.result c.from_residual-in_err-put.ensures.1 in
    let cs = listed c.args.region.now.clauses c.args.loaded.range in
    let log = c.args.log.now.lines in
    let line = c.deref.result.now in
    rw (p.1, p.2)
    (tree-fault cs log c.nodes.k (g.K.Sink.written c.args.out.now) (g.K.Sink.written c.nodes.out) (g.K.Sink.faults c.args.out.now) (g.K.Sink.faults c.nodes.out) c.nodes.invariant.2
    line (g.K.Sink.written c.put.new.out) (g.K.Sink.faults c.put.new.out) c.in_err-put.field-0.0 (omega (arith, c.nodes-test.true, c.len-k-end.ensures))
    (node-here cs log c.nodes.k line c.write_node.new.line.items c.in_ok-write_node.ensures.line c.deref.ensures.value) c.in_err-put.ensures.line)

pub nodes-preserved : goal.nodes-preserved
nodes-preserved g c =
    let cs = listed c.args.region.now.clauses c.args.loaded.range in
    let log = c.args.log.now.lines in
    let line = c.deref.result.now in (
      c.in_ok-write_node.ensures.made.0 ∙ c.nodes.invariant.0,
      c.in_ok-write_node.ensures.made.1 ∙ c.nodes.invariant.1,
      tree-next cs log c.nodes.k (g.K.Sink.written c.args.out.now) (g.K.Sink.written c.nodes.out) (g.K.Sink.faults c.args.out.now) (g.K.Sink.faults c.nodes.out) c.nodes.invariant.2
          line (g.K.Sink.written c.put.new.out) (g.K.Sink.faults c.put.new.out) (omega (arith, c.nodes-test.true, c.len-k-end.ensures))
          (node-here cs log c.nodes.k line c.write_node.new.line.items c.in_ok-write_node.ensures.line c.deref.ensures.value) c.in_ok-put.ensures.line c.in_ok-put.ensures.faults,
    )
