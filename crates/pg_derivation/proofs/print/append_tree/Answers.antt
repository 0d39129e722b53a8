use Rattle.std.proofs.Common.{arith}
use Rattle.pg_derivation.specs.Lent.{node_of}
use Rattle.pg_derivation.proofs.Printing.{printed-one, node-next}
use Rattle.pg_derivation.proofs.print.append_tree.Goals as goal

pub loop-k-preserved : goal.loop-k-preserved
loop-k-preserved c =
    printed-one _ _ _ _ _ _ c.in_ok-append_node.ensures c.loop-k.invariant
    (node-next c.args.tree.now c.loop-k.k (node_of c.node.result) (omega (arith, c.loop-k-test.true, c.len-len.ensures.count)) c.node.ensures.said)
