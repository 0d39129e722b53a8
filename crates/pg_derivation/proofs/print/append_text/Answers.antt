use Rattle.std.proofs.Common.{arith}
use Rattle.pg_derivation.specs.Text.{header_text}
use Rattle.pg_derivation.proofs.Printing.{printed, tree-next}
use Rattle.pg_derivation.proofs.print.append_text.Goals as goal

pub loop-i-preserved : goal.loop-i-preserved
loop-i-preserved c =
    printed _ _ _ header_text _ _ _ _ c.in_ok-append_tree.ensures c.in_ok-append_obligation.ensures c.loop-i.invariant
    (tree-next c.args.d.now c.loop-i.i c.tree.result (omega (arith, c.loop-i-test.true, c.trees-trees.ensures.count)) c.tree.ensures)
