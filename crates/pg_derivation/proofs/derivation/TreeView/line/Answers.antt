use Rattle.std.proofs.Common.{sym, arith}
use Rattle.pg_derivation.proofs.Trees.{among, number-tree_in}
use Rattle.pg_derivation.proofs.derivation.TreeView.line.Goals as goal

pub overflow_add-result : goal.overflow_add-result
overflow_add-result c =
    let few = among c.self.inside.numbers.now c.self.inside.nodes.now c.self.inside.first c.args.self.now c.args.k c.self.view_is c.requires.1 in
    omega (arith, few, c.requires.0, c.self.invariant.few)

pub returns : goal.returns
returns c =
    let few = among c.self.inside.numbers.now c.self.inside.nodes.now c.self.inside.first c.args.self.now c.args.k c.self.view_is c.requires.1 in
    rw (← c.self.view_is) (sym (number-tree_in _ _ _ _ (omega (arith, few, c.requires.0))))
