use Rattle.std.proofs.Common.{◌-◌, sym, ◌∙◌, arith}
use Rattle.pg_derivation.proofs.Trees.{among, node-tree_in, within-at, node-fits}
use Rattle.pg_derivation.proofs.derivation.TreeView.node.Goals as goal

pub bounds-self-inside-k : goal.bounds-self-inside-k
bounds-self-inside-k c =
    let few = among c.self.inside.numbers.now c.self.inside.nodes.now c.self.inside.first c.args.self.now c.args.k c.self.view_is c.requires.1 in
    omega (arith, few, c.requires.0)

pub lent-requires : goal.lent-requires
lent-requires c =
    within-at _ _ c.self.inside.first (c.args.k - 1) c.index-self-k.result (omega (arith, among c.self.inside.numbers.now c.self.inside.nodes.now c.self.inside.first c.args.self.now c.args.k c.self.view_is c.requires.1, c.requires.0)) c.self.invariant

pub returns-clause-said : goal.returns-clause-said
returns-clause-said c =
    rw (← c.self.view_is)
    (c.lent.ensures ∙ sym (node-tree_in _ c.self.inside.nodes.now c.self.inside.first (c.args.k - 1) c.index-self-k.result (omega (arith, among c.self.inside.numbers.now c.self.inside.nodes.now c.self.inside.first c.args.self.now c.args.k c.self.view_is c.requires.1, c.requires.0))))

pub returns-clause-fits : goal.returns-clause-fits
returns-clause-fits c =
    rw c.lent.ensures (node-fits _ _ c.self.invariant.kept.each_number (within-at _ _ c.self.inside.first (c.args.k - 1) c.index-self-k.result (omega (arith, among c.self.inside.numbers.now c.self.inside.nodes.now c.self.inside.first c.args.self.now c.args.k c.self.view_is c.requires.1, c.requires.0)) c.self.invariant))
