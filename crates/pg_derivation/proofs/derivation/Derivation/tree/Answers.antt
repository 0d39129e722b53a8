use Rattle.std.proofs.Common.{◌≡◌, ◌-◌, List, ℕ, ap, ◌∙◌, arith}
use Rattle.pg_derivation.proofs.Trees.{before, of_trees, rise-ends, lent-in, lent-is, lent-few}
use Rattle.pg_derivation.proofs.derivation.Derivation.tree.Goals as goal

pub end_of-from-requires : goal.end_of-from-requires
end_of-from-requires c = rw c.deref.ensures.value (omega (arith, of_trees c.self.inside.numbers.items c.self.inside.nodes.items c.self.inside.ends.items c.args.self.now c.args.i c.self.view_is c.requires.1, c.requires.0))

pub piece-requires-clause-ends : goal.piece-requires-clause-ends
piece-requires-clause-ends c = rw (c.deref-4.ensures.value, c.deref-3.ensures.value) (rise-ends _ _ _ c.self.invariant.ends_rise)

pub piece-requires-clause-place : goal.piece-requires-clause-place
piece-requires-clause-place c = rw c.deref-4.ensures.value (omega (arith, of_trees c.self.inside.numbers.items c.self.inside.nodes.items c.self.inside.ends.items c.args.self.now c.args.i c.self.view_is c.requires.1, c.requires.0))

begins : (c : goal.After-piece) → c.end_of-from.result ≡ before c.self.inside.ends.items (c.args.i - 1)
begins c = c.end_of-from.ensures ∙ ap (λ (x : List ℕ). before x (c.args.i - 1)) c.deref.ensures.value

pub overflow_cast-result : goal.overflow_cast-result
overflow_cast-result c = omega (arith, lent-few c.self.inside.numbers.items c.deref-2.result.now c.self.inside.nodes.items c.deref-3.result.now c.piece.result.now c.self.inside.ends.items c.deref-4.result.now c.args.i c.end_of-from.result c.requires.0 (of_trees c.self.inside.numbers.items c.self.inside.nodes.items c.self.inside.ends.items c.args.self.now c.args.i c.self.view_is c.requires.1) c.deref-2.ensures.value c.deref-3.ensures.value c.deref-4.ensures.value (begins c) c.piece.ensures c.self.invariant)

pub overflow_add-result : goal.overflow_add-result
overflow_add-result c = omega (arith, lent-few c.self.inside.numbers.items c.deref-2.result.now c.self.inside.nodes.items c.deref-3.result.now c.piece.result.now c.self.inside.ends.items c.deref-4.result.now c.args.i c.end_of-from.result c.requires.0 (of_trees c.self.inside.numbers.items c.self.inside.nodes.items c.self.inside.ends.items c.args.self.now c.args.i c.self.view_is c.requires.1) c.deref-2.ensures.value c.deref-3.ensures.value c.deref-4.ensures.value (begins c) c.piece.ensures c.self.invariant)

pub overflow_add-result-2 : goal.overflow_add-result-2
overflow_add-result-2 c = omega (arith, lent-few c.self.inside.numbers.items c.deref-2.result.now c.self.inside.nodes.items c.deref-3.result.now c.piece.result.now c.self.inside.ends.items c.deref-4.result.now c.args.i c.end_of-from.result c.requires.0 (of_trees c.self.inside.numbers.items c.self.inside.nodes.items c.self.inside.ends.items c.args.self.now c.args.i c.self.view_is c.requires.1) c.deref-2.ensures.value c.deref-3.ensures.value c.deref-4.ensures.value (begins c) c.piece.ensures c.self.invariant)

pub invariant_of-result : goal.invariant_of-result
invariant_of-result c = lent-in c.self.inside.numbers.items c.deref-2.result.now c.self.inside.nodes.items c.deref-3.result.now c.piece.result.now c.self.inside.ends.items c.deref-4.result.now c.args.i c.end_of-from.result c.requires.0 (of_trees c.self.inside.numbers.items c.self.inside.nodes.items c.self.inside.ends.items c.args.self.now c.args.i c.self.view_is c.requires.1) c.deref-2.ensures.value c.deref-3.ensures.value c.deref-4.ensures.value (begins c) c.piece.ensures c.self.invariant

pub returns : goal.returns
returns c = rw (← c.self.view_is) (lent-is c.self.inside.numbers.items c.deref-2.result.now c.self.inside.nodes.items c.deref-3.result.now c.piece.result.now c.self.inside.ends.items c.deref-4.result.now c.args.i c.end_of-from.result c.requires.0 (of_trees c.self.inside.numbers.items c.self.inside.nodes.items c.self.inside.ends.items c.args.self.now c.args.i c.self.view_is c.requires.1) c.deref-2.ensures.value c.deref-3.ensures.value c.deref-4.ensures.value (begins c) c.piece.ensures c.self.invariant)
