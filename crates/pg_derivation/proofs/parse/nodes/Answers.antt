use Rattle.std.proofs.Common.{◌≡◌, true, false, length, sym, ◌∙◌, arith}
use Rattle.std.proofs.lemmas.Grind.{common_steps}
use Rattle.std.proofs.lemmas.Result.{err_from_is_err_and}
use Rattle.pg_derivation.specs.Kept.{nodes_in}
use Rattle.pg_derivation.specs.Place.{cursor}
use Rattle.pg_derivation.proofs.Turns.{node-fault, node-more, node-last, nodes-out}
use Rattle.pg_derivation.proofs.parse.nodes.Goals as goal

pub returns-in_err-place-clause-said : goal.returns-in_err-place-clause-said
returns-in_err-place-clause-said c =
    let p = err_from_is_err_and c.from_residual.result c.from_residual.ensures.1 in
    rw (p.1, p.2) (λ other. node-fault (nodes_in c.lines.kept.items c.lines.into.items) (length c.args.from.now.rest.now) c.lines.counter (cursor c.lines.place) _ _ c.lines-test.true (c.in_err-place.ensures.said other) c.lines.invariant.said)

pub returns-then-not-is_node-clause-said : goal.returns-then-not-is_node-clause-said
returns-then-not-is_node-clause-said c =
    let none : c.is_node.result ≡ false = grind (arith, common_steps) in
    node-last (nodes_in c.lines.kept.items c.lines.into.items) (nodes_in c.node.new.kept.items c.node.new.into.items) (length c.args.from.now.rest.now) c.lines.counter (cursor c.lines.place) (cursor c.in_ok-place.place) _ c.lines-test.true c.in_ok-place.ensures.said (sym c.is_node.ensures ∙ none) c.lines.invariant.said

pub lines-preserved : goal.lines-preserved
lines-preserved c =
    let more : c.is_node.result ≡ true = grind (arith, common_steps) in
    record {
      said = node-more (nodes_in c.lines.kept.items c.lines.into.items) (nodes_in c.node.new.kept.items c.node.new.into.items) (length c.args.from.now.rest.now) c.lines.counter (cursor c.lines.place) (cursor c.in_ok-place.place) _ c.lines-test.true c.in_ok-place.ensures.said (sym c.is_node.ensures ∙ more) c.lines.invariant.said;
      moves = omega (arith, c.lines.invariant.moves, c.in_ok-place.ensures.one, c.in_ok-place.ensures.moves.0);
      few = c.in_ok-place.ensures.moves.1;
      longer = omega (arith, c.lines.invariant.longer, c.in_ok-place.ensures.one);
      whole = c.in_ok-place.ensures.whole;
    }

pub returns-clause-said : goal.returns-clause-said
returns-clause-said c = rw c.fault.ensures (λ _. nodes-out (nodes_in c.lines.kept.items c.lines.into.items) (length c.args.from.now.rest.now) c.lines.counter (cursor c.lines.place) _ c.lines-test.false c.lines.invariant.said)
