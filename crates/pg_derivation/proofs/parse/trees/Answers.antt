use Rattle.std.proofs.Common.{◌≡◌, ◌+◌, ℕ, true, false, length, sym, ap, ◌∙◌, arith}
use Rattle.std.proofs.lemmas.Grind.{common_steps}
use Rattle.std.proofs.lemmas.Result.{err_from_is_err_and}
use Rattle.pg_region.specs.Pieces.{pieces}
use Rattle.pg_derivation.specs.Fault.{obligation}
use Rattle.pg_derivation.specs.Kept.{nodes_in}
use Rattle.pg_derivation.specs.Place.{cursor}
use Rattle.pg_derivation.proofs.Grown.{trees-no_line, trees-no_nodes, trees-last, trees-out, rise-grown, grown}
use Rattle.pg_derivation.proofs.parse.trees.Goals as goal

pub returns-then-not-says-clause-said : goal.returns-then-not-says-clause-said
returns-then-not-says-clause-said c =
    let none : c.says.result ≡ false = grind (arith, common_steps) in
    trees-last (pieces (nodes_in c.trees.kept.items c.trees.into.items) 0 c.trees.ends.items) (length c.args.from.now.rest.now) c.trees.counter (length c.trees.ends.items + 1) (cursor c.trees.place) _ c.trees.invariant.said c.trees-test.true (sym c.says.ensures ∙ none)

pub returns-in_err-begun-clause-said : goal.returns-in_err-begun-clause-said
returns-in_err-begun-clause-said c =
    let more : c.says.result ≡ true = grind (arith, common_steps) in
    let count : c.len.result ≡ length c.trees.ends.items = omega (arith, c.len.ensures) in
    let p = err_from_is_err_and c.from_residual.result c.from_residual.ensures.1 in
    rw (p.1, p.2)
    (λ _. trees-no_line (pieces (nodes_in c.trees.kept.items c.trees.into.items) 0 c.trees.ends.items) (length c.args.from.now.rest.now) c.trees.counter (length c.trees.ends.items + 1) (cursor c.trees.place) _ c.trees.invariant.said _ c.trees-test.true (sym c.says.ensures ∙ more)
    (ap (λ (n : ℕ). obligation (n + 1) (cursor c.trees.place)) (sym count) ∙ c.in_err-begun.ensures.said))

pub returns-in_err-place-clause-said : goal.returns-in_err-place-clause-said
returns-in_err-place-clause-said c =
    let more : c.says.result ≡ true = grind (arith, common_steps) in
    let count : c.len.result ≡ length c.trees.ends.items = omega (arith, c.len.ensures) in
    let p = err_from_is_err_and c.from_residual-in_err-place.result c.from_residual-in_err-place.ensures.1 in
    rw (p.1, p.2)
    (λ other. trees-no_nodes (pieces (nodes_in c.trees.kept.items c.trees.into.items) 0 c.trees.ends.items) (length c.args.from.now.rest.now) c.trees.counter (length c.trees.ends.items + 1) (cursor c.trees.place) _ c.trees.invariant.said (cursor c.in_ok-begun.begun) (nodes_in c.trees.kept.items c.trees.into.items) _ c.trees-test.true (sym c.says.ensures ∙ more)
    (ap (λ (n : ℕ). obligation (n + 1) (cursor c.trees.place)) (sym count) ∙ c.in_ok-begun.ensures.said) (c.in_err-place.ensures.said other))

pub trees-preserved : goal.trees-preserved
trees-preserved c =
    let end : c.len-in-trees.result ≡ length c.nodes.new.into.items = omega (arith, c.len-in-trees.ensures) in
    let more : c.says.result ≡ true = grind (arith, common_steps) in
    let count : c.len.result ≡ length c.trees.ends.items = omega (arith, c.len.ensures) in
    record {
      said = grown c.trees.kept.items c.nodes.new.kept.items c.trees.into.items c.nodes.new.into.items c.trees.ends.items c.push.new.self.items (length c.args.from.now.rest.now) c.trees.counter c.len-in-trees.result
          (cursor c.trees.place) (cursor c.in_ok-begun.begun) (cursor c.in_ok-place.place) _ c.trees.invariant.said c.trees-test.true (sym c.says.ensures ∙ more)
          (ap (λ (n : ℕ). obligation (n + 1) (cursor c.trees.place)) (sym count) ∙ c.in_ok-begun.ensures.said) c.in_ok-place.ensures.said c.trees.invariant.rise c.in_ok-push.ensures.items end;
      moves = omega (arith, c.trees.invariant.moves, c.in_ok-begun.ensures.moves, c.in_ok-place.ensures.moves.0, c.in_ok-push.ensures.len);
      numbers = c.in_ok-place.ensures.moves.1;
      few = omega (arith, c.in_ok-begun.ensures.fits, c.in_ok-push.ensures.len, c.len.ensures);
      rise = rise-grown c.trees.ends.items c.push.new.self.items c.len-in-trees.result (length c.trees.into.items) (length c.nodes.new.into.items) c.in_ok-push.ensures.items end c.trees.invariant.rise c.in_ok-place.ensures.some;
      whole = c.in_ok-place.ensures.whole;
    }

pub returns-clause-said : goal.returns-clause-said
returns-clause-said c = rw c.fault.ensures (λ _. trees-out (pieces (nodes_in c.trees.kept.items c.trees.into.items) 0 c.trees.ends.items) (length c.args.from.now.rest.now) c.trees.counter (length c.trees.ends.items + 1) (cursor c.trees.place) _ c.trees.invariant.said c.trees-test.false)
