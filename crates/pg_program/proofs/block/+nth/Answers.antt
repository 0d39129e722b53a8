use Rattle.std.proofs.Common.{◌≡◌, ◌∙◌, ap, sym, arith, slice_get, ◌-◌}
use Rattle.pg_program.specs.Block.{Block, block, node}
use Rattle.pg_program.specs.Graph.{statements}
use Rattle.pg_program.proofs.GraphLemmas.{within-first, within-second, after-both}
use Rattle.pg_program.proofs.block.+nth.Goals as goal

pub returns : goal.returns
returns t c =
    let n = c.in_ok-node.node in
    let is : block c.args.stmts.now ≡ node n.stmt.now (block n.first.now) (block n.second.now) (block n.rest.now) = c.in_ok-node.ensures in
    let some = c.if-place-eq0.false in
    let past = c.if-within-first.false in
    let past_both = c.if-after-second.false in
    let a = c.count-first.ensures in
    let b = c.count-second.ensures in
    c.nth-2.ensures
    ∙ sym (ap (λ (k : Block). slice_get (statements k) c.args.place) is
    ∙ after-both n.stmt.now (block n.first.now) (block n.second.now) (block n.rest.now) c.args.place (c.args.place - 1 - c.count-first.result - c.count-second.result) (omega arith))

pub returns-then-within-first : goal.returns-then-within-first
returns-then-within-first t c =
    let n = c.in_ok-node.node in
    let is : block c.args.stmts.now ≡ node n.stmt.now (block n.first.now) (block n.second.now) (block n.rest.now) = c.in_ok-node.ensures in
    let some = c.if-place-eq0.false in
    let inside = c.if-within-first.true in
    let a = c.count-first.ensures in
    c.nth.ensures
    ∙ sym (ap (λ (k : Block). slice_get (statements k) c.args.place) is
    ∙ within-first n.stmt.now (block n.first.now) (block n.second.now) (block n.rest.now) c.args.place (c.args.place - 1) (omega arith) (omega arith))

pub returns-then-after-second : goal.returns-then-after-second
returns-then-after-second t c =
    let n = c.in_ok-node.node in
    let is : block c.args.stmts.now ≡ node n.stmt.now (block n.first.now) (block n.second.now) (block n.rest.now) = c.in_ok-node.ensures in
    let some = c.if-place-eq0.false in
    let past = c.if-within-first.false in
    let inside = c.if-after-second.true in
    let a = c.count-first.ensures in
    let b = c.count-second.ensures in
    c.nth-then-after-second.ensures
    ∙ sym (ap (λ (k : Block). slice_get (statements k) c.args.place) is
    ∙ within-second n.stmt.now (block n.first.now) (block n.second.now) (block n.rest.now) c.args.place (c.args.place - 1 - c.count-first.result) (omega arith) (omega arith))
