use Rattle.std.proofs.Common.{◌<◌, length, sym, ◌∙◌, arith}
use Rattle.pg_decider.proofs.Walked.{walking-open, walking-down, walking-back, walking-more, node-at}
use Rattle.pg_decider.proofs.walk.walk.Goals.{in-Split, in-Leaf+in-Some}
use Rattle.pg_decider.proofs.walk.walk.Goals as goal

pub go_down-requires-clause-unset : goal.go_down-requires-clause-unset
go_down-requires-clause-unset c =
    let lt : c.lines.k < length c.args.log.now.lines = omega arith in
    walking-open c.args.trail.now.atoms c.lines.trail c.lines.branches.items c.args.log.now.lines c.lines.k c.in-Split.literal c.requires.log (sym c.lines.invariant.0) c.lines.invariant.2 lt
    (node-at c.args.log.now.lines c.lines.k c.node.result c.node.ensures ∙ c.in-Split.is)

pub unreachable-requires : goal.unreachable-requires
unreachable-requires c =
    let lt : c.lines.k < length c.args.log.now.lines = omega arith in
    walking-more c.args.trail.now.atoms c.lines.trail c.lines.branches.items c.args.log.now.lines c.lines.k c.requires.log c.lines.invariant.2 (omega arith)
    (node-at c.args.log.now.lines c.lines.k c.node.result c.node.ensures ∙ c.in-Leaf.is) c.in-None.ensures.moved

pub lines-preserved : goal.lines-preserved
lines-preserved c =
    let lt : c.lines.k < length c.args.log.now.lines = omega arith in
    elim c.match-node.branch [
      | in-Split w ↦
          let is = node-at c.args.log.now.lines c.lines.k c.node.result c.node.ensures ∙ w.in-Split.is in
          let o = walking-open c.args.trail.now.atoms c.lines.trail c.lines.branches.items c.args.log.now.lines c.lines.k w.in-Split.literal c.requires.log (sym c.lines.invariant.0) c.lines.invariant.2 lt is in
          rw (w.trail-is, w.branches-is, w.go_down.ensures.trail, w.go_down.ensures.branches) (
            c.lines.invariant.0,
            w.go_down.ensures.room ∙ c.lines.invariant.1,
            walking-down c.lines.trail c.lines.branches.items c.args.log.now.lines c.lines.k w.in-Split.literal c.lines.invariant.2 lt is o,
          )
      | in-Leaf+in-Some w ↦
          let is = node-at c.args.log.now.lines c.lines.k c.node.result c.node.ensures ∙ w.in-Leaf.is in
          let m = w.in-Some.ensures.moved in
          rw (w.trail-is, w.branches-is, m.3) (
            c.lines.invariant.0,
            w.go_back.ensures.room ∙ c.lines.invariant.1,
            walking-back c.lines.trail c.lines.branches.items w.go_back.new.branches.items m.0 c.args.log.now.lines c.lines.k c.lines.invariant.2 m.1 lt is,
          )
    ]
