use Rattle.std.proofs.Common.{◌<◌, true, length, arith}
use Rattle.std.proofs.lemmas.List.{length-set}
use Rattle.pg_region.specs.Literal.{negated}
use Rattle.pg_decider.specs.Watch.{place}
use Rattle.pg_decider.proofs.Visits.{on-read}
use Rattle.pg_decider.proofs.Leaning.{mark-more}
use Rattle.pg_decider.proofs.leaf.mark.Goals as goal

room : (c : goal.After-place_of) → place (negated c.literal-item.result) < length c.loop-literal.marks
room c =
    let h = c.requires c.literal-item.result (on-read c.args.clause.now c.loop-literal.literal-index c.literal-item.result (omega arith) c.literal-item.is) in
    omega (arith, h, c.loop-literal.auto.marks)

pub bounds-marks-place_of : goal.bounds-marks-place_of
bounds-marks-place_of c = rw (c.place_of.ensures, c.negated.ensures) (room c)

pub loop-literal-preserved : goal.loop-literal-preserved
loop-literal-preserved c =
    rw (c.place_of.ensures, c.negated.ensures)
    (λ m lt. mark-more c.args.clause.now c.loop-literal.literal-index c.literal-item.result c.loop-literal.marks c.args.marks.now (omega arith) c.literal-item.is (room c) c.loop-literal.invariant m
    (omega (arith, lt, length-set c.loop-literal.marks (place (negated c.literal-item.result)) true)))
