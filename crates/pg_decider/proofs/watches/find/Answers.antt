use Rattle.std.proofs.Common.{sym, ◌∙◌, arith}
use Rattle.pg_region.specs.Literal.{same, negated}
use Rattle.pg_decider.specs.Assignment.{on}
use Rattle.pg_decider.proofs.Visits.{on-read, find-more, serves-parts}
use Rattle.pg_decider.proofs.watches.find.Goals as goal

pub serves-requires : goal.serves-requires
serves-requires c = c.requires c.literal-item.result (on-read c.args.clause.now c.loop-literal.literal-index c.literal-item.result (omega arith) c.literal-item.is)

pub returns-then-serves : goal.returns-then-serves
returns-then-serves c =
    let p = serves-parts (same c.literal-item.result c.args.second) (on c.args.trail.now.literals (negated c.literal-item.result)) (sym c.serves.ensures ∙ c.if-serves.true) in
    (on-read c.args.clause.now c.loop-literal.literal-index c.literal-item.result (omega arith) c.literal-item.is, p.0, p.1)

pub loop-literal-preserved : goal.loop-literal-preserved
loop-literal-preserved c =
    find-more c.args.clause.now c.args.trail.now.literals c.loop-literal.literal-index c.literal-item.result c.args.second (omega arith) c.literal-item.is
    (sym c.serves.ensures ∙ c.if-serves.false) c.loop-literal.invariant
