use Rattle.std.proofs.Common.{sym, ◌∙◌, arith}
use Rattle.pg_decider.proofs.Literals.{same-is}
use Rattle.pg_decider.proofs.Visits.{on-read}
use Rattle.pg_decider.proofs.Attached.{first-more}
use Rattle.pg_decider.proofs.attach.second_of.Goals as goal

pub returns-then-not-is-clause-on : goal.returns-then-not-is-clause-on
returns-then-not-is-clause-on c = on-read c.args.clause.now c.loop-literal.literal-index c.literal-item.result (omega arith) c.literal-item.is

pub loop-literal-preserved : goal.loop-literal-preserved
loop-literal-preserved c =
    first-more c.args.clause.now c.loop-literal.literal-index c.literal-item.result c.args.first (omega arith) c.literal-item.is
    (same-is c.literal-item.result c.args.first (sym c.is.ensures ∙ c.if-not-is.false))
    c.loop-literal.invariant
