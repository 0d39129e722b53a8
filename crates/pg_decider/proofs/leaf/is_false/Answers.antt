use Rattle.std.proofs.Common.{◌≡◌, true, false, sym, ◌∙◌, subst, arith}
use Rattle.std.proofs.lemmas.Bool.{both_ways}
use Rattle.pg_region.specs.Literal.{Literal, negated}
use Rattle.pg_decider.specs.Assignment.{on}
use Rattle.pg_decider.proofs.Visits.{on-read}
use Rattle.pg_decider.proofs.Leaning.{false-more}
use Rattle.pg_decider.proofs.leaf.is_false.Goals as goal

pub is_true-requires : goal.is_true-requires
is_true-requires c = rw c.negated.ensures (c.requires c.literal-item.result (on-read c.args.clause.now c.loop-literal.literal-index c.literal-item.result (omega arith) c.literal-item.is))

pub returns-then-not-is_true-clause-no : goal.returns-then-not-is_true-clause-no
returns-then-not-is_true-clause-no c = λ e f.
    both_ways (on c.args.trail.now.literals (negated c.literal-item.result))
    (subst (λ (m : Literal). on c.args.trail.now.literals m ≡ false) c.negated.ensures (sym c.is_true.ensures.value ∙ c.if-not-is_true.true))
    (f.each c.literal-item.result (on-read c.args.clause.now c.loop-literal.literal-index c.literal-item.result (omega arith) c.literal-item.is))

pub loop-literal-preserved : goal.loop-literal-preserved
loop-literal-preserved c =
    false-more c.args.clause.now c.args.trail.now.literals c.loop-literal.literal-index c.literal-item.result (omega arith) c.literal-item.is
    (subst (λ (m : Literal). on c.args.trail.now.literals m ≡ true) c.negated.ensures (sym c.is_true.ensures.value ∙ c.if-not-is_true.false))
    c.loop-literal.invariant
