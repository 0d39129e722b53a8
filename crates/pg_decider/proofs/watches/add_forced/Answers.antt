use Rattle.std.proofs.Common.{◌≡◌, false, sym, ◌∙◌, subst}
use Rattle.pg_region.specs.Literal.{Literal}
use Rattle.pg_decider.specs.Assignment.{on}
use Rattle.pg_decider.proofs.Visits.{grown-added, here-push}
use Rattle.pg_decider.proofs.watches.add_forced.Goals as goal

pub returns-clause-grown : goal.returns-clause-grown
returns-clause-grown c = λ cs k lt e f. rw c.add.ensures.added (grown-added cs c.args.trail.now k c.args.reason c.args.literal lt e c.add.ensures.reasons
    (record { free = c.requires.unmet; unset = subst (λ (l : Literal). on c.args.trail.now.literals l ≡ false) c.negated.ensures (sym c.is_true.ensures.value ∙ c.if-is_true.false); forced = f }))

pub returns-clause-added : goal.returns-clause-added
returns-clause-added c = λ e. rw c.add.ensures.added (here-push c.args.trail.now.literals c.args.literal)
