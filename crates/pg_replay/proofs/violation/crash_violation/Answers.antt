-- The locations and scalars of the crash formula are there.
use Rattle.std.proofs.Common.{length, ap, ◌∙◌}
use Rattle.pg_assertion.specs.Formula.{plain}
use Rattle.pg_replay.proofs.LineParts.{crash_atoms}
use Rattle.pg_replay.proofs.violation.crash_violation.Goals as goal

pub holds_crash-requires : goal.holds_crash-requires
holds_crash-requires c =
    crash_atoms c.args.o.now (length c.args.memory.now) (length c.scalars.result.now) (plain c.crash.result.now) (c.requires.size ∙ c.requires.formed.memory.initial)
    (ap length c.scalars.ensures ∙ c.requires.formed.scalars.0) c.crash.ensures.speaks
