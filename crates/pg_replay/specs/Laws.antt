-- What holds of replays.
use Rattle.std.specs.Prelude.{◌≡◌, ℕ, List, None, Ok}
use Rattle.pg_machine.specs.State.{fresh}
use Rattle.pg_views.specs.Execution.{IsStart}
use Rattle.pg_outline.specs.Outline.{OutlineTable}
use Rattle.pg_obligations.specs.Safe.{IsSafe}
use Rattle.pg_schedule.specs.Schedule.{ScheduleTable}
use Rattle.pg_replay.specs.declared.answer.Replayed.{Replayed}
use Rattle.pg_replay.specs.Replay.{Answer, IsReplay}

-- A schedule has one answer on an outline, and one trace.
pub record AreSame (a b : Answer) (t u : List ℕ) : Type 0 where
  pub answer : a ≡ b
  pub trace : t ≡ u

abbrev pub HasOneAnswer : Type 0
HasOneAnswer =
    (o : OutlineTable) (lines : ScheduleTable) (a b : Answer) (t u : List ℕ) → IsReplay o lines a t → IsReplay o lines b u → AreSame a b t u

abbrev pub HasAnswer : Type 0
HasAnswer = (o : OutlineTable) (lines : ScheduleTable) → (a : Answer) × ((t : List ℕ) × IsReplay o lines a t)

-- Where an outline is safe, and its executions may begin in the fresh state, a replay whose lines are all taken shows no violation.
-- So wherever one is shown, also after some lines of a schedule that is refused later, not every obligation of the outline follows.
abbrev pub SafeShowsNoViolation : Type 0
SafeShowsNoViolation =
    (o : OutlineTable) (lines : ScheduleTable) (r : Replayed) (trace : List ℕ) → IsSafe o → IsStart o.program o.pre (fresh o.program)
    → IsReplay o lines (Ok r) trace → r.first_violation ≡ None
