-- What a replay leaves on a sink. `old` and `new` are what the sink tells that it has written, `before` and `now` its counts of
-- faults.
use Rattle.std.specs.Prelude.{◌≡◌, ℕ, List, Option, Ok, Err}
use Rattle.pg_io.specs.Counts.{Rose}
use Rattle.pg_io.specs.Written.{appended, AppendsPart}
use Rattle.pg_outline.specs.Outline.{OutlineTable}
use Rattle.pg_schedule.specs.Schedule.{ScheduleTable}
use Rattle.pg_replay.specs.declared.fault.ReplayFault.TheVariants.{Step, Crash, Write, NoMemory}
use Rattle.pg_replay.specs.Replay.{Answer, IsReplay}

-- this is the answer to the schedule, and its whole trace was put
pub record IsTraced (o : OutlineTable) (lines : ScheduleTable) (answer : Answer) (old new : Option (List ℕ)) : Type 0 where
  pub trace : List ℕ
  pub is : IsReplay o lines answer trace
  pub written : new ≡ appended old trace

-- a prefix of the trace that the schedule has was put
pub record IsTracePart (o : OutlineTable) (lines : ScheduleTable) (old new : Option (List ℕ)) : Type 0 where
  pub answer : Answer
  pub trace : List ℕ
  pub is : IsReplay o lines answer trace
  pub part : AppendsPart old new trace

-- The whole trace, with the answer; or a part of it, where the count of faults rose or memory ran out.
abbrev pub Puts : OutlineTable → ScheduleTable → Answer → Option (List ℕ) → Option (List ℕ) → ℕ → ℕ → Type 0
Puts o lines (Ok r) old new before now = IsTraced o lines (Ok r) old new
Puts o lines (Err (Step n f)) old new before now = IsTraced o lines (Err (Step n f)) old new
Puts o lines (Err (Crash n f)) old new before now = IsTraced o lines (Err (Crash n f)) old new
Puts o lines (Err Write) old new before now = IsTracePart o lines old new × Rose before now
Puts o lines (Err NoMemory) old new before now = IsTracePart o lines old new
