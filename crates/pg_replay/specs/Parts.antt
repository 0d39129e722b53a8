-- What the replay of one line answers, and what it leaves on a sink.
use Rattle.std.specs.Prelude.{◌≡◌, ℕ, List, Option, Result, Ok, Err}
use Rattle.pg_io.specs.Counts.{Rose}
use Rattle.pg_io.specs.Written.{appended, AppendsPart}
use Rattle.pg_machine.specs.State.{State}
use Rattle.pg_outline.specs.Outline.{OutlineTable}
use Rattle.pg_schedule.specs.Schedule.{Act}
use Rattle.pg_replay.specs.declared.answer.Replayed.{Replayed}
use Rattle.pg_replay.specs.declared.fault.ReplayFault.{ReplayFault}
use Rattle.pg_replay.specs.declared.fault.ReplayFault.TheVariants.{Step, Crash, Write, NoMemory}
use Rattle.pg_replay.specs.Replay.{Answer, Takes, Refuses, shown, joined, line_text}

-- a line of text is put: the whole, a part of it where the count of faults rose, or nothing where memory ran out
abbrev pub PutsLine : List ℕ → Result (Unit {0}) ReplayFault → Option (List ℕ) → Option (List ℕ) → ℕ → ℕ → Type 0
PutsLine text (Ok u) old new before now = new ≡ appended old text
PutsLine text (Err Write) old new before now = AppendsPart old new text × Rose before now
PutsLine text (Err NoMemory) old new before now = new ≡ old
PutsLine text (Err (Step n f)) old new before now = ⊥
PutsLine text (Err (Crash n f)) old new before now = ⊥

-- the line of text is put, and then this is found
abbrev pub Shows : List ℕ → Replayed → Answer → Option (List ℕ) → Option (List ℕ) → ℕ → ℕ → Type 0
Shows text found (Ok r) old new before now = (r ≡ found) × (new ≡ appended old text)
Shows text found (Err f) old new before now = PutsLine text (Err f) old new before now

-- The line n is taken, what it shows is joined to what was shown before it, and its line of the trace is put. Or it is refused. Or its
-- line of the trace is put in part, where the count of faults rose; or nothing is put, where memory ran out.
abbrev pub ReplaysLine : OutlineTable → ℕ → Act → Replayed → State → State → Answer → Option (List ℕ) → Option (List ℕ) → ℕ → ℕ → Type 0
ReplaysLine o n act found s next (Ok r) old new before now =
    Takes o.program s act next × (r ≡ joined found (shown o s n act next)) × (new ≡ appended old (line_text o.program s n act next))
ReplaysLine o n act found s next (Err Write) old new before now =
    Takes o.program s act next × AppendsPart old new (line_text o.program s n act next) × Rose before now
ReplaysLine o n act found s next (Err NoMemory) old new before now = new ≡ old
ReplaysLine o n act found s next (Err (Step m f)) old new before now = Refuses o.program s n act (Step m f) × (new ≡ old)
ReplaysLine o n act found s next (Err (Crash m f)) old new before now = Refuses o.program s n act (Crash m f) × (new ≡ old)
