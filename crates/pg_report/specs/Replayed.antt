-- The last line of a replay, behind the trace: how many steps were taken, where everything held; or the first violation, with the line
-- after which it is found; or the first line that is refused, with its fault.
use Rattle.std.specs.Prelude.{ℕ, List, [], ◌++◌, codes, decimal, Option, Some, None, Result, Ok, Err}
use Rattle.pg_program.specs.NameTable.{NameTable}
use Rattle.pg_assertion_text.specs.Spelling.{location_name}
use Rattle.pg_machine.specs.declared.fault.StepFault.{StepFault}
use Rattle.pg_machine.specs.declared.fault.StepFault.TheVariants as step
use Rattle.pg_views.specs.declared.fault.CrashFault.{CrashFault}
use Rattle.pg_views.specs.declared.fault.CrashFault.TheVariants as crash
use Rattle.pg_replay.specs.declared.answer.Replayed.{Replayed}
use Rattle.pg_replay.specs.declared.answer.Violation.{Violation}
use Rattle.pg_replay.specs.declared.answer.Violation.TheVariants.{Assertion, Crash}
use Rattle.pg_replay.specs.declared.fault.ReplayFault.{ReplayFault}
use Rattle.pg_replay.specs.declared.fault.ReplayFault.TheVariants as replay
use Rattle.pg_report.specs.Obligations.{point_text}

abbrev pub two_numbers : ℕ → ℕ → List ℕ
two_numbers a b = decimal a ++ (codes " " ++ decimal b)

-- what a line is refused for; want of memory has no text
abbrev pub step_fault : StepFault → Option (List ℕ)
step_fault (step.NoThread n) = Some (codes "no thread " ++ decimal n)
step_fault step.Ended = Some (codes "ended")
step_fault step.NoChoice = Some (codes "no choice")
step_fault step.ChoiceMissing = Some (codes "choice missing")
step_fault (step.NotAPosition p) = Some (codes "not a position " ++ decimal p)
step_fault (step.BelowCoherence p coh) = Some (codes "below coherence " ++ two_numbers p coh)
step_fault (step.Hidden p later) = Some (codes "hidden " ++ two_numbers p later)
step_fault (step.CasMustDiffer v) = Some (codes "cas must differ " ++ decimal v)
step_fault (step.CasNotLast v) = Some (codes "cas not last " ++ decimal v)
step_fault step.MessagesFull = Some (codes "messages full")
step_fault step.NoMemory = None

-- a location is told by its name
abbrev pub crash_fault : NameTable → CrashFault → Option (List ℕ)
crash_fault names (crash.WrongLength given wanted) = Some (codes "wrong length " ++ two_numbers given wanted)
crash_fault names (crash.NotAPosition x p) = Some (codes "not a position " ++ (location_name names x ++ (codes " " ++ decimal p)))
crash_fault names (crash.Overwritten x p later) = Some (codes "overwritten " ++ (location_name names x ++ (codes " " ++ two_numbers p later)))
crash_fault names crash.NoMemory = None

abbrev pub refused : ℕ → List ℕ → List ℕ
refused line words = codes "refused line " ++ (decimal line ++ (codes " " ++ (words ++ codes "\n")))

abbrev pub refused_line : ℕ → Option (List ℕ) → List ℕ
refused_line line (Some words) = refused line words
refused_line line None = []

abbrev pub found_line : ℕ → Option Violation → List ℕ
found_line steps None = codes "held " ++ (decimal steps ++ codes "\n")
found_line steps (Some (Assertion line at)) = codes "violated line " ++ (decimal line ++ (codes " at " ++ (point_text at.thread at.point ++ codes "\n")))
found_line steps (Some (Crash line)) = codes "violated line " ++ (decimal line ++ codes " crash\n")

abbrev pub replayed_line : NameTable → Result Replayed ReplayFault → List ℕ
replayed_line names (Ok found) = found_line found.steps found.first_violation
replayed_line names (Err (replay.Step line fault)) = refused_line line (step_fault fault)
replayed_line names (Err (replay.Crash line fault)) = refused_line line (crash_fault names fault)
replayed_line names (Err replay.Write) = []
replayed_line names (Err replay.NoMemory) = []
