-- The replay of a schedule on an outline: the machine takes the lines one after the other, from the fresh state on. The assertions at
-- the threads' points are tested in the fresh state, which counts as line 1, and after each step, and the crash formula of the memory of
-- each crash line alone.
use Rattle.std.specs.Prelude.{◌≡◌, ℕ, ◌+◌, ◌≤◌, ◌⊎◌, List, [], ◌∷◌, ◌++◌, length, None, Result, Ok, Err}
use Rattle.std.specs.Option.{option_or}
use Rattle.pg_program.specs.Program.{ProgramTable}
use Rattle.pg_machine.specs.declared.fault.StepFault.{StepFault}
use Rattle.pg_machine.specs.Limits.{most_messages}
use Rattle.pg_machine.specs.State.{State, fresh}
use Rattle.pg_machine.specs.Step.{IsStep}
use Rattle.pg_machine.specs.Fault.{IsFault}
use Rattle.pg_views.specs.declared.fault.CrashFault.{CrashFault}
use Rattle.pg_views.specs.Crash.{IsCrashChoice, crash_memory}
use Rattle.pg_views.specs.Fault.{IsCrashFault}
use Rattle.pg_outline.specs.Outline.{OutlineTable}
use Rattle.pg_schedule.specs.Schedule.{Act, step, crash, Line, ScheduleTable}
use Rattle.pg_replay.specs.declared.answer.Replayed.{Replayed}
use Rattle.pg_replay.specs.declared.fault.ReplayFault.{ReplayFault}
use Rattle.pg_replay.specs.declared.fault.ReplayFault.TheVariants as fault
use Rattle.pg_replay.specs.Violation.{state_violation, crash_violation}
use Rattle.pg_replay.specs.Trace.{moves, step_text, crash_text}

abbrev pub Answer : Type 0
Answer = Result Replayed ReplayFault

-- ---- one line

-- An event is taken by a step to the next state, which has no more messages than may be. Positions are taken where they are a crash
-- choice, and the state stays.
abbrev pub Takes : ProgramTable → State → Act → State → Type 0
Takes p s (step e) next = IsStep p s e next × (length next.memory.messages ≤ most_messages)
Takes p s (crash at) next = IsCrashChoice s at × (next ≡ s)

-- line n is refused, with the machine's fault
abbrev pub Refuses : ProgramTable → State → ℕ → Act → ReplayFault → Type 0
Refuses p s n (step e) refusal = (f : StepFault) × IsFault p s e f × (refusal ≡ fault.Step n f)
Refuses p s n (crash at) refusal = (f : CrashFault) × IsCrashFault s at f × (refusal ≡ fault.Crash n f)

-- what line n shows where it leads to the next state
abbrev pub shown : OutlineTable → State → ℕ → Act → State → Replayed
shown o s n (step e) next = record { steps = 1; first_violation = state_violation o n next }
shown o s n (crash at) next = record { steps = 0; first_violation = crash_violation o n s (crash_memory s at) }

-- and its line of the trace
abbrev pub line_text : ProgramTable → State → ℕ → Act → State → List ℕ
line_text p s n (step e) next = step_text n (moves p s e next)
line_text p s n (crash at) next = crash_text p.names n (crash_memory s at)

-- ---- lines one after the other

-- what is shown by nothing, and by one part after another
abbrev pub nothing : Replayed
nothing = record { steps = 0; first_violation = None }

abbrev pub joined : Replayed → Replayed → Replayed
joined a b = record { steps = a.steps + b.steps; first_violation = option_or a.first_violation b.first_violation }

-- the answer to lines behind what was shown; a line that is refused hides it
abbrev pub behind : Replayed → Answer → Answer
behind a (Ok b) = Ok (joined a b)
behind a (Err f) = Err f

-- the line is refused: this is the answer, and its trace is empty
pub record Stops (p : ProgramTable) (s : State) (line : Line) (answer : Answer) (trace : List ℕ) : Type 0 where
  pub refusal : ReplayFault
  pub refuses : Refuses p s line.number line.act refusal
  pub answer_is : answer ≡ Err refusal
  pub trace_is : trace ≡ []

-- the line is taken, and the others are replayed from the next state on
pub record GoesOn (o : OutlineTable) (s : State) (line : Line) (Others : State → Answer → List ℕ → Type 0) (answer : Answer) (trace : List ℕ) : Type 0 where
  pub next : State
  pub takes : Takes o.program s line.act next
  pub later : Answer
  pub later_trace : List ℕ
  pub others : Others next later later_trace
  pub answer_is : answer ≡ behind (shown o s line.number line.act next) later
  pub trace_is : trace ≡ line_text o.program s line.number line.act next ++ later_trace

-- the answer to these lines and their trace, from a state on
abbrev pub Replays : OutlineTable → State → ScheduleTable → Answer → List ℕ → Type 0
Replays o s [] answer trace = (answer ≡ Ok nothing) × (trace ≡ [])
Replays o s (line ∷ lines) answer trace =
    Stops o.program s line answer trace ⊎ GoesOn o s line (λ next later later_trace. Replays o next lines later later_trace) answer trace

-- ---- schedules

-- what the fresh state shows
abbrev pub shown_at_first : OutlineTable → Replayed
shown_at_first o = record { steps = 0; first_violation = state_violation o 1 (fresh o.program) }

-- the answer to a schedule, and its trace
pub record IsReplay (o : OutlineTable) (lines : ScheduleTable) (answer : Answer) (trace : List ℕ) : Type 0 where
  pub later : Answer
  pub replays : Replays o (fresh o.program) lines later trace
  pub answer_is : answer ≡ behind (shown_at_first o) later
