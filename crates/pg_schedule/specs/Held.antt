-- What contracts see of a schedule: its lines, each with its act. The positions of all crashes lie in one list.
use Rattle.std.specs.Prelude.{ℕ, ◌+◌, ◌^◌, ◌<◌, ◌≤◌, List, [], ◌∷◌, length, map, slice_range, Option, Some, None}
use Rattle.pg_machine.specs.declared.event.Event.{Event}
use Rattle.pg_schedule.specs.declared.schedule.Entry.{Entry}
use Rattle.pg_schedule.specs.declared.schedule.EntryAct.{EntryAct}
use Rattle.pg_schedule.specs.declared.schedule.EntryAct.TheVariants as held
use Rattle.pg_schedule.specs.declared.schedule.ScheduleAct.{ScheduleAct}
use Rattle.pg_schedule.specs.declared.schedule.ScheduleAct.TheVariants as lent
use Rattle.pg_schedule.specs.Schedule.{Act, step, crash, Line, ScheduleTable}

abbrev pub IsNumber : ℕ → Type 0
IsNumber n = n < 2 ^ 32

abbrev pub AreNumbers : List ℕ → Type 0
AreNumbers [] = Unit {0}
AreNumbers (p ∷ ps) = IsNumber p × AreNumbers ps

abbrev pub act_held : List ℕ → EntryAct → Act
act_held ps (held.Step e) = step e
act_held ps (held.Crash s) = crash (slice_range ps s.from (s.from + s.count))

abbrev pub line_held : List ℕ → Entry → Line
line_held ps e = record { number = e.number; act = act_held ps e.act }

abbrev pub held_lines : List ℕ → List Entry → ScheduleTable
held_lines ps es = map (line_held ps) es

-- an act, as it is lent
abbrev pub act_lent : ScheduleAct → Act
act_lent (lent.Step e) = step e
act_lent (lent.Crash ps) = crash ps.now

-- a crash has few positions
abbrev pub IsShort : ScheduleAct → Type 0
IsShort (lent.Step e) = Unit {0}
IsShort (lent.Crash ps) = length ps.now < 2 ^ 32

-- ---- what is kept fits

abbrev pub IsChoice : Option ℕ → Type 0
IsChoice None = Unit {0}
IsChoice (Some p) = IsNumber p

abbrev pub IsEventOfNumbers : Event → Type 0
IsEventOfNumbers e = IsNumber e.thread × IsChoice e.choice

abbrev pub IsActOfNumbers : Act → Type 0
IsActOfNumbers (step e) = IsEventOfNumbers e
IsActOfNumbers (crash ps) = AreNumbers ps

-- all threads and positions are below 2^32
abbrev pub HasNumbers : ScheduleTable → Type 0
HasNumbers [] = Unit {0}
HasNumbers (l ∷ ls) = IsActOfNumbers l.act × HasNumbers ls

-- its positions are there
abbrev pub IsActHeld : ℕ → EntryAct → Type 0
IsActHeld n (held.Step e) = IsEventOfNumbers e
IsActHeld n (held.Crash s) = (s.from + s.count ≤ n) × (s.count < 2 ^ 32)

abbrev pub EachIsHeld : ℕ → List Entry → Type 0
EachIsHeld n [] = Unit {0}
EachIsHeld n (e ∷ es) = IsActHeld n e.act × EachIsHeld n es

pub record AreHeld (ps : List ℕ) (es : List Entry) : Type 0 where
  pub few : length es < 2 ^ 32
  pub positions : AreNumbers ps
  pub each : EachIsHeld (length ps) es
