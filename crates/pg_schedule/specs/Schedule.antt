-- Schedules: the steps of one execution, and the crashes that are tried along it.
use Rattle.std.specs.Prelude.{ℕ, zero, suc, ◌+◌, List, [], ◌∷◌}
use Rattle.pg_machine.specs.declared.event.Event.{Event}

-- A step of a thread, or a crash, with the position of the memory at which it finds each location.
pub data Act : Type 0 where
  step : Event → Act
  crash : List ℕ → Act

-- an act, and the number of its line in the text, from 1 on
pub record Line : Type 0 where
  pub number : ℕ
  pub act : Act

abbrev pub ScheduleTable : Type 0
ScheduleTable = List Line

-- the act at a place, counted from 0; behind the last one a crash without positions
abbrev pub act_at : ScheduleTable → ℕ → Act
act_at [] k = crash []
act_at (l ∷ ls) zero = l.act
act_at (l ∷ ls) (suc k) = act_at ls k

-- the number of the line at a place; 0 behind the last one
abbrev pub number_at : ScheduleTable → ℕ → ℕ
number_at [] k = 0
number_at (l ∷ ls) zero = l.number
number_at (l ∷ ls) (suc k) = number_at ls k

-- the lines with their acts, numbered from n on
abbrev pub numbered : ℕ → ScheduleTable → ScheduleTable
numbered n [] = []
numbered n (l ∷ ls) = record { number = n; act = l.act } ∷ numbered (n + 1) ls
