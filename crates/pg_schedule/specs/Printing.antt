-- The canonical text of a schedule.
use Rattle.std.specs.Prelude.{ℕ, List, [], ◌∷◌, ◌++◌, codes, decimal, Option, Some, None}
use Rattle.pg_schedule.specs.Schedule.{Act, step, crash, ScheduleTable}

abbrev pub choice_text : Option ℕ → List ℕ
choice_text None = []
choice_text (Some p) = codes " at " ++ decimal p

abbrev pub positions_text : List ℕ → List ℕ
positions_text [] = []
positions_text (p ∷ ps) = codes " " ++ decimal p ++ positions_text ps

abbrev pub act_text : Act → List ℕ
act_text (step e) = codes "step " ++ decimal e.thread ++ choice_text e.choice
act_text (crash ps) = codes "crash at" ++ positions_text ps

-- one line for each act, in order
abbrev pub acts_text : ScheduleTable → List ℕ
acts_text [] = []
acts_text (l ∷ ls) = act_text l.act ++ codes "\n" ++ acts_text ls

abbrev pub schedule_text : ScheduleTable → List ℕ
schedule_text s = codes "schedule 1\n" ++ acts_text s
