-- What is told of a walk.
use Rattle.std.specs.Prelude.{◌≡◌, ℕ, zero, suc, List, [], ◌++◌, length, codes, decimal, slice_index, if◌then◌else◌}
use Rattle.pg_program.specs.NameTable.{NameTable}
use Rattle.pg_program.specs.Program.{ProgramTable}
use Rattle.pg_assertion.specs.declared.atom.ViewAtom.{ViewAtom}
use Rattle.pg_assertion.specs.Formula.{Plain, top, bottom, atom, neg, both, either, implies}
use Rattle.pg_assertion_text.specs.Spelling.{location_name, spell_atom}
use Rattle.pg_machine.specs.State.{State, fresh}
use Rattle.pg_machine.specs.Step.{IsStep}
use Rattle.pg_views.specs.Atom.{atom_holds}
use Rattle.pg_views.specs.Crash.{IsCrashChoice, crash_memory}
use Rattle.pg_schedule.specs.Schedule.{Act, step, crash, ScheduleTable, act_at, number_at}

-- ---- texts

-- the atoms of the question that hold in a state, in the order of the question, each after a blank
abbrev pub atoms_text : NameTable → State → Plain ViewAtom → List ℕ
atoms_text names s top = []
atoms_text names s bottom = []
atoms_text names s (atom a) = if atom_holds s a then codes " " ++ spell_atom names a else []
atoms_text names s (neg f) = atoms_text names s f
atoms_text names s (both f g) = atoms_text names s f ++ atoms_text names s g
atoms_text names s (either f g) = atoms_text names s f ++ atoms_text names s g
atoms_text names s (implies f g) = atoms_text names s f ++ atoms_text names s g

-- the line of a state, which line n of the schedule leads to
abbrev pub state_text : NameTable → Plain ViewAtom → ℕ → State → List ℕ
state_text names f n s = decimal n ++ (atoms_text names s f ++ codes "\n")

-- a location, with its value in a memory that a crash leaves; and the first so many locations
abbrev pub location_text : NameTable → List ℕ → ℕ → List ℕ
location_text names memory x = codes " " ++ (location_name names x ++ (codes "=" ++ decimal (slice_index memory x)))

abbrev pub locations_text : NameTable → List ℕ → ℕ → List ℕ
locations_text names memory zero = []
locations_text names memory (suc x) = locations_text names memory x ++ location_text names memory x

-- the line of a crash
abbrev pub crash_text : NameTable → ℕ → List ℕ → List ℕ
crash_text names n memory = decimal n ++ (codes " crash" ++ (locations_text names memory (length names.locations) ++ codes "\n"))

-- ---- walks

-- the machine takes a step, or it may crash so, which leaves the state as it is
abbrev pub Takes : ProgramTable → State → Act → State → Type 0
Takes p s (step e) next = IsStep p s e next
Takes p s (crash at) next = IsCrashChoice s at × (next ≡ s)

-- what is told of line n, which leads to a state
abbrev pub line_text : NameTable → Plain ViewAtom → ℕ → Act → State → List ℕ
line_text names f n (step e) s = state_text names f n s
line_text names f n (crash at) s = crash_text names n (crash_memory s at)

-- Behind the first k lines the machine is in this state, and this was told. The fresh state counts as line 1.
abbrev pub Walks : ProgramTable → Plain ViewAtom → ScheduleTable → ℕ → State → List ℕ → Type 0
Walks p f lines zero s told = (s ≡ fresh p) × (told ≡ state_text p.names f 1 s)
Walks p f lines (suc k) s told =
    (before : State) × (earlier : List ℕ) × Walks p f lines k before earlier × Takes p before (act_at lines k) s
    × (told ≡ earlier ++ line_text p.names f (number_at lines k) (act_at lines k) s)

-- this is told of the whole schedule
abbrev pub IsWalk : ProgramTable → Plain ViewAtom → ScheduleTable → List ℕ → Type 0
IsWalk p f lines told = (s : State) × Walks p f lines (length lines) s told
