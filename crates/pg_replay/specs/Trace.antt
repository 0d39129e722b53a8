-- The trace of a replay: a line of text for each line that is taken.
use Rattle.std.specs.Prelude.{ℕ, ◌-◌, nat_lt, List, [], ◌++◌, length, codes, decimal, Option, Some, None, option_map, unwrap_or, slice_get, slice_index, slice_index_or, if◌then◌else◌}
use Rattle.std.specs.List.{flat_map, range_with_len}
use Rattle.pg_program.specs.declared.syntax.Stmt.{Stmt}
use Rattle.pg_program.specs.declared.syntax.Act.{Act}
use Rattle.pg_program.specs.declared.syntax.Act.TheOpen.{Act-F, Load, Cas}
use Rattle.pg_program.specs.NameTable.{NameTable}
use Rattle.pg_program.specs.Program.{ProgramTable, stmt_at}
use Rattle.pg_machine.specs.declared.event.Event.{Event}
use Rattle.pg_machine.specs.Memory.{Memory, value_at, last_value}
use Rattle.pg_machine.specs.State.{State, point_of}
use Rattle.pg_machine.specs.Step.{act_of}
use Rattle.pg_replay.specs.declared.moves.Write.{Write}
use Rattle.pg_replay.specs.declared.moves.Moves.{Moves}

-- ---- steps

-- the value that an act reads: a load or a failing cas at the position that its event chooses, a successful cas the last one
abbrev pub value_read : Memory → Act-F Act Stmt → Option ℕ → Option ℕ
value_read m (Load q x) (Some p) = Some (value_at m x p)
value_read m (Cas q x e f) (Some p) = Some (value_at m x p)
value_read m (Cas q x e f) None = Some (last_value m x)
value_read m act choice = None

abbrev pub read_at : Memory → Option Stmt → Option ℕ → Option ℕ
read_at m None choice = None
read_at m (Some stmt) choice = value_read m (act_of stmt) choice

-- the message that a step appends, if it does: the last one, where there are more than before
abbrev pub last_written : ℕ → Memory → Option Write
last_written before next =
    if nat_lt before (length next.messages)
    then Some (record { value = (slice_index_or next.messages (length next.messages - 1) (0, 0)).1; position = length next.messages })
    else None

-- what is told of the step by an event from one state to the next: the points before and after, what is read and what is written
abbrev pub moves : ProgramTable → State → Event → State → Moves
moves p s e next = record {
  thread = e.thread;
  from = point_of s e.thread;
  to = point_of next e.thread;
  read = read_at s.memory (stmt_at p e.thread (point_of s e.thread)) e.choice;
  write = last_written (length s.memory.messages) next.memory;
}

-- ---- texts

abbrev pub point_text : ℕ → ℕ → List ℕ
point_text t k = decimal t ++ (codes "." ++ decimal k)

abbrev pub read_text : Option ℕ → List ℕ
read_text None = []
read_text (Some v) = codes " read " ++ decimal v

abbrev pub message_text : Write → List ℕ
message_text w = codes " write " ++ (decimal w.value ++ (codes " at " ++ decimal w.position))

abbrev pub write_text : Option Write → List ℕ
write_text None = []
write_text (Some w) = message_text w

abbrev pub points_text : ℕ → Moves → List ℕ
points_text n m = decimal n ++ (codes " " ++ (point_text m.thread m.from ++ (codes " > " ++ point_text m.thread m.to)))

-- the line of a step, which is line n of the schedule
abbrev pub step_text : ℕ → Moves → List ℕ
step_text n m = points_text n m ++ (read_text m.read ++ (write_text m.write ++ codes "\n"))

abbrev pub name_of : NameTable → ℕ → List ℕ
name_of names x = unwrap_or (option_map (λ l. l.name) (slice_get names.locations x)) []

-- a location, with its value in a memory that a crash leaves
abbrev pub location_text : NameTable → List ℕ → ℕ → List ℕ
location_text names memory x = codes " " ++ (name_of names x ++ (codes "=" ++ decimal (slice_index memory x)))

-- all locations
abbrev pub memory_text : NameTable → List ℕ → List ℕ
memory_text names memory = flat_map (location_text names memory) (range_with_len 0 (length names.locations))

-- the line of a crash, which is line n of the schedule
abbrev pub crash_text : NameTable → ℕ → List ℕ → List ℕ
crash_text names n memory = decimal n ++ (codes " crash" ++ (memory_text names memory ++ codes "\n"))
