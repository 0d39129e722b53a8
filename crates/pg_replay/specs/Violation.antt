-- What does not hold in a state of a replay.
use Rattle.std.specs.Prelude.{ℕ, List, [], ◌∷◌, length, map, Option, Some, None, if◌then◌else◌}
use Rattle.std.specs.Option.{option_or}
use Rattle.std.specs.List.{range_with_len}
use Rattle.pg_machine.specs.State.{State, point_of}
use Rattle.pg_views.specs.Formula.{holds, holds_crash}
use Rattle.pg_outline.specs.Outline.{OutlineTable, note_at}
use Rattle.pg_replay.specs.declared.answer.Violation.{Violation}
use Rattle.pg_replay.specs.declared.answer.Violation.TheVariants.{Assertion, Crash}

-- the assertion at the point of thread t, where it does not hold; found after line n
abbrev pub assertion_violation : OutlineTable → ℕ → State → ℕ → Option Violation
assertion_violation o n s t =
    if holds s (note_at o t (point_of s t)) then None else Some (Assertion n (record { thread = t; point = point_of s t }))

-- the first of some violations
abbrev pub first_of : List (Option Violation) → Option Violation
first_of [] = None
first_of (v ∷ vs) = option_or v (first_of vs)

-- the first that a state has, in the order of the threads
abbrev pub state_violation : OutlineTable → ℕ → State → Option Violation
state_violation o n s = first_of (map (assertion_violation o n s) (range_with_len 1 (length o.program.threads)))

-- the crash formula, where it does not hold of a memory that a crash leaves, with the scalars as they stand
abbrev pub crash_violation : OutlineTable → ℕ → State → List ℕ → Option Violation
crash_violation o n s memory = if holds_crash memory s.scalars o.crash then None else Some (Crash n)
