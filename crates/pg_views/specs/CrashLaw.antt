-- Laws of crashes: what may persist is what crashes leave, and what a crash formula says of each memory that a crash may leave
-- its expansion says of the state in which the crash comes.
use Rattle.std.specs.Prelude.{◌≡◌, ℕ, ◌<◌, true, ◌↔◌, List, length, slice_index}
use Rattle.pg_assertion.specs.declared.atom.CrashAtom.{CrashAtom}
use Rattle.pg_assertion.specs.Formula.{Plain}
use Rattle.pg_assertion.specs.Expansion.{mentions, expansion}
use Rattle.pg_program.specs.NameTable.{NameTable, lines}
use Rattle.pg_program.specs.Program.{ProgramTable}
use Rattle.pg_machine.specs.State.{State, IsWellFormed}
use Rattle.pg_views.specs.Formula.{holds}
use Rattle.pg_views.specs.Atom.{may_persist}
use Rattle.pg_views.specs.Crash.{IsCrashChoice, crash_memory, HoldsAtCrash}

-- In a well-formed state, where the expansion is true, the crash formula holds at a crash.
abbrev pub ExpansionIsEnough : Type 0
ExpansionIsEnough =
    (p : ProgramTable) (s : State) (f : Plain CrashAtom) → IsWellFormed p s → holds s (expansion p.names f) ≡ true → HoldsAtCrash s f

-- no two locations that the formula names stand on one line
abbrev pub NamesLinesApart : NameTable → Plain CrashAtom → Type 0
NamesLinesApart names f =
    (x y : ℕ) → x < length names.locations → y < length names.locations → mentions x f ≡ true → mentions y f ≡ true
    → slice_index (lines names) x ≡ slice_index (lines names) y → x ≡ y

-- And where the crash formula holds at a crash and names no two locations of one line, the expansion is true. Of two locations
-- of one line a crash does not leave each pair of values that it may leave in them one by one, so for these it may be false.
abbrev pub ExpansionIsNeeded : Type 0
ExpansionIsNeeded =
    (p : ProgramTable) (s : State) (f : Plain CrashAtom) → IsWellFormed p s → NamesLinesApart p.names f → HoldsAtCrash s f
    → holds s (expansion p.names f) ≡ true

-- So there the expansion is true exactly where the crash formula holds at a crash.
abbrev pub ExpansionIsExact : Type 0
ExpansionIsExact =
    (p : ProgramTable) (s : State) (f : Plain CrashAtom) → IsWellFormed p s → NamesLinesApart p.names f
    → (holds s (expansion p.names f) ≡ true) ↔ HoldsAtCrash s f

-- A value may persist in a location just where a crash may leave it there.
abbrev pub PersistsWhereLeft : Type 0
PersistsWhereLeft =
    (p : ProgramTable) (s : State) (x v : ℕ) → IsWellFormed p s → x < length p.names.locations
    → (may_persist s x v ≡ true) ↔ ((ps : List ℕ) × IsCrashChoice s ps × (slice_index (crash_memory s ps) x ≡ v))
