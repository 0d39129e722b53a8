-- Version 1 of the machine and of the meanings, in which each location has a cache line of its own: the asynchronous and the
-- committed view are those of a location, and nothing speaks of lines. What stands here takes the place of the definitions of
-- the same names; every other definition of a step, of an atom and of a crash is the same. The law at the end says that the
-- two agree where each location has a line of its own.
use Rattle.std.specs.Prelude.{◌≡◌, ℕ, ◌<◌, max, Bool, true, ◌↔◌, nat_le, List, length, map, Option, Some, None, slice_index}
use Rattle.pg_program.specs.declared.syntax.Stmt.{Stmt}
use Rattle.pg_program.specs.declared.syntax.Act.{Act}
use Rattle.pg_program.specs.declared.syntax.Act.TheOpen.{Act-F, Flush, Flushopt}
use Rattle.pg_program.specs.declared.point.Step.{Step}
use Rattle.pg_program.specs.NameTable.{IsNameTable}
use Rattle.pg_program.specs.Graph.{step_of}
use Rattle.pg_program.specs.Program.{ProgramTable, IsProgram, stmt_at, steps_at}
use Rattle.pg_assertion.specs.declared.atom.ViewAtom.{ViewAtom}
use Rattle.pg_assertion.specs.declared.atom.ViewAtom.TheVariants.{Persist, Async, Ordered}
use Rattle.pg_assertion.specs.Layout.{sizes, IsAtom}
use Rattle.pg_machine.specs.declared.event.Event.{Event}
use Rattle.pg_machine.specs.Memory.{line_of, reaches, last}
use Rattle.pg_machine.specs.State.{Views, State, IsWellFormed, greatest, coh_of, vpa_of, vpc_of, maxcoh, point_of}
use Rattle.pg_machine.specs.Moves.{Seen, vpa_raised, vpc_raised}
use Rattle.pg_machine.specs.Step as lines
use Rattle.pg_machine.specs.Step.{Left, leaves, HasThread, act_of, bracket_of, bracket_done, branch_taken, views_of, seen_by, moved}
use Rattle.pg_views.specs.Atom as lines_atom
use Rattle.pg_views.specs.Atom.{is_shown}
use Rattle.pg_views.specs.Crash as lines_crash

-- ---- steps

-- a `flush` of x: its asynchronous and its committed view become their maximum with the greatest coherence view
abbrev pub flushed : Seen → ℕ → Seen
flushed n x = record n { views = vpc_raised (vpa_raised n.views x (maxcoh n.views)) x (maxcoh n.views) }

-- what a `flushopt` of x is ordered after: the thread's coherence view of x, and its ready view
abbrev pub ordered : Views → ℕ → ℕ
ordered w x = max (coh_of w x) w.vpr

-- a `flushopt` of x: its asynchronous view becomes its maximum with what the flush is ordered after
abbrev pub flush_begun : Seen → ℕ → Seen
flush_begun n x = record n { views = vpa_raised n.views x (ordered n.views x) }

-- the row of each act: those of the flushes are these
abbrev pub Row : ℕ → Seen → List ℕ → Act-F Act Stmt → Option ℕ → Left → Type 0
Row d n r (Flush x) None left = left ≡ leaves (flushed n x) r
Row d n r (Flushopt x) None left = left ≡ leaves (flush_begun n x) r
Row d n r act choice left = lines.Row d n r act choice left

-- an event leads a state to the next one
pub record IsStep (p : ProgramTable) (s : State) (e : Event) (next : State) : Type 0 where
  pub thread : HasThread p e
  pub stmt : Stmt
  pub stands : stmt_at p e.thread (point_of s e.thread) ≡ Some stmt
  pub left : Left
  pub row : Row p.names.domain (seen_by s e.thread) s.scalars (act_of stmt) e.choice left
  pub step : Step
  pub taken : step_of (branch_taken p.names.domain s.scalars (act_of stmt)) (steps_at p e.thread (point_of s e.thread)) ≡ Some step
  pub becomes : next ≡ moved s e.thread (record left { scalars = bracket_done p.names.domain (bracket_of stmt) left.scalars }) step.target

-- ---- crashes

-- what was committed to x: the greatest committed view of x of all threads
abbrev pub committed : State → ℕ → ℕ
committed s x = greatest (map (λ w. vpc_of w x) s.views)

-- a crash may leave x as it is at p: p is a position of x after which no message to x was committed
abbrev pub survives : State → ℕ → ℕ → Bool
survives s x p = reaches s.memory.messages x 0 (committed s x) p

-- A crash leaves, of each location, the value at a position that survives. The choices for the locations are independent.
pub record IsCrashChoice (s : State) (ps : List ℕ) : Type 0 where
  pub size : length ps ≡ length s.memory.initial
  pub positions : (x : ℕ) → x < length s.memory.initial → survives s x (slice_index ps x) ≡ true

-- ---- atoms

-- the atoms that speak of what persists are these
abbrev pub atom_holds : State → ViewAtom → Bool
atom_holds s (Persist x v) = is_shown s.memory x 0 (committed s x) v
atom_holds s (Async t x v) = is_shown s.memory x 0 (max (committed s x) (vpa_of (views_of s t) x)) v
atom_holds s (Ordered t x) = nat_le (last s.memory.messages x) (ordered (views_of s t) x)
atom_holds s a = lines_atom.atom_holds s a

-- ---- agreement

-- each location has a line of its own
abbrev pub HasOwnLines : State → Type 0
HasOwnLines s = (x : ℕ) → x < length s.memory.initial → line_of s.memory x ≡ x

-- Where each location has a line of its own, the steps, the crash choices and the atoms are those of version 1.
pub record AgreesAt (p : ProgramTable) (s : State) : Type 0 where
  pub steps : (e : Event) (next : State) → lines.IsStep p s e next ↔ IsStep p s e next
  pub crashes : (ps : List ℕ) → lines_crash.IsCrashChoice s ps ↔ IsCrashChoice s ps
  pub atoms : (a : ViewAtom) → IsAtom (sizes p.names (length p.threads)) a → lines_atom.atom_holds s a ≡ atom_holds s a

abbrev pub LinesOfTheirOwnAgree : Type 0
LinesOfTheirOwnAgree = (p : ProgramTable) (s : State) → IsProgram p → IsWellFormed p s → HasOwnLines s → AgreesAt p s

-- And in a well-formed state of a program of version 1 each location has a line of its own.
abbrev pub Version1HasOwnLines : Type 0
Version1HasOwnLines = (p : ProgramTable) (s : State) → IsNameTable p.names → p.names.version ≡ 1 → IsWellFormed p s → HasOwnLines s
