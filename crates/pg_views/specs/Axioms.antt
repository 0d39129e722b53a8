-- The axioms: how the atoms of a well-formed state stand to one another.
use Rattle.std.specs.Prelude.{◌≡◌, ℕ, ◌<◌, ◌≤◌, true, length}
use Rattle.pg_assertion.specs.declared.atom.ViewAtom.{ViewAtom}
use Rattle.pg_assertion.specs.declared.atom.ViewAtom.TheVariants.{Scalar, Last, Read, Persist, Async, Then, Newest, Ordered, Fenced}
use Rattle.pg_program.specs.Program.{ProgramTable}
use Rattle.pg_machine.specs.State.{State, IsWellFormed}
use Rattle.pg_views.specs.Atom.{atom_holds}

abbrev pub Holds : State → ViewAtom → Type 0
Holds s a = atom_holds s a ≡ true

-- the state of the program is well formed, and t is one of its threads
pub record IsFormedWith (p : ProgramTable) (s : State) (t : ℕ) : Type 0 where
  pub formed : IsWellFormed p s
  pub first : 1 ≤ t
  pub last : t ≤ length p.threads

-- v is the one value of the domain for which the atom holds, and there is no other value at all
pub record IsTheValue (s : State) (d : ℕ) (atom : ℕ → ViewAtom) (v : ℕ) : Type 0 where
  pub inside : v < d
  pub holds : Holds s (atom v)
  pub one : (w : ℕ) → Holds s (atom w) → w ≡ v

-- A location has exactly one last value, and a scalar exactly one value.
abbrev pub HasOneLastValue : Type 0
HasOneLastValue =
    (p : ProgramTable) (s : State) (x : ℕ) → IsWellFormed p s → x < length p.names.locations → (v : ℕ) × IsTheValue s p.names.domain (Last x) v

abbrev pub HasOneScalarValue : Type 0
HasOneScalarValue =
    (p : ProgramTable) (s : State) (r : ℕ) → IsWellFormed p s → r < length p.names.scalars → (k : ℕ) × IsTheValue s p.names.domain (Scalar r) k

-- The last value may persist, each thread may read it, and it may persist after a fence of each thread.
abbrev pub LastIsShown : Type 0
LastIsShown =
    (p : ProgramTable) (s : State) (t x v : ℕ) → IsFormedWith p s t → Holds s (Last x v) → Holds s (Persist x v) × Holds s (Read t x v) × Holds s (Async t x v)

-- What may persist after a fence may persist without it.
abbrev pub PendingMayPersist : Type 0
PendingMayPersist = (s : State) (t x v : ℕ) → Holds s (Async t x v) → Holds s (Persist x v)

-- A thread that may read x at its last position alone reads the last value.
abbrev pub NewestReadIsLast : Type 0
NewestReadIsLast = (s : State) (t x v : ℕ) → Holds s (Newest t x) → Holds s (Read t x v) → Holds s (Last x v)

-- A last position that alone may be read is covered by what a `flushopt` is ordered after, and this by what a `flush` is.
abbrev pub NewestIsOrdered : Type 0
NewestIsOrdered = (p : ProgramTable) (s : State) (t x : ℕ) → IsFormedWith p s t → Holds s (Newest t x) → Holds s (Ordered t x)

abbrev pub OrderedIsFenced : Type 0
OrderedIsFenced = (p : ProgramTable) (s : State) (t x : ℕ) → IsFormedWith p s t → Holds s (Ordered t x) → Holds s (Fenced t x)

-- What may be read after a load could be read before it, and what is loaded too.
abbrev pub ThenWasReadable : Type 0
ThenWasReadable = (s : State) (t x v y w : ℕ) → Holds s (Then t x v y w) → Holds s (Read t x v) × Holds s (Read t y w)

-- After a load the last value of each location may be read, and of the same location what was loaded.
abbrev pub LastIsReadThen : Type 0
LastIsReadThen =
    (p : ProgramTable) (s : State) (t x v y w : ℕ) → IsFormedWith p s t → Holds s (Read t x v) → Holds s (Last y w) → Holds s (Then t x v y w)

abbrev pub ReadIsReadAgain : Type 0
ReadIsReadAgain = (s : State) (t x v : ℕ) → Holds s (Read t x v) → Holds s (Then t x v x v)

-- A load at the last position, which alone may be read, keeps what may be read.
abbrev pub NewestLoadKeepsThen : Type 0
NewestLoadKeepsThen =
    (p : ProgramTable) (s : State) (t x v y w : ℕ) → IsFormedWith p s t → Holds s (Newest t x) → Holds s (Last x v) → Holds s (Read t y w)
    → Holds s (Then t x v y w)
