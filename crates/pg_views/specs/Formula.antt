-- When a formula is true: of a state, and of a memory that a crash leaves.
use Rattle.std.specs.Prelude.{ℕ, Bool, true, false, not, ◌&&◌, ◌||◌, ◌==◌, ◌<◌, List, length, slice_index}
use Rattle.pg_assertion.specs.declared.atom.ViewAtom.{ViewAtom}
use Rattle.pg_assertion.specs.declared.atom.CrashAtom.{CrashAtom}
use Rattle.pg_assertion.specs.declared.atom.CrashAtom.TheVariants.{Scalar, Location}
use Rattle.pg_assertion.specs.Formula.{Plain, top, bottom, atom, neg, both, either, implies, AllAtoms}
use Rattle.pg_assertion.specs.Layout.{sizes, IsAtom}
use Rattle.pg_program.specs.Program.{ProgramTable}
use Rattle.pg_machine.specs.State.{State}
use Rattle.pg_views.specs.Atom.{atom_holds}

-- the truth of a formula, where that of each atom is given
abbrev pub true_in : {T : Type 0} → (T → Bool) → Plain T → Bool
true_in val top = true
true_in val bottom = false
true_in val (atom a) = val a
true_in val (neg f) = not (true_in val f)
true_in val (both f g) = true_in val f && true_in val g
true_in val (either f g) = true_in val f || true_in val g
true_in val (implies f g) = not (true_in val f) || true_in val g

-- in a state
abbrev pub holds : State → Plain ViewAtom → Bool
holds s f = true_in (atom_holds s) f

-- In a memory that a crash leaves, one value of each location, with the values of the scalars at the crash.
abbrev pub crash_atom_holds : List ℕ → List ℕ → CrashAtom → Bool
crash_atom_holds memory scalars (Scalar r k) = slice_index scalars r == k
crash_atom_holds memory scalars (Location x v) = slice_index memory x == v

abbrev pub holds_crash : List ℕ → List ℕ → Plain CrashAtom → Bool
holds_crash memory scalars f = true_in (crash_atom_holds memory scalars) f

-- ---- what a formula speaks of

-- each atom of the formula speaks of scalars, locations, threads and values of the program
abbrev pub SpeaksOf : ProgramTable → Plain ViewAtom → Type 0
SpeaksOf p f = AllAtoms (IsAtom (sizes p.names (length p.threads))) f

-- an atom of a crash formula speaks of one of so many locations or scalars
abbrev pub IsCrashAtom : ℕ → ℕ → CrashAtom → Type 0
IsCrashAtom locations scalars (Scalar r k) = r < scalars
IsCrashAtom locations scalars (Location x v) = x < locations
