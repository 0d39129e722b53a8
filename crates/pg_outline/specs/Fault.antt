-- The faults of an outline's formulas. Those of values and threads come in the order of the text: the precondition, the
-- crash formula, and the assertions of each thread.
use Rattle.std.specs.Prelude.{ℕ, ◌&&◌, nat_le, nat_lt, if◌then◌else◌, List, [], ◌∷◌, length, Option, Some, None}
use Rattle.pg_assertion.specs.declared.atom.RawAtom.{RawAtom}
use Rattle.pg_assertion.specs.declared.atom.RawAtom.TheVariants as raw
use Rattle.pg_assertion.specs.declared.atom.CrashAtom.{CrashAtom}
use Rattle.pg_assertion.specs.declared.atom.CrashAtom.TheVariants as crash
use Rattle.pg_assertion.specs.Formula.{Plain, top, bottom, atom, neg, both, either, implies, nodes}
use Rattle.pg_assertion.specs.Expansion.{named, expansion}
use Rattle.pg_program.specs.NameTable.{NameTable}
use Rattle.pg_program.specs.Program.{ProgramTable}
use Rattle.pg_outline.specs.declared.fault.OutlineFault.{OutlineFault}
use Rattle.pg_outline.specs.declared.fault.OutlineFault.TheVariants.{ValueOutOfDomain, UnknownThread, CrashLocations, CrashNodes}
use Rattle.pg_outline.specs.Limits.{most_crash_locations, most_expansion_nodes}
use Rattle.pg_outline.specs.Outline.{Draft}

-- ---- the first of several

abbrev pub Fault : Type 0
Fault = Option OutlineFault

-- the first of two faults, if there is one
abbrev pub first_of : Fault → Fault → Fault
first_of (Some f) g = Some f
first_of None g = g

-- the first fault in a list
abbrev pub first_in : {A : Type 0} → (A → Fault) → List A → Fault
first_in fault [] = None
first_in fault (a ∷ more) = first_of (fault a) (first_in fault more)

-- the first fault of an atom of a formula
abbrev pub in_formula : {T : Type 0} → (T → Fault) → Plain T → Fault
in_formula fault top = None
in_formula fault bottom = None
in_formula fault (atom a) = fault a
in_formula fault (neg f) = in_formula fault f
in_formula fault (both f g) = first_of (in_formula fault f) (in_formula fault g)
in_formula fault (either f g) = first_of (in_formula fault f) (in_formula fault g)
in_formula fault (implies f g) = first_of (in_formula fault f) (in_formula fault g)

-- ---- atoms, over d values and n threads

-- a value of the domain
abbrev pub value_fault : ℕ → ℕ → Fault
value_fault d v = if nat_lt v d then None else Some (ValueOutOfDomain v)

-- a thread, from 1
abbrev pub thread_fault : ℕ → ℕ → Fault
thread_fault n t = if nat_le 1 t && nat_le t n then None else Some (UnknownThread t)

-- the numbers of an atom, from left to right
abbrev pub atom_fault : ℕ → ℕ → RawAtom → Fault
atom_fault d n (raw.Scalar r k) = value_fault d k
atom_fault d n (raw.Last x v) = value_fault d v
atom_fault d n (raw.Read t x v) = first_of (thread_fault n t) (value_fault d v)
atom_fault d n (raw.Persist x v) = value_fault d v
atom_fault d n (raw.Async t x v) = first_of (thread_fault n t) (value_fault d v)
atom_fault d n (raw.Then t x v y w) = first_of (thread_fault n t) (first_of (value_fault d v) (value_fault d w))
atom_fault d n (raw.Newest t x) = thread_fault n t
atom_fault d n (raw.Ordered t x) = thread_fault n t
atom_fault d n (raw.Fenced t x) = thread_fault n t

abbrev pub crash_atom_fault : ℕ → CrashAtom → Fault
crash_atom_fault d (crash.Scalar r k) = value_fault d k
crash_atom_fault d (crash.Location x v) = value_fault d v

-- the first fault of an assertion over a program: a value outside the domain, or a thread that is not there
abbrev pub assertion_fault : ProgramTable → Plain RawAtom → Fault
assertion_fault p f = in_formula (atom_fault p.names.domain (length p.threads)) f

-- ---- outlines

-- each value is in the domain, and each thread is one of the program's
abbrev pub numbers_fault : ℕ → ℕ → Draft → Fault
numbers_fault d n o =
    first_of (in_formula (atom_fault d n) o.pre)
    (first_of (in_formula (crash_atom_fault d) o.crash)
    (first_in (first_in (in_formula (atom_fault d n))) o.notes))

-- how many locations the crash formula names
abbrev pub locations_fault : NameTable → Plain CrashAtom → Fault
locations_fault names f =
    let k = length (named (length names.locations) f) in
    if nat_le k most_crash_locations then None else Some (CrashLocations k)

-- how many nodes its expansion has
abbrev pub size_fault : NameTable → Plain CrashAtom → Fault
size_fault names f =
    let n = nodes (expansion names f) in
    if nat_le n most_expansion_nodes then None else Some (CrashNodes n)

-- the first fault
abbrev pub first_fault : Draft → Fault
first_fault o =
    first_of (numbers_fault o.program.names.domain (length o.program.threads) o)
    (first_of (locations_fault o.program.names o.crash) (size_fault o.program.names o.crash))
