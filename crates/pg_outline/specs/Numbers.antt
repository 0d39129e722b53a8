-- The numbers of an atom: its thread and its values.
use Rattle.std.specs.Prelude.{ℕ, Option, Some, None}
use Rattle.pg_assertion.specs.declared.atom.RawAtom.{RawAtom}
use Rattle.pg_assertion.specs.declared.atom.RawAtom.TheVariants as raw
use Rattle.pg_outline.specs.declared.view.Numbers.{Numbers}
use Rattle.pg_outline.specs.Fault.{Fault}

-- the numbers that an atom has, from left to right
abbrev pub numbers_of : RawAtom → Numbers
numbers_of (raw.Scalar r k) = record { thread = None; value = Some k; other = None }
numbers_of (raw.Last x v) = record { thread = None; value = Some v; other = None }
numbers_of (raw.Read t x v) = record { thread = Some t; value = Some v; other = None }
numbers_of (raw.Persist x v) = record { thread = None; value = Some v; other = None }
numbers_of (raw.Async t x v) = record { thread = Some t; value = Some v; other = None }
numbers_of (raw.Then t x v y w) = record { thread = Some t; value = Some v; other = Some w }
numbers_of (raw.Newest t x) = record { thread = Some t; value = None; other = None }
numbers_of (raw.Ordered t x) = record { thread = Some t; value = None; other = None }
numbers_of (raw.Fenced t x) = record { thread = Some t; value = None; other = None }

-- the atom with these numbers in place of those that it has
abbrev pub renumbered : RawAtom → ℕ → ℕ → ℕ → RawAtom
renumbered (raw.Scalar r k) t v w = raw.Scalar r v
renumbered (raw.Last x k) t v w = raw.Last x v
renumbered (raw.Read s x k) t v w = raw.Read t x v
renumbered (raw.Persist x k) t v w = raw.Persist x v
renumbered (raw.Async s x k) t v w = raw.Async t x v
renumbered (raw.Then s x k y l) t v w = raw.Then t x v y w
renumbered (raw.Newest s x) t v w = raw.Newest t x
renumbered (raw.Ordered s x) t v w = raw.Ordered t x
renumbered (raw.Fenced s x) t v w = raw.Fenced t x

-- the fault of a number, where there is one
abbrev pub fault_if : (ℕ → Fault) → Option ℕ → Fault
fault_if fault None = None
fault_if fault (Some n) = fault n
