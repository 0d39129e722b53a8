-- The names of an atom over a program are declared.
use Rattle.std.proofs.Common.{ℕ}
use Rattle.pg_program.specs.NameTable.{NameTable}
use Rattle.pg_assertion.specs.declared.atom.ViewAtom.{ViewAtom}
use Rattle.pg_assertion.specs.declared.atom.ViewAtom.TheVariants.{Scalar, Last, Read, Persist, Async, Then, Newest, Ordered, Fenced}
use Rattle.pg_assertion.specs.Layout.{sizes, IsAtom}
use Rattle.pg_assertion.specs.Atom.{NamesDeclared}

pub names_of : (names : NameTable) (threads : ℕ) (a : ViewAtom) → IsAtom (sizes names threads) a → NamesDeclared names a
names_of names threads (Scalar r k) h = h.0
names_of names threads (Last x v) h = h.0
names_of names threads (Read t x v) h = h.1
names_of names threads (Persist x v) h = h.0
names_of names threads (Async t x v) h = h.1
names_of names threads (Then t x v y w) h = (h.1, h.3)
names_of names threads (Newest t x) h = h.1
names_of names threads (Ordered t x) h = h.1
names_of names threads (Fenced t x) h = h.1
