-- Atoms as texts have them, and the names that atoms speak of.
use Rattle.std.specs.Prelude.{◌<◌, length}
use Rattle.pg_program.specs.NameTable.{NameTable}
use Rattle.pg_assertion.specs.declared.atom.ViewAtom.{ViewAtom}
use Rattle.pg_assertion.specs.declared.atom.ViewAtom.TheVariants as view
use Rattle.pg_assertion.specs.declared.atom.RawAtom.{RawAtom}
use Rattle.pg_assertion.specs.declared.atom.RawAtom.TheVariants as raw
use Rattle.pg_assertion.specs.declared.atom.CrashAtom.{CrashAtom}
use Rattle.pg_assertion.specs.declared.atom.CrashAtom.TheVariants as crash

-- the atom as a text has it
abbrev pub raw_of : ViewAtom → RawAtom
raw_of (view.Scalar r k) = raw.Scalar r k
raw_of (view.Last x v) = raw.Last x v
raw_of (view.Read t x v) = raw.Read t x v
raw_of (view.Persist x v) = raw.Persist x v
raw_of (view.Async t x v) = raw.Async t x v
raw_of (view.Then t x v y w) = raw.Then t x v y w
raw_of (view.Newest t x) = raw.Newest t x
raw_of (view.Ordered t x) = raw.Ordered t x
raw_of (view.Fenced t x) = raw.Fenced t x

-- the names of an atom are declared
abbrev pub NamesDeclared : NameTable → ViewAtom → Type 0
NamesDeclared names (view.Scalar r k) = r < length names.scalars
NamesDeclared names (view.Last x v) = x < length names.locations
NamesDeclared names (view.Read t x v) = x < length names.locations
NamesDeclared names (view.Persist x v) = x < length names.locations
NamesDeclared names (view.Async t x v) = x < length names.locations
NamesDeclared names (view.Then t x v y w) = (x < length names.locations) × (y < length names.locations)
NamesDeclared names (view.Newest t x) = x < length names.locations
NamesDeclared names (view.Ordered t x) = x < length names.locations
NamesDeclared names (view.Fenced t x) = x < length names.locations

-- the same of an atom as a text has it
abbrev pub RawDeclared : NameTable → RawAtom → Type 0
RawDeclared names (raw.Scalar r k) = r < length names.scalars
RawDeclared names (raw.Last x v) = x < length names.locations
RawDeclared names (raw.Read t x v) = x < length names.locations
RawDeclared names (raw.Persist x v) = x < length names.locations
RawDeclared names (raw.Async t x v) = x < length names.locations
RawDeclared names (raw.Then t x v y w) = (x < length names.locations) × (y < length names.locations)
RawDeclared names (raw.Newest t x) = x < length names.locations
RawDeclared names (raw.Ordered t x) = x < length names.locations
RawDeclared names (raw.Fenced t x) = x < length names.locations

abbrev pub CrashDeclared : NameTable → CrashAtom → Type 0
CrashDeclared names (crash.Scalar r k) = r < length names.scalars
CrashDeclared names (crash.Location x v) = x < length names.locations
