-- Parts of the rows of an act, as the code takes them, and frames elsewhere: of a load all but what may be read, and of a cas all
-- but scalars and what the acting thread may read.
use Rattle.std.specs.Prelude.{ℕ, ◌==◌, ◌&&◌, ◌||◌, List}
use Rattle.pg_assertion.specs.declared.atom.ViewAtom.{ViewAtom}
use Rattle.pg_assertion.specs.declared.atom.ViewAtom.TheVariants.{Scalar, Last, Read, Then, Newest, Ordered, Fenced}
use Rattle.pg_program.specs.NameTable.{NameTable}
use Rattle.pg_tables.specs.declared.clause.StepLiteral.{StepLiteral}
use Rattle.pg_tables.specs.Shapes.{frame}
use Rattle.pg_rules_access.specs.Load.{load_scalar, load_then, load_view}
use Rattle.pg_rules_access.specs.Cas.{if_stored, cas_then, cas_view, cas_fenced}

abbrev pub load_shapes : ℕ → ℕ → ℕ → ViewAtom → List (List StepLiteral)
load_shapes s r x (Scalar q k) = load_scalar (q == r) s x q k
load_shapes s r x (Then t z v u w) = load_then (t == s) s x (Then t z v u w)
load_shapes s r x (Newest t z) = load_view (t == s) s x (Newest t z)
load_shapes s r x (Ordered t z) = load_view (t == s) s x (Ordered t z)
load_shapes s r x (Fenced t z) = load_view (t == s) s x (Fenced t z)
load_shapes s r x a = frame a

abbrev pub cas_shapes : NameTable → ℕ → ℕ → ViewAtom → List (List StepLiteral)
cas_shapes names s x (Last z v) = if_stored (z == x) names s x (Last z v)
cas_shapes names s x (Read t z w) = if_stored (z == x) names s x (Read t z w)
cas_shapes names s x (Then t z v u w) = cas_then (t == s) (z == x || u == x) (z == u && v == w) names s x t z v u w
cas_shapes names s x (Newest t z) = cas_view (t == s) (z == x) names s x t z (Newest t z)
cas_shapes names s x (Ordered t z) = cas_view (t == s) (z == x) names s x t z (Ordered t z)
cas_shapes names s x (Fenced t z) = cas_fenced (t == s) (z == x) names s x t z
cas_shapes names s x a = frame a
