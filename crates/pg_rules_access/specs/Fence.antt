-- The rows of the fences of thread s. A flush has no row here: it changes what persists alone.
use Rattle.std.specs.Prelude.{ℕ, Bool, true, false, ◌==◌, List}
use Rattle.pg_assertion.specs.declared.atom.ViewAtom.{ViewAtom}
use Rattle.pg_assertion.specs.declared.atom.ViewAtom.TheVariants.{Read, Then, Newest, Ordered, Fenced}
use Rattle.pg_tables.specs.declared.clause.StepLiteral.{StepLiteral}
use Rattle.pg_tables.specs.Shapes.{before, after, only_where, frame, becomes}

-- an atom only loses, where its thread is s
abbrev pub fence_loses : Bool → ViewAtom → List (List StepLiteral)
fence_loses true a = only_where (after a) (before a)
fence_loses false a = frame a

-- N'(t,z) or O'(t,z) is what F(t,z) was, where t is s
abbrev pub fence_view : Bool → ℕ → ℕ → ViewAtom → List (List StepLiteral)
fence_view true t z a = becomes (after a) (before (Fenced t z))
fence_view false t z a = frame a

-- the row of each atom, at an `mfence`
abbrev pub mfence : ℕ → ViewAtom → List (List StepLiteral)
mfence s (Read t z w) = fence_loses (t == s) (Read t z w)
mfence s (Then t z v u w) = fence_loses (t == s) (Then t z v u w)
mfence s (Newest t z) = fence_view (t == s) t z (Newest t z)
mfence s (Ordered t z) = fence_view (t == s) t z (Ordered t z)
mfence s a = frame a

-- the row of each atom, at an `sfence`
abbrev pub sfence : ℕ → ViewAtom → List (List StepLiteral)
sfence s (Ordered t z) = fence_view (t == s) t z (Ordered t z)
sfence s a = frame a
