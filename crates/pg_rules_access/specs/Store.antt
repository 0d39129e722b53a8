-- The rows of a store of thread s to x, whose value K(v) says. A row has the atom after the step, and whether its thread is s,
-- whether its locations are x, and whether its values are the same.
use Rattle.std.specs.Prelude.{ℕ, Bool, true, false, ◌==◌, List, [], ◌∷◌}
use Rattle.pg_assertion.specs.declared.atom.ViewAtom.{ViewAtom}
use Rattle.pg_assertion.specs.declared.atom.ViewAtom.TheVariants.{Last, Read, Then, Newest, Ordered, Fenced}
use Rattle.pg_assertion.specs.declared.step_atom.StepAtom.{StepAtom}
use Rattle.pg_assertion.specs.declared.step_atom.StepAtom.TheVariants.{Value}
use Rattle.pg_program.specs.NameTable.{NameTable}
use Rattle.pg_tables.specs.declared.clause.StepLiteral.{StepLiteral}
use Rattle.pg_tables.specs.Clause.{implies}
use Rattle.pg_tables.specs.Steps.{same_line}
use Rattle.pg_tables.specs.Shapes.{before, after, always, never, frame, becomes, becomes_both, gains, gains_both}

-- L'(z,v), where z is x
abbrev pub store_last : Bool → ℕ → ℕ → List (List StepLiteral)
store_last true z v = becomes (after (Last z v)) (Value v)
store_last false z v = frame (Last z v)

-- R'(t,z,v), where t is s, and where z is x
abbrev pub store_read : Bool → Bool → ℕ → ℕ → ℕ → List (List StepLiteral)
store_read true true t z v = becomes (after (Read t z v)) (Value v)
store_read false true t z v = gains (after (Read t z v)) (before (Read t z v)) (Value v)
store_read own false t z v = frame (Read t z v)

-- Another thread may read v from x and then w from x: as before; or it reads the new message second, with what it could read
-- before it; or it reads the new message twice.
abbrev pub store_twice : StepAtom → StepAtom → StepAtom → StepAtom → StepAtom → List StepAtom → List (List StepLiteral)
store_twice is was read from to both =
    implies (is ∷ []) (was ∷ to ∷ [])
    ∷ implies (is ∷ []) (was ∷ read ∷ from ∷ [])
    ∷ implies (was ∷ []) (is ∷ [])
    ∷ implies (read ∷ to ∷ []) (is ∷ [])
    ∷ implies both (is ∷ [])
    ∷ []

-- the new message has both values, which may be the same
abbrev pub twice : Bool → ℕ → ℕ → List StepAtom
twice true v w = Value v ∷ []
twice false v w = Value v ∷ Value w ∷ []

-- C'(t,z,v,u,w), where t is s, where z is x, where u is x, and where v is w
abbrev pub store_then : Bool → Bool → Bool → Bool → ℕ → ℕ → ℕ → ℕ → ℕ → List (List StepLiteral)
store_then true true true true t z v u w = becomes (after (Then t z v u w)) (Value v)
store_then true true true false t z v u w = becomes_both (after (Then t z v u w)) (Value v) (Value w)
store_then true true false same t z v u w = becomes_both (after (Then t z v u w)) (Value v) (before (Read t u w))
store_then true false true same t z v u w = becomes_both (after (Then t z v u w)) (before (Read t z v)) (Value w)
store_then false true false same t z v u w = gains_both (after (Then t z v u w)) (before (Then t z v u w)) (Value v) (before (Last u w))
store_then false false true same t z v u w = gains_both (after (Then t z v u w)) (before (Then t z v u w)) (before (Read t z v)) (Value w)
store_then false true true same t z v u w = store_twice (after (Then t z v u w)) (before (Then t z v u w)) (before (Read t z v)) (Value v) (Value w) (twice same v w)
store_then own false false same t z v u w = frame (Then t z v u w)

-- N'(t,z), where t is s, and where z is x
abbrev pub store_newest : Bool → Bool → ℕ → ℕ → List (List StepLiteral)
store_newest true true t z = always (after (Newest t z))
store_newest false true t z = never (after (Newest t z))
store_newest own false t z = frame (Newest t z)

-- O'(t,z), where t is s, where z is x, and where z stands on the line of x
abbrev pub store_ordered : Bool → Bool → Bool → ℕ → ℕ → List (List StepLiteral)
store_ordered true here true t z = always (after (Ordered t z))
store_ordered true here false t z = frame (Ordered t z)
store_ordered false true near t z = never (after (Ordered t z))
store_ordered false false near t z = frame (Ordered t z)

-- F'(t,z), where t is s, and where z is x
abbrev pub store_fenced : Bool → Bool → ℕ → ℕ → List (List StepLiteral)
store_fenced true here t z = always (after (Fenced t z))
store_fenced false true t z = never (after (Fenced t z))
store_fenced false false t z = frame (Fenced t z)

-- the row of each atom
abbrev pub store : NameTable → ℕ → ℕ → ViewAtom → List (List StepLiteral)
store names s x (Last z v) = store_last (z == x) z v
store names s x (Read t z v) = store_read (t == s) (z == x) t z v
store names s x (Then t z v u w) = store_then (t == s) (z == x) (u == x) (v == w) t z v u w
store names s x (Newest t z) = store_newest (t == s) (z == x) t z
store names s x (Ordered t z) = store_ordered (t == s) (z == x) (same_line names x z) t z
store names s x (Fenced t z) = store_fenced (t == s) (z == x) t z
store names s x a = frame a
