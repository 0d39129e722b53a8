-- The rows of a cas of thread s on x, which reads into r. E(v) says what it expects, K(v) what it stores where it succeeds.
use Rattle.std.specs.Prelude.{ℕ, Bool, true, false, ◌==◌, ◌&&◌, ◌||◌, List, [], ◌∷◌, ◌++◌}
use Rattle.pg_assertion.specs.declared.atom.ViewAtom.{ViewAtom}
use Rattle.pg_assertion.specs.declared.atom.ViewAtom.TheVariants.{Scalar, Last, Read, Then, Newest, Ordered, Fenced}
use Rattle.pg_assertion.specs.declared.step_atom.StepAtom.TheVariants.{Expected}
use Rattle.pg_assertion.specs.Layout.{Sizes}
use Rattle.pg_program.specs.NameTable.{NameTable}
use Rattle.pg_tables.specs.declared.clause.Case.TheVariants.{Succeeds, Fails}
use Rattle.pg_tables.specs.declared.clause.StepLiteral.{StepLiteral}
use Rattle.pg_tables.specs.Clause.{implies}
use Rattle.pg_tables.specs.Table.{under}
use Rattle.pg_tables.specs.Shapes.{before, after, only_where, always, frame, becomes, becomes_both}
use Rattle.pg_rules_access.specs.Store.{store}
use Rattle.pg_rules_access.specs.Load.{read_then}

-- as by a store where the cas succeeds, and as before where it fails
abbrev pub stored_or_kept : NameTable → ℕ → ℕ → ViewAtom → List (List StepLiteral)
stored_or_kept names s x a = under Succeeds (store names s x a) ++ under Fails (frame a)

-- that, where a store changes the atom, and else its frame
abbrev pub if_stored : Bool → NameTable → ℕ → ℕ → ViewAtom → List (List StepLiteral)
if_stored true names s x a = stored_or_kept names s x a
if_stored false names s x a = frame a

-- g'(q,k), where q is r
abbrev pub cas_scalar : Bool → ℕ → ℕ → ℕ → ℕ → List (List StepLiteral)
cas_scalar true s x q k =
    under Succeeds (becomes (after (Scalar q k)) (Expected k))
    ++ under Fails (
    implies (after (Scalar q k) ∷ Expected k ∷ []) []
    ∷ implies (after (Scalar q k) ∷ []) (before (Read s x k) ∷ [])
    ∷ implies (after (Scalar q k) ∷ before (Fenced s x) ∷ []) (before (Last x k) ∷ [])
    ∷ [])
cas_scalar false s x q k = frame (Scalar q k)

-- R'(s,z,w)
abbrev pub own_read : Sizes → ℕ → ℕ → ℕ → ℕ → ℕ → List (List StepLiteral)
own_read l s r x z w =
    under Succeeds (becomes (after (Read s z w)) (after (Last z w)))
    ++ under Fails (only_where (after (Read s z w)) (before (Read s z w)) ++ read_then l s r x z w)

-- R'(t,z,w), where t is s, and where z is x
abbrev pub cas_read : Sizes → Bool → Bool → NameTable → ℕ → ℕ → ℕ → ℕ → ℕ → ℕ → List (List StepLiteral)
cas_read l true here names s r x t z w = own_read l s r x z w
cas_read l false here names s r x t z w = if_stored here names s x (Read t z w)

-- C'(s,z,v,u,w), where (z,v) is (u,w)
abbrev pub own_then : Bool → ℕ → ℕ → ℕ → ℕ → ℕ → List (List StepLiteral)
own_then true s z v u w =
    under Succeeds (becomes (after (Then s z v u w)) (after (Last z v)))
    ++ under Fails (only_where (after (Then s z v u w)) (before (Then s z v u w)))
own_then false s z v u w =
    under Succeeds (becomes_both (after (Then s z v u w)) (after (Last z v)) (after (Last u w)))
    ++ under Fails (only_where (after (Then s z v u w)) (before (Then s z v u w)))

-- C'(t,z,v,u,w), where t is s, where z or u is x, and where (z,v) is (u,w)
abbrev pub cas_then : Bool → Bool → Bool → NameTable → ℕ → ℕ → ℕ → ℕ → ℕ → ℕ → ℕ → List (List StepLiteral)
cas_then true here same names s x t z v u w = own_then same t z v u w
cas_then false here same names s x t z v u w = if_stored here names s x (Then t z v u w)

-- N'(t,z) and O'(t,z), where t is s, and where z is x
abbrev pub cas_view : Bool → Bool → NameTable → ℕ → ℕ → ℕ → ℕ → ViewAtom → List (List StepLiteral)
cas_view true here names s x t z a = under Succeeds (always (after a)) ++ under Fails (becomes (after a) (after (Fenced t z)))
cas_view false here names s x t z a = if_stored here names s x a

-- F'(s,z), where z is x
abbrev pub own_fenced : Bool → ℕ → ℕ → ℕ → List (List StepLiteral)
own_fenced true s x z =
    under Succeeds (always (after (Fenced s z)))
    ++ under Fails (implies (before (Fenced s z) ∷ []) (after (Fenced s z) ∷ []) ∷ [])
own_fenced false s x z =
    under Succeeds (always (after (Fenced s z)))
    ++ under Fails (
    implies (before (Fenced s z) ∷ []) (after (Fenced s z) ∷ [])
    ∷ implies (before (Fenced s x) ∷ after (Fenced s z) ∷ []) (before (Fenced s z) ∷ [])
    ∷ [])

-- F'(t,z), where t is s, and where z is x
abbrev pub cas_fenced : Bool → Bool → NameTable → ℕ → ℕ → ℕ → ℕ → List (List StepLiteral)
cas_fenced true here names s x t z = own_fenced here s x z
cas_fenced false here names s x t z = if_stored here names s x (Fenced t z)

-- the row of each atom
abbrev pub cas : Sizes → NameTable → ℕ → ℕ → ℕ → ViewAtom → List (List StepLiteral)
cas l names s r x (Scalar q k) = cas_scalar (q == r) s x q k
cas l names s r x (Last z v) = if_stored (z == x) names s x (Last z v)
cas l names s r x (Read t z w) = cas_read l (t == s) (z == x) names s r x t z w
cas l names s r x (Then t z v u w) = cas_then (t == s) (z == x || u == x) (z == u && v == w) names s x t z v u w
cas l names s r x (Newest t z) = cas_view (t == s) (z == x) names s x t z (Newest t z)
cas l names s r x (Ordered t z) = cas_view (t == s) (z == x) names s x t z (Ordered t z)
cas l names s r x (Fenced t z) = cas_fenced (t == s) (z == x) names s x t z
cas l names s r x a = frame a
