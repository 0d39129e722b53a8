-- The rows of an assignment to a scalar, and of a load of thread s from x into a scalar.
use Rattle.std.specs.Prelude.{ℕ, Bool, true, false, ◌==◌, List, [], ◌∷◌, ◌++◌}
use Rattle.pg_assertion.specs.declared.atom.ViewAtom.{ViewAtom}
use Rattle.pg_assertion.specs.declared.atom.ViewAtom.TheVariants.{Scalar, Read, Then, Newest, Ordered, Fenced}
use Rattle.pg_assertion.specs.declared.step_atom.StepAtom.TheVariants.{Value}
use Rattle.pg_assertion.specs.Layout.{Sizes}
use Rattle.pg_tables.specs.declared.clause.StepLiteral.{StepLiteral}
use Rattle.pg_tables.specs.Clause.{implies}
use Rattle.pg_tables.specs.Table.{per_value}
use Rattle.pg_tables.specs.Shapes.{before, after, only_where, frame, becomes}

-- g'(q,k) at an assignment, where q is the assigned scalar
abbrev pub assign_scalar : Bool → ℕ → ℕ → List (List StepLiteral)
assign_scalar true q k = becomes (after (Scalar q k)) (Value k)
assign_scalar false q k = frame (Scalar q k)

-- the row of each atom, at an assignment to r
abbrev pub assign : ℕ → ViewAtom → List (List StepLiteral)
assign r (Scalar q k) = assign_scalar (q == r) q k
assign r a = frame a

-- for each value v: where v was read into r, and the thread may read w from z after it, it could read v from x and then w from z
abbrev pub read_then : Sizes → ℕ → ℕ → ℕ → ℕ → ℕ → List (List StepLiteral)
read_then l s r x z w =
    per_value l (λ v. implies (after (Scalar r v) ∷ after (Read s z w) ∷ []) (before (Then s x v z w) ∷ []) ∷ [])

-- an atom only loses by the load, and keeps where the thread could read the last message of x alone
abbrev pub load_loses : ℕ → ℕ → ViewAtom → List (List StepLiteral)
load_loses s x a = implies (after a ∷ []) (before a ∷ []) ∷ implies (before (Newest s x) ∷ before a ∷ []) (after a ∷ []) ∷ []

-- an atom only gains by the load, and so where that holds keeps what it was
abbrev pub load_gains : ℕ → ℕ → ViewAtom → List (List StepLiteral)
load_gains s x a = implies (before a ∷ []) (after a ∷ []) ∷ implies (before (Newest s x) ∷ after a ∷ []) (before a ∷ []) ∷ []

-- g'(q,k), where q is r
abbrev pub load_scalar : Bool → ℕ → ℕ → ℕ → ℕ → List (List StepLiteral)
load_scalar true s x q k = only_where (after (Scalar q k)) (before (Read s x k))
load_scalar false s x q k = frame (Scalar q k)

-- R'(t,z,w), where t is s
abbrev pub load_read : Sizes → Bool → ℕ → ℕ → ℕ → ℕ → ℕ → ℕ → List (List StepLiteral)
load_read l true s r x t z w =
    only_where (after (Read t z w)) (before (Read t z w))
    ++ (read_then l s r x z w
    ++ (implies (before (Newest s x) ∷ before (Read t z w) ∷ []) (after (Read t z w) ∷ []) ∷ []))
load_read l false s r x t z w = frame (Read t z w)

-- C', where its thread is s
abbrev pub load_then : Bool → ℕ → ℕ → ViewAtom → List (List StepLiteral)
load_then true s x a = load_loses s x a
load_then false s x a = frame a

-- N', O' and F', where its thread is s
abbrev pub load_view : Bool → ℕ → ℕ → ViewAtom → List (List StepLiteral)
load_view true s x a = load_gains s x a
load_view false s x a = frame a

-- the row of each atom, at a load
abbrev pub load : Sizes → ℕ → ℕ → ℕ → ViewAtom → List (List StepLiteral)
load l s r x (Scalar q k) = load_scalar (q == r) s x q k
load l s r x (Read t z w) = load_read l (t == s) s r x t z w
load l s r x (Then t z v u w) = load_then (t == s) s x (Then t z v u w)
load l s r x (Newest t z) = load_view (t == s) s x (Newest t z)
load l s r x (Ordered t z) = load_view (t == s) s x (Ordered t z)
load l s r x (Fenced t z) = load_view (t == s) s x (Fenced t z)
load l s r x a = frame a
