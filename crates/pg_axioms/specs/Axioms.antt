-- The axioms: what holds between the atoms of one side, whatever the state. They are given as clauses, in their order.
use Rattle.std.specs.Prelude.{ℕ, not, ◌==◌, List, [], ◌∷◌, ◌++◌, map}
use Rattle.std.specs.List.{flat_map}
use Rattle.pg_assertion.specs.declared.atom.ViewAtom.{ViewAtom}
use Rattle.pg_assertion.specs.declared.atom.ViewAtom.TheVariants.{Scalar, Last, Read, Persist, Async, Then, Newest, Ordered, Fenced}
use Rattle.pg_assertion.specs.declared.layout.Side.{Side}
use Rattle.pg_assertion.specs.declared.step_atom.StepAtom.TheVariants.{On}
use Rattle.pg_assertion.specs.Layout.{Sizes, threads}
use Rattle.pg_views.specs.Laws.{ValueSet, readable, persistent, pending, is_in}
use Rattle.pg_tables.specs.declared.clause.StepLiteral.{StepLiteral}
use Rattle.pg_tables.specs.Clause.{implies}
use Rattle.pg_tables.specs.Table.{when, per_thread, per_location, per_value, per_scalar, exactly_one}

-- `a & b => c | d`, of atoms of one side
abbrev pub rule : Side → List ViewAtom → List ViewAtom → List StepLiteral
rule side left right = implies (map (λ a. On a side) left) (map (λ a. On a side) right)

-- A location has exactly one last value, and a scalar exactly one value.
abbrev pub one_value : Sizes → Side → List (List StepLiteral)
one_value l side =
    per_location l (λ x. exactly_one l (λ v. On (Last x v) side))
    ++ per_scalar l (λ r. exactly_one l (λ k. On (Scalar r k) side))

-- The last value may persist; each thread may read it, and it may persist after a fence of each.
abbrev pub last_is_shown : Sizes → Side → List (List StepLiteral)
last_is_shown l side =
    per_location l (λ x. per_value l (λ v.
    (rule side (Last x v ∷ []) (Persist x v ∷ []) ∷ [])
    ++ per_thread l (λ t.
    rule side (Last x v ∷ []) (Read t x v ∷ [])
    ∷ rule side (Last x v ∷ []) (Async t x v ∷ [])
    ∷ [])))

-- What may persist after a fence of a thread may persist without it.
abbrev pub pending_may_persist : Sizes → Side → List (List StepLiteral)
pending_may_persist l side =
    per_thread l (λ t. per_location l (λ x. per_value l (λ v.
    rule side (Async t x v ∷ []) (Persist x v ∷ [])
    ∷ [])))

-- A thread that may read x at its last position alone reads the last value.
abbrev pub newest_read_is_last : Sizes → Side → List (List StepLiteral)
newest_read_is_last l side =
    per_thread l (λ t. per_location l (λ x. per_value l (λ v.
    rule side (Newest t x ∷ Read t x v ∷ []) (Last x v ∷ [])
    ∷ [])))

-- A last position that alone may be read is covered by a `flushopt`, and what a `flushopt` covers is covered by a `flush`.
abbrev pub newest_is_covered : Sizes → Side → List (List StepLiteral)
newest_is_covered l side =
    per_thread l (λ t. per_location l (λ x.
    rule side (Newest t x ∷ []) (Ordered t x ∷ [])
    ∷ rule side (Ordered t x ∷ []) (Fenced t x ∷ [])
    ∷ []))

-- What may be loaded, and what may be read then, could be read before.
abbrev pub then_was_readable : Sizes → Side → List (List StepLiteral)
then_was_readable l side =
    per_thread l (λ t. per_location l (λ x. per_value l (λ v. per_location l (λ y. per_value l (λ w.
    rule side (Then t x v y w ∷ []) (Read t x v ∷ [])
    ∷ rule side (Then t x v y w ∷ []) (Read t y w ∷ [])
    ∷ [])))))

-- After a load the last value of each location may be read; and what was loaded may be read again.
abbrev pub last_is_read_then : Sizes → Side → List (List StepLiteral)
last_is_read_then l side =
    per_thread l (λ t. per_location l (λ x. per_value l (λ v. per_location l (λ y. per_value l (λ w.
    rule side (Read t x v ∷ Last y w ∷ []) (Then t x v y w ∷ [])
    ∷ [])))))
    ++ per_thread l (λ t. per_location l (λ x. per_value l (λ v.
    rule side (Read t x v ∷ []) (Then t x v x v ∷ [])
    ∷ [])))

-- A load of x where its last position alone may be read keeps what may be read.
abbrev pub newest_load_keeps : Sizes → Side → List (List StepLiteral)
newest_load_keeps l side =
    per_thread l (λ t. per_location l (λ x. per_value l (λ v. per_location l (λ y. per_value l (λ w.
    rule side (Newest t x ∷ Last x v ∷ Read t y w ∷ []) (Then t x v y w ∷ [])
    ∷ [])))))

-- the sets of values of a location: R(1,x,.) .. R(H,x,.), P(x,.), A(1,x,.) .. A(H,x,.)
abbrev pub value_sets : Sizes → List ValueSet
value_sets l = map readable (threads l) ++ (persistent ∷ map pending (threads l))

-- for each two of a list, the one before the other
abbrev pub each_pair : {A : Type 0} → List A → (A → A → List (List StepLiteral)) → List (List StepLiteral)
each_pair [] f = []
each_pair (a ∷ rest) f = flat_map (f a) rest ++ each_pair rest f

-- v and w are not both apart: v is in a and not in b, w is in b and not in a
abbrev pub not_both_apart : Sizes → Side → ℕ → ValueSet → ValueSet → List (List StepLiteral)
not_both_apart l side x a b =
    per_value l (λ v. per_value l (λ w. when (not (v == w)) (
    rule side (is_in a x v ∷ is_in b x w ∷ []) (is_in a x w ∷ is_in b x v ∷ [])
    ∷ [])))

-- Of any two of these sets the one contains the other.
abbrev pub sets_nest : Sizes → Side → List (List StepLiteral)
sets_nest l side = per_location l (λ x. each_pair (value_sets l) (not_both_apart l side x))

-- all of them, on a side
abbrev pub axioms : Sizes → Side → List (List StepLiteral)
axioms l side =
    one_value l side
    ++ (last_is_shown l side
    ++ (pending_may_persist l side
    ++ (newest_read_is_last l side
    ++ (newest_is_covered l side
    ++ (then_was_readable l side
    ++ (last_is_read_then l side
    ++ (newest_load_keeps l side
    ++ sets_nest l side)))))))
