-- The words that tables are written in: 'for each thread t: f t', and so on.
use Rattle.std.specs.Prelude.{ℕ, ◌+◌, ◌<◌, ◌≤◌, Bool, true, false, List, [], ◌∷◌, ◌++◌, map, nat_lt}
use Rattle.std.specs.List.{flat_map}
use Rattle.pg_assertion.specs.Layout.{Sizes, values, scalars, locations, threads}
use Rattle.pg_assertion.specs.declared.step_atom.StepAtom.{StepAtom}
use Rattle.pg_tables.specs.declared.clause.StepLiteral.{StepLiteral}
use Rattle.pg_tables.specs.declared.clause.Case.{Case}
use Rattle.pg_tables.specs.Clause.{implies, premise}

-- the clauses, where the condition holds
unfoldable pub when : Bool → List (List StepLiteral) → List (List StepLiteral)
when true cs = cs
when false cs = []

-- the clauses, each with the premise that a cas succeeds, or that it fails
abbrev pub under : Case → List (List StepLiteral) → List (List StepLiteral)
under case cs = map (λ c. premise case ∷ c) cs

-- the clauses for each thread, for each location, for each value and for each scalar
unfoldable pub per_thread : Sizes → (ℕ → List (List StepLiteral)) → List (List StepLiteral)
per_thread l f = flat_map f (threads l)

unfoldable pub per_location : Sizes → (ℕ → List (List StepLiteral)) → List (List StepLiteral)
per_location l f = flat_map f (locations l)

unfoldable pub per_value : Sizes → (ℕ → List (List StepLiteral)) → List (List StepLiteral)
per_value l f = flat_map f (values l)

unfoldable pub per_scalar : Sizes → (ℕ → List (List StepLiteral)) → List (List StepLiteral)
per_scalar l f = flat_map f (scalars l)

-- Exactly one value has its atom: some value has, and of two values v < w not both have.
abbrev pub exactly_one : Sizes → (ℕ → StepAtom) → List (List StepLiteral)
exactly_one l a =
    (implies [] (map a (values l)) ∷ [])
    ++ per_value l (λ v. per_value l (λ w. when (nat_lt v w) (implies (a v ∷ a w ∷ []) [] ∷ [])))

-- k is one of n numbers, the least of which is a
pub record IsOneOf (a n k : ℕ) : Type 0 where
  pub from : a ≤ k
  pub to : k < a + n
