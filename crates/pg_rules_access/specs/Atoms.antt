-- How the rows of a statement make a table: a row for each atom after the step, in the order of the atoms' numbers.
use Rattle.std.specs.Prelude.{ℕ, not, List, ◌++◌}
use Rattle.pg_assertion.specs.declared.atom.ViewAtom.{ViewAtom}
use Rattle.pg_assertion.specs.declared.atom.ViewAtom.TheVariants.{Scalar, Last, Read, Then, Newest, Ordered, Fenced}
use Rattle.pg_assertion.specs.Layout.{Sizes}
use Rattle.pg_program.specs.Words.{is_in}
use Rattle.pg_tables.specs.declared.clause.StepLiteral.{StepLiteral}
use Rattle.pg_tables.specs.Table.{when, per_thread, per_location, per_value, per_scalar}

-- the rows of the scalars, without those that the bracket assigns
abbrev pub scalar_rows : Sizes → List ℕ → (ViewAtom → List (List StepLiteral)) → List (List StepLiteral)
scalar_rows l assigned row = per_scalar l (λ r. when (not (is_in r assigned)) (per_value l (λ k. row (Scalar r k))))

-- the rows of the atoms that accesses of memory change: what is last, what may be read, and what is newest, ordered or fenced
abbrev pub access_rows : Sizes → (ViewAtom → List (List StepLiteral)) → List (List StepLiteral)
access_rows l row =
    per_location l (λ z. per_value l (λ v. row (Last z v)))
    ++ (per_thread l (λ t. per_location l (λ z. per_value l (λ v. row (Read t z v))))
    ++ (per_thread l (λ t. per_location l (λ z. per_value l (λ v. per_location l (λ u. per_value l (λ w. row (Then t z v u w))))))
    ++ (per_thread l (λ t. per_location l (λ z. row (Newest t z)))
    ++ (per_thread l (λ t. per_location l (λ z. row (Ordered t z)))
    ++ per_thread l (λ t. per_location l (λ z. row (Fenced t z)))))))
