-- Expressions and tests: the names and numbers in them, and their values.
use Rattle.std.specs.Prelude.{ℕ, ◌+◌, ◌-◌, ◌*◌, ◌%◌, ◌==◌, Bool, true, false, not, List, [], ◌∷◌, ◌++◌, slice_index}
use Rattle.pg_program.specs.declared.syntax.Expr.{Expr, fold-Expr}
use Rattle.pg_program.specs.declared.syntax.Expr.TheOpen.{Expr-F, Value, Scalar, Add, Sub, Mul}
use Rattle.pg_program.specs.declared.syntax.Cond.{Cond}

-- the scalars that an expression reads, in the order of the text
abbrev pub reads_step : Expr-F (List ℕ) → List ℕ
reads_step (Value v) = []
reads_step (Scalar r) = r ∷ []
reads_step (Add a b) = a ++ b
reads_step (Sub a b) = a ++ b
reads_step (Mul a b) = a ++ b

abbrev pub reads : Expr → List ℕ
reads = fold-Expr (List ℕ) reads_step

-- its numbers, in the order of the text
abbrev pub numbers_step : Expr-F (List ℕ) → List ℕ
numbers_step (Value v) = v ∷ []
numbers_step (Scalar r) = []
numbers_step (Add a b) = a ++ b
numbers_step (Sub a b) = a ++ b
numbers_step (Mul a b) = a ++ b

abbrev pub numbers : Expr → List ℕ
numbers = fold-Expr (List ℕ) numbers_step

-- Its value over the values of the scalars, modulo the size d of the domain. To subtract b, which is below d, is to add d - b.
abbrev pub value_step : List ℕ → ℕ → Expr-F ℕ → ℕ
value_step scalars d (Value v) = v % d
value_step scalars d (Scalar r) = slice_index scalars r
value_step scalars d (Add a b) = (a + b) % d
value_step scalars d (Sub a b) = (a + (d - b)) % d
value_step scalars d (Mul a b) = (a * b) % d

abbrev pub value : List ℕ → ℕ → Expr → ℕ
value scalars d = fold-Expr ℕ (value_step scalars d)

-- whether a test holds: its sides are equal, or, for the other sign, differ
abbrev pub agrees : Bool → Bool → Bool
agrees true same = same
agrees false same = not same

abbrev pub test_holds : List ℕ → ℕ → Cond → Bool
test_holds scalars d c = agrees c.equal (value scalars d c.left == value scalars d c.right)
