-- What the expressions of a step say: which value it stores or assigns, which one its cas expects, whether its test holds, and
-- which values the scalars of its bracket get.
use Rattle.std.specs.Prelude.{ℕ, ◌<◌, ◌≤◌, All, length, List, [], ◌∷◌, ◌++◌, replicate, slice_set, if◌then◌else◌}
use Rattle.std.specs.List.{filter}
use Rattle.pg_assertion.specs.declared.atom.ViewAtom.TheVariants.{Scalar, Last}
use Rattle.pg_assertion.specs.declared.layout.Side.{Side}
use Rattle.pg_assertion.specs.declared.layout.Side.TheVariants.{Before, After}
use Rattle.pg_assertion.specs.declared.step_atom.StepAtom.{StepAtom}
use Rattle.pg_assertion.specs.declared.step_atom.StepAtom.TheVariants.{On, Expected, Taken}
use Rattle.pg_assertion.specs.Layout.{Sizes, scalars}
use Rattle.pg_program.specs.declared.point.Branch.{Branch}
use Rattle.pg_program.specs.declared.point.Branch.TheVariants.{Plain, Yes, No}
use Rattle.pg_program.specs.declared.syntax.AuxAssign.{AuxAssign}
use Rattle.pg_program.specs.declared.syntax.Cond.{Cond}
use Rattle.pg_program.specs.declared.syntax.Expr.{Expr}
use Rattle.pg_program.specs.Expr.{reads, value, test_holds}
use Rattle.pg_program.specs.Limits.{most_scalars, most_names}
use Rattle.pg_program.specs.NameTable.{NameTable, is_auxiliary}
use Rattle.pg_program.specs.Words.{is_in}
use Rattle.pg_tables.specs.declared.clause.Case.TheVariants.{Succeeds}
use Rattle.pg_tables.specs.declared.clause.StepLiteral.{StepLiteral}
use Rattle.pg_tables.specs.Clause.{implies, yes, no}
use Rattle.pg_tables.specs.Table.{per_value, under, exactly_one}
use Rattle.pg_tables.specs.Shapes.{before, after, always, never}

-- For each tuple of values of these scalars, the first slowest: where they have them, what is said of these values holds. In
-- front stand the atoms that were given for the scalars before them, whose values are in the list.
abbrev pub per_tuple : Sizes → (ℕ → Side) → (List ℕ → StepLiteral) → List ℕ → List StepAtom → List ℕ → List (List StepLiteral)
per_tuple l side says [] given values = (implies given [] ++ (says values ∷ [])) ∷ []
per_tuple l side says (r ∷ rs) given values =
    per_value l (λ k. per_tuple l side says rs (given ++ (On (Scalar r k) (side r) ∷ [])) (slice_set values r k))

-- the scalars among these, each once, in the order of their numbers
abbrev pub in_order : Sizes → List ℕ → List ℕ
in_order l rs = filter (λ r. is_in r rs) (scalars l)

abbrev pub tuples : Sizes → (ℕ → Side) → List ℕ → (List ℕ → StepLiteral) → List (List StepLiteral)
tuples l side rs says = per_tuple l side says (in_order l rs) [] (replicate most_scalars 0)

-- these may be scalars, and there are few different ones
abbrev pub AreScalars : List ℕ → Type 0
AreScalars rs = All (λ r. r < most_scalars) rs

abbrev pub AreFew : Sizes → List ℕ → Type 0
AreFew l rs = length (in_order l rs) ≤ most_names

-- the side before the step, for each scalar
abbrev pub all_before : ℕ → Side
all_before r = Before

-- the expression has its value by the scalars before the step, and no other: one of the atoms a holds
abbrev pub value_rules : Sizes → Expr → (ℕ → StepAtom) → List (List StepLiteral)
value_rules l e a = tuples l all_before (reads e) (λ values. yes (a (value values l.domain e))) ++ exactly_one l a

-- a cas that succeeds expects the last value of its location
abbrev pub expects_last : Sizes → ℕ → List (List StepLiteral)
expects_last l x = under Succeeds (per_value l (λ v. implies (Expected v ∷ []) (before (Last x v) ∷ []) ∷ []))

-- a test holds by the scalars before the step, or it does not
abbrev pub says_test : Sizes → Cond → List ℕ → StepLiteral
says_test l test values = if test_holds values l.domain test then yes Taken else no Taken

-- the step that a test takes where it holds, and the one where it does not
abbrev pub taken : Branch → List (List StepLiteral)
taken Yes = always Taken
taken No = never Taken
taken Plain = []

abbrev pub test_rules : Sizes → Cond → Branch → List (List StepLiteral)
test_rules l test branch = tuples l all_before (reads test.left ++ reads test.right) (says_test l test) ++ taken branch

-- An assignment of the bracket takes auxiliaries before the step, and registers after it.
abbrev pub bracket_side : NameTable → ℕ → Side
bracket_side names r = if is_auxiliary names r then Before else After

abbrev pub assign_rules : Sizes → NameTable → AuxAssign → List (List StepLiteral)
assign_rules l names a = tuples l (bracket_side names) (reads a.expr) (λ values. yes (after (Scalar a.target (value values l.domain a.expr))))

-- the assignments of a bracket, in their order
abbrev pub bracket_rules : Sizes → NameTable → List AuxAssign → List (List StepLiteral)
bracket_rules l names [] = []
bracket_rules l names (a ∷ rest) = assign_rules l names a ++ bracket_rules l names rest

-- the targets of the assignments are scalars of the layout, and none of their expressions reads many
abbrev pub AreAssigns : Sizes → List AuxAssign → Type 0
AreAssigns l [] = Unit {0}
AreAssigns l (a ∷ rest) = (a.target < l.scalars) × AreScalars (reads a.expr) × AreFew l (reads a.expr) × AreAssigns l rest
