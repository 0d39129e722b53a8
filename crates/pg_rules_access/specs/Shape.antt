-- The rows of one shape, by what the atom after the step comes of.
use Rattle.std.specs.Prelude.{◌<◌, ◌==◌, ◌∷◌, ◌++◌, [], List}
use Rattle.pg_assertion.specs.declared.atom.ViewAtom.{ViewAtom}
use Rattle.pg_assertion.specs.declared.step_atom.StepAtom.TheVariants.{Value}
use Rattle.pg_assertion.specs.Layout.{Sizes}
use Rattle.pg_assertion.specs.StepAtom.{IsStepAtom}
use Rattle.pg_tables.specs.declared.clause.StepLiteral.{StepLiteral}
use Rattle.pg_tables.specs.declared.clause.Case.TheVariants.{Succeeds, Fails}
use Rattle.pg_tables.specs.Table.{under}
use Rattle.pg_tables.specs.Clause.{implies}
use Rattle.pg_tables.specs.Shapes.{before, after, only_where, always, never, frame, becomes, becomes_both, gains, gains_both}
use Rattle.pg_rules_access.specs.declared.shape.CasShape.{CasShape}
use Rattle.pg_rules_access.specs.declared.shape.CasShape.TheVariants.{Plain, Split}
use Rattle.pg_rules_access.specs.declared.shape.Shape.{Shape}
use Rattle.pg_rules_access.specs.declared.shape.Shape.TheVariants.{Always, Never, Frame, OnlyWhere, Becomes, BecomesBoth, Gains, GainsBoth, Keeps, Loses, Grows, Twice}
use Rattle.pg_rules_access.specs.Store.{store_twice, twice}

abbrev pub row_of : Shape → ViewAtom → List (List StepLiteral)
row_of Always a = always (after a)
row_of Never a = never (after a)
row_of Frame a = frame a
row_of (OnlyWhere b) a = only_where (after a) b
row_of (Becomes b) a = becomes (after a) b
row_of (BecomesBoth b c) a = becomes_both (after a) b c
row_of (Gains b) a = gains (after a) (before a) b
row_of (GainsBoth b c) a = gains_both (after a) (before a) b c
row_of Keeps a = only_where (before a) (after a)
row_of (Loses b) a = implies (after a ∷ []) (before a ∷ []) ∷ implies (b ∷ before a ∷ []) (after a ∷ []) ∷ []
row_of (Grows b) a = implies (before a ∷ []) (after a ∷ []) ∷ implies (b ∷ after a ∷ []) (before a ∷ []) ∷ []
row_of (Twice read v w) a = store_twice (after a) (before a) read (Value v) (Value w) (twice (v == w) v w)

-- the other atoms of a shape are those of a layout
abbrev pub AreInShape : Sizes → Shape → Type 0
AreInShape l (OnlyWhere b) = IsStepAtom l b
AreInShape l (Becomes b) = IsStepAtom l b
AreInShape l (BecomesBoth b c) = IsStepAtom l b × IsStepAtom l c
AreInShape l (Gains b) = IsStepAtom l b
AreInShape l (GainsBoth b c) = IsStepAtom l b × IsStepAtom l c
AreInShape l (Loses b) = IsStepAtom l b
AreInShape l (Grows b) = IsStepAtom l b
AreInShape l (Twice read v w) = IsStepAtom l read × (v < l.domain) × (w < l.domain)
AreInShape l _ = Unit {0}

-- the row of one shape, or of one shape where a cas succeeds and of another where it fails
abbrev pub cas_row_of : CasShape → ViewAtom → List (List StepLiteral)
cas_row_of (Plain s) a = row_of s a
cas_row_of (Split s f) a = under Succeeds (row_of s a) ++ under Fails (row_of f a)

abbrev pub AreInCasShape : Sizes → CasShape → Type 0
AreInCasShape l (Plain s) = AreInShape l s
AreInCasShape l (Split s f) = AreInShape l s × AreInShape l f
