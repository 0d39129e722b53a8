-- The rows of one shape, by what the atom after the step comes of; and the rows of an act, by its kind.
use Rattle.std.specs.Prelude.{ℕ, ◌<◌, true, List, ◌++◌}
use Rattle.pg_assertion.specs.declared.atom.ViewAtom.{ViewAtom}
use Rattle.pg_assertion.specs.Layout.{Sizes, IsThreadNumber}
use Rattle.pg_assertion.specs.StepAtom.{IsStepAtom}
use Rattle.pg_program.specs.NameTable.{NameTable}
use Rattle.pg_tables.specs.declared.clause.Case.TheVariants.{Succeeds, Fails}
use Rattle.pg_tables.specs.declared.clause.StepLiteral.{StepLiteral}
use Rattle.pg_tables.specs.Shapes.{before, after, frame, becomes, becomes_both, gains}
use Rattle.pg_tables.specs.Table.{under}
use Rattle.pg_rules_persist.specs.declared.rows.Kind.{Kind}
use Rattle.pg_rules_persist.specs.declared.rows.Kind.TheVariants.{Store, Cas, Fence, Flush, Flushopt, Other}
use Rattle.pg_rules_persist.specs.declared.shape.Row.{Row}
use Rattle.pg_rules_persist.specs.declared.shape.Row.TheVariants.{Plain, Split}
use Rattle.pg_rules_persist.specs.declared.shape.Shape.{Shape}
use Rattle.pg_rules_persist.specs.declared.shape.Shape.TheVariants.{Frame, Becomes, Narrows, Gains, NarrowsOr, Flushed, FlushBegun}
use Rattle.pg_rules_persist.specs.Rows.{store, fence, flush, flush_persist, flushopt, flushopt_async, cas, becomes_both_or}

abbrev pub shape_of : Shape → ViewAtom → List (List StepLiteral)
shape_of Frame a = frame a
shape_of (Becomes b) a = becomes (after a) b
shape_of (Narrows b) a = becomes_both (after a) (before a) b
shape_of (Gains b c) a = gains (after a) b c
shape_of (NarrowsOr b c) a = becomes_both_or (after a) (before a) b c
shape_of (Flushed t x v) a = flush_persist true t x v
shape_of (FlushBegun t x v) a = flushopt_async true true t x v

-- the row of one shape, or of one shape where a cas succeeds and of another where it fails
abbrev pub row_of : Row → ViewAtom → List (List StepLiteral)
row_of (Plain s) a = shape_of s a
row_of (Split s f) a = under Succeeds (shape_of s a) ++ under Fails (shape_of f a)

-- the other atoms of a shape are those of a layout
abbrev pub AreInShape : Sizes → Shape → Type 0
AreInShape l Frame = Unit {0}
AreInShape l (Becomes b) = IsStepAtom l b
AreInShape l (Narrows b) = IsStepAtom l b
AreInShape l (Gains b c) = IsStepAtom l b × IsStepAtom l c
AreInShape l (NarrowsOr b c) = IsStepAtom l b × IsStepAtom l c
AreInShape l (Flushed t x v) = IsThreadNumber l t × (x < l.locations) × (v < l.domain)
AreInShape l (FlushBegun t x v) = IsThreadNumber l t × (x < l.locations) × (v < l.domain)

abbrev pub AreInRow : Sizes → Row → Type 0
AreInRow l (Plain s) = AreInShape l s
AreInRow l (Split s f) = AreInShape l s × AreInShape l f

-- the row of each atom at an act of thread s, by the kind of the act
abbrev pub kind_row : NameTable → ℕ → Kind → ViewAtom → List (List StepLiteral)
kind_row names s (Store x) = store x
kind_row names s (Cas x) = cas s x
kind_row names s Fence = fence s
kind_row names s (Flush x) = flush names s x
kind_row names s (Flushopt x) = flushopt names s x
kind_row names s Other = frame

-- the location of an act is one of so many
abbrev pub IsKindWithin : ℕ → Kind → Type 0
IsKindWithin n (Store x) = x < n
IsKindWithin n (Cas x) = x < n
IsKindWithin n (Flush x) = x < n
IsKindWithin n (Flushopt x) = x < n
IsKindWithin n k = Unit {0}
