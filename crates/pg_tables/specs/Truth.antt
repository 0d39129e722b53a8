-- The truth of clauses and of tables in a valuation.
use Rattle.std.specs.Prelude.{◌≡◌, Bool, true, not, ◌&&◌, ◌||◌, List, if◌then◌else◌}
use Rattle.std.specs.List.{list_any, list_all}
use Rattle.pg_assertion.specs.declared.atom.ViewAtom.{ViewAtom}
use Rattle.pg_assertion.specs.declared.layout.Side.TheVariants.{Before, After}
use Rattle.pg_assertion.specs.declared.step_atom.StepAtom.{StepAtom}
use Rattle.pg_assertion.specs.declared.step_atom.StepAtom.TheVariants.{On}
use Rattle.pg_tables.specs.declared.clause.StepLiteral.{StepLiteral}
use Rattle.pg_tables.specs.Shapes.{frame, becomes, becomes_both, gains, gains_both}

abbrev pub literal_true : (StepAtom → Bool) → StepLiteral → Bool
literal_true val x = if x.positive then val x.atom else not (val x.atom)

-- some literal of a clause is true
abbrev pub clause_true : (StepAtom → Bool) → List StepLiteral → Bool
clause_true val c = list_any (literal_true val) c

-- each clause of a table is true
pub record AllTrue (val : StepAtom → Bool) (cs : List (List StepLiteral)) : Type 0 where
  pub all : list_all (clause_true val) cs ≡ true

-- A row of each shape is true where its atom is what the shape says.
abbrev pub RowShapesAreTrue : Type 0
RowShapesAreTrue =
    ((val : StepAtom → Bool) (a : ViewAtom) → val (On a After) ≡ val (On a Before) → AllTrue val (frame a))
    × ((val : StepAtom → Bool) (a b : StepAtom) → val a ≡ val b → AllTrue val (becomes a b))
    × ((val : StepAtom → Bool) (a b c : StepAtom) → val a ≡ (val b && val c) → AllTrue val (becomes_both a b c))
    × ((val : StepAtom → Bool) (a old b : StepAtom) → val a ≡ (val old || val b) → AllTrue val (gains a old b))
    × ((val : StepAtom → Bool) (a old b c : StepAtom) → val a ≡ (val old || (val b && val c)) → AllTrue val (gains_both a old b c))
