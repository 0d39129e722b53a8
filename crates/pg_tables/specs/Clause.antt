-- Clauses over the atoms of a step, and the clauses over numbers that they are written as.
use Rattle.std.specs.Prelude.{true, false, List, [], ◌∷◌, ◌++◌, map, All, Option, Some, None}
use Rattle.pg_assertion.specs.Layout.{Sizes}
use Rattle.pg_assertion.specs.StepAtom.{IsStepAtom, step_number}
use Rattle.pg_assertion.specs.declared.step_atom.StepAtom.{StepAtom}
use Rattle.pg_assertion.specs.declared.step_atom.StepAtom.TheVariants.{Success}
use Rattle.pg_region.specs.Literal.{Literal}
use Rattle.pg_tables.specs.declared.clause.StepLiteral.{StepLiteral}
use Rattle.pg_tables.specs.declared.clause.Case.{Case}
use Rattle.pg_tables.specs.declared.clause.Case.TheVariants.{Succeeds, Fails}
use Rattle.pg_tables.specs.declared.clause.Setting.{Setting}

-- the literals a and not a
abbrev pub yes : StepAtom → StepLiteral
yes a = record { atom = a; positive = true }

abbrev pub no : StepAtom → StepLiteral
no a = record { atom = a; positive = false }

-- The clause `a & b => c | d`, by what stands on its left and on its right: not a, or not b, or c, or d.
abbrev pub implies : List StepAtom → List StepAtom → List StepLiteral
implies left right = map no left ++ map yes right

-- The literal that a clause has where it speaks of a cas that succeeds alone, as `S & .. => ..`, or of one that fails alone, as
-- `not S & .. => ..`.
abbrev pub premise : Case → StepLiteral
premise Succeeds = no Success
premise Fails = yes Success

-- ---- numbers

-- the atoms of a clause are those of a layout
abbrev pub AreStepAtoms : Sizes → List StepLiteral → Type 0
AreStepAtoms l c = All (λ x. IsStepAtom l x.atom) c

abbrev pub numbered : Sizes → StepLiteral → Literal
numbered l x = record { atom = step_number l x.atom; positive = x.positive }

-- what stands in front of each clause under a case of a cas
abbrev pub in_front : Option Case → List StepLiteral
in_front None = []
in_front (Some case) = premise case ∷ []

-- the clauses of a table by their numbers
abbrev pub written : Setting → List (List StepLiteral) → List (List Literal)
written s cs = map (λ c. map (numbered s.layout) (in_front s.case ++ c)) cs
