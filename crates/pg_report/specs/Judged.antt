-- The text of a judgement.
use Rattle.std.specs.Prelude.{ℕ, ◌+◌, ◌≤◌, Bool, List, [], ◌++◌, if◌then◌else◌, length, codes, decimal}
use Rattle.std.specs.List.{flat_map}
use Rattle.pg_program.specs.NameTable.{NameTable}
use Rattle.pg_assertion.specs.declared.layout.Side.{Side}
use Rattle.pg_assertion.specs.declared.layout.Side.TheVariants.{Before, After}
use Rattle.pg_assertion.specs.declared.step_atom.StepAtom.{StepAtom}
use Rattle.pg_assertion.specs.declared.step_atom.StepAtom.TheVariants.{On, Value, Expected, Success, Taken}
use Rattle.pg_assertion.specs.Atom.{NamesDeclared}
use Rattle.pg_assertion.specs.Layout.{atoms_in_order, values}
use Rattle.pg_assertion.specs.StepAtom.{step_number, step_atoms}
use Rattle.pg_assertion_text.specs.Spelling.{spell_atom}
use Rattle.pg_outline.specs.Outline.{OutlineTable}
use Rattle.pg_layers.specs.Clauses.{layout_of, obligation}
use Rattle.pg_judge.specs.Outcome.{Outcome, accepted, rejected, spent, IsOutcome, obligation_count}
use Rattle.pg_judge.specs.Laws.{truth_in}
use Rattle.pg_report.specs.Obligations.{heading}

-- ---- the atoms of a step that are true

abbrev pub side_word : Side → List ℕ
side_word Before = codes "before "
side_word After = codes "after "

abbrev pub step_atom_line : NameTable → StepAtom → List ℕ
step_atom_line names (On a side) = side_word side ++ (spell_atom names a ++ codes "\n")
step_atom_line names (Value v) = codes "step K(" ++ (decimal v ++ codes ")\n")
step_atom_line names (Expected v) = codes "step E(" ++ (decimal v ++ codes ")\n")
step_atom_line names Success = codes "step S\n"
step_atom_line names Taken = codes "step T\n"

-- the line of an atom, where it is true
abbrev pub true_line : OutlineTable → List Bool → StepAtom → List ℕ
true_line o truths a = if truth_in truths (step_number (layout_of o) a) then step_atom_line o.program.names a else []

abbrev pub side_lines : OutlineTable → List Bool → Side → List ℕ
side_lines o truths side = flat_map (λ a. true_line o truths (On a side)) (atoms_in_order (layout_of o))

-- those of what the step does: what it stores and what its cas expects, whether the cas succeeds, and whether the test holds
abbrev pub case_lines : OutlineTable → List Bool → List ℕ
case_lines o truths = true_line o truths Success ++ true_line o truths Taken

abbrev pub step_lines : OutlineTable → List Bool → List ℕ
step_lines o truths =
    flat_map (λ v. true_line o truths (Value v)) (values (layout_of o))
    ++ (flat_map (λ v. true_line o truths (Expected v)) (values (layout_of o)) ++ case_lines o truths)

-- all, in the order of their numbers; the atoms of definitional clauses, whose numbers are greater, have no line
abbrev pub true_lines : OutlineTable → List Bool → List ℕ
true_lines o truths = side_lines o truths Before ++ (side_lines o truths After ++ step_lines o truths)

-- ---- judgements

abbrev pub judgement_text : OutlineTable → Outcome → List ℕ
judgement_text o (accepted count nodes) = codes "accepted " ++ (decimal count ++ codes "\n")
judgement_text o (rejected i truths) = codes "rejected " ++ (heading i (obligation o i) ++ true_lines o truths)
judgement_text o (spent i) = codes "spent " ++ heading i (obligation o i)

-- what a judgement names: an obligation by its number, and the truths of all atoms of a step
pub record IsNumbered (o : OutlineTable) (i : ℕ) : Type 0 where
  pub from : 1 ≤ i
  pub to : i ≤ obligation_count o

abbrev pub IsToldOf : OutlineTable → Outcome → Type 0
IsToldOf o (accepted count nodes) = Unit {0}
IsToldOf o (rejected i truths) = IsNumbered o i × (step_atoms (layout_of o) + 1 ≤ length truths)
IsToldOf o (spent i) = IsNumbered o i

-- the names of an atom are declared
abbrev pub IsSpelled : NameTable → StepAtom → Type 0
IsSpelled names (On a side) = NamesDeclared names a
IsSpelled names (Value v) = Unit {0}
IsSpelled names (Expected v) = Unit {0}
IsSpelled names Success = Unit {0}
IsSpelled names Taken = Unit {0}

-- an outcome of an outline names them
abbrev pub OutcomesAreTold : Type 0
OutcomesAreTold = (o : OutlineTable) (budget : ℕ) (a : Outcome) → IsOutcome o budget a → IsToldOf o a
