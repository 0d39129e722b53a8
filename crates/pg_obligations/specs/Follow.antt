-- What each proof obligation says, and when it follows.
use Rattle.std.specs.Prelude.{◌≡◌, ◌==◌, Bool, true, not, List, [], ◌∷◌, ◌++◌, length, map, All, slice_index}
use Rattle.std.specs.List.{flat_map, filter}
use Rattle.pg_program.specs.NameTable.{initial}
use Rattle.pg_program.specs.declared.point.Step.{Step}
use Rattle.pg_program.specs.Program.{ProgramTable, IsProgram}
use Rattle.pg_assertion.specs.declared.atom.ViewAtom.{ViewAtom}
use Rattle.pg_assertion.specs.declared.atom.ViewAtom.TheVariants.{Scalar, Last, Persist, Newest}
use Rattle.pg_assertion.specs.declared.layout.Side.{Side}
use Rattle.pg_assertion.specs.declared.layout.Side.TheVariants.{Before, After}
use Rattle.pg_assertion.specs.declared.step_atom.StepAtom.{StepAtom}
use Rattle.pg_assertion.specs.declared.step_atom.StepAtom.TheVariants.{On}
use Rattle.pg_assertion.specs.Formula.{Plain, atom, neg, with_atoms}
use Rattle.pg_assertion.specs.Expansion.{expansion}
use Rattle.pg_assertion.specs.Layout.{sizes, values, scalars, locations, threads}
use Rattle.pg_machine.specs.declared.event.Event.{Event}
use Rattle.pg_machine.specs.State.{State, IsWellFormed, fresh}
use Rattle.pg_machine.specs.Step.{IsStepThrough}
use Rattle.pg_views.specs.Formula.{true_in}
use Rattle.pg_views.specs.Valuation.{valuation}
use Rattle.pg_views.specs.Execution.{IsStart}
use Rattle.pg_outline.specs.Outline.{OutlineTable, note_at}
use Rattle.pg_tables.specs.declared.clause.StepLiteral.{StepLiteral}
use Rattle.pg_tables.specs.Truth.{AllTrue}
use Rattle.pg_axioms.specs.Axioms.{axioms}
use Rattle.pg_obligations.specs.declared.obligation.Obligation.{Obligation}
use Rattle.pg_obligations.specs.declared.obligation.Obligation.TheVariants.{Fresh, Entry, EntryCrash, Local, Crash, Interfere}
use Rattle.pg_obligations.specs.Obligations.{obligations}
use Rattle.pg_obligations.specs.Safe.{IsSafe}

-- clauses that hold, formulas that are given, and a goal; all of them over the atoms of a step
pub record Entailment : Type 0 where
  pub clauses : List (List StepLiteral)
  pub givens : List (Plain StepAtom)
  pub goal : Plain StepAtom

-- It follows: each valuation that makes the clauses and the givens true makes the goal true.
abbrev pub Follows : Entailment → Type 0
Follows e = (val : StepAtom → Bool) → AllTrue val e.clauses → All (λ f. true_in val f ≡ true) e.givens → true_in val e.goal ≡ true

-- a formula before the step, or after it
abbrev pub on : Side → Plain ViewAtom → Plain StepAtom
on side f = with_atoms (λ a. On a side) f

-- ---- the obligations of an outline

-- the axioms of a side
abbrev pub axioms_of : ProgramTable → Side → List (List StepLiteral)
axioms_of p side = axioms (sizes p.names (length p.threads)) side

-- the crash formula as an assertion
abbrev pub crash_of : OutlineTable → Plain ViewAtom
crash_of o = expansion o.program.names o.crash

-- What is given of the fresh state: each scalar is 0; each location has its declared value as its last one, which each thread
-- may read alone; and no other value may persist.
abbrev pub fresh_values : ProgramTable → List (Plain ViewAtom)
fresh_values p =
    let l = sizes p.names (length p.threads) in
    let init = slice_index (initial p.names) in
    map (λ r. atom (Scalar r 0)) (scalars l)
    ++ (map (λ x. atom (Last x (init x))) (locations l)
    ++ (flat_map (λ t. map (λ x. atom (Newest t x)) (locations l)) (threads l)
    ++ flat_map (λ x. map (λ v. neg (atom (Persist x v))) (filter (λ v. not (v == init x)) (values l))) (locations l)))

-- of a state without a step
abbrev pub of_state : ProgramTable → List (Plain ViewAtom) → Plain ViewAtom → Entailment
of_state p givens goal = record { clauses = axioms_of p Before; givens = map (on Before) givens; goal = on Before goal }

-- from the state before a step to the one after it, by the rules of the step
abbrev pub across : ProgramTable → List (List StepLiteral) → List (Plain ViewAtom) → Plain ViewAtom → Entailment
across p rules givens goal = record {
  clauses = rules ++ (axioms_of p Before ++ axioms_of p After);
  givens = map (on Before) givens;
  goal = on After goal;
}

-- each obligation, where every step has its rules
abbrev pub entailment : OutlineTable → (Step → List (List StepLiteral)) → Obligation → Entailment
entailment o rules Fresh = of_state o.program (fresh_values o.program) o.pre
entailment o rules (Entry t) = of_state o.program (o.pre ∷ []) (note_at o t 1)
entailment o rules EntryCrash = of_state o.program (o.pre ∷ []) (crash_of o)
entailment o rules (Local step) =
    across o.program (rules step) (note_at o step.thread step.point ∷ crash_of o ∷ []) (note_at o step.thread step.target)
entailment o rules (Crash step) = across o.program (rules step) (note_at o step.thread step.point ∷ crash_of o ∷ []) (crash_of o)
entailment o rules (Interfere step at) =
    across o.program (rules step) (note_at o step.thread step.point ∷ note_at o at.thread at.point ∷ crash_of o ∷ []) (note_at o at.thread at.point)

-- every obligation follows
abbrev pub AllFollow : OutlineTable → (Step → List (List StepLiteral)) → Type 0
AllFollow o rules = All (λ ob. Follows (entailment o rules ob)) (obligations o.program)

-- ---- safety

-- the rules of each step are true wherever an event leads through it from a well-formed state
pub record AreTrue (p : ProgramTable) (rules : Step → List (List StepLiteral)) : Type 0 where
  pub each : (s : State) (e : Event) (step : Step) (next : State) → IsWellFormed p s → IsStepThrough p s e step next
      → AllTrue (valuation p e s next) (rules step)

-- Where every obligation follows by such rules, the outline is safe, and an execution begins in the fresh state.
abbrev pub FollowIsSafe : Type 0
FollowIsSafe =
    (o : OutlineTable) (rules : Step → List (List StepLiteral)) → IsProgram o.program → AreTrue o.program rules → AllFollow o rules
    → IsSafe o × IsStart o.program o.pre (fresh o.program)
