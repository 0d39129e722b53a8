-- Parts of the top part, as the code gives them to a sink.
use Rattle.std.specs.Prelude.{◌≡◌, ℕ, ◌+◌, ◌≤◌, Bool, List, [], ◌∷◌, ◌++◌, Result, MatchResult, not, ◌==◌, slice_index}
use Rattle.pg_program.specs.NameTable.{NameTable, initial}
use Rattle.pg_assertion.specs.declared.atom.ViewAtom.{ViewAtom}
use Rattle.pg_assertion.specs.declared.atom.ViewAtom.TheVariants.{Scalar, Last, Persist, Newest}
use Rattle.pg_assertion.specs.declared.layout.Side.{Side}
use Rattle.pg_assertion.specs.Formula.{Plain, with_atoms, nodes, AllAtoms, top, bottom, atom, neg, both, either, implies}
use Rattle.pg_assertion.specs.Layout.{Sizes, IsAtom, number_on}
use Rattle.pg_assertion.specs.Limits.{most_expansion_nodes}
use Rattle.pg_region.specs.Literal.{Literal}
use Rattle.pg_region.specs.Sink.{Capacity, SinkView, Appended, Stopped}
use Rattle.pg_tables.specs.declared.clause.StepLiteral.{StepLiteral}
use Rattle.pg_tables.specs.Shapes.{before, always, never}
use Rattle.pg_tables.specs.Table.{when, per_thread, per_location, per_value, per_scalar}
use Rattle.pg_clauses.specs.Definitional.{after, literal, clauses}
use Rattle.pg_outline.specs.Outline.{OutlineTable, note_at}
use Rattle.pg_obligations.specs.declared.obligation.Obligation.{Obligation}
use Rattle.pg_obligations.specs.declared.obligation.Obligation.TheVariants.{Fresh, Entry, EntryCrash, Local, Crash, Interfere}
use Rattle.pg_obligations.specs.Follow.{crash_of}

-- a formula of one side, over the numbers of its atoms there
abbrev pub placed : Sizes → Side → Plain ViewAtom → Plain ℕ
placed l side f = with_atoms (λ a. number_on l a side) f

-- a formula over the atoms of a side, which is no larger than an expansion may be
pub record IsPart (l : Sizes) (f : Plain ViewAtom) : Type 0 where
  pub over : AllAtoms (IsAtom l) f
  pub few : nodes f ≤ most_expansion_nodes

-- how many new atoms a formula takes: one for each node but atoms and negations
abbrev pub taken : {T : Type 0} → Plain T → ℕ
taken top = 1
taken bottom = 1
taken (atom a) = 0
taken (neg f) = taken f
taken (both f g) = 1 + (taken f + taken g)
taken (either f g) = 1 + (taken f + taken g)
taken (implies f g) = 1 + (taken f + taken g)

-- a given formula: its definitional clauses, and its literal alone
abbrev pub given_part : ℕ → Plain ℕ → List (List Literal)
given_part n f = clauses n f ++ ((literal n f ∷ []) ∷ [])

-- these clauses were appended, and the next new atom is told
pub record IsGiven (old new : SinkView) (n : ℕ) (f : Plain ℕ) (next : ℕ) : Type 0 where
  pub told : next ≡ after n f
  pub few : next ≤ n + most_expansion_nodes
  pub appended : Appended old new (given_part n f)

abbrev pub Gives : {F : Type 0} → (List (List Literal) → Capacity → List Literal → Bool) → Result ℕ F → SinkView → SinkView → ℕ → Plain ℕ → Type 0
Gives takes r old new n f = MatchResult r (λ next. IsGiven old new n f next) (λ _. Stopped takes old new (given_part n f))

-- what is given of the fresh state, as clauses of one literal
abbrev pub fresh_units : Sizes → NameTable → List (List StepLiteral)
fresh_units l names =
    per_scalar l (λ r. always (before (Scalar r 0)))
    ++ (per_location l (λ x. always (before (Last x (slice_index (initial names) x))))
    ++ (per_thread l (λ t. per_location l (λ x. always (before (Newest t x))))
    ++ per_location l (λ x. per_value l (λ v. when (not (v == slice_index (initial names) x)) (never (before (Persist x v)))))))

-- how many new atoms the formulas of an obligation take
abbrev pub new_in : OutlineTable → Obligation → ℕ
new_in o Fresh = taken o.pre
new_in o (Entry t) = taken o.pre + taken (note_at o t 1)
new_in o EntryCrash = taken o.pre + taken (crash_of o)
new_in o (Local step) = taken (note_at o step.thread step.point) + taken (crash_of o) + taken (note_at o step.thread step.target)
new_in o (Crash step) = taken (note_at o step.thread step.point) + taken (crash_of o) + taken (crash_of o)
new_in o (Interfere step at) =
    taken (note_at o step.thread step.point) + taken (note_at o at.thread at.point) + taken (crash_of o) + taken (note_at o at.thread at.point)
