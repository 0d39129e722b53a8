-- The valuation of a step: the truth of each atom of a step, where an event leads a state to the next one.
use Rattle.std.specs.Prelude.{ℕ, Bool, true, false, ◌==◌, List, Option, Some, None}
use Rattle.pg_program.specs.declared.syntax.Stmt.{Stmt}
use Rattle.pg_program.specs.declared.syntax.Act.{Act}
use Rattle.pg_program.specs.declared.syntax.Act.TheOpen.{Act-F, Assign, Store, Cas, If, While}
use Rattle.pg_program.specs.Expr.{value, test_holds}
use Rattle.pg_program.specs.Program.{ProgramTable, stmt_at}
use Rattle.pg_assertion.specs.declared.layout.Side.TheVariants.{Before, After}
use Rattle.pg_assertion.specs.declared.step_atom.StepAtom.{StepAtom}
use Rattle.pg_assertion.specs.declared.step_atom.StepAtom.TheVariants.{On, Value, Expected, Success, Taken}
use Rattle.pg_machine.specs.declared.event.Event.{Event}
use Rattle.pg_machine.specs.State.{State, point_of}
use Rattle.pg_machine.specs.Step.{act_of}
use Rattle.pg_views.specs.Atom.{atom_holds}

-- there is a value, and it is v
abbrev pub is_some : Option ℕ → ℕ → Bool
is_some None v = false
is_some (Some w) v = w == v

-- The value that an act assigns or stores, where it has an expression for it. Of a cas it is the desired one, also where it fails.
abbrev pub new_value : ℕ → List ℕ → Act-F Act Stmt → Option ℕ
new_value d r (Assign q e) = Some (value r d e)
new_value d r (Store x e) = Some (value r d e)
new_value d r (Cas q x e f) = Some (value r d f)
new_value d r act = None

-- the value that a cas expects
abbrev pub expected_value : ℕ → List ℕ → Act-F Act Stmt → Option ℕ
expected_value d r (Cas q x e f) = Some (value r d e)
expected_value d r act = None

-- a cas by an event that chooses no position succeeds
abbrev pub is_success : Act-F Act Stmt → Option ℕ → Bool
is_success (Cas q x e f) None = true
is_success act choice = false

-- a test that holds
abbrev pub is_taken : ℕ → List ℕ → Act-F Act Stmt → Bool
is_taken d r (If test a b) = test_holds r d test
is_taken d r (While test a) = test_holds r d test
is_taken d r act = false

-- The truth of each atom of the step that does an act by an event with this choice: the atoms before it are those of the state,
-- and the atoms after it those of the next state. Expressions have their values over the scalars before the step, modulo d.
abbrev pub step_atom_holds : ℕ → Act-F Act Stmt → Option ℕ → State → State → StepAtom → Bool
step_atom_holds d act choice s next (On a Before) = atom_holds s a
step_atom_holds d act choice s next (On a After) = atom_holds next a
step_atom_holds d act choice s next (Value v) = is_some (new_value d s.scalars act) v
step_atom_holds d act choice s next (Expected v) = is_some (expected_value d s.scalars act) v
step_atom_holds d act choice s next Success = is_success act choice
step_atom_holds d act choice s next Taken = is_taken d s.scalars act

-- the valuation of the step of an event, by the statement at the point of its thread
abbrev pub valuation_at : ProgramTable → Option Stmt → Event → State → State → StepAtom → Bool
valuation_at p None e s next a = false
valuation_at p (Some stmt) e s next a = step_atom_holds p.names.domain (act_of stmt) e.choice s next a

abbrev pub valuation : ProgramTable → Event → State → State → StepAtom → Bool
valuation p e s next = valuation_at p (stmt_at p e.thread (point_of s e.thread)) e s next
