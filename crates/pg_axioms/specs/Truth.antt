-- The axioms are true in every well-formed state.
use Rattle.std.specs.Prelude.{◌≡◌, Bool, length}
use Rattle.pg_program.specs.Program.{ProgramTable, IsProgram}
use Rattle.pg_assertion.specs.declared.atom.ViewAtom.{ViewAtom}
use Rattle.pg_assertion.specs.declared.layout.Side.{Side}
use Rattle.pg_assertion.specs.declared.step_atom.StepAtom.{StepAtom}
use Rattle.pg_assertion.specs.declared.step_atom.StepAtom.TheVariants.{On}
use Rattle.pg_assertion.specs.Layout.{sizes}
use Rattle.pg_machine.specs.State.{State, IsWellFormed}
use Rattle.pg_views.specs.Atom.{atom_holds}
use Rattle.pg_tables.specs.Truth.{AllTrue}
use Rattle.pg_axioms.specs.Axioms.{axioms}

-- in this valuation the atoms of a side have their truth in a state
pub record IsTruthIn (s : State) (side : Side) (val : StepAtom → Bool) : Type 0 where
  pub is : (a : ViewAtom) → val (On a side) ≡ atom_holds s a

abbrev pub AxiomsAreTrue : Type 0
AxiomsAreTrue =
    (p : ProgramTable) (s : State) (side : Side) (val : StepAtom → Bool) → IsProgram p → IsWellFormed p s → IsTruthIn s side val
    → AllTrue val (axioms (sizes p.names (length p.threads)) side)
