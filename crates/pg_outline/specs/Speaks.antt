-- What the formulas of an outline speak of.
use Rattle.std.specs.Prelude.{length}
use Rattle.pg_program.specs.Program.{ProgramTable}
use Rattle.pg_assertion.specs.declared.atom.ViewAtom.{ViewAtom}
use Rattle.pg_assertion.specs.declared.atom.CrashAtom.{CrashAtom}
use Rattle.pg_assertion.specs.Formula.{Plain, AllAtoms}
use Rattle.pg_assertion.specs.Layout.{sizes, IsAtom}
use Rattle.pg_assertion.specs.Expansion.{IsAtomOf}

-- each atom speaks of scalars, locations, threads and values of the program
abbrev pub IsOver : ProgramTable → Plain ViewAtom → Type 0
IsOver p f = AllAtoms (IsAtom (sizes p.names (length p.threads))) f

-- and each atom of a crash formula of its scalars, locations and values
abbrev pub IsCrashOver : ProgramTable → Plain CrashAtom → Type 0
IsCrashOver p f = AllAtoms (IsAtomOf p.names) f
