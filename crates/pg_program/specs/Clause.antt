-- The clauses that go through the text, by their names in the code.
use Rattle.std.specs.Prelude.{ℕ, Bool, Option}
use Rattle.pg_program.specs.declared.syntax.Stmt.{Stmt}
use Rattle.pg_program.specs.declared.point.PointId.{PointId}
use Rattle.pg_program.specs.declared.clause.Clause.{Clause}
use Rattle.pg_program.specs.declared.clause.Clause.TheVariants.{OwnRegisters, NoAuxiliaries, DistinctTargets, NumbersInside, FewNames}
use Rattle.pg_program.specs.declared.sought.Sought.{Sought}
use Rattle.pg_program.specs.declared.sought.Sought.TheVariants as sought
use Rattle.pg_program.specs.NameTable.{NameTable, is_foreign, is_auxiliary}
use Rattle.pg_program.specs.Fault.{Fault, own_registers, no_auxiliaries, distinct_targets, numbers_inside, few_names}

abbrev pub clause_of : Clause → NameTable → PointId → Stmt → Option Fault
clause_of OwnRegisters names = own_registers names
clause_of NoAuxiliaries names = no_auxiliaries names
clause_of DistinctTargets names = distinct_targets names
clause_of NumbersInside names = numbers_inside names
clause_of FewNames names = few_names names

-- whether a scalar is one of those that a clause seeks
abbrev pub is_sought : Sought → NameTable → ℕ → Bool
is_sought (sought.Foreign thread) names = is_foreign names thread
is_sought sought.Auxiliary names = is_auxiliary names
