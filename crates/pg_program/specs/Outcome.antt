-- What building a program answers.
use Rattle.std.specs.Prelude.{◌≡◌, List, Option, Some, None, Result, Ok, Err, IfSome}
use Rattle.pg_program.specs.declared.syntax.Stmt.{Stmt}
use Rattle.pg_program.specs.declared.graph.Program.{Program}
use Rattle.pg_program.specs.declared.fault.ProgramFault.{ProgramFault}
use Rattle.pg_program.specs.NameTable.{NameTable}
use Rattle.pg_program.specs.Fault.{Fault, plain_fault, first_fault}

-- there is no such fault, or it is the one that is answered; want of memory is an answer of its own
abbrev pub Finds : {T : Type 0} → Option Fault → Result T ProgramFault → Type 0
Finds f (Ok x) = f ≡ None
Finds f (Err e) = IfSome (plain_fault e) (λ g. f ≡ Some g)

-- the program of the names and the threads, where they have no fault, and else their first fault
abbrev pub Builds : NameTable → List (List Stmt) → Result Program ProgramFault → Type 0
Builds names threads (Ok p) = (p ≡ record { names = names; threads = threads }) × (first_fault names threads ≡ None)
Builds names threads (Err e) = IfSome (plain_fault e) (λ f. first_fault names threads ≡ Some f)
