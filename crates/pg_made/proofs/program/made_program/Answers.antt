use Rattle.std.proofs.Common.{List, sym, ap₂, subst, arith}
use Rattle.pg_program.specs.declared.syntax.Stmt.{Stmt}
use Rattle.pg_program.specs.NameTable.{NameTable}
use Rattle.pg_program.specs.Program.{ProgramTable, IsProgram}
use Rattle.pg_made.proofs.Programs.{is_program}
use Rattle.pg_made.proofs.program.made_program.Goals as goal

pub built-requires : goal.built-requires
built-requires c =
    let made : NameTable → List (List Stmt) → ProgramTable = λ names threads. record { names = names; threads = threads } in
    subst IsProgram (sym (ap₂ made c.in_ok-names.ensures c.in_ok-threads.ensures)) (is_program c.args.n (omega (arith, c.requires)))
