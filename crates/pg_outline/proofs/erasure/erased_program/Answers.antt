use Rattle.std.proofs.Common.{◌∙◌, List, ap, ap₂, sym, subst}
use Rattle.pg_program.specs.declared.syntax.Stmt.{Stmt}
use Rattle.pg_program.specs.NameTable.{NameTable}
use Rattle.pg_program.specs.Program.{ProgramTable, IsProgram}
use Rattle.pg_outline.specs.Erasure.{erased_names}
use Rattle.pg_outline.proofs.EraseThreads.{erased_is_program}
use Rattle.pg_outline.proofs.erasure.erased_program.Goals as goal

pub built-requires : goal.built-requires
built-requires c =
    let both = c.in_ok-names-2.ensures.ok in
    let names = both.0 ∙ c.in_ok-names.ensures ∙ ap erased_names c.names.ensures.names in
    let threads = rw both.1 at c.erased_threads.ensures in
    subst IsProgram (ap₂ (λ (n : NameTable) (ts : List (List Stmt)). let p : ProgramTable = record { names = n; threads = ts } in p) (sym names) (sym threads))
    (erased_is_program c.args.program.now c.names.ensures.built)
