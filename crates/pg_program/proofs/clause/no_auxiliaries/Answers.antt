use Rattle.std.proofs.Common.{sym}
use Rattle.pg_program.specs.NameTable.{is_auxiliary}
use Rattle.pg_program.specs.Words.{outside}
use Rattle.pg_program.proofs.ClauseLemmas.{auxiliary_declared}
use Rattle.pg_program.proofs.FoundLemmas.{found_holds}
use Rattle.pg_program.proofs.clause.no_auxiliaries.Goals as goal

pub name_of-requires : goal.name_of-requires
name_of-requires c =
    let names = c.args.names.now in
    auxiliary_declared names c.in-Some.r (found_holds (is_auxiliary names) (outside c.args.stmt.now) c.in-Some.r (sym c.in-Some.ensures))
