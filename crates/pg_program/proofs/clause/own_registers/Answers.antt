use Rattle.std.proofs.Common.{sym}
use Rattle.pg_program.specs.NameTable.{is_foreign}
use Rattle.pg_program.specs.Words.{scalars_of}
use Rattle.pg_program.proofs.ClauseLemmas.{foreign_declared}
use Rattle.pg_program.proofs.FoundLemmas.{found_holds}
use Rattle.pg_program.proofs.clause.own_registers.Goals as goal

pub name_of-requires : goal.name_of-requires
name_of-requires c =
    let names = c.args.names.now in
    let t = c.args.at.thread in
    foreign_declared names t c.in-Some.r (found_holds (is_foreign names t) (scalars_of c.args.stmt.now) c.in-Some.r (sym c.in-Some.ensures))
