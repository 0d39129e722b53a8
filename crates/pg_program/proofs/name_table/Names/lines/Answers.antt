use Rattle.std.proofs.Common.{ap, subst, ◌∙◌, arith}
use Rattle.pg_program.specs.NameTable.{NameTable, lines, line_count, IsNameTable}
use Rattle.pg_program.proofs.NameLemmas.{count_few}
use Rattle.pg_program.proofs.name_table.Names.lines.Goals as goal

pub returns-clause-few : goal.returns-clause-few
returns-clause-few c =
    let few = count_few c.args.self.now (subst IsNameTable c.self.view_is c.self.invariant.1) in
    let same = c.self.invariant.0 ∙ ap (λ (u : NameTable). line_count (lines u)) c.self.view_is in
    omega (arith, few, same)
