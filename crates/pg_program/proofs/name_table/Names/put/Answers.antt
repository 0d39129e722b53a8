use Rattle.std.proofs.Common.{◌∙◌, ap, subst, arith}
use Rattle.pg_program.specs.declared.name_table.NameKind.{NameKind}
use Rattle.pg_program.specs.declared.name_table.NameKind.TheVariants as kind
use Rattle.pg_program.specs.NameTable.{NameTable, IsNameTable, MayJoin, lines, line_count}
use Rattle.pg_program.proofs.NameLemmas.{own_lines, some_lines}
use Rattle.pg_program.proofs.name_table.Names.put.Goals as goal

pub put_location-requires-clause-apart : goal.put_location-requires-clause-apart
put_location-requires-clause-apart c = λ one.
    c.put_location.invariant.0 ∙ (ap (λ (u : NameTable). line_count (lines u)) c.put_location.view_is
    ∙ own_lines c.args.self.now (subst IsNameTable c.put_location.view_is c.put_location.invariant.1) one)

pub overflow_sub-self : goal.overflow_sub-self
overflow_sub-self c =
    let joins : MayJoin (kind.LocationWith c.in-LocationWith.init) c.args.self.now = subst (λ (k : NameKind). MayJoin k c.args.self.now) c.in-LocationWith.is c.requires.join in
    let some = some_lines c.args.self.now joins.1 in
    let same = c.put_location-in-LocationWith.invariant.0 ∙ ap (λ (u : NameTable). line_count (lines u)) c.put_location-in-LocationWith.view_is in
    omega (arith, some, same)
