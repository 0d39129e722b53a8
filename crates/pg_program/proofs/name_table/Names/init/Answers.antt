use Rattle.std.proofs.Common.{◌∙◌, ap, sym, option_map, slice_get}
use Rattle.pg_program.specs.NameTable.{NameTable, Location}
use Rattle.pg_program.proofs.NameLemmas.{located}
use Rattle.pg_program.proofs.name_table.Names.init.Goals as goal

pub returns : goal.returns
returns c =
    ap (λ (u : NameTable). option_map (λ (l : Location). l.init) (slice_get u.locations c.args.x)) (sym c.self.view_is)
    ∙ ap (option_map (λ (l : Location). l.init)) (located c.self.inside.locations.entries c.args.x _ (ap (slice_get c.self.inside.locations.entries) (sym c.from.ensures) ∙ sym c.in-Some.ensures.entry))
