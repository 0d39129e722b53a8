use Rattle.std.proofs.Common.{◌∙◌, ap, sym, Some, option_map, slice_get}
use Rattle.pg_program.specs.NameTable.{NameTable, Location}
use Rattle.pg_program.proofs.NameLemmas.{located}
use Rattle.pg_program.proofs.name_table.Names.location_name.Goals as goal

pub returns : goal.returns
returns c =
    ap (λ (u : NameTable). option_map (λ (l : Location). l.name) (slice_get u.locations c.args.x)) (sym c.self.view_is)
    ∙ (ap (option_map (λ (l : Location). l.name)) (located c.self.inside.locations.entries c.args.x _ (ap (slice_get c.self.inside.locations.entries) (sym c.from.ensures) ∙ sym c.in-Some.ensures.entry))
    ∙ ap Some (sym c.as_str.ensures.value))
