use Rattle.std.proofs.Common.{◌∙◌, ap, ap₂, sym, Option, ℕ, map}
use Rattle.pg_program.specs.NameTable.{find, found, place_in, by_bytes}
use Rattle.pg_program.proofs.NameLemmas.{names_of-located}
use Rattle.pg_program.proofs.name_table.Names.find.Goals as goal

pub returns-in-Some-clause-place : goal.returns-in-Some-clause-place
returns-in-Some-clause-place c =
    let names = names_of-located (by_bytes c.self.inside.locations.entries) in
    let name = c.args.name.now in
    ap (λ (o : Option ℕ). found o (place_in name (map (λ e. e.0) (by_bytes c.self.inside.scalars.entries)))) (c.in-Some.ensures ∙ ap (place_in name) (sym names))
    ∙ ap (find name) c.self.view_is

pub returns-in-Some-index_of-clause-place : goal.returns-in-Some-index_of-clause-place
returns-in-Some-index_of-clause-place c =
    let names = names_of-located (by_bytes c.self.inside.locations.entries) in
    let name = c.args.name.now in
    ap₂ found (c.in-None.ensures ∙ ap (place_in name) (sym names)) c.in-Some-index_of.ensures ∙ ap (find name) c.self.view_is

pub returns-in-None-index_of-clause-place : goal.returns-in-None-index_of-clause-place
returns-in-None-index_of-clause-place c =
    let names = names_of-located (by_bytes c.self.inside.locations.entries) in
    let name = c.args.name.now in
    ap₂ found (c.in-None.ensures ∙ ap (place_in name) (sym names)) c.in-None-index_of.ensures ∙ ap (find name) c.self.view_is
