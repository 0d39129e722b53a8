use Rattle.std.proofs.Common.{◌∙◌, ap, sym, option_map, slice_get}
use Rattle.std.proofs.lemmas.Option.{slice_get-map}
use Rattle.pg_program.specs.NameTable.{NameTable, Location, lines}
use Rattle.pg_program.proofs.NameLemmas.{located, line_within}
use Rattle.pg_program.proofs.name_table.Names.line.Goals as goal

pub returns-clause-line : goal.returns-clause-line
returns-clause-line c =
    ap (λ (u : NameTable). option_map (λ (l : Location). l.line) (slice_get u.locations c.args.x)) (sym c.self.view_is)
    ∙ ap (option_map (λ (l : Location). l.line)) (located c.self.inside.locations.entries c.args.x _ (ap (slice_get c.self.inside.locations.entries) (sym c.from.ensures) ∙ sym c.in-Some.ensures.entry))

pub returns-clause-within : goal.returns-clause-within
returns-clause-within c =
    line_within (lines c.args.self.now) c.args.x c.in-Some.placed.now.line
    (slice_get-map (λ (l : Location). l.line) c.args.self.now.locations c.args.x ∙ returns-clause-line c)
