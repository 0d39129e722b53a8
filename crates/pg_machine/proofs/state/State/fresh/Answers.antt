use Rattle.std.proofs.Common.{ℕ, ◌<◌, length, sym, ap, subst, ◌∙◌}
use Rattle.std.specs.List.{All}
use Rattle.pg_program.specs.NameTable.{NameTable, initial, lines, line_count}
use Rattle.pg_machine.specs.State.{IsWellFormed}
use Rattle.pg_machine.proofs.Formed.{initial_fits, made_fresh}
use Rattle.pg_machine.proofs.WellFormed.{fresh_is_well_formed}
use Rattle.pg_machine.proofs.state.State.fresh.Goals as goal

pub fresh-requires : goal.fresh-requires
fresh-requires c =
    subst (λ (n : NameTable). All (λ (v : ℕ). v < 256) (initial n)) (sym c.names-names.ensures.names) (initial_fits c.args.p.now c.names-names.ensures.built)

pub returns : goal.returns
returns c =
    let p = c.args.p.now in
    let locations = c.from-locations.ensures ∙ (c.locations.ensures.count ∙ ap (λ (n : NameTable). length n.locations) c.names-names.ensures.names) in
    let on = c.from-lines.ensures ∙ (c.lines.ensures.count ∙ ap (λ (n : NameTable). line_count (lines n)) c.names-names.ensures.names) in
    let scalars = c.from-scalars.ensures ∙ (c.scalars.ensures.count ∙ ap (λ (n : NameTable). length n.scalars) c.names-names.ensures.names) in
    let threads = c.from-threads.ensures ∙ c.threads.ensures.count in
    let made =
    made_fresh p c.names-names.result.now c.from-locations.result c.from-lines.result c.from-scalars.result c.from-threads.result
    c.in_ok-memory.memory.memory c.in_ok-views.views.items c.in_ok-scalars.scalars.items c.in_ok-points.points.items
    c.names-names.ensures.names c.in_ok-memory.ensures locations on scalars threads
    c.in_ok-views.ensures (c.in_ok-scalars.ensures.items_if_clones_equal (λ y e. e)) (c.in_ok-points.ensures.items_if_clones_equal (λ y e. e)) in
    record { state = made; formed = subst (IsWellFormed p) (sym made) (fresh_is_well_formed p c.names-names.ensures.built) }
