use Rattle.std.proofs.Common.{◌∙◌, ◌≡◌, ◌+◌, ◌≤◌, ◌<◌, ap, subst, sym, None, List, ℕ, map, max, arith, length, refl, [], ◌∷◌, ◌++◌}
use Rattle.pg_program.specs.Limits.{most_locations}
use Rattle.pg_program.specs.NameTable.{NameTable, Location, find, place_in, lines, line_count, location_of, IsNameTable, by_bytes}
use Rattle.pg_program.proofs.NameLemmas.{IsNameTable-location, located-more, names_of-located, absent_location, count_more, count_few, locations_few, lines-more}
use Rattle.pg_program.proofs.name_table.Names.put_location.Goals as goal

pub append-requires : goal.append-requires
append-requires c =
    let names = names_of-located (by_bytes c.self.inside.locations.entries) in
    let t : NameTable = record { version = c.self.inside.version; domain = c.self.inside.domain; locations = map location_of (by_bytes c.self.inside.locations.entries); scalars = by_bytes c.self.inside.scalars.entries } in
    subst (λ (ns : List (List ℕ)). place_in c.args.name.now ns ≡ None) names
    (absent_location t c.args.name.now (subst (λ (u : NameTable). find c.args.name.now u ≡ None) (sym c.self.view_is) c.requires.absent))

pub overflow_add-self : goal.overflow_add-self
overflow_add-self c =
    let few = count_few c.args.self.now (subst IsNameTable c.self.view_is c.self.invariant.1) in
    let most = locations_few c.args.self.now (subst IsNameTable c.self.view_is c.self.invariant.1) in
    let low = c.requires.line.0 in
    omega (arith, few, most, low)

pub invariant_of-self-2 : goal.invariant_of-self-2
invariant_of-self-2 c =
    let old = c.self.inside in
    let t : NameTable = record { version = old.version; domain = old.domain; locations = map location_of (by_bytes old.locations.entries); scalars = by_bytes old.scalars.entries } in
    let l : Location = record { name = c.args.name.now; init = c.args.init; line = c.args.line } in
    let more : map location_of (by_bytes c.append.new.entries.entries) ≡ t.locations ++ l ∷ [] =
    ap (map location_of) c.in_ok-append.ensures.ok ∙ located-more (by_bytes old.locations.entries) (c.args.name.now, record { init = c.args.init; line = c.args.line }) in
    let seen : t ≡ c.args.self.now = c.self.view_is in
    let low = subst (λ (u : NameTable). c.args.line ≤ line_count (lines u)) (sym seen) c.requires.line.0 in
    let high = subst (λ (u : NameTable). line_count (lines u) ≤ c.args.line + 1) (sym seen) c.requires.line.1 in (
      subst (λ (ls : List Location). c.args.line + 1 ≡ line_count (map (λ (m : Location). m.line) ls)) (sym more)
          (sym (ap line_count (lines-more t.locations l) ∙ count_more (lines t) c.args.line ∙ (let q : max (line_count (lines t)) (c.args.line + 1) ≡ c.args.line + 1 = omega (arith, high) in q))),
      subst (λ (ls : List Location). IsNameTable (record { version = old.version; domain = old.domain; locations = ls; scalars = by_bytes old.scalars.entries })) (sym more)
          (IsNameTable-location t c.args.name.now c.self.invariant.1 (subst (λ (u : NameTable). find c.args.name.now u ≡ None) (sym seen) c.requires.absent) l refl
          (subst (λ (u : NameTable). length u.locations < most_locations u.version) (sym seen) c.requires.room) low high
          (subst (λ (u : NameTable). u.version ≡ 1 → c.args.line ≡ length u.locations) (sym seen) c.requires.apart)),
    )
