use Rattle.std.proofs.Common.{◌≡◌, ◌<◌, subst, sym, None, List, ℕ, map, length}
use Rattle.pg_program.specs.declared.name_table.ScalarKind.{ScalarKind}
use Rattle.pg_program.specs.Limits.{most_scalars}
use Rattle.pg_program.specs.NameTable.{NameTable, find, location_of, IsNameTable, by_bytes}
use Rattle.pg_program.proofs.NameLemmas.{IsNameTable-scalar, extended_or_left}
use Rattle.pg_program.proofs.name_table.Names.put_scalar.Goals as goal

pub invariant_of-self : goal.invariant_of-self
invariant_of-self c =
    let old = c.self.inside in
    let t : NameTable = record { version = old.version; domain = old.domain; locations = map location_of (by_bytes old.locations.entries); scalars = by_bytes old.scalars.entries } in
    let seen : t ≡ c.args.self.now = c.self.view_is in (
      c.self.invariant.0,
      extended_or_left (λ (l : List (List ℕ × ScalarKind)). IsNameTable (record { version = old.version; domain = old.domain; locations = map location_of (by_bytes old.locations.entries); scalars = l }))
          c.append.result (by_bytes old.scalars.entries) (by_bytes c.append.new.entries.entries) (c.args.name.now, c.args.kind)
          c.append.ensures.ok c.append.ensures.err c.self.invariant.1
          (IsNameTable-scalar t c.args.name.now c.self.invariant.1
          (subst (λ (u : NameTable). find c.args.name.now u ≡ None) (sym seen) c.requires.absent) c.args.kind
          (subst (λ (u : NameTable). length u.scalars < most_scalars) (sym seen) c.requires.room)),
    )
