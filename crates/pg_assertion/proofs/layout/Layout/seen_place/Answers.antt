use Rattle.std.proofs.Common.{◌-◌, arith}
use Rattle.pg_assertion.specs.Layout.{cells}
use Rattle.pg_assertion.proofs.LayoutNumbers.{place_below}
use Rattle.pg_assertion.proofs.layout.Layout.seen_place.Goals as goal

pub returns-clause-within : goal.returns-clause-within
returns-clause-within c =
    let l = c.args.self.now in
    place_below (c.from.result - 1) (cells l) c.cell_place.result l.threads c.cells.result c.cells.ensures.count (omega arith)
    c.cell_place.ensures.within
