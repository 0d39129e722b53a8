use Rattle.pg_assertion.specs.Layout.{cells, seen_cells}
use Rattle.pg_assertion.proofs.LayoutNumbers.{place_below}
use Rattle.pg_assertion.proofs.layout.Layout.pair_place.Goals as goal

pub returns-clause-within : goal.returns-clause-within
returns-clause-within c =
    let l = c.args.self.now in
    place_below c.seen_place.result (cells l) c.cell_place.result (seen_cells l) c.cells.result c.cells.ensures.count
    c.seen_place.ensures.within c.cell_place.ensures.within
