use Rattle.pg_assertion.specs.Layout.{cells, seen_cells, seen_place, cell_place}
use Rattle.pg_assertion.proofs.LayoutNumbers.{place_again, some_width, row_below, column_below}
use Rattle.pg_assertion.proofs.layout.Layout.pair_at.Goals as goal

pub nonzero_div-place : goal.nonzero_div-place
nonzero_div-place c = let l = c.args.self.now in some_width c.args.place c.cells.result (cells l) (seen_cells l) c.cells.ensures.count c.requires

pub seen_at-t-requires : goal.seen_at-t-requires
seen_at-t-requires c = let l = c.args.self.now in row_below c.args.place c.cells.result (cells l) (seen_cells l) c.cells.ensures.count c.requires

pub nonzero_rem-place : goal.nonzero_rem-place
nonzero_rem-place c = let l = c.args.self.now in some_width c.args.place c.cells-2.result (cells l) (seen_cells l) c.cells-2.ensures.count c.requires

pub cell_at-y-requires : goal.cell_at-y-requires
cell_at-y-requires c = let l = c.args.self.now in column_below c.args.place c.cells-2.result (cells l) (seen_cells l) c.cells-2.ensures.count c.requires

pub returns-clause-place : goal.returns-clause-place
returns-clause-place c =
    let l = c.args.self.now in
    let s = c.seen_at-t.result in
    let e = c.cell_at-y.result in
    place_again c.args.place c.cells.result c.cells-2.result (cells l) (seen_place l s.0 s.1 s.2) (cell_place l e.0 e.1)
    c.cells.ensures.count c.cells-2.ensures.count c.seen_at-t.ensures.place c.cell_at-y.ensures.place
