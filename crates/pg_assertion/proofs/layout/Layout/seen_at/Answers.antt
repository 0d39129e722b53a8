use Rattle.std.proofs.Common.{◌+◌, ◌-◌, ◌/◌, arith}
use Rattle.pg_assertion.specs.Layout.{cells, cell_place}
use Rattle.pg_assertion.proofs.LayoutNumbers.{place_again, some_width, column_below}
use Rattle.pg_assertion.proofs.layout.Layout.seen_at.Goals as goal

pub nonzero_rem-place : goal.nonzero_rem-place
nonzero_rem-place c = let l = c.args.self.now in some_width c.args.place c.cells.result (cells l) l.threads c.cells.ensures.count c.requires

pub cell_at-x-requires : goal.cell_at-x-requires
cell_at-x-requires c = let l = c.args.self.now in column_below c.args.place c.cells.result (cells l) l.threads c.cells.ensures.count c.requires

pub nonzero_div-result : goal.nonzero_div-result
nonzero_div-result c = let l = c.args.self.now in some_width c.args.place c.cells-2.result (cells l) l.threads c.cells-2.ensures.count c.requires

pub returns-clause-place : goal.returns-clause-place
returns-clause-place c =
    let l = c.args.self.now in
    let e = c.cell_at-x.result in
    place_again c.args.place c.cells-2.result c.cells.result (cells l) (c.args.place / c.cells-2.result + 1 - 1)
    (cell_place l e.0 e.1) c.cells-2.ensures.count c.cells.ensures.count (omega arith) c.cell_at-x.ensures.place
