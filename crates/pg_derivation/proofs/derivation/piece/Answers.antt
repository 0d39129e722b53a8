use Rattle.std.proofs.Common.{arith}
use Rattle.pg_region.proofs.Pieces.{ends-at}
use Rattle.pg_derivation.proofs.derivation.piece.Goals as goal

pub slice_bounds-result-count : goal.slice_bounds-result-count
slice_bounds-result-count c = rw c.end_of-from.ensures (ends-at 0 c.args.ends.now _ c.args.place c.requires.ends c.requires.place).0

pub slice_bounds-result-start : goal.slice_bounds-result-start
slice_bounds-result-start c =
    let b = ends-at 0 c.args.ends.now _ c.args.place c.requires.ends c.requires.place in
    omega (arith, b.0, b.1, c.end_of-from.ensures)

pub slice_bounds-result-end : goal.slice_bounds-result-end
slice_bounds-result-end c =
    let b = ends-at 0 c.args.ends.now _ c.args.place c.requires.ends c.requires.place in
    omega (arith, b.0, b.1, c.end_of-from.ensures)
