use Rattle.std.proofs.Common.{arith}
use Rattle.pg_region.proofs.Pieces.{pieces-total}
use Rattle.pg_region.proofs.region.Region.words.Goals as goal

pub returns : goal.returns
returns c = rw (← c.self.view_is) (omega (arith, pieces-total c.self.inside.words.items 0 c.self.inside.ends.items _ c.self.invariant.pieces_end (omega arith)))
