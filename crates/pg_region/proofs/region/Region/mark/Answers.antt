use Rattle.std.proofs.Common.{arith}
use Rattle.pg_region.proofs.Pieces.{length-pieces}
use Rattle.pg_region.proofs.region.Region.mark.Goals as goal

pub returns : goal.returns
returns c = rw (← c.self.view_is) (omega (arith, length-pieces c.self.inside.words.items 0 c.self.inside.ends.items))
