use Rattle.std.proofs.Common.{arith}
use Rattle.pg_made.proofs.Outlines.{is_writable}
use Rattle.pg_made.proofs.outline.made.Goals as goal

pub returns-clause-writable : goal.returns-clause-writable
returns-clause-writable c = is_writable c.args.n (omega (arith, c.requires.to))
