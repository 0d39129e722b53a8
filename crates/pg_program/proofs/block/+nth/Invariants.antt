use Rattle.pg_program.specs.Block.{block}
use Rattle.pg_program.specs.Graph.{size}
use Rattle.pg_program.proofs.block.+nth.Given as goal

-- each call has fewer statements
abbrev pub decreases-nth : goal.decreases-nth
decreases-nth l = size (block l.stmts.now)
