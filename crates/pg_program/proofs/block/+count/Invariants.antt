use Rattle.pg_program.specs.Block.{block}
use Rattle.pg_program.specs.Graph.{size}
use Rattle.pg_program.proofs.block.+count.Given as goal

-- each call has fewer statements
abbrev pub decreases-count : goal.decreases-count
decreases-count l = size (block l.stmts.now)
