use Rattle.pg_program.specs.Block.{block}
use Rattle.pg_program.specs.Graph.{size}
use Rattle.pg_program.proofs.graph.+link.Given as goal

-- each call has fewer statements
abbrev pub decreases-link : goal.decreases-link
decreases-link l = size (block l.stmts.now)
