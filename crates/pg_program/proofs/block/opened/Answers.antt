use Rattle.pg_program.proofs.BlockLemmas.{split-block}
use Rattle.pg_program.proofs.block.opened.Goals as goal

pub returns : goal.returns
returns c =
    split-block c.args.stmts.now c.first_within-first.result.now c.second_within-second.result.now c.in_ok-stmt.rest.now c.in_ok-stmt.stmt.now
    c.in_ok-stmt.ensures c.first_within-first.ensures c.second_within-second.ensures
