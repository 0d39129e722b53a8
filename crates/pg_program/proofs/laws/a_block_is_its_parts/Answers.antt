use Rattle.pg_program.proofs.BlockLemmas.{block-nests}
use Rattle.pg_program.proofs.laws.a_block_is_its_parts.Goals as goal

pub returns : goal.returns
returns c = block-nests
