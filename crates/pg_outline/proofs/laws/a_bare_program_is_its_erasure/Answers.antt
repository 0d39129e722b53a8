use Rattle.pg_outline.proofs.EraseLaws.{bare_stays}
use Rattle.pg_outline.proofs.laws.a_bare_program_is_its_erasure.Goals as goal

pub returns : goal.returns
returns c = bare_stays
