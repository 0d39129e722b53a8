use Rattle.pg_outline.proofs.EraseLaws.{erasure_is_bare}
use Rattle.pg_outline.proofs.laws.an_erasure_is_bare.Goals as goal

pub returns : goal.returns
returns c = erasure_is_bare
