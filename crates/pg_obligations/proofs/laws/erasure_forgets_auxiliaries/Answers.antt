use Rattle.pg_obligations.proofs.ErasedRuns.{executions_are_erased, erased_executions_are_of}
use Rattle.pg_obligations.proofs.laws.erasure_forgets_auxiliaries.Goals as goal

pub returns : goal.returns
returns c = record { each = executions_are_erased; no_other = erased_executions_are_of }
