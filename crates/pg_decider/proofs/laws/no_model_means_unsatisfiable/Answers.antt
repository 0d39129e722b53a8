use Rattle.pg_decider.proofs.Sound.{no-model}
use Rattle.pg_decider.proofs.laws.no_model_means_unsatisfiable.Goals as goal

pub returns : goal.returns
returns c = no-model
