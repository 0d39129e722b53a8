-- What an outcome says of an outline is true.
use Rattle.pg_judge.specs.Outcome.{accepted, rejected, spent}
use Rattle.pg_judge.specs.Laws.{OutcomeIsTrue}
use Rattle.pg_judge.proofs.Accepted.{accepted-proved}
use Rattle.pg_judge.proofs.Rejected.{rejected-refuted}

pub outcome-true : OutcomeIsTrue
outcome-true o budget (accepted count nodes) made few a = accepted-proved o budget count nodes made few a
outcome-true o budget (rejected i truths) made few a = rejected-refuted o budget i truths made a
outcome-true o budget (spent i) made few a = tt
