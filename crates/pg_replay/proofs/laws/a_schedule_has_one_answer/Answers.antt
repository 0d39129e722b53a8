use Rattle.pg_replay.proofs.Decided.{has_answer}
use Rattle.pg_replay.proofs.OneAnswer.{one_answer}
use Rattle.pg_replay.proofs.laws.a_schedule_has_one_answer.Goals as goal

pub returns-clause-some : goal.returns-clause-some
returns-clause-some c = λ o lines. let h = has_answer o lines in (h.answer, (h.trace, h.is))

pub returns-clause-one : goal.returns-clause-one
returns-clause-one c = one_answer
