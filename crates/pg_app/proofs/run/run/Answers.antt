-- What the ending of a call says of its status and of what was written.
use Rattle.std.proofs.Common.{refl, Some}
use Rattle.pg_app.specs.Line.{usage}
use Rattle.pg_app.specs.Command.{asked}
use Rattle.pg_app.proofs.Endings.{ends_in_range, ends_unread, ends_unwritten, ends_defined, ends_part, ends_complete, ends_long, ends_shaped, ends_safe, ends_denied, usage_in_range, usage_written}
use Rattle.pg_app.proofs.OneAnswer.{one_answer}
use Rattle.pg_app.proofs.run.run.Goals as goal

pub returns-in-Some-clause-range : goal.returns-in-Some-clause-range
returns-in-Some-clause-range g c = ends_in_range (Some (asked c.in-Some.command)) c.perform.ensures.ends

pub returns-in-Some-clause-read_fault : goal.returns-in-Some-clause-read_fault
returns-in-Some-clause-read_fault g c = λ is. rw (← c.in-Some.ensures.asked) (ends_unread (Some (asked c.in-Some.command)) c.perform.ensures.ends is).0

pub returns-in-Some-clause-nothing_read : goal.returns-in-Some-clause-nothing_read
returns-in-Some-clause-nothing_read g c = λ is. (ends_unread (Some (asked c.in-Some.command)) c.perform.ensures.ends is).1

pub returns-in-Some-clause-write_fault : goal.returns-in-Some-clause-write_fault
returns-in-Some-clause-write_fault g c = λ is. ends_unwritten (Some (asked c.in-Some.command)) c.perform.ensures.ends is

pub returns-in-Some-clause-too_long : goal.returns-in-Some-clause-too_long
returns-in-Some-clause-too_long g c = λ is. rw (← c.in-Some.ensures.asked) (ends_long (Some (asked c.in-Some.command)) c.perform.ensures.ends is)

pub returns-in-Some-clause-usage : goal.returns-in-Some-clause-usage
returns-in-Some-clause-usage g c = λ is. absurd (ends_shaped (asked c.in-Some.command) c.perform.ensures.ends is)

pub returns-in-Some-clause-part : goal.returns-in-Some-clause-part
returns-in-Some-clause-part g c = λ known cut. ends_part c.args.words.now (rw c.in-Some.ensures.asked at c.perform.ensures.ends) known

pub returns-in-Some-clause-defined : goal.returns-in-Some-clause-defined
returns-in-Some-clause-defined g c = λ known answer. ends_defined c.args.words.now (rw c.in-Some.ensures.asked at c.perform.ensures.ends) known answer

pub returns-in-Some-clause-complete : goal.returns-in-Some-clause-complete
returns-in-Some-clause-complete g c = λ known quiet calm. ends_complete c.args.words.now (rw c.in-Some.ensures.asked at c.perform.ensures.ends) known quiet calm

pub returns-in-None-clause-range : goal.returns-in-None-clause-range
returns-in-None-clause-range g c = usage_in_range usage c.put_line.ensures

pub returns-in-None-clause-usage : goal.returns-in-None-clause-usage
returns-in-None-clause-usage g c = λ is_usage. (rw (← c.in-None.ensures.asked) refl, usage_written usage c.put_line.ensures is_usage)

pub returns-in-Some-clause-only : goal.returns-in-Some-clause-only
returns-in-Some-clause-only g c = one_answer c.a_derivation_has_one_answer.ensures c.args.words.now _

pub returns-in-None-clause-only : goal.returns-in-None-clause-only
returns-in-None-clause-only g c = one_answer c.a_derivation_has_one_answer.ensures c.args.words.now _

pub returns-in-Some-clause-safe : goal.returns-in-Some-clause-safe
returns-in-Some-clause-safe g c = λ is_zero. rw (← c.in-Some.ensures.asked) (ends_safe (asked c.in-Some.command) c.perform.ensures.ends is_zero)

pub returns-in-Some-clause-denied : goal.returns-in-Some-clause-denied
returns-in-Some-clause-denied g c = λ is_one. rw (← c.in-Some.ensures.asked) (ends_denied (asked c.in-Some.command) c.perform.ensures.ends is_one)
