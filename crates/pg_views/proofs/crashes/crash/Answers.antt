use Rattle.std.proofs.Common.{length, Err, ap, ◌∙◌}
use Rattle.pg_views.proofs.Found.{values_at-length}
use Rattle.pg_views.proofs.CrashFaults.{crash_fault-one, crash_fault-no_choice}
use Rattle.pg_views.proofs.crashes.crash.Goals as goal

pub returns-in-Some-clause-exact : goal.returns-in-Some-clause-exact
returns-in-Some-clause-exact c = λ f is. ap (λ g. Err g) (crash_fault-one c.args.s.now.state c.args.at.now c.in-Some.fault f c.in-Some.ensures is)

pub returns-in-Some-clause-complete : goal.returns-in-Some-clause-complete
returns-in-Some-clause-complete c = λ is. absurd (crash_fault-no_choice c.args.s.now.state c.args.at.now c.in-Some.fault c.in-Some.ensures is)

pub returns-in-Ok-clause-exact : goal.returns-in-Ok-clause-exact
returns-in-Ok-clause-exact c = λ f is. absurd (crash_fault-no_choice c.args.s.now.state c.args.at.now f is c.in_default.ensures)

pub returns-in-Err-clause-exact : goal.returns-in-Err-clause-exact
returns-in-Err-clause-exact c = λ f is. absurd (crash_fault-no_choice c.args.s.now.state c.args.at.now f is c.in_default.ensures)

pub returns-in-Ok-clause-size : goal.returns-in-Ok-clause-size
returns-in-Ok-clause-size c =
    ap length c.in-Ok.ensures ∙ (values_at-length c.args.s.now.state.memory 0 c.args.at.now ∙ c.in_default.ensures.size)
