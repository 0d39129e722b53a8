use Rattle.pg_assertion.specs.Formula.{plain}
use Rattle.pg_assertion_text.proofs.Again.{whole_crash_read_again}
use Rattle.pg_assertion_text.proofs.print.print_crash.Goals as goal

pub returns-clause-again : goal.returns-clause-again
returns-clause-again c = whole_crash_read_again c.args.names.now (plain c.args.f.now)
