-- The lines of the program's fresh state are those of what is given of it.
use Rattle.pg_report.proofs.FreshLines.{fresh_are}
use Rattle.pg_report.proofs.fresh.append_fresh.Goals as goal

pub returns : goal.returns
returns c = rw (fresh_are c.args.o.now.program, ← c.program.ensures.program) c.append_program.ensures
