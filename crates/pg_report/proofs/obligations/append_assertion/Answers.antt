-- What an assertion of the outline speaks of is declared.
use Rattle.pg_assertion.specs.Formula.{plain}
use Rattle.pg_report.proofs.Names.{assertion_declared}
use Rattle.pg_report.proofs.obligations.append_assertion.Goals as goal

pub print_formula-requires : goal.print_formula-requires
print_formula-requires c =
    rw (c.names.ensures.names, c.program.ensures.program) (assertion_declared c.args.o.now.program (plain c.args.f.now) c.requires)
