-- The names of the question are those of the program.
use Rattle.pg_assertion.specs.Formula.{plain}
use Rattle.pg_walk.proofs.Declared.{names_declared}
use Rattle.pg_walk.proofs.asked.Goals as goal

pub returns-clause-over : goal.returns-clause-over
returns-clause-over c =
    let found = rw c.names.ensures.names at c.in_ok-f.ensures.found in
    c.asked_by.ensures.over (names_declared c.args.program.now.names c.make-lexer.result c.parse_formula.new.lexer (plain c.in_ok-f.f) c.formulas_are_within.ensures found)
