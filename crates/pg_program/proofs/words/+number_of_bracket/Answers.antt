use Rattle.std.proofs.Common.{◌∙◌, ap}
use Rattle.pg_program.specs.Expr.{numbers}
use Rattle.pg_program.specs.Words.{bracket_numbers}
use Rattle.pg_program.proofs.FoundLemmas.{outside_both, rest_shorter}
use Rattle.pg_program.proofs.words.+number_of_bracket.Goals as goal

pub number_of_bracket-requires : goal.number_of_bracket-requires
number_of_bracket-requires t c = (rest_shorter c.args.aux.now c.in_ok-assign.rest.now c.in_ok-assign.assign.now t c.in_ok-assign.ensures c.decreases, tt)

pub returns : goal.returns
returns t c =
    c.or.ensures
    ∙ outside_both c.args.domain _ _ (numbers c.in_ok-assign.assign.now.expr) (bracket_numbers c.in_ok-assign.rest.now) (bracket_numbers c.args.aux.now)
    c.number_outside.ensures
    c.number_of_bracket.ensures
    (ap bracket_numbers c.in_ok-assign.ensures)
