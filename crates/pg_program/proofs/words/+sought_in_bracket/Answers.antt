use Rattle.std.proofs.Common.{◌∙◌, ap, refl, [], ◌∷◌}
use Rattle.pg_program.specs.Expr.{reads}
use Rattle.pg_program.specs.Clause.{is_sought}
use Rattle.pg_program.specs.Words.{bracket_scalars}
use Rattle.pg_program.proofs.FoundLemmas.{found_both, rest_shorter}
use Rattle.pg_program.proofs.words.+sought_in_bracket.Goals as goal

pub sought_in_bracket-requires : goal.sought_in_bracket-requires
sought_in_bracket-requires t c = (rest_shorter c.args.aux.now c.in_ok-assign.rest.now c.in_ok-assign.assign.now t c.in_ok-assign.ensures c.decreases, tt)

pub returns : goal.returns
returns t c =
    let p = is_sought c.args.sought c.args.names.now in
    let a = c.in_ok-assign.assign.now in
    c.or-2.ensures
    ∙ found_both p _ _ (a.target ∷ reads a.expr) (bracket_scalars c.in_ok-assign.rest.now) (bracket_scalars c.args.aux.now)
    (c.or.ensures ∙ found_both p _ _ (a.target ∷ []) (reads a.expr) (a.target ∷ reads a.expr) c.if_sought.ensures c.sought_in.ensures refl)
    c.sought_in_bracket.ensures
    (ap bracket_scalars c.in_ok-assign.ensures)
