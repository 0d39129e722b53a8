-- The first number that has a fault gives the fault of the atom.
use Rattle.std.proofs.Common.{◌∙◌, None, Some}
use Rattle.std.proofs.lemmas.Result.{err_from_is_err_and}
use Rattle.pg_outline.proofs.Numbers.{thread_first, value_first, other_first, renumbered_same}
use Rattle.pg_outline.proofs.view.viewed_atom.Goals as goal

pub returns-in_err-t : goal.returns-in_err-t
returns-in_err-t c =
    let p = err_from_is_err_and c.from_residual.result c.from_residual.ensures.1 in
    rw (p.1, p.2) (λ real. thread_first c.args.scope.domain c.args.scope.threads c.args.atom c.numbers_of-numbers.result c.numbers_of-numbers.ensures c.in_err-t.field-0.0 (c.in_err-t.ensures real))

pub returns-in_err-v : goal.returns-in_err-v
returns-in_err-v c =
    let p = err_from_is_err_and c.from_residual-in_err-v.result c.from_residual-in_err-v.ensures.1 in
    rw (p.1, p.2) (λ real. value_first c.args.scope.domain c.args.scope.threads c.args.atom c.numbers_of-numbers.result c.numbers_of-numbers.ensures c.in_err-v.field-0.0 c.in_ok-t.ensures.1 (c.in_err-v.ensures real))

pub returns-in_err-w : goal.returns-in_err-w
returns-in_err-w c =
    let p = err_from_is_err_and c.from_residual-in_err-w.result c.from_residual-in_err-w.ensures.1 in
    rw (p.1, p.2)
    (λ real.
    other_first c.args.scope.domain c.args.scope.threads c.args.atom c.numbers_of-numbers.result c.numbers_of-numbers.ensures (Some c.in_err-w.field-0.0) c.in_ok-t.ensures.1 c.in_ok-v.ensures.1 (c.in_err-w.ensures real))

pub returns : goal.returns
returns c =
    let ns = c.numbers_of-numbers.result in
    let are = c.numbers_of-numbers.ensures in
    let d = c.args.scope.domain in
    let n = c.args.scope.threads in
    let a = c.args.atom in (
      c.placed.ensures ∙ renumbered_same d n a ns are c.in_ok-t.t c.in_ok-v.v c.in_ok-w.w c.in_ok-t.ensures.0 c.in_ok-v.ensures.0 c.in_ok-w.ensures.0,
      other_first d n a ns are None c.in_ok-t.ensures.1 c.in_ok-v.ensures.1 c.in_ok-w.ensures.1,
    )
