use Rattle.std.proofs.Common.{◌∙◌, ap, sym, subst, ℕ, ◌<◌}
use Rattle.pg_program.specs.declared.syntax.Expr.{size-Expr}
use Rattle.pg_program.specs.Expr.{numbers}
use Rattle.pg_program.specs.Fault.{first_outside}
use Rattle.pg_program.proofs.FoundLemmas.{outside_both}
use Rattle.pg_program.proofs.ExprLemmas.{first_smaller, second_smaller, numbers_of_scalar, numbers_of_parts}
use Rattle.pg_program.proofs.expr.+number_outside.Goals as goal

pub number_outside-requires : goal.number_outside-requires
number_outside-requires t c = (subst (λ (n : ℕ). size-Expr c.get.result.now < n) c.decreases (first_smaller c.args.expr.now c.in-Add.a c.in-Add.b c.get.result.now c.in-Add.is c.get.ensures), tt)

pub number_outside-requires-in-Add : goal.number_outside-requires-in-Add
number_outside-requires-in-Add t c = (subst (λ (n : ℕ). size-Expr c.get-in-Add.result.now < n) c.decreases (second_smaller c.args.expr.now c.in-Add.a c.in-Add.b c.get-in-Add.result.now c.in-Add.is c.get-in-Add.ensures), tt)

pub returns-in-Scalar : goal.returns-in-Scalar
returns-in-Scalar t c = sym (ap (first_outside c.args.domain) (numbers_of_scalar c.args.expr.now c.in-Scalar.field-0 c.in-Scalar.is))

pub returns-in-Add : goal.returns-in-Add
returns-in-Add t c =
    c.or.ensures
    ∙ outside_both c.args.domain c.number_outside.result c.number_outside-in-Add.result (numbers c.get.result.now) (numbers c.get-in-Add.result.now) (numbers c.args.expr.now)
    c.number_outside.ensures c.number_outside-in-Add.ensures
    (numbers_of_parts c.args.expr.now c.in-Add.a c.in-Add.b c.get.result.now c.get-in-Add.result.now c.in-Add.is c.get.ensures c.get-in-Add.ensures)
