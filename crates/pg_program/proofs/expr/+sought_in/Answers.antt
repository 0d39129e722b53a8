use Rattle.std.proofs.Common.{◌∙◌, ap, sym, subst, ℕ, ◌<◌}
use Rattle.std.specs.List.{find}
use Rattle.pg_program.specs.declared.syntax.Expr.{size-Expr}
use Rattle.pg_program.specs.Expr.{reads}
use Rattle.pg_program.specs.Clause.{is_sought}
use Rattle.pg_program.proofs.FoundLemmas.{found_both}
use Rattle.pg_program.proofs.ExprLemmas.{first_smaller, second_smaller, reads_of_value, reads_of_scalar, reads_of_parts}
use Rattle.pg_program.proofs.expr.+sought_in.Goals as goal

pub sought_in-requires : goal.sought_in-requires
sought_in-requires t c = (subst (λ (n : ℕ). size-Expr c.get.result.now < n) c.decreases (first_smaller c.args.expr.now c.in-Add.a c.in-Add.b c.get.result.now c.in-Add.is c.get.ensures), tt)

pub sought_in-requires-in-Add : goal.sought_in-requires-in-Add
sought_in-requires-in-Add t c = (subst (λ (n : ℕ). size-Expr c.get-in-Add.result.now < n) c.decreases (second_smaller c.args.expr.now c.in-Add.a c.in-Add.b c.get-in-Add.result.now c.in-Add.is c.get-in-Add.ensures), tt)

pub returns-in-Value : goal.returns-in-Value
returns-in-Value t c = sym (ap (find (is_sought c.args.sought c.args.names.now)) (reads_of_value c.args.expr.now c.in-Value.field-0 c.in-Value.is))

pub returns-in-Scalar : goal.returns-in-Scalar
returns-in-Scalar t c = c.if_sought.ensures ∙ sym (ap (find (is_sought c.args.sought c.args.names.now)) (reads_of_scalar c.args.expr.now c.in-Scalar.r c.in-Scalar.is))

pub returns-in-Add : goal.returns-in-Add
returns-in-Add t c =
    c.or.ensures
    ∙ found_both (is_sought c.args.sought c.args.names.now) c.sought_in.result c.sought_in-in-Add.result (reads c.get.result.now) (reads c.get-in-Add.result.now) (reads c.args.expr.now)
    c.sought_in.ensures c.sought_in-in-Add.ensures
    (reads_of_parts c.args.expr.now c.in-Add.a c.in-Add.b c.get.result.now c.get-in-Add.result.now c.in-Add.is c.get.ensures c.get-in-Add.ensures)
