use Rattle.std.proofs.Common.{◌∙◌, ap, sym, subst, ℕ, ◌<◌, ◌++◌}
use Rattle.pg_program.specs.declared.syntax.Expr.{size-Expr}
use Rattle.pg_program.specs.Expr.{reads}
use Rattle.pg_program.proofs.AppendLemmas.{owes_nothing, append_none, append_both}
use Rattle.pg_program.proofs.ExprLemmas.{first_smaller, second_smaller, reads_of_value, reads_of_scalar, reads_of_parts}
use Rattle.pg_program.proofs.expr.+append_reads.Goals as goal

pub returns-in_err-push-in-Scalar : goal.returns-in_err-push-in-Scalar
returns-in_err-push-in-Scalar t c = owes_nothing c.from_residual.result _ c.from_residual.ensures.0

pub append_reads-requires : goal.append_reads-requires
append_reads-requires t c = (subst (λ (n : ℕ). size-Expr c.get.result.now < n) c.decreases (first_smaller c.args.expr.now c.in-Add.a c.in-Add.b c.get.result.now c.in-Add.is c.get.ensures), tt)

pub returns-in_err-append_reads-in-Add : goal.returns-in_err-append_reads-in-Add
returns-in_err-append_reads-in-Add t c = owes_nothing c.from_residual-in_err-append_reads-in-Add.result _ c.from_residual-in_err-append_reads-in-Add.ensures.0

pub append_reads-requires-in-Add : goal.append_reads-requires-in-Add
append_reads-requires-in-Add t c = (subst (λ (n : ℕ). size-Expr c.get-in-Add.result.now < n) c.decreases (second_smaller c.args.expr.now c.in-Add.a c.in-Add.b c.get-in-Add.result.now c.in-Add.is c.get-in-Add.ensures), tt)

pub returns-in-Value : goal.returns-in-Value
returns-in-Value t c = append_none c.args.into.now.items (reads c.args.expr.now) (reads_of_value c.args.expr.now c.in-Value.field-0 c.in-Value.is)

pub returns-in_ok-push-in-Scalar : goal.returns-in_ok-push-in-Scalar
returns-in_ok-push-in-Scalar t c =
    c.in_ok-push-in-Scalar.ensures.items ∙ ap (λ l. c.args.into.now.items ++ l) (sym (reads_of_scalar c.args.expr.now c.in-Scalar.r c.in-Scalar.is))

pub returns-in_ok-append_reads-in-Add : goal.returns-in_ok-append_reads-in-Add
returns-in_ok-append_reads-in-Add t c =
    append_both c.append_reads-in-Add.result c.args.into.now.items c.append_reads.new.into.items c.append_reads-in-Add.new.into.items
    (reads c.get.result.now) (reads c.get-in-Add.result.now) (reads c.args.expr.now) c.in_ok-append_reads-in-Add.ensures
    (reads_of_parts c.args.expr.now c.in-Add.a c.in-Add.b c.get.result.now c.get-in-Add.result.now c.in-Add.is c.get.ensures c.get-in-Add.ensures)
    c.append_reads-in-Add.ensures
