use Rattle.std.proofs.Common.{◌∙◌, [], ◌∷◌, ◌++◌}
use Rattle.pg_program.specs.Expr.{reads}
use Rattle.pg_program.specs.declared.syntax.Act.TheVariants.{outs-Assign, outs-Cas}
use Rattle.pg_program.specs.Clause.{is_sought}
use Rattle.pg_program.specs.Words.{outside}
use Rattle.pg_program.proofs.ExprLemmas.{outside_at}
use Rattle.pg_program.proofs.FoundLemmas.{found_both}
use Rattle.pg_program.proofs.words.sought_outside.Goals as goal

pub returns-in-Assign : goal.returns-in-Assign
returns-in-Assign c =
    c.or.ensures
    ∙ found_both (is_sought c.args.sought c.args.names.now) _ _ (c.in-Assign.target ∷ []) (reads c.in-Assign.expr) (outside c.args.stmt.now)
    c.if_sought.ensures c.sought_in.ensures
    (outside_at c.args.stmt.now _ _ c.in-Assign.is (outs-Assign c.in-Assign.target c.in-Assign.expr))

pub returns-in-Cas : goal.returns-in-Cas
returns-in-Cas c =
    c.or-in-Cas.ensures
    ∙ found_both (is_sought c.args.sought c.args.names.now) _ _ (c.in-Cas.target ∷ []) (reads c.in-Cas.expected ++ reads c.in-Cas.desired) (outside c.args.stmt.now)
    c.if_sought-in-Cas.ensures c.sought_in_both.ensures
    (outside_at c.args.stmt.now _ _ c.in-Cas.is (outs-Cas c.in-Cas.target c.in-Cas.location c.in-Cas.expected c.in-Cas.desired))
