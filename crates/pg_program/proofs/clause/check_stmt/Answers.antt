use Rattle.std.proofs.Common.{sym, subst}
use Rattle.pg_program.specs.declared.clause.Clause.{Clause}
use Rattle.pg_program.specs.Clause.{clause_of}
use Rattle.pg_program.specs.Outcome.{Finds}
use Rattle.pg_program.proofs.clause.check_stmt.Goals as goal

pub returns-in-NoAuxiliaries : goal.returns-in-NoAuxiliaries
returns-in-NoAuxiliaries c = subst (λ (k : Clause). Finds (clause_of k c.args.names.now c.args.at c.args.stmt.now) c.no_auxiliaries.result) (sym c.in-NoAuxiliaries.is) (c.no_auxiliaries.ensures c.args.at)

pub returns-in-DistinctTargets : goal.returns-in-DistinctTargets
returns-in-DistinctTargets c = subst (λ (k : Clause). Finds (clause_of k c.args.names.now c.args.at c.args.stmt.now) c.distinct_targets.result) (sym c.in-DistinctTargets.is) (c.distinct_targets.ensures c.args.at)

pub returns-in-NumbersInside : goal.returns-in-NumbersInside
returns-in-NumbersInside c = subst (λ (k : Clause). Finds (clause_of k c.args.names.now c.args.at c.args.stmt.now) c.numbers_inside.result) (sym c.in-NumbersInside.is) (c.numbers_inside.ensures c.args.at)

pub returns-in-FewNames : goal.returns-in-FewNames
returns-in-FewNames c = subst (λ (k : Clause). Finds (clause_of k c.args.names.now c.args.at c.args.stmt.now) c.few_names.result) (sym c.in-FewNames.is) (c.few_names.ensures c.args.names.now)
