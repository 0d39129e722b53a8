use Rattle.std.proofs.Common.{[], ◌∷◌, subst}
use Rattle.std.proofs.lemmas.Result.{err_from_is_err_and}
use Rattle.pg_region.specs.Literal.{Literal}
use Rattle.pg_region.specs.Sink.{Stopped}
use Rattle.pg_tables.proofs.Sinks.{Stopped-one}
use Rattle.pg_clauses.proofs.node.constant.Goals as goal

pub returns-in_err-clause : goal.returns-in_err-clause
returns-in_err-clause g c =
    let takes = g.S.ClauseSink.takes in
    let p = err_from_is_err_and c.from_residual.result c.from_residual.ensures.1 in
    rw p.1 (subst (λ (l : Literal). Stopped takes (g.S.ClauseSink.view c.args.into.now) (g.S.ClauseSink.view c.clause.new.self) ((l ∷ []) ∷ [])) c.of.ensures
    (Stopped-one takes _ _ (c.of.result ∷ []) c.in_err-clause.ensures))
