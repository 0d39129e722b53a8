use Rattle.std.proofs.Common.{refl, [], ◌∷◌}
use Rattle.std.proofs.lemmas.Result.{err_from_is_err_and}
use Rattle.pg_tables.proofs.Sinks.{Appended-then, Appended-one, Stopped-one, Stopped-first, Emitted-one}
use Rattle.pg_clauses.proofs.Emitted.{Emitted-later}
use Rattle.pg_clauses.proofs.node.three.Goals as goal

pub returns-in_err-clause : goal.returns-in_err-clause
returns-in_err-clause g c =
    let takes = g.S.ClauseSink.takes in
    let p = err_from_is_err_and c.from_residual.result c.from_residual.ensures.1 in
    rw p.1 (Stopped-first takes _ _ (c.args.first.now ∷ []) (c.args.second.now ∷ c.args.third.now ∷ []) (Stopped-one takes _ _ c.args.first.now c.in_err-clause.ensures))

pub returns : goal.returns
returns g c =
    let takes = g.S.ClauseSink.takes in
    let first = c.args.first.now in
    let second = c.args.second.now in
    let third = c.args.third.now in
    Emitted-later takes _ _ _ _ (first ∷ second ∷ []) (third ∷ [])
    (Appended-then _ _ _ (first ∷ []) (second ∷ []) (Appended-one takes _ _ first c.in_ok-clause.ensures) (Appended-one takes _ _ second c.in_ok-clause-2.ensures))
    (Emitted-one takes _ _ _ third third refl c.clause-3.ensures)
