use Rattle.std.proofs.lemmas.Result.{err_from_is_err_and}
use Rattle.pg_assertion.specs.Formula.{plain}
use Rattle.pg_assertion.specs.declared.layout.Side.TheVariants.{Before}
use Rattle.pg_layers.specs.Top.{placed}
use Rattle.pg_layers.proofs.Formulas.{placed-below, after-small}
use Rattle.pg_layers.proofs.Given.{given, definitions-stop, literal-stops}
use Rattle.pg_layers.proofs.top.offer_given.Goals as goal

pub clausify-requires-clause-below : goal.clausify-requires-clause-below
clausify-requires-clause-below g c = placed-below c.args.layout.now Before c.args.next (plain c.args.f.now) c.requires.part.over c.requires.new

pub clausify-requires-clause-few : goal.clausify-requires-clause-few
clausify-requires-clause-few g c = after-small c.args.layout.now Before c.args.next (plain c.args.f.now) c.requires.part c.requires.few

pub returns-in_err-literal : goal.returns-in_err-literal
returns-in_err-literal g c =
    let p = err_from_is_err_and c.from_residual.result c.from_residual.ensures.1 in
    rw p.1 (definitions-stop g.S.ClauseSink.takes _ _ c.args.next c.clausify.new.fresh (placed c.args.layout.now Before (plain c.args.f.now)) c.in_err-literal.ensures)

pub returns-in_err-clause : goal.returns-in_err-clause
returns-in_err-clause g c =
    let p = err_from_is_err_and c.from_residual-in_err-clause.result c.from_residual-in_err-clause.ensures.1 in
    rw p.1 (literal-stops g.S.ClauseSink.takes _ _ _ c.args.next c.clausify.new.fresh (placed c.args.layout.now Before (plain c.args.f.now)) c.in_ok-literal.literal c.in_ok-literal.ensures c.in_err-clause.ensures)

pub returns : goal.returns
returns g c =
    given g.S.ClauseSink.takes _ _ _ c.args.layout.now c.args.next c.clausify.new.fresh (plain c.args.f.now) c.in_ok-literal.literal c.requires.part c.in_ok-literal.ensures c.in_ok-clause.ensures
