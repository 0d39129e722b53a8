use Rattle.std.proofs.Common.{◌∙◌, ap, sym, nat_le, arith, option_map}
use Rattle.std.proofs.lemmas.Bool.{le-leb, lt-leb, cond-true, cond-false}
use Rattle.pg_program.specs.Fault.{value_out_of_domain}
use Rattle.pg_program.proofs.ClauseLemmas.{first_outside-drop}
use Rattle.pg_program.proofs.clause.check_initial.Goals as goal

pub returns-then-init-domain : goal.returns-then-init-domain
returns-then-init-domain c =
    let d = c.args.names.now.domain in
    let same = c.domain.ensures in
    let above = c.if-init-domain.true in
    ap (option_map value_out_of_domain)
    (sym c.loop-x.invariant
    ∙ (first_outside-drop d c.args.names.now.locations c.loop-x.x c.init-init.result c.init-init.ensures
    ∙ cond-true (nat_le d c.init-init.result) _ _ (le-leb d c.init-init.result (omega arith))))

pub loop-x-preserved : goal.loop-x-preserved
loop-x-preserved c =
    let d = c.args.names.now.domain in
    let same = c.domain.ensures in
    let below = c.if-init-domain.false in
    sym (first_outside-drop d c.args.names.now.locations c.loop-x.x c.init-init.result c.init-init.ensures
    ∙ cond-false (nat_le d c.init-init.result) _ _ (lt-leb d c.init-init.result (omega arith)))
    ∙ c.loop-x.invariant
