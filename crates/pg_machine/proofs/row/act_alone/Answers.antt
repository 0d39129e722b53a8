use Rattle.std.proofs.Common.{None, length, refl, arith}
use Rattle.std.proofs.lemmas.Result.{err_from_is_err_and}
use Rattle.pg_machine.specs.StepParts.{seen_in}
use Rattle.pg_machine.proofs.Uses.{cas_refusal, cas_uses, cas_location, store_uses, store_location}
use Rattle.pg_machine.proofs.row.act_alone.Goals as goal

pub eval-last-requires-clause-names : goal.eval-last-requires-clause-names
eval-last-requires-clause-names c = (cas_uses (length c.args.scalars.now) c.args.act.now c.in-Cas.target c.in-Cas.location c.in-Cas.expected c.in-Cas.desired c.in-Cas.is c.requires.scalars).expected

pub eval-next-requires-clause-names : goal.eval-next-requires-clause-names
eval-next-requires-clause-names c = (cas_uses (length c.args.scalars.now) c.args.act.now c.in-Cas.target c.in-Cas.location c.in-Cas.expected c.in-Cas.desired c.in-Cas.is c.requires.scalars).desired

pub swap-requires-clause-coh : goal.swap-requires-clause-coh
swap-requires-clause-coh c =
    let low = cas_location (length c.args.memory.now.memory.initial) c.args.act.now c.in-Cas.target c.in-Cas.location c.in-Cas.expected c.in-Cas.desired c.in-Cas.is c.requires.locations in
    let size = c.requires.sizes.coh in
    omega (arith, low, size)

pub swap-requires-clause-location : goal.swap-requires-clause-location
swap-requires-clause-location c = cas_location (length c.args.memory.now.memory.initial) c.args.act.now c.in-Cas.target c.in-Cas.location c.in-Cas.expected c.in-Cas.desired c.in-Cas.is c.requires.locations

pub bounds-scalars-from : goal.bounds-scalars-from
bounds-scalars-from c =
    let low = (cas_uses (length c.args.scalars.now) c.args.act.now c.in-Cas.target c.in-Cas.location c.in-Cas.expected c.in-Cas.desired c.in-Cas.is c.requires.scalars).target in
    let is = c.from.ensures in
    omega (arith, low, is)

pub eval-value-requires-clause-names : goal.eval-value-requires-clause-names
eval-value-requires-clause-names c = store_uses (length c.args.scalars.now) c.args.act.now c.in-Store.location c.in-Store.expr c.in-Store.is c.requires.scalars

pub store-requires : goal.store-requires
store-requires c =
    let low = store_location (length c.args.memory.now.memory.initial) c.args.act.now c.in-Store.location c.in-Store.expr c.in-Store.is c.requires.locations in
    let size = c.requires.sizes.coh in
    omega (arith, low, size)

pub returns-in_err-swap-in-Cas-clause-err : goal.returns-in_err-swap-in-Cas-clause-err
returns-in_err-swap-in-Cas-clause-err c =
    let q = err_from_is_err_and c.from_residual.result c.from_residual.ensures.1 in
    rw (q.1, q.2)
    (cas_refusal c.args.domain (seen_in c.args.memory.now c.args.views.now) c.args.scalars.now c.args.act.now None c.in-Cas.target c.in-Cas.location c.in-Cas.expected c.in-Cas.desired
    c.eval-last.result c.args.memory.now.spare c.in_err-swap-in-Cas.field-0.0 c.in-Cas.is refl c.eval-last.ensures.value c.in_err-swap-in-Cas.ensures.err)
