use Rattle.std.proofs.Common.{◌<◌, ℕ, length, arith}
use Rattle.std.proofs.lemmas.List.Elements.{All-set}
use Rattle.pg_machine.proofs.Uses.{value-below, cas_uses, cas_location}
use Rattle.pg_machine.proofs.row.read.Goals as goal

pub eval-other-requires-clause-names : goal.eval-other-requires-clause-names
eval-other-requires-clause-names c = (cas_uses (length c.args.scalars.now) c.args.act.now c.in-Cas.target c.in-Cas.location c.in-Cas.expected c.in-Cas.desired c.in-Cas.is c.requires.scalars).expected

pub miss-requires-clause-coh : goal.miss-requires-clause-coh
miss-requires-clause-coh c =
    let low = cas_location (length c.args.memory.now.memory.initial) c.args.act.now c.in-Cas.target c.in-Cas.location c.in-Cas.expected c.in-Cas.desired c.in-Cas.is c.requires.locations in
    let size = c.requires.sizes.coh in
    omega (arith, low, size)

pub miss-requires-clause-location : goal.miss-requires-clause-location
miss-requires-clause-location c = cas_location (length c.args.memory.now.memory.initial) c.args.act.now c.in-Cas.target c.in-Cas.location c.in-Cas.expected c.in-Cas.desired c.in-Cas.is c.requires.locations

pub bounds-scalars-from-in-Cas : goal.bounds-scalars-from-in-Cas
bounds-scalars-from-in-Cas c =
    let low = (cas_uses (length c.args.scalars.now) c.args.act.now c.in-Cas.target c.in-Cas.location c.in-Cas.expected c.in-Cas.desired c.in-Cas.is c.requires.scalars).target in
    let is = c.from-in-Cas.ensures in
    omega (arith, low, is)

pub returns-in_ok-value-in-Load-clause-values : goal.returns-in_ok-value-in-Load-clause-values
returns-in_ok-value-in-Load-clause-values c =
    let is = c.in_ok-value-in-Load.ensures.ok.2 in
    let some = c.requires.domain.0 in
    let low = value-below c.args.domain c.args.memory.now.memory c.in-Load.location c.args.position (omega (arith, some)) c.requires.stored.initial c.requires.stored.messages in
    All-set (λ (v : ℕ). v < c.args.domain) c.args.scalars.now c.from.result c.in_ok-value-in-Load.value (omega (arith, is, low)) c.requires.values

pub returns-in_ok-value-in-Cas-clause-values : goal.returns-in_ok-value-in-Cas-clause-values
returns-in_ok-value-in-Cas-clause-values c =
    let is = c.in_ok-value-in-Cas.ensures.ok.3 in
    let some = c.requires.domain.0 in
    let low = value-below c.args.domain c.args.memory.now.memory c.in-Cas.location c.args.position (omega (arith, some)) c.requires.stored.initial c.requires.stored.messages in
    All-set (λ (v : ℕ). v < c.args.domain) c.args.scalars.now c.from-in-Cas.result c.in_ok-value-in-Cas.value (omega (arith, is, low)) c.requires.values
