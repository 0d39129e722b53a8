use Rattle.std.proofs.Common.{subst}
use Rattle.pg_assertion.specs.declared.atom.ViewAtom.TheVariants.{Persist, Async}
use Rattle.pg_assertion.specs.Layout.{IsAtom}
use Rattle.pg_rules_persist.proofs.rows.ActRowsRowsViewAtom.offer_at.Goals as goal

pub offer_at-requires : goal.offer_at-requires
offer_at-requires g c =
    let l = c.args.setting.now.layout in
    let h : IsAtom l (Persist c.in-Persist.x c.in-Persist.v) = subst (IsAtom l) c.in-Persist.is c.requires.1 in
    (c.requires.0, h, c.persist.ensures.within l c.requires.2 h.0 h.1)

pub offer_at-requires-in-Async : goal.offer_at-requires-in-Async
offer_at-requires-in-Async g c =
    let l = c.args.setting.now.layout in
    let h : IsAtom l (Async c.in-Async.t c.in-Async.x c.in-Async.v) = subst (IsAtom l) c.in-Async.is c.requires.1 in
    (c.requires.0, h, c.pending.ensures.within l c.requires.2 h.0 h.1 h.2)
