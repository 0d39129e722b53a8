use Rattle.std.proofs.Common.{arith, ◌≤◌, length, sym, ap, ◌∙◌}
use Rattle.std.proofs.lemmas.List.{length-set}
use Rattle.pg_program.specs.Words.{is_in}
use Rattle.pg_rules_access.proofs.TupleLists.{more_read, more_unread}
use Rattle.pg_rules_access.proofs.tuples.in_order.Goals.{then-reads, else-reads}
use Rattle.pg_rules_access.proofs.tuples.in_order.Goals as goal

pub loop-r-preserved : goal.loop-r-preserved
loop-r-preserved g c =
    let v = c.loop-r.invariant in
    let few : c.args.layout.now.scalars ≤ 16 = c.scalars-r-end.ensures.limits.few_scalars in
    let long = v.0 in
    let behind = v.1 in
    elim c.if-reads.branch [
      | then-reads w ↦ (
        ap length w.names-is ∙ (length-set _ _ _ ∙ v.0),
        omega (arith, behind, w.count-is),
        more_read (λ r. is_in r (g.T.Says.reads c.args.says.now)) c.loop-r.names c.if-reads.names c.loop-r.count c.if-reads.count c.loop-r.r
            (omega (arith, few, long, behind)) v.2 (sym c.reads.ensures ∙ w.if-reads.true) w.names-is w.count-is,
      )
      | else-reads w ↦ (
        ap length w.names-is ∙ v.0,
        omega (arith, behind, w.count-is),
        more_unread (λ r. is_in r (g.T.Says.reads c.args.says.now)) c.loop-r.names c.if-reads.names c.loop-r.count c.if-reads.count c.loop-r.r
            v.2 (sym c.reads.ensures ∙ w.if-reads.false) w.names-is w.count-is,
      )
    ]
