use Rattle.std.proofs.Common.{◌∙◌, arith}
use Rattle.pg_outline.proofs.EraseNames.{new_scalar, scalar_room, one_register, one_auxiliary}
use Rattle.pg_outline.proofs.erasure.declare_registers.Goals as goal
use Rattle.pg_outline.proofs.erasure.declare_registers.Goals.{in-Register+in_ok-declare, in_default}

pub declare-requires-clause-absent : goal.declare-requires-clause-absent
declare-requires-clause-absent c = new_scalar c.args.names.now c.requires.names c.loop-r.r c.scalar_name.result.now c.loop-r.kept c.scalar_name.ensures c.loop-r.invariant

pub declare-requires-clause-room : goal.declare-requires-clause-room
declare-requires-clause-room c =
    let count = c.scalars-r-end.ensures.count in
    let few = c.scalars-r-end.ensures.few in
    let here = c.loop-r-test.true in
    scalar_room c.args.names.now c.loop-r.r c.loop-r.kept (omega (arith, here, count)) (omega (arith, count, few)) c.loop-r.invariant

pub loop-r-preserved : goal.loop-r-preserved
loop-r-preserved c =
    let names = c.args.names.now in
    elim c.match-kind.branch [
      | in-Register+in_ok-declare w ↦
          one_register names c.loop-r.r w.in-Register.owner w.scalar_name.result.now c.loop-r.kept c.match-kind.kept w.scalar_name.ensures w.in-Register.ensures c.loop-r.invariant (w.kept-is ∙ w.in_ok-declare.ensures)
      | in_default w ↦ one_auxiliary names c.loop-r.r c.kind.result c.match-kind.kept c.kind.ensures w.in_default.not-Register (w.kept-is ∙ c.loop-r.invariant)
    ]
