use Rattle.std.proofs.Common.{sym, ap, ◌∙◌}
use Rattle.pg_program.specs.Program.{stmt_at}
use Rattle.pg_machine.specs.State.{point_of}
use Rattle.pg_machine.proofs.Formed.{act_scalars}
use Rattle.pg_views.proofs.valuation.holds_step_atom.Goals as goal

pub holds_of_act-requires-clause-scalars : goal.holds_of_act-requires-clause-scalars
holds_of_act-requires-clause-scalars c =
    let p = c.args.p.now in
    let s = c.args.s.now.state in
    let t = c.args.event.thread in
    let stands = ap (stmt_at p t) (sym c.point.ensures) ∙ sym c.in-Some.ensures in
    act_scalars p s c.names.ensures.built c.requires.before t (point_of s t) c.in-Some.stmt.now c.requires.thread.0 c.requires.thread.1 stands
