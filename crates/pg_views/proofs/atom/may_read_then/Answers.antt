use Rattle.std.proofs.Common.{sym, ◌∙◌}
use Rattle.pg_machine.specs.State.{coh_of}
use Rattle.pg_machine.specs.Moves.{load_seen}
use Rattle.pg_machine.specs.Step.{seen_by}
use Rattle.pg_views.proofs.Below.{shown-same, first-same}
use Rattle.pg_views.proofs.Loads.{then-first, then-none}
use Rattle.pg_views.proofs.atom.may_read_then.Goals as goal

pub returns-in-Some : goal.returns-in-Some
returns-in-Some c =
    let m = c.args.s.now.state.memory in
    let n = seen_by c.args.s.now.state c.args.t in
    let x = c.args.x in
    let y = c.args.y in
    let p = c.in-Some.position in
    let w = load_seen n.views x p in
    let first = first-same c.memory.result.now.memory m x (coh_of n.views x) n.views.vrn c.readable.result.location c.readable.result.from c.readable.result.upto c.args.v p c.memory.ensures.memory c.readable.ensures.location c.readable.ensures.from c.readable.ensures.upto c.in-Some.ensures in
    let shown = shown-same c.memory-in-Some.result.now.memory m y (coh_of w y) w.vrn c.readable_after.result.location c.readable_after.result.from c.readable_after.result.upto c.args.w c.memory-in-Some.ensures.memory c.readable_after.ensures.location c.readable_after.ensures.from c.readable_after.ensures.upto in
    c.is_shown.ensures ∙ (shown ∙ then-first n x c.args.v y c.args.w p first)

pub returns-in-None : goal.returns-in-None
returns-in-None c =
    let m = c.args.s.now.state.memory in
    let n = seen_by c.args.s.now.state c.args.t in
    let x = c.args.x in
    let shown = shown-same c.memory.result.now.memory m x (coh_of n.views x) n.views.vrn c.readable.result.location c.readable.result.from c.readable.result.upto c.args.v c.memory.ensures.memory c.readable.ensures.location c.readable.ensures.from c.readable.ensures.upto in
    sym (then-none n x c.args.v c.args.y c.args.w (sym shown ∙ c.in-None.ensures))
