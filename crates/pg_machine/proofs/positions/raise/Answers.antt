use Rattle.std.proofs.Common.{ℕ, max, List, get_or, set, ap, ◌∙◌, arith}
use Rattle.pg_machine.proofs.Scan.{raised-next, raised-all}
use Rattle.pg_machine.proofs.positions.raise.Goals as goal

pub loop-i-preserved : goal.loop-i-preserved
loop-i-preserved c =
    let i = c.loop-i.i in
    let ps = c.args.positions.now in
    let qs = c.args.others.now in
    ap (λ (n : ℕ). set c.loop-i.positions i n) c.max.ensures
    ∙ (ap (λ (l : List ℕ). set l i (max (get_or l i 0) (get_or qs i 0))) c.loop-i.invariant ∙ raised-next i ps qs (omega arith) c.requires)

pub returns : goal.returns
returns c = c.loop-i.invariant ∙ raised-all c.loop-i.i c.args.positions.now c.args.others.now (omega arith)
