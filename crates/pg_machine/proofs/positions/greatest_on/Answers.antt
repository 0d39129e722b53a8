use Rattle.std.proofs.Common.{◌≡◌, Bool, max, cond, ◌==◌, get_or, sym, ap, ◌∙◌, arith}
use Rattle.std.proofs.lemmas.Bool.{eq-eqb, ne_eqb}
use Rattle.pg_machine.proofs.Scan.{greatest_on-next, greatest_on-past}
use Rattle.pg_machine.proofs.positions.greatest_on.Goals.{then-lines-i, else-lines-i}
use Rattle.pg_machine.proofs.positions.greatest_on.Goals as goal

pub loop-i-preserved : goal.loop-i-preserved
loop-i-preserved c =
    let ks = c.args.lines.now in
    let ps = c.args.positions.now in
    let l = c.args.line in
    let i = c.loop-i.i in
    let m = c.loop-i.most in
    let is : c.if-lines-i.most ≡ max m (cond (get_or ks i 0 == l) (get_or ps i 0) 0) = elim c.if-lines-i.branch [
      | then-lines-i w ↦ w.most-is ∙ (w.max-most.ensures ∙ ap (λ (b : Bool). max m (cond b (get_or ps i 0) 0)) (sym (eq-eqb (get_or ks i 0) l w.if-lines-i.true)))
      | else-lines-i w ↦
          let none : cond (get_or ks i 0 == l) (get_or ps i 0) 0 ≡ 0 = ap (λ (b : Bool). cond b (get_or ps i 0) 0) (ne_eqb (get_or ks i 0) l w.if-lines-i.false) in
          let same = w.most-is in
          omega (arith, none, same)
    ] in
    greatest_on-next ks ps l m c.if-lines-i.most i (omega arith) c.requires is ∙ c.loop-i.invariant

pub returns : goal.returns
returns c =
    let none = greatest_on-past c.args.lines.now c.args.positions.now c.args.line c.loop-i.i (omega arith) in
    let most = c.loop-i.invariant in
    omega (arith, none, most)
