use Rattle.std.proofs.Common.{◌≡◌, ℕ, ◌+◌, ◌++◌, List, ap, subst, ◌∙◌, arith}
use Rattle.pg_assertion.specs.Layout.{Sizes, IsAtom, atoms, number}
use Rattle.pg_report.proofs.TrueAtoms.{side-more, lines-all}
use Rattle.pg_report.proofs.judged.append_side.Goals as goal

pub atoms-preserved : goal.atoms-preserved
atoms-preserved c =
    let is = subst (λ (l : Sizes). IsAtom l c.atom-atom.result) c.layout_of-layout.ensures c.atom-atom.ensures.atom in
    let at = subst (λ (l : Sizes). number l c.atom-atom.result ≡ c.atoms.n + 1) c.layout_of-layout.ensures c.atom-atom.ensures.number in
    side-more c.args.o.now c.args.truths.now c.args.side c.atoms.n c.atom-atom.result c.args.text.now.items c.atoms.text.items c.append_if_true.new.text.items is at
    c.atoms.invariant c.in_ok-append_if_true.ensures

pub returns : goal.returns
returns c =
    let all = lines-all c.args.o.now c.args.truths.now c.args.side c.atoms.n (omega (arith, ap atoms c.layout_of-layout.ensures, c.atoms-n-end.ensures.count, c.atoms-test.false)) in
    c.atoms.invariant ∙ ap (λ (l : List ℕ). c.args.text.now.items ++ l) all
