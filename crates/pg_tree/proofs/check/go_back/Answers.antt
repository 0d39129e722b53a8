use Rattle.std.proofs.Common.{length, ap, arith}
use Rattle.pg_region.specs.Literal.{Literal}
use Rattle.pg_tree.specs.Path.{PathTable}
use Rattle.pg_tree.proofs.Marks.{lit-within, popped-inside}
use Rattle.pg_tree.proofs.check.go_back.Goals as goal

pub add-requires-clause-atom : goal.add-requires-clause-atom
add-requires-clause-atom c =
    let ls = c.args.path.now.literals in
    let inside = popped-inside c.args.marks.now.items c.pop.new.self.items c.in-Some.mark (length ls) c.requires c.in-Some.ensures.items in
    omega (
      arith,
      ap (λ (l : Literal). l.atom) c.negated-literal.ensures,
      ap (λ (l : Literal). l.atom) c.at.ensures.literal,
      ap (λ (p : PathTable). p.atoms) c.undo.ensures,
      lit-within c.args.path.now.atoms ls c.in-Some.mark c.at.ensures.trail inside,
    )
