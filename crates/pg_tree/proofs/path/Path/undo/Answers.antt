use Rattle.std.proofs.Common.{◌∷◌, List, [], length, take, sym, ◌∙◌, subst, ap, arith, vec_capacity}
use Rattle.std.proofs.lemmas.List.{length-set, take-append-le, length_push}
use Rattle.pg_region.specs.Literal.{Literal}
use Rattle.pg_decider.specs.Trail.{AreValues}
use Rattle.pg_decider.proofs.Trails.{trail-popped}
use Rattle.pg_tree.proofs.path.Path.undo.Goals as goal

pub index_mut-requires : goal.index_mut-requires
index_mut-requires c =
    let e = c.in-Some.ensures.items in
    let a = subst (λ (l : List Literal). AreValues c.loop-self.self-inside.values.items l (vec_capacity c.loop-self.self-inside.literals)) e c.loop-self.invariant.0 in
    omega (arith, (trail-popped c.loop-self.self-inside.values.items c.pop.new.self.items (vec_capacity c.loop-self.self-inside.literals) c.in-Some.l a).0, c.atom.ensures)

pub loop-self-preserved-in-Some : goal.loop-self-preserved-in-Some
loop-self-preserved-in-Some c =
    let e = c.in-Some.ensures.items in
    let a = subst (λ (l : List Literal). AreValues c.loop-self.self-inside.values.items l (vec_capacity c.loop-self.self-inside.literals)) e c.loop-self.invariant.0 in
    let p = trail-popped c.loop-self.self-inside.values.items c.pop.new.self.items (vec_capacity c.loop-self.self-inside.literals) c.in-Some.l a in
    let long = ap length e ∙ length_push c.pop.new.self.items c.in-Some.l in (
      rw (c.atom.ensures, c.pop.ensures.capacity) p.1,
      omega (arith, length-set c.loop-self.self-inside.values.items c.atom.result 0, c.loop-self.invariant.1),
      omega (arith, long, c.loop-self.invariant.2),
      sym (take-append-le c.args.mark c.pop.new.self.items (c.in-Some.l ∷ []) (omega (arith, long, c.loop-self.invariant.2))) ∙ (ap (take c.args.mark) (sym e) ∙ c.loop-self.invariant.3),
    )
