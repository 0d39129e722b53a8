use Rattle.std.proofs.Common.{◌≡◌, ◌⊎◌, inl, inr, ◌+◌, ◌-◌, ◌<◌, ◌≤◌, map, length, sym, ap, ◌∙◌, arith}
use Rattle.std.specs.List.{slice_get}
use Rattle.std.proofs.lemmas.List.{length-map}
use Rattle.pg_outline.specs.Outline.{OutlineTable}
use Rattle.pg_obligations.specs.Obligations.{obligations}
use Rattle.pg_layers.specs.Clauses.{obligation_atoms}
use Rattle.pg_layers.proofs.Greatest.{in_the_end, one_more}
use Rattle.pg_layers.proofs.Loads.{numbered_is}
use Rattle.pg_layers.proofs.atoms.most_atoms.Goals as goal
use Rattle.pg_layers.proofs.atoms.most_atoms.Goals.{then-atoms-most, else-atoms-most}

pub atoms_of-atoms-requires-clause-ob : goal.atoms_of-atoms-requires-clause-ob
atoms_of-atoms-requires-clause-ob c =
    numbered_is c.args.o.now (c.loop-i.i + 1 - 1) c.shape.result
    (ap (λ (t : OutlineTable). slice_get (obligations t.program) (c.loop-i.i + 1 - 1)) (sym c.of-obligations.ensures) ∙ c.shape.ensures)

pub loop-i-preserved : goal.loop-i-preserved
loop-i-preserved c =
    let o = c.args.o.now in
    let at = ap (λ (t : OutlineTable). slice_get (obligations t.program) (c.loop-i.i + 1 - 1)) (sym c.of-obligations.ensures) ∙ c.shape.ensures in
    let by : ((c.loop-i.most < c.atoms_of-atoms.result) × (c.if-atoms-most.most ≡ c.atoms_of-atoms.result)) ⊎ ((c.atoms_of-atoms.result ≤ c.loop-i.most) × (c.if-atoms-most.most ≡ c.loop-i.most)) =
    elim c.if-atoms-most.branch [
      | then-atoms-most w ↦ inl (omega (arith, w.if-atoms-most.true), w.most-is)
      | else-atoms-most w ↦ inr (omega (arith, w.if-atoms-most.false), w.most-is)
    ] in
    one_more (obligation_atoms o) (obligations o.program) (c.loop-i.i + 1 - 1) c.loop-i.i c.loop-i.most c.atoms_of-atoms.result c.if-atoms-most.most c.shape.result at (omega arith)
    c.atoms_of-atoms.ensures.atoms c.loop-i.invariant by

pub returns : goal.returns
returns c =
    let o = c.args.o.now in
    let long = length-map (obligations o.program) (obligation_atoms o) in
    let count = c.count-i-end.ensures ∙ ap (λ (t : OutlineTable). length (obligations t.program)) c.of-obligations.ensures in
    in_the_end (map (obligation_atoms o) (obligations o.program)) c.loop-i.i c.loop-i.most (omega (arith, long, count, c.loop-i-test.false, c.loop-i.auto.i-end)) (omega arith) c.loop-i.invariant
