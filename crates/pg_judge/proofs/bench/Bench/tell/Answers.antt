use Rattle.std.proofs.Common.{◌+◌, ◌++◌, ◌∷◌, [], List, Bool, true, length, ap, sym, ◌∙◌, arith}
use Rattle.std.proofs.lemmas.List.{length_push}
use Rattle.pg_decider.specs.Assignment.{on}
use Rattle.pg_judge.proofs.Steps.{truths-more}
use Rattle.pg_judge.proofs.bench.Bench.tell.Goals as goal

pub loop-a-preserved : goal.loop-a-preserved
loop-a-preserved c =
    let s = on c.args.self.now.workspace.literals in
    let last : Bool = s (record { atom = c.loop-a.a + 1; positive = true }) in
    let items = c.push_reserved-in-loop-a.ensures.items ∙ ap (λ (b : Bool). c.loop-a.truths.items ++ b ∷ []) c.truth.ensures in (
      omega (arith, ap length items, length_push c.loop-a.truths.items last, c.loop-a.invariant.0),
      items ∙ (ap (λ (l : List Bool). l ++ last ∷ []) c.loop-a.invariant.1 ∙ sym (truths-more c.loop-a.a s)),
      omega (arith, c.push_reserved-in-loop-a.ensures.capacity, c.loop-a.invariant.2),
    )
