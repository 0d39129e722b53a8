use Rattle.std.proofs.Common.{◌+◌, ◌∙◌, List, ℕ, ap, sym, length, arith}
use Rattle.pg_program.specs.declared.name_table.ScalarKind.{ScalarKind}
use Rattle.pg_outline.proofs.EraseNames.{counts_register, with_auxiliary}
use Rattle.pg_outline.proofs.erasure.new_place.Goals as goal
use Rattle.pg_outline.proofs.erasure.new_place.Goals.{in-Register, in_default}

pub loop-q-preserved : goal.loop-q-preserved
loop-q-preserved c =
    let es = c.args.names.now.scalars in
    let few = c.loop-q.invariant.1 in
    elim c.match-kind.branch [
      | in-Register w ↦
          let one = w.place-is in
          (w.place-is ∙ ap (λ (n : ℕ). n + 1) c.loop-q.invariant.0 ∙ sym (counts_register es c.loop-q.q w.in-Register.owner w.in-Register.ensures), omega (arith, one, few))
      | in_default w ↦
          let same = w.place-is in
          (w.place-is ∙ c.loop-q.invariant.0 ∙ sym (ap (λ (l : List (List ℕ × ScalarKind)). length l) (with_auxiliary es c.loop-q.q c.kind.result c.kind.ensures w.in_default.not-Register)), omega (arith, same, few))
    ]
