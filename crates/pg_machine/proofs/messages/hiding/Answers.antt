use Rattle.std.proofs.Common.{length, inl, inr, arith}
use Rattle.std.proofs.lemmas.Bool.{cases_lt}
use Rattle.pg_machine.proofs.Scan.{is_at-past, is_clear-none, hides-above, hides-other}
use Rattle.pg_machine.proofs.messages.hiding.Goals as goal

pub returns : goal.returns
returns c =
    let ms = c.args.messages.now in
    let x = c.args.location in
    let n = c.args.bound in
    is_clear-none ms x c.args.position n (λ q. elim (cases_lt q c.loop-later.later) [
      | inl lt ↦ c.loop-later.invariant q lt
      | inr le ↦ elim (cases_lt (length ms) q) [
        | inl past ↦ hides-other ms x c.args.position n q (is_at-past ms x q past)
        | inr within ↦ hides-above ms x c.args.position n q (omega arith)
      ]
    ])
