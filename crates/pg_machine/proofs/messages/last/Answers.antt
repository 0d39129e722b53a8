use Rattle.std.proofs.Common.{◌≡◌, Bool, true, false, cond, ◌+◌, sym, ap, ◌∙◌, arith}
use Rattle.std.proofs.lemmas.Bool.{eq-eqb, ne_eqb}
use Rattle.pg_machine.specs.Memory.{is_to, last_upto}
use Rattle.pg_machine.proofs.Scan.{is_to-get, last_upto-next}
use Rattle.pg_machine.proofs.messages.last.Goals.{then-message-location, else-message-location}
use Rattle.pg_machine.proofs.messages.last.Goals as goal

pub loop-i-preserved : goal.loop-i-preserved
loop-i-preserved c =
    let ms = c.args.messages.now in
    let x = c.args.location in
    let i = c.loop-i.i in
    let here = is_to-get ms x i (0, 0) (omega arith) in
    elim c.if-message-location.branch [
      | then-message-location w ↦
          let is : is_to ms x i ≡ true = here ∙ eq-eqb _ _ w.if-message-location.true in
          w.last-is ∙ sym (last_upto-next ms x i ∙ ap (λ (b : Bool). cond b (i + 1) (last_upto ms x i)) is)
      | else-message-location w ↦
          let is : is_to ms x i ≡ false = here ∙ ne_eqb _ _ w.if-message-location.false in
          w.last-is ∙ c.loop-i.invariant ∙ sym (last_upto-next ms x i ∙ ap (λ (b : Bool). cond b (i + 1) (last_upto ms x i)) is)
    ]
