use Rattle.std.proofs.Common.{◌-◌, sym, ◌∙◌, arith}
use Rattle.std.proofs.lemmas.Bool.{le-ltb}
use Rattle.pg_machine.proofs.Scan.{is_at-message, is_to-get, is_to-past}
use Rattle.pg_machine.proofs.messages.is_at.Goals as goal

pub returns-then-place-messages : goal.returns-then-place-messages
returns-then-place-messages c =
    let ms = c.args.messages.now in
    let p = c.args.position in
    sym (is_at-message ms c.args.location p (omega arith) ∙ is_to-get ms c.args.location (p - 1) (0, 0) (omega arith))

pub returns-else-place-messages : goal.returns-else-place-messages
returns-else-place-messages c =
    let ms = c.args.messages.now in
    let p = c.args.position in
    le-ltb (p - 1) _ (omega arith) ∙ sym (is_at-message ms c.args.location p (omega arith) ∙ is_to-past ms c.args.location (p - 1) (omega arith))
