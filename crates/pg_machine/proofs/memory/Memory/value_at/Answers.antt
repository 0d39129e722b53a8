use Rattle.std.proofs.Common.{◌≡◌, ℕ, ◌≤◌, List, length, sym, ap, subst, ◌∙◌}
use Rattle.pg_machine.specs.Held.{HeldMemory}
use Rattle.pg_machine.proofs.Scan.{is_at-within}
use Rattle.pg_machine.proofs.memory.Memory.value_at.Goals as goal

pub value_at-requires-clause-position : goal.value_at-requires-clause-position
value_at-requires-clause-position c =
    let ms = c.args.self.now.memory.messages in
    let same : c.deref-2.result.now ≡ ms = c.deref-2.ensures.value ∙ ap (λ (m : HeldMemory). m.memory.messages) c.self.view_is in
    subst (λ (l : List (ℕ × ℕ)). c.args.position ≤ length l) (sym same) (is_at-within ms c.args.location c.args.position c.requires.position)
