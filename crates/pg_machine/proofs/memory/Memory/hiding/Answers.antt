use Rattle.std.proofs.Common.{◌≡◌, ℕ, ◌≤◌, List, length, sym, ap, subst, ◌∙◌}
use Rattle.pg_machine.specs.Held.{HeldMemory}
use Rattle.pg_machine.proofs.Scan.{is_at-within}
use Rattle.pg_machine.proofs.memory.Memory.hiding.Goals as goal

pub hiding-requires-clause-position : goal.hiding-requires-clause-position
hiding-requires-clause-position c =
    let ms = c.args.self.now.memory.messages in
    let same : c.deref.result.now ≡ ms = c.deref.ensures.value ∙ ap (λ (m : HeldMemory). m.memory.messages) c.self.view_is in
    subst (λ (l : List (ℕ × ℕ)). c.args.position ≤ length l) (sym same) (is_at-within ms c.args.location c.args.position c.requires)
