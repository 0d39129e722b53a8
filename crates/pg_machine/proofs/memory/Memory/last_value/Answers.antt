use Rattle.std.proofs.Common.{◌≡◌, ℕ, ◌≤◌, List, length, sym, subst, ◌∙◌}
use Rattle.pg_machine.proofs.Appended.{last_upto-within}
use Rattle.pg_machine.proofs.memory.Memory.last_value.Goals as goal

pub value_at-requires-clause-position : goal.value_at-requires-clause-position
value_at-requires-clause-position c =
    let ms = c.deref.result.now in
    let same : ms ≡ c.deref-3.result.now = c.deref.ensures.value ∙ sym c.deref-3.ensures.value in
    let within = subst (λ (n : ℕ). n ≤ length ms) (sym c.last-last.ensures) (last_upto-within ms c.args.location (length ms)) in
    subst (λ (l : List (ℕ × ℕ)). c.last-last.result ≤ length l) same within
