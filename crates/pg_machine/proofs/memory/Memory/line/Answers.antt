use Rattle.std.proofs.Common.{◌≡◌, ℕ, List, length, get_or, ap, ◌∙◌, arith}
use Rattle.std.proofs.lemmas.List.{get_or_default}
use Rattle.pg_machine.specs.Held.{HeldMemory}
use Rattle.pg_machine.proofs.PositionLists.{line-within}
use Rattle.pg_machine.proofs.memory.Memory.line.Goals as goal

pub returns-clause-within : goal.returns-clause-within
returns-clause-within c =
    let ks = c.args.self.now.memory.lines in
    let x = c.args.location in
    let k = c.index.result.now in
    let same = ap (λ (h : HeldMemory). h.memory.lines) c.self.view_is in
    let lines = ap (λ (h : HeldMemory). length h.memory.lines) c.self.view_is in
    let initial = ap (λ (h : HeldMemory). length h.memory.initial) c.self.view_is in
    let each = c.self.invariant.0 in
    let declared = c.requires in
    let low = line-within ks x (omega (arith, lines, initial, each, declared)) in
    let is : k ≡ get_or ks x 0 =
    c.index.ensures
    ∙ (ap (λ (i : ℕ). get_or c.self.inside.lines.items i k) c.from.ensures
    ∙ (ap (λ (l : List ℕ). get_or l x k) same ∙ get_or_default ks x k 0 (omega (arith, lines, initial, each, declared)))) in
    omega (arith, is, low)
