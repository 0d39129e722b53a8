use Rattle.std.proofs.Common.{◌≡◌, ◌∙◌, ap, ℕ, List, map, take, arith}
use Rattle.std.specs.Prelude.{None}
use Rattle.std.proofs.lemmas.List.{take_all}
use Rattle.pg_assertion.specs.Expansion.{can_persist, joined_all, or_true}
use Rattle.pg_assertion.proofs.ExpansionTerms.{joined_all_none}
use Rattle.pg_assertion.proofs.expansion.premise.Goals as goal

pub returns : goal.returns
returns c =
    let v = c.args.vector.now in
    let all : take c.loop-x.x-index v ≡ v = take_all c.loop-x.x-index v (omega arith) in
    c.or_true.ensures ∙ ap or_true (c.loop-x.invariant ∙ ap (λ (l : List (ℕ × ℕ)). joined_all None (map can_persist l)) all)
    ∙ joined_all_none (map can_persist v)
