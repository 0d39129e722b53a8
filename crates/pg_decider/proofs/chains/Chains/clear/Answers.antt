use Rattle.std.proofs.Common.{◌≡◌, ℕ, List, [], length, replicate, ap, sym, subst, ◌∙◌, arith}
use Rattle.std.proofs.lemmas.List.{with_items_is}
use Rattle.std.specs.Vec.{with_items}
use Rattle.pg_decider.specs.Chains.{AreChains}
use Rattle.pg_decider.specs.Starts.{lists_of}
use Rattle.pg_decider.specs.declared.chains.Start.{Start}
use Rattle.pg_decider.proofs.Chained.{chains-none}
use Rattle.pg_decider.proofs.Started.{lists-cleared, length-lists, same_lists}
use Rattle.pg_decider.proofs.chains.Chains.clear.Goals as goal

emptied : (c : goal.After-self-1) → lists_of c.self.inside.next.items (with_items c.self.inside.starts c.empty_all.new.starts).items ≡ replicate (length c.self.inside.starts.items) []
emptied c =
    let long : length c.empty_all.new.starts ≡ length c.self.inside.starts.items = omega arith in
    ap (λ (l : List Start). lists_of c.self.inside.next.items l) (with_items_is c.self.inside.starts c.empty_all.new.starts (omega arith))
    ∙ (lists-cleared c.self.inside.next.items c.empty_all.new.starts c.empty_all.ensures ∙ ap (λ (n : ℕ). replicate n []) long)

pub invariant_of-self : goal.invariant_of-self
invariant_of-self c =
    (subst (λ (l : List (List ℕ)). AreChains l (length c.self.inside.next.items)) (sym (emptied c)) (chains-none (length c.self.inside.starts.items) (length c.self.inside.next.items)), c.self.invariant.1)

pub returns : goal.returns
returns c =
    rw (← c.self.view_is)
    (same_lists _ _ (length c.self.inside.next.items) (emptied c ∙ ap (λ (n : ℕ). replicate n []) (sym (length-lists c.self.inside.next.items c.self.inside.starts.items))))
