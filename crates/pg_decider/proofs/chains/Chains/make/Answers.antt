use Rattle.std.proofs.Common.{ℕ, List, [], length, replicate, ap, sym, subst, ◌∙◌, arith}
use Rattle.std.proofs.lemmas.List.{length-replicate}
use Rattle.pg_decider.specs.Chains.{AreChains}
use Rattle.pg_decider.proofs.Chained.{chains-none}
use Rattle.pg_decider.proofs.Started.{lists-cleared, chain_table}
use Rattle.pg_decider.proofs.chains.Chains.make.Goals as goal

pub invariant_of-result : goal.invariant_of-result
invariant_of-result c =
    let e = lists-cleared c.in_ok-next.next.items c.in_ok-starts.starts.items c.in_ok-starts.ensures.empty in
    let long = ap length (c.in_ok-next.ensures.items_if_clones_equal (λ y h. h)) ∙ length-replicate {A = ℕ} c.args.slots 0 in (
      subst (λ (l : List (List ℕ)). AreChains l (length c.in_ok-next.next.items)) (sym e) (chains-none (length c.in_ok-starts.starts.items) (length c.in_ok-next.next.items)),
      omega (arith, long),
    )

pub returns : goal.returns
returns c =
    let e = lists-cleared c.in_ok-next.next.items c.in_ok-starts.starts.items c.in_ok-starts.ensures.empty in
    chain_table _ _ _ _ (e ∙ ap (λ (n : ℕ). replicate n []) c.in_ok-starts.ensures.length)
    (ap length (c.in_ok-next.ensures.items_if_clones_equal (λ y h. h)) ∙ length-replicate {A = ℕ} c.args.slots 0)
