-- The text of the obligations, obligation by obligation.
use Rattle.std.proofs.Common.{◌≡◌, ℕ, zero, suc, ◌+◌, ◌-◌, Option, List, [], ◌∷◌, ◌++◌, drop, Some, ap, subst, ◌∙◌, arith}
use Rattle.std.specs.List.{slice_get}
use Rattle.pg_outline.specs.Outline.{OutlineTable}
use Rattle.pg_obligations.specs.declared.obligation.Obligation.{Obligation}
use Rattle.pg_report.specs.Obligations.{obligation_text, numbered_text}
use Rattle.pg_report.proofs.Pieces.{IsAhead}

drop-at : {A : Type 0} (xs : List A) (n : ℕ) (x : A) → slice_get xs n ≡ Some x → drop n xs ≡ x ∷ drop (suc n) xs
drop-at [] n x h = cc
drop-at (y ∷ xs) zero x h = let same : y ≡ x = cc in ap (λ z. z ∷ xs) same
drop-at (y ∷ xs) (suc n) x h = drop-at xs n x h

-- from a place on the text is that of the obligation there, and what is behind it
pub numbered-next : (o : OutlineTable) (i : ℕ) (obs : List Obligation) (n : ℕ) (ob : Obligation) → slice_get obs n ≡ Some ob
    → numbered_text o i (drop n obs) ≡ obligation_text o i ob ++ numbered_text o (i + 1) (drop (n + 1) obs)
numbered-next o i obs n ob at =
    let next : suc n ≡ n + 1 = omega arith in
    ap (numbered_text o i) (drop-at obs n ob at) ∙ ap (λ k. obligation_text o i ob ++ numbered_text o (i + 1) (drop k obs)) next

-- so what is still to be put begins with that of the next obligation
pub ahead-obligation : (old mid : Option (List ℕ)) (before now : ℕ) (whole : List ℕ) (o : OutlineTable) (obs : List Obligation) (n : ℕ) (ob : Obligation)
    → slice_get obs (n + 1 - 1) ≡ Some ob → IsAhead old mid before now (numbered_text o (n + 1) (drop n obs)) whole
    → IsAhead old mid before now (obligation_text o (n + 1) ob ++ numbered_text o (n + 1 + 1) (drop (n + 1) obs)) whole
ahead-obligation old mid before now whole o obs n ob at h =
    let same : n ≡ n + 1 - 1 = omega arith in
    subst (λ (l : List ℕ). IsAhead old mid before now l whole) (numbered-next o (n + 1) obs n ob (ap (slice_get obs) same ∙ at)) h
