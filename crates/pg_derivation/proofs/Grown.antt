-- One more tree.
use Rattle.std.proofs.Common.{◌≡◌, ℕ, suc, ◌+◌, ◌-◌, ◌<◌, ◌≤◌, true, false, List, [], ◌∷◌, ◌++◌, length, Ok, Err, refl, sym, ap, subst, ◌∙◌, arith}
use Rattle.std.specs.Prelude.{codes}
use Rattle.std.proofs.lemmas.List.{append-nil, length_push}
use Rattle.pg_region.specs.Pieces.{pieces, AreEnds}
use Rattle.pg_region.proofs.Pieces.{pieces-push}
use Rattle.pg_document.specs.declared.fault.DocFault.{DocFault}
use Rattle.pg_document.specs.declared.fault.DocFault.TheVariants.{Unexpected}
use Rattle.pg_derivation.specs.declared.kept.Kept.{Kept}
use Rattle.pg_derivation.specs.Derivation.{Node}
use Rattle.pg_derivation.specs.Fault.{Cursor, Read, says, obligation, nodes, tree, trees}
use Rattle.pg_derivation.specs.Kept.{nodes_in, Rise}
use Rattle.pg_derivation.specs.Read.{with_front}
use Rattle.pg_derivation.proofs.Trees.{length-nodes_in, rise-ends}
use Rattle.pg_derivation.proofs.Turns.{done, regroup, list_ok, list_err}

module _ (front : List (List Node)) (turns i n : ℕ) (c : Cursor) (whole : Read (List (List Node))) (so_far : with_front front (trees (turns - i) n c) ≡ whole) where
  pub trees-no_line : (e : DocFault) → i < turns → says (codes "obligation") c ≡ true → obligation n c ≡ Err e → whole ≡ Err e
  unfolding trees tree
  trees-no_line e lt test h =
      let k : turns - i ≡ suc (turns - (i + 1)) = omega arith in
      let one : with_front front (trees (turns - i) n c) ≡ Err e = rw (k, test, h) refl in
      sym so_far ∙ one

  pub trees-no_nodes : (b : Cursor) (f : List Node) (e : DocFault) → i < turns → says (codes "obligation") c ≡ true → obligation n c ≡ Ok b → with_front f (nodes (length b.rest) b) ≡ Err e → whole ≡ Err e
  unfolding trees tree
  trees-no_nodes b f e lt test h g =
      let k : turns - i ≡ suc (turns - (i + 1)) = omega arith in
      let is = list_err f (nodes (length b.rest) b) e g in
      let one : with_front front (trees (turns - i) n c) ≡ Err e = rw (k, test, h, is) refl in
      sym so_far ∙ one

  pub trees-more : (b d : Cursor) (ns : List Node) → i < turns → says (codes "obligation") c ≡ true → obligation n c ≡ Ok b → nodes (length b.rest) b ≡ Ok (ns, d)
      → with_front (front ++ ns ∷ []) (trees (turns - (i + 1)) (n + 1) d) ≡ whole
  unfolding trees tree
  trees-more b d ns lt test h g =
      let k : turns - i ≡ suc (turns - (i + 1)) = omega arith in
      let one : with_front front (trees (turns - i) n c) ≡ with_front (front ++ ns ∷ []) (trees (turns - (i + 1)) (n + 1) d) = rw (k, test, h, g) (regroup front ns (trees (turns - (i + 1)) (n + 1) d)) in
      sym one ∙ so_far

  pub trees-last : i < turns → says (codes "obligation") c ≡ false → whole ≡ Ok (front, c)
  unfolding trees
  trees-last lt test =
      let k : turns - i ≡ suc (turns - (i + 1)) = omega arith in
      let one : with_front front (trees (turns - i) n c) ≡ Ok (front ++ [], c) = rw (k, test) refl in
      sym so_far ∙ (one ∙ ap (λ (f : List (List Node)). done (f, c)) (append-nil front))

  pub trees-out : turns ≤ i → whole ≡ Err (Unexpected c.at)
  unfolding trees
  trees-out le =
      let k : turns - i ≡ 0 = omega arith in
      let one : with_front front (trees (turns - i) n c) ≡ Err (Unexpected c.at) = rw k refl in
      sym so_far ∙ one

-- one more tree of what is kept
pub rise-push : (from : ℕ) (ends : List ℕ) (n m : ℕ) → Rise from ends n → n < m → Rise from (ends ++ m ∷ []) m
rise-push from [] n m h lt = (omega (arith, h), refl)
rise-push from (e ∷ es) n m h lt = (h.0, rise-push e es n m h.1 lt)

pub tree-kept : (kept kept' : List ℕ) (into into' : List Kept) (ends : List ℕ) (ns : List Node) → Rise 0 ends (length into) → nodes_in kept' into' ≡ nodes_in kept into ++ ns
    → pieces (nodes_in kept' into') 0 (ends ++ length into' ∷ []) ≡ pieces (nodes_in kept into) 0 ends ++ ns ∷ []
tree-kept kept kept' into into' ends ns rise is =
    let are = subst (λ (n : ℕ). AreEnds 0 ends n) (sym (length-nodes_in kept into)) (rise-ends 0 ends (length into) rise) in
    let long : length into' ≡ length (nodes_in kept into ++ ns) = sym (length-nodes_in kept' into') ∙ ap (λ (x : List Node). length x) is in
    ap (λ (x : List Node). pieces x 0 (ends ++ length into' ∷ [])) is ∙ pieces-push (nodes_in kept into) ns 0 ends (length into') are long

pub rise-grown : (ends ends' : List ℕ) (m n n' : ℕ) → ends' ≡ ends ++ m ∷ [] → m ≡ n' → Rise 0 ends n → n < n' → Rise 0 ends' n'
rise-grown ends ends' m n n' items is rise lt = rw (items, is) (rise-push 0 ends n n' rise lt)

pub grown : (kept kept' : List ℕ) (into into' : List Kept) (ends ends' : List ℕ) (turns i m : ℕ) (c b d : Cursor) (whole : Read (List (List Node)))
    → with_front (pieces (nodes_in kept into) 0 ends) (trees (turns - i) (length ends + 1) c) ≡ whole → i < turns → says (codes "obligation") c ≡ true → obligation (length ends + 1) c ≡ Ok b
    → with_front (nodes_in kept into) (nodes (length b.rest) b) ≡ Ok (nodes_in kept' into', d) → Rise 0 ends (length into) → ends' ≡ ends ++ m ∷ [] → m ≡ length into'
    → with_front (pieces (nodes_in kept' into') 0 ends') (trees (turns - (i + 1)) (length ends' + 1) d) ≡ whole
grown kept kept' into into' ends ends' turns i m c b d whole so_far lt test line read rise items is =
    let front = pieces (nodes_in kept into) 0 ends in
    let r = list_ok (nodes_in kept into) (nodes_in kept' into') (nodes (length b.rest) b) d read in
    let one : ends' ≡ ends ++ length into' ∷ [] = items ∙ ap (λ (n : ℕ). ends ++ n ∷ []) is in
    let long : length ends' + 1 ≡ length ends + 1 + 1 = omega (arith, ap (λ (x : List ℕ). length x) items, length_push ends m) in
    ap (λ (x : List ℕ). with_front (pieces (nodes_in kept' into') 0 x) (trees (turns - (i + 1)) (length ends' + 1) d)) one
    ∙ (ap (λ (f : List (List Node)). with_front f (trees (turns - (i + 1)) (length ends' + 1) d)) (tree-kept kept kept' into into' ends r.0 rise r.2)
    ∙ (ap (λ (k : ℕ). with_front (front ++ r.0 ∷ []) (trees (turns - (i + 1)) k d)) long
    ∙ trees-more front turns i (length ends + 1) c whole so_far b d r.0 lt test line r.1))
