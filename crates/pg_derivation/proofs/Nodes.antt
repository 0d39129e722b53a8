-- A node that is appended to what is kept.
use Rattle.std.proofs.Common.{◌≡◌, ℕ, ◌-◌, ◌<◌, List, [], ◌∷◌, ◌++◌, length, take, drop, Ok, refl, sym, ap, subst, ◌∙◌, arith, length-append}
use Rattle.std.specs.Prelude.{slice_range, codes}
use Rattle.std.specs.List.{AllByRecursion}
use Rattle.std.proofs.lemmas.List.{take_all, drop_at, take-append-le, drop-append-le, length-drop}
use Rattle.pg_derivation.specs.declared.kept.Kept.{Kept}
use Rattle.pg_derivation.specs.declared.kept.Kept.TheVariants as kept
use Rattle.pg_derivation.specs.Derivation.{Node, leaf, IsNumber}
use Rattle.pg_derivation.specs.Fault.{Cursor, Read, keyword, space, numbers, leaf_line}
use Rattle.pg_derivation.specs.Kept.{node_in, nodes_in, IsWithin, IsKept}
use Rattle.pg_derivation.specs.Read.{with_front, alone}
use Rattle.pg_derivation.proofs.Lists.{each-append}
use Rattle.pg_derivation.proofs.Turns.{list_ok}

-- numbers that are appended change no node
node-longer : (ns more : List ℕ) (k : Kept) → IsWithin ns k → node_in (ns ++ more) k ≡ node_in ns k
node-longer ns more (kept.Split l) h = refl
node-longer ns more (kept.Leaf from to) h =
    ap leaf (ap (take (to - from)) (drop-append-le from ns more (omega (arith, h.0, h.1))) ∙ take-append-le (to - from) (drop from ns) more (omega (arith, h.1, length-drop from ns)))

pub nodes-longer : (ns more : List ℕ) (ks : List Kept) → AllByRecursion (IsWithin ns) ks → nodes_in (ns ++ more) ks ≡ nodes_in ns ks
nodes-longer ns more [] h = refl
nodes-longer ns more (k ∷ ks) h =
    ap (λ (n : Node). n ∷ nodes_in (ns ++ more) ks) (node-longer ns more k h.0) ∙ ap (λ (r : List Node). node_in ns k ∷ r) (nodes-longer ns more ks h.1)

within-longer : (ns more : List ℕ) (k : Kept) → IsWithin ns k → IsWithin (ns ++ more) k
within-longer ns more (kept.Split l) h = h
within-longer ns more (kept.Leaf from to) h = (h.0, omega (arith, h.1, length-append ns more))

each-longer : (ns more : List ℕ) (ks : List Kept) → AllByRecursion (IsWithin ns) ks → AllByRecursion (IsWithin (ns ++ more)) ks
each-longer ns more [] h = tt
each-longer ns more (k ∷ ks) h = (within-longer ns more k h.0, each-longer ns more ks h.1)

nodes-push : (ns : List ℕ) (ks : List Kept) (k : Kept) → nodes_in ns (ks ++ k ∷ []) ≡ nodes_in ns ks ++ node_in ns k ∷ []
nodes-push ns [] k = refl
nodes-push ns (j ∷ ks) k = ap (λ (r : List Node). node_in ns j ∷ r) (nodes-push ns ks k)

last-numbers : (old ns : List ℕ) → slice_range (old ++ ns) (length old) (length (old ++ ns)) ≡ ns
last-numbers old ns =
    ap (take (length (old ++ ns) - length old)) (drop_at old ns (length old) refl) ∙ take_all (length (old ++ ns) - length old) ns (omega (arith, length-append old ns))

leaf-is-kept : (old new : List ℕ) (ks : List Kept) → (ns : List ℕ) → new ≡ old ++ ns → length old < length new → (AllByRecursion IsNumber old → AllByRecursion IsNumber new) → IsKept old ks
    → IsKept new (ks ++ kept.Leaf (length old) (length new) ∷ [])
leaf-is-kept old new ks ns is longer fits h = record {
  each_number = fits h.each_number;
  each_node = each-append (IsWithin new) ks (kept.Leaf (length old) (length new) ∷ []) (rw is (each-longer old ns ks h.each_node)) ((longer, omega arith), tt);
}

leaf-read : (front : List Node) (c t from d : Cursor) (ns : List ℕ) → keyword (codes "leaf") c ≡ Ok t → space t ≡ Ok from → numbers (length from.rest) from ≡ Ok (ns, d)
    → with_front front (alone (leaf_line c)) ≡ Ok (front ++ leaf ns ∷ [], d)
unfolding leaf_line
leaf-read front c t from d ns word blank h = rw (word, blank, h) refl

leaf-kept : (old new ns : List ℕ) (ks : List Kept) → new ≡ old ++ ns → AllByRecursion (IsWithin old) ks
    → nodes_in new (ks ++ kept.Leaf (length old) (length new) ∷ []) ≡ nodes_in old ks ++ leaf ns ∷ []
leaf-kept old new ns ks is within =
    let here : node_in new (kept.Leaf (length old) (length new)) ≡ leaf ns = rw is (ap leaf (last-numbers old ns)) in
    let before : nodes_in new ks ≡ nodes_in old ks = rw is (nodes-longer old ns ks within) in
    nodes-push new ks (kept.Leaf (length old) (length new))
    ∙ (ap (λ (x : List Node). x ++ node_in new (kept.Leaf (length old) (length new)) ∷ []) before ∙ ap (λ (x : Node). nodes_in old ks ++ x ∷ []) here)

leaf-said : (old new : List ℕ) (ks : List Kept) (c t from d : Cursor) → keyword (codes "leaf") c ≡ Ok t → space t ≡ Ok from → with_front old (numbers (length from.rest) from) ≡ Ok (new, d) → IsKept old ks
    → with_front (nodes_in old ks) (alone (leaf_line c)) ≡ Ok (nodes_in new (ks ++ kept.Leaf (length old) (length new) ∷ []), d)
leaf-said old new ks c t from d word blank h is =
    let r = list_ok old new (numbers (length from.rest) from) d h in
    let made : List Node → Read (List Node) = λ nodes. Ok (nodes, d) in
    leaf-read (nodes_in old ks) c t from d r.0 word blank r.1 ∙ ap made (sym (leaf-kept old new r.0 ks r.2 is.each_node))

leaf-whole : (old new : List ℕ) (ks : List Kept) (from d : Cursor) → with_front old (numbers (length from.rest) from) ≡ Ok (new, d) → length old < length new → (AllByRecursion IsNumber old → AllByRecursion IsNumber new) → IsKept old ks
    → IsKept new (ks ++ kept.Leaf (length old) (length new) ∷ [])
leaf-whole old new ks from d h longer fits is =
    let r = list_ok old new (numbers (length from.rest) from) d h in
    leaf-is-kept old new ks r.0 r.2 longer fits is

-- with what the code has of it
module _ (old new : List ℕ) (ks now : List Kept) (first last : ℕ) (items : now ≡ ks ++ kept.Leaf first last ∷ []) (begins : first ≡ length old) (ends : last ≡ length new) (is : IsKept old ks) where
  leaf-items : now ≡ ks ++ kept.Leaf (length old) (length new) ∷ []
  leaf-items = items ∙ (ap (λ (a : ℕ). ks ++ kept.Leaf a last ∷ []) begins ∙ ap (λ (b : ℕ). ks ++ kept.Leaf (length old) b ∷ []) ends)

  pub leaf-appended : (c t from d : Cursor) → keyword (codes "leaf") c ≡ Ok t → space t ≡ Ok from → with_front old (numbers (length from.rest) from) ≡ Ok (new, d)
      → with_front (nodes_in old ks) (alone (leaf_line c)) ≡ Ok (nodes_in new now, d)
  leaf-appended c t from d word blank h =
      let made : List Kept → Read (List Node) = λ x. Ok (nodes_in new x, d) in
      leaf-said old new ks c t from d word blank h is ∙ ap made (sym leaf-items)

  pub leaf-stays : (from d : Cursor) → with_front old (numbers (length from.rest) from) ≡ Ok (new, d) → length old < length new → (AllByRecursion IsNumber old → AllByRecursion IsNumber new) → IsKept new now
  leaf-stays from d h longer fits = subst (λ (x : List Kept). IsKept new x) (sym leaf-items) (leaf-whole old new ks from d h longer fits is)
