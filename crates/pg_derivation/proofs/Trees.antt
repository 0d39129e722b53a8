-- What is kept of trees, and the lines of each.
use Rattle.std.proofs.Common.{◌≡◌, ℕ, zero, suc, ◌+◌, ◌-◌, ◌<◌, ◌≤◌, ◌^◌, List, [], ◌∷◌, length, get_or, take, drop, refl, sym, ap, subst, ◌∙◌, arith}
use Rattle.std.specs.Prelude.{slice_range}
use Rattle.std.specs.List.{AllByRecursion}
use Rattle.std.proofs.lemmas.List.{length-take, length-drop, take-map, drop-map, get_or-map}
use Rattle.pg_region.specs.Pieces.{pieces, AreEnds}
use Rattle.pg_region.proofs.Pieces.{ends-le, ends-at, ends-before, length-pieces}
use Rattle.pg_derivation.specs.declared.kept.Kept.{Kept}
use Rattle.pg_derivation.specs.declared.kept.Kept.TheVariants as kept
use Rattle.pg_derivation.specs.Derivation.{Node, TreeTable, DerivationTable, no_line, IsNumber, IsNode, AreNodes, AreTrees, IsTree, IsDerivation, nodes_of, trees_of, lines_from, trees_behind, numbered}
use Rattle.pg_derivation.specs.Kept.{node_in, nodes_in, IsWithin, tree_in, IsInTree, derivation_in, Rise, IsInDerivation}
use Rattle.pg_derivation.proofs.Lists.{each-drop, each-take, each-at}

-- ---- lines

pub length-lines_from : (n : ℕ) (nodes : List Node) → length (lines_from n nodes) ≡ length nodes
length-lines_from n [] = refl
length-lines_from n (node ∷ nodes) = ap suc (length-lines_from (n + 1) nodes)

pub nodes_of-lines_from : (n : ℕ) (nodes : List Node) → nodes_of (lines_from n nodes) ≡ nodes
nodes_of-lines_from n [] = refl
nodes_of-lines_from n (node ∷ nodes) = ap (λ (ns : List Node). node ∷ ns) (nodes_of-lines_from (n + 1) nodes)

pub number-lines_from : (n : ℕ) (nodes : List Node) (k : ℕ) → k < length nodes → (get_or (lines_from n nodes) k no_line).number ≡ n + k
number-lines_from n [] k lt = absurd (omega arith)
number-lines_from n (node ∷ nodes) zero lt = omega arith
number-lines_from n (node ∷ nodes) (suc k) lt = omega (arith, number-lines_from (n + 1) nodes k (omega arith))

pub node-lines_from : (n : ℕ) (nodes : List Node) (k : ℕ) (d : Node) → k < length nodes → (get_or (lines_from n nodes) k no_line).node ≡ get_or nodes k d
node-lines_from n [] k d lt = absurd (omega arith)
node-lines_from n (node ∷ nodes) zero d lt = refl
node-lines_from n (node ∷ nodes) (suc k) d lt = node-lines_from (n + 1) nodes k d (omega arith)

pub length-trees_behind : (n : ℕ) (trees : List (List Node)) → length (trees_behind n trees) ≡ length trees
length-trees_behind n [] = refl
length-trees_behind n (nodes ∷ trees) = ap suc (length-trees_behind (n + 1 + length nodes) trees)

pub trees_of-trees_behind : (n : ℕ) (trees : List (List Node)) → trees_of (trees_behind n trees) ≡ trees
trees_of-trees_behind n [] = refl
trees_of-trees_behind n (nodes ∷ trees) =
    ap (λ (ns : List Node). ns ∷ trees_of (trees_behind (n + 1 + length nodes) trees)) (nodes_of-lines_from (n + 2) nodes)
    ∙ ap (λ (ts : List (List Node)). nodes ∷ ts) (trees_of-trees_behind (n + 1 + length nodes) trees)

-- ---- a node

part-number : (ns : List ℕ) (from to : ℕ) → from < to → to ≤ length ns → 1 ≤ length (slice_range ns from to)
part-number ns from to lt le = omega (arith, length-take (to - from) (drop from ns), length-drop from ns)

pub node-fits : (ns : List ℕ) (k : Kept) → AllByRecursion IsNumber ns → IsWithin ns k → IsNode (node_in ns k)
node-fits ns (kept.Split l) h w = w
node-fits ns (kept.Leaf from to) h w = (part-number ns from to w.0 w.1, each-take IsNumber (to - from) (drop from ns) (each-drop IsNumber from ns h))

pub nodes-fit : (ns : List ℕ) (ks : List Kept) → AllByRecursion IsNumber ns → AllByRecursion (IsWithin ns) ks → AllByRecursion IsNode (nodes_in ns ks)
nodes-fit ns [] h w = tt
nodes-fit ns (k ∷ ks) h w = (node-fits ns k h w.0, nodes-fit ns ks h w.1)

pub length-nodes_in : (ns : List ℕ) (ks : List Kept) → length (nodes_in ns ks) ≡ length ks
length-nodes_in ns [] = refl
length-nodes_in ns (k ∷ ks) = ap suc (length-nodes_in ns ks)

-- ---- a tree

pub is_tree : (ns : List ℕ) (ks : List Kept) (first : ℕ) → IsInTree ns ks first → IsTree (tree_in ns ks first)
is_tree ns ks first h =
    subst (λ (nodes : List Node). AreNodes nodes) (sym (nodes_of-lines_from first (nodes_in ns ks)))
    (omega (arith, h.some, length-nodes_in ns ks), nodes-fit ns ks h.kept.each_number h.kept.each_node)

pub length-tree_in : (ns : List ℕ) (ks : List Kept) (first : ℕ) → length (tree_in ns ks first) ≡ length ks
length-tree_in ns ks first = length-lines_from first (nodes_in ns ks) ∙ length-nodes_in ns ks

-- a number among the lines
pub among : (ns : List ℕ) (ks : List Kept) (first : ℕ) (t : TreeTable) (k : ℕ) → tree_in ns ks first ≡ t → k ≤ length t → k ≤ length ks
among ns ks first t k is le = omega (arith, ap (λ (x : TreeTable). length x) is, length-tree_in ns ks first)

pub number-tree_in : (ns : List ℕ) (ks : List Kept) (first k : ℕ) → k < length ks → (get_or (tree_in ns ks first) k no_line).number ≡ first + k
number-tree_in ns ks first k lt = number-lines_from first (nodes_in ns ks) k (omega (arith, lt, length-nodes_in ns ks))

pub node-tree_in : (ns : List ℕ) (ks : List Kept) (first k : ℕ) (d : Kept) → k < length ks → (get_or (tree_in ns ks first) k no_line).node ≡ node_in ns (get_or ks k d)
node-tree_in ns ks first k d lt =
    node-lines_from first (nodes_in ns ks) k (node_in ns d) (omega (arith, lt, length-nodes_in ns ks))
    ∙ get_or-map (node_in ns) ks k d (node_in ns d) lt

pub within-at : (ns : List ℕ) (ks : List Kept) (first k : ℕ) (d : Kept) → k < length ks → IsInTree ns ks first → IsWithin ns (get_or ks k d)
within-at ns ks first k d lt h = each-at (IsWithin ns) ks k d lt h.kept.each_node

-- ---- trees

pub rise-ends : (from : ℕ) (ends : List ℕ) (n : ℕ) → Rise from ends n → AreEnds from ends n
rise-ends from [] n h = h
rise-ends from (e ∷ es) n h = (omega (arith, h.0), rise-ends e es n h.1)

pub rise-at : (from : ℕ) (ends : List ℕ) (n k : ℕ) → Rise from ends n → k < length ends → get_or (from ∷ ends) k 0 < get_or ends k 0
rise-at from [] n k h lt = absurd (omega arith)
rise-at from (e ∷ es) n zero h lt = h.0
rise-at from (e ∷ es) n (suc k) h lt = rise-at e es n k h.1 (omega arith)

length-piece : {A : Type 0} (xs : List A) (from to : ℕ) → from ≤ to → to ≤ length xs → length (slice_range xs from to) ≡ to - from
length-piece xs from to le within = omega (arith, length-take (to - from) (drop from xs), length-drop from xs)

pub pieces-fit : (nodes : List Node) (from : ℕ) (ends : List ℕ) → AllByRecursion IsNode nodes → Rise from ends (length nodes) → AllByRecursion AreNodes (pieces nodes from ends)
pieces-fit nodes from [] h r = tt
pieces-fit nodes from (e ∷ es) h r =
    let le = ends-le e es (length nodes) (rise-ends e es (length nodes) r.1) in
    ((omega (arith, r.0, length-piece nodes from e (omega (arith, r.0)) le), each-take IsNode (e - from) (drop from nodes) (each-drop IsNode from nodes h)), pieces-fit nodes e es h r.1)

pub derivation-length : (ns : List ℕ) (ks : List Kept) (ends : List ℕ) → length (derivation_in ns ks ends) ≡ length ends
derivation-length ns ks ends = length-trees_behind 1 (pieces (nodes_in ns ks) 0 ends) ∙ length-pieces (nodes_in ns ks) 0 ends

pub is_derivation : (ns : List ℕ) (ks : List Kept) (ends : List ℕ) → IsInDerivation ns ks ends → IsDerivation (derivation_in ns ks ends)
is_derivation ns ks ends h =
    let trees = pieces (nodes_in ns ks) 0 ends in
    let again : trees_of (numbered trees) ≡ trees = trees_of-trees_behind 1 trees in
    let rise = subst (λ (n : ℕ). Rise 0 ends n) (sym (length-nodes_in ns ks)) h.ends_rise in
    let fit : AreTrees trees = (omega (arith, h.few_trees, length-pieces (nodes_in ns ks) 0 ends), pieces-fit (nodes_in ns ks) 0 ends (nodes-fit ns ks h.kept.each_number h.kept.each_node) rise) in
    (subst (λ (ts : List (List Node)). AreTrees ts) (sym again) fit, ap numbered (sym again))

-- a number among the trees
pub of_trees : (ns : List ℕ) (ks : List Kept) (ends : List ℕ) (d : DerivationTable) (k : ℕ) → derivation_in ns ks ends ≡ d → k ≤ length d → k ≤ length ends
of_trees ns ks ends d k is le = omega (arith, ap (λ (x : DerivationTable). length x) is, derivation-length ns ks ends)

-- the lines of the tree at a place
pub tree-at : (nodes : List Node) (from : ℕ) (ends : List ℕ) (n k : ℕ) → AreEnds from ends (length nodes) → k < length ends
    → get_or (trees_behind n (pieces nodes from ends)) k [] ≡ lines_from (n + 2 + k + (get_or (from ∷ ends) k 0 - from)) (slice_range nodes (get_or (from ∷ ends) k 0) (get_or ends k 0))
tree-at nodes from [] n k h lt = absurd (omega arith)
tree-at nodes from (e ∷ es) n zero h lt = ap (λ (m : ℕ). lines_from m (slice_range nodes from e)) (omega arith)
tree-at nodes from (e ∷ es) n (suc k) h lt =
    let le = ends-le e es (length nodes) h.1 in
    let long = length-piece nodes from e h.0 le in
    let far = ends-before e es (length nodes) k h.1 (omega arith) in
    tree-at nodes e es (n + 1 + length (slice_range nodes from e)) k h.1 (omega arith)
    ∙ ap (λ (m : ℕ). lines_from m (slice_range nodes (get_or (e ∷ es) k 0) (get_or es k 0))) (omega (arith, long, far.0, h.0))

nodes_in-part : (ns : List ℕ) (ks : List Kept) (from to : ℕ) → slice_range (nodes_in ns ks) from to ≡ nodes_in ns (slice_range ks from to)
nodes_in-part ns ks from to = ap (take (to - from)) (drop-map (node_in ns) from ks) ∙ take-map (node_in ns) (to - from) (drop from ks)

abbrev pub before : List ℕ → ℕ → ℕ
before ends k = get_or (0 ∷ ends) k 0

pub derivation-at : (ns : List ℕ) (ks : List Kept) (ends : List ℕ) (k : ℕ) → IsInDerivation ns ks ends → k < length ends
    → get_or (derivation_in ns ks ends) k [] ≡ tree_in ns (slice_range ks (before ends k) (get_or ends k 0)) (3 + k + before ends k)
derivation-at ns ks ends k h lt =
    let are = subst (λ (n : ℕ). AreEnds 0 ends n) (sym (length-nodes_in ns ks)) (rise-ends 0 ends (length ks) h.ends_rise) in
    tree-at (nodes_in ns ks) 0 ends 1 k are lt
    ∙ ap (λ (m : ℕ). lines_from m (slice_range (nodes_in ns ks) (before ends k) (get_or ends k 0))) (omega arith)
    ∙ ap (lines_from (3 + k + before ends k)) (nodes_in-part ns ks (before ends k) (get_or ends k 0))

-- how far the tree at a place reaches
pub record Reaches (ks : List Kept) (ends : List ℕ) (k : ℕ) : Type 0 where
  pub some : before ends k < get_or ends k 0
  pub within : get_or ends k 0 ≤ length ks

pub reaches : (ns : List ℕ) (ks : List Kept) (ends : List ℕ) (k : ℕ) → IsInDerivation ns ks ends → k < length ends → Reaches ks ends k
reaches ns ks ends k h lt = record {
  some = rise-at 0 ends (length ks) k h.ends_rise lt;
  within = (ends-at 0 ends (length ks) k (rise-ends 0 ends (length ks) h.ends_rise) lt).1;
}

pub in_tree : (ns : List ℕ) (ks : List Kept) (ends : List ℕ) (k : ℕ) → IsInDerivation ns ks ends → k < length ends
    → IsInTree ns (slice_range ks (before ends k) (get_or ends k 0)) (3 + k + before ends k)
in_tree ns ks ends k h lt =
    let r = reaches ns ks ends k h lt in
    let long = length-piece ks (before ends k) (get_or ends k 0) (omega (arith, r.some)) r.within in
    record {
      kept = record {
        each_number = h.kept.each_number;
        each_node = each-take (IsWithin ns) (get_or ends k 0 - before ends k) (drop (before ends k) ks) (each-drop (IsWithin ns) (before ends k) ks h.kept.each_node);
      };
      some = omega (arith, r.some, long);
      few = omega (arith, r.some, r.within, long, h.few_lines, lt);
    }

-- ---- the tree that is lent, with what the code has of it

module _ (ns ns' : List ℕ) (ks ks' part : List Kept) (ends ends' : List ℕ) (i from : ℕ) (some : 1 ≤ i) (le : i ≤ length ends)
    (numbers : ns' ≡ ns) (nodes : ks' ≡ ks) (places : ends' ≡ ends) (begins : from ≡ before ends (i - 1))
    (is : part ≡ slice_range ks' (before ends' (i - 1)) (get_or ends' (i - 1) 0)) (h : IsInDerivation ns ks ends) where
  part-is : part ≡ slice_range ks (before ends (i - 1)) (get_or ends (i - 1) 0)
  part-is =
      is ∙ ap (λ (x : List Kept). slice_range x (before ends' (i - 1)) (get_or ends' (i - 1) 0)) nodes
      ∙ ap (λ (x : List ℕ). slice_range ks (before x (i - 1)) (get_or x (i - 1) 0)) places

  first-is : i + from + 2 ≡ 3 + (i - 1) + before ends (i - 1)
  first-is = omega (arith, begins, some)

  pub lent-in : IsInTree ns' part (i + from + 2)
  lent-in =
      rw (numbers, part-is, first-is) (in_tree ns ks ends (i - 1) h (omega arith))

  pub lent-is : tree_in ns' part (i + from + 2) ≡ get_or (derivation_in ns ks ends) (i - 1) []
  lent-is =
      rw (numbers, part-is, first-is) (sym (derivation-at ns ks ends (i - 1) h (omega arith)))

  pub lent-few : i + from + 2 < 2 ^ 32
  lent-few =
      let r = reaches ns ks ends (i - 1) h (omega arith) in
      omega (arith, begins, r.some, r.within, h.few_lines, le)
