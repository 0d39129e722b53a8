-- One more line of a text that is printed.
use Rattle.std.proofs.Common.{◌≡◌, ℕ, zero, suc, ◌+◌, ◌-◌, ◌<◌, ◌≤◌, List, [], ◌∷◌, ◌++◌, length, get_or, take, refl, sym, ap, ◌∙◌, append_assoc, arith}
use Rattle.std.specs.Prelude.{codes, decimal}
use Rattle.std.proofs.lemmas.List.{append-nil, take_all, get_or-map}
use Rattle.pg_derivation.specs.Derivation.{Node, leaf, TreeLine, TreeTable, DerivationTable, no_line, line_at, tree_at, nodes_of, trees_of}
use Rattle.pg_derivation.specs.Text.{numbers_text, node_text, nodes_text, obligation_text, trees_text}

one_more : (a b x : List ℕ) (whole rest : List ℕ) → whole ≡ rest ++ x → a ++ (b ++ whole) ≡ (a ++ (b ++ rest)) ++ x
one_more a b x whole rest is = rw is (simp append_assoc)

last : (a b : List ℕ) → a ++ (b ++ []) ≡ [] ++ (a ++ b)
last a b = ap (λ (c : List ℕ). a ++ c) (append-nil b)

pub numbers-take : (ns : List ℕ) (i : ℕ) → i < length ns → numbers_text (take (suc i) ns) ≡ numbers_text (take i ns) ++ (codes " " ++ decimal (get_or ns i 0))
numbers-take [] i lt = absurd (omega arith)
numbers-take (n ∷ ns) zero lt = last (codes " ") (decimal n)
numbers-take (n ∷ ns) (suc i) lt = one_more (codes " ") (decimal n) _ _ _ (numbers-take ns i (omega arith))

then_more : (a x whole rest : List ℕ) → whole ≡ rest ++ x → a ++ whole ≡ (a ++ rest) ++ x
then_more a x whole rest is = rw is (sym (append_assoc a rest x))

pub nodes-take : (nodes : List Node) (k : ℕ) (d : Node) → k < length nodes → nodes_text (take (suc k) nodes) ≡ nodes_text (take k nodes) ++ node_text (get_or nodes k d)
nodes-take [] k d lt = absurd (omega arith)
nodes-take (node ∷ nodes) zero d lt = append-nil (node_text node)
nodes-take (node ∷ nodes) (suc k) d lt = then_more (node_text node) _ _ _ (nodes-take nodes k d (omega arith))

pub trees-take : (j : ℕ) (trees : List (List Node)) (i : ℕ) → i < length trees
    → trees_text j (take (suc i) trees) ≡ trees_text j (take i trees) ++ (obligation_text (j + i) ++ nodes_text (get_or trees i []))
trees-take j [] i lt = absurd (omega arith)
trees-take j (t ∷ ts) zero lt = last (obligation_text j) (nodes_text t) ∙ ap (λ (n : ℕ). obligation_text n ++ nodes_text t) (omega arith)
trees-take j (t ∷ ts) (suc i) lt =
    one_more (obligation_text j) (nodes_text t) _ _ _ (trees-take (j + 1) ts i (omega arith))
    ∙ ap (λ (n : ℕ). (obligation_text j ++ (nodes_text t ++ trees_text (j + 1) (take i ts))) ++ (obligation_text n ++ nodes_text (get_or ts i []))) (omega arith)

-- what a step appends is the next part
pub printed : (now mid old start text next x y : List ℕ) → now ≡ mid ++ y → mid ≡ old ++ x → old ≡ start ++ text → next ≡ text ++ (x ++ y) → now ≡ start ++ next
printed now mid old start text next x y p q r s =
    let whole : ((start ++ text) ++ x) ++ y ≡ start ++ (text ++ (x ++ y)) = simp append_assoc in
    p ∙ (ap (λ (m : List ℕ). m ++ y) (q ∙ ap (λ (m : List ℕ). m ++ x) r) ∙ (whole ∙ ap (λ (t : List ℕ). start ++ t) (sym s)))

pub printed-one : (now old start text next x : List ℕ) → now ≡ old ++ x → old ≡ start ++ text → next ≡ text ++ x → now ≡ start ++ next
printed-one now old start text next x p r s =
    p ∙ (ap (λ (m : List ℕ). m ++ x) r ∙ (append_assoc start text x ∙ ap (λ (t : List ℕ). start ++ t) (sym s)))

pub number-next : (ns : List ℕ) (i : ℕ) → i < length ns → numbers_text (take (i + 1) ns) ≡ numbers_text (take i ns) ++ (codes " " ++ decimal (get_or ns i 0))
number-next ns i lt =
    let e : i + 1 ≡ suc i = omega arith in
    ap (λ (k : ℕ). numbers_text (take k ns)) e ∙ numbers-take ns i lt

length-nodes_of : (t : TreeTable) → length (nodes_of t) ≡ length t
length-nodes_of [] = refl
length-nodes_of (l ∷ t) = ap suc (length-nodes_of t)

length-trees_of : (d : DerivationTable) → length (trees_of d) ≡ length d
length-trees_of [] = refl
length-trees_of (t ∷ d) = ap suc (length-trees_of d)

pub node-next : (t : TreeTable) (k : ℕ) (said : Node) → k < length t → said ≡ (line_at t (k + 1)).node → nodes_text (take (k + 1) (nodes_of t)) ≡ nodes_text (take k (nodes_of t)) ++ node_text said
node-next t k said lt is =
    let e : k + 1 ≡ suc k = omega arith in
    let f : k + 1 - 1 ≡ k = omega arith in
    let here : get_or (nodes_of t) k (leaf []) ≡ said = get_or-map (λ (l : TreeLine). l.node) t k no_line (leaf []) lt ∙ (ap (λ (j : ℕ). (get_or t j no_line).node) (sym f) ∙ sym is) in
    ap (λ (j : ℕ). nodes_text (take j (nodes_of t))) e
    ∙ (nodes-take (nodes_of t) k (leaf []) (omega (arith, lt, length-nodes_of t)) ∙ ap (λ (n : Node). nodes_text (take k (nodes_of t)) ++ node_text n) here)

pub nodes-all : (t : TreeTable) (n : ℕ) → length t ≤ n → nodes_text (take n (nodes_of t)) ≡ nodes_text (nodes_of t)
nodes-all t n le = ap (λ (x : List Node). nodes_text x) (take_all n (nodes_of t) (omega (arith, le, length-nodes_of t)))

pub tree-next : (d : DerivationTable) (i : ℕ) (lent : TreeTable) → i < length d → lent ≡ tree_at d (i + 1)
    → trees_text 1 (take (i + 1) (trees_of d)) ≡ trees_text 1 (take i (trees_of d)) ++ (obligation_text (i + 1) ++ nodes_text (nodes_of lent))
tree-next d i lent lt is =
    let e : i + 1 ≡ suc i = omega arith in
    let f : i + 1 - 1 ≡ i = omega arith in
    let g : 1 + i ≡ i + 1 = omega arith in
    let here : get_or (trees_of d) i [] ≡ nodes_of lent = get_or-map nodes_of d i [] [] lt ∙ ap nodes_of (ap (λ (j : ℕ). get_or d j []) (sym f) ∙ sym is) in
    ap (λ (j : ℕ). trees_text 1 (take j (trees_of d))) e
    ∙ (trees-take 1 (trees_of d) i (omega (arith, lt, length-trees_of d))
    ∙ (ap (λ (j : ℕ). trees_text 1 (take i (trees_of d)) ++ (obligation_text j ++ nodes_text (get_or (trees_of d) i []))) g
    ∙ ap (λ (t : List Node). trees_text 1 (take i (trees_of d)) ++ (obligation_text (i + 1) ++ nodes_text t)) here))

pub trees-all : (d : DerivationTable) (n : ℕ) → length d ≤ n → trees_text 1 (take n (trees_of d)) ≡ trees_text 1 (trees_of d)
trees-all d n le = ap (λ (x : List (List Node)). trees_text 1 x) (take_all n (trees_of d) (omega (arith, le, length-trees_of d)))
