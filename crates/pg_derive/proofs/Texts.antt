-- Texts of derivations, line by line and tree by tree.
use Rattle.std.proofs.Common.{◌≡◌, ℕ, suc, ◌+◌, ◌<◌, List, [], ◌∷◌, ◌++◌, length, get_or, refl, sym, ap, subst, ◌∙◌, arith, append_assoc, length-append, inl, inr}
use Rattle.std.proofs.lemmas.Bool.{cases_eq}
use Rattle.std.proofs.lemmas.List.{append-nil, get_or_append_left}
use Rattle.std.proofs.Math.Seq.{get_or-append_seam}
use Rattle.pg_region.specs.Literal.{Literal}
use Rattle.pg_decider.specs.Leaf.{path_of}
use Rattle.pg_decider.specs.declared.log.TreeNode.{TreeNode}
use Rattle.pg_decider.specs.declared.log.TreeNode.TheVariants.{Leaf}
use Rattle.pg_derivation.specs.Derivation.{Node, leaf}
use Rattle.pg_derivation.specs.Text.{header_text, obligation_text, node_text, nodes_text, trees_text}
use Rattle.pg_tree.specs.Laws.{IsWritten, AreWritten}
use Rattle.pg_outline.specs.Outline.{OutlineTable}
use Rattle.pg_layers.specs.Clauses.{obligation, obligation_clauses}
use Rattle.pg_derive.specs.Derived.{IsDerivedTree, begun_text}
use Rattle.pg_derive.specs.Begun.{IsNodeText, AreFirst, IsFirstText, IsWholeText, AreTexts}

-- a fact of each place of a list that is one longer
pub each-more : {T : Type 0} (P : ℕ → T → Type 0) (xs : List T) (x d : T) → ((k : ℕ) → k < length xs → P k (get_or xs k d)) → P (length xs) x
    → (k : ℕ) → k < length (xs ++ x ∷ []) → P k (get_or (xs ++ x ∷ []) k d)
each-more P xs x d before here k lt = elim (cases_eq k (length xs)) [
  | inl e ↦ subst (λ (j : ℕ). P j (get_or (xs ++ x ∷ []) j d)) (sym e) (subst (P (length xs)) (sym (get_or-append_seam xs x [] d)) here)
  | inr ne ↦
      let less : k < length xs = omega (arith, lt, length-append xs (x ∷ []), ne) in
      subst (P k) (sym (get_or_append_left xs (x ∷ []) d k less)) (before k less)
]

-- ---- nodes

pub nodes-append : (a b : List Node) → nodes_text (a ++ b) ≡ nodes_text a ++ nodes_text b
nodes-append [] b = refl
nodes-append (n ∷ a) b = ap (λ (l : List ℕ). node_text n ++ l) (nodes-append a b) ∙ sym (append_assoc (node_text n) (nodes_text a) (nodes_text b))

nodes-more : (nodes : List Node) (node : Node) → nodes_text (nodes ++ node ∷ []) ≡ nodes_text nodes ++ node_text node
nodes-more nodes node = nodes-append nodes (node ∷ []) ∙ ap (λ (l : List ℕ). nodes_text nodes ++ l) (append-nil (node_text node))

module _ (cs : List (List Literal)) (log : List TreeNode) where
  pub none-first : IsFirstText cs log 0 []
  none-first = record { nodes = []; count = refl; first = record { within = omega arith; each = λ k lt. absurd (omega (arith, lt)) }; spelled = refl }

  pub one-more : (nodes : List Node) (node : Node) → AreFirst cs log nodes → length nodes < length log
      → IsWritten cs (path_of log (length nodes)) (get_or log (length nodes) Leaf) node → AreFirst cs log (nodes ++ node ∷ [])
  one-more nodes node h lt w = record {
    within = omega (arith, length-append nodes (node ∷ []), lt);
    each = each-more (λ j (n : Node). IsWritten cs (path_of log j) (get_or log j Leaf) n) nodes node (leaf []) h.each w;
  }

  pub first-more : (k : ℕ) (text line : List ℕ) → k < length log → IsFirstText cs log k text → IsNodeText cs log k line → IsFirstText cs log (k + 1) (text ++ line)
  first-more k text line lt h n = record {
    nodes = h.nodes ++ n.node ∷ [];
    count = length-append h.nodes (n.node ∷ []) ∙ omega (arith, h.count);
    first = one-more h.nodes n.node h.first (omega (arith, h.count, lt))
        (subst (λ (j : ℕ). IsWritten cs (path_of log j) (get_or log j Leaf) n.node) (sym h.count) n.written);
    spelled = ap (λ (l : List ℕ). l ++ line) h.spelled ∙ (ap (λ (l : List ℕ). nodes_text h.nodes ++ l) n.spelled ∙ sym (nodes-more h.nodes n.node));
  }

  -- all of them
  pub all-written : (nodes : List Node) → length nodes ≡ length log → AreFirst cs log nodes → AreWritten cs log nodes
  all-written nodes e h = record { long = e; each = λ k lt. h.each k (omega (arith, e, lt)) }

-- ---- trees

trees-more : (i : ℕ) (trees : List (List Node)) (nodes : List Node) → trees_text i (trees ++ nodes ∷ []) ≡ trees_text i trees ++ (obligation_text (i + length trees) ++ nodes_text nodes)
trees-more i [] nodes =
    let here : i ≡ i + 0 = omega arith in
    ap (λ (l : List ℕ). obligation_text i ++ l) (append-nil (nodes_text nodes)) ∙ ap (λ (j : ℕ). obligation_text j ++ nodes_text nodes) here
trees-more i (t ∷ trees) nodes =
    let last = λ (j : ℕ). obligation_text j ++ nodes_text nodes in
    let there : (i + 1) + length trees ≡ i + suc (length trees) = omega arith in
    ap (λ (l : List ℕ). obligation_text i ++ (nodes_text t ++ l)) (trees-more (i + 1) trees nodes ∙ ap (λ (j : ℕ). trees_text (i + 1) trees ++ last j) there)
    ∙ (ap (λ (l : List ℕ). obligation_text i ++ l) (sym (append_assoc (nodes_text t) (trees_text (i + 1) trees) (last (i + suc (length trees)))))
    ∙ sym (append_assoc (obligation_text i) (nodes_text t ++ trees_text (i + 1) trees) (last (i + suc (length trees)))))

module _ (o : OutlineTable) where
  pub no-texts : AreTexts o 0 header_text
  no-texts = record { trees = []; are = λ k lt. absurd (omega (arith, lt)); all = refl; spelled = sym (append-nil header_text) }

  pub texts-more : (k : ℕ) (front text : List ℕ) → AreTexts o k front → IsWholeText o (k + 1) text → AreTexts o (k + 1) (front ++ text)
  texts-more k front text h w = record {
    trees = h.trees ++ w.tree.nodes ∷ [];
    are = each-more (λ j (nodes : List Node). IsDerivedTree o (j + 1) nodes) h.trees w.tree.nodes [] h.are (subst (λ (j : ℕ). IsDerivedTree o (j + 1) w.tree.nodes) (sym h.all) (record {
      log = w.log;
      is = w.is;
      written = all-written (obligation_clauses o (obligation o (k + 1))) w.log w.tree.nodes w.tree.count w.tree.first;
    }));
    all = length-append h.trees (w.tree.nodes ∷ []) ∙ omega (arith, h.all);
    spelled = spelled;
  }
    where
      number : k + 1 ≡ 1 + length h.trees
      number = omega (arith, h.all)

      piece : text ≡ obligation_text (1 + length h.trees) ++ nodes_text w.tree.nodes
      piece = w.spelled ∙ (ap (λ (l : List ℕ). obligation_text (k + 1) ++ l) w.tree.spelled ∙ ap (λ (j : ℕ). obligation_text j ++ nodes_text w.tree.nodes) number)

      spelled : front ++ text ≡ begun_text (h.trees ++ w.tree.nodes ∷ [])
      spelled =
          ap (λ (l : List ℕ). l ++ text) h.spelled
          ∙ (ap (λ (l : List ℕ). begun_text h.trees ++ l) piece
          ∙ (append_assoc header_text (trees_text 1 h.trees) (obligation_text (1 + length h.trees) ++ nodes_text w.tree.nodes)
          ∙ ap (λ (l : List ℕ). header_text ++ l) (sym (trees-more 1 h.trees w.tree.nodes))))
