-- A text of a derivation that is begun can be gone on with, to the text of the outcome.
use Rattle.std.proofs.Common.{◌≡◌, ℕ, zero, suc, ◌+◌, ◌-◌, ◌<◌, ◌≤◌, true, false, Option, Some, None, List, [], ◌∷◌, ◌++◌, length, get_or, refl, sym, ap, subst, ◌∙◌, arith, append_assoc, length-append, inl, inr, ◌⊎◌}
use Rattle.std.proofs.lemmas.Bool.{cases_Bool, cases_eq, cases_lt, both_ways, or_cases}
use Rattle.std.proofs.lemmas.List.{append-nil}
use Rattle.pg_region.specs.Literal.{Literal}
use Rattle.pg_decider.specs.Assignment.{Assignment, on}
use Rattle.pg_decider.specs.Laws.{AreOver}
use Rattle.pg_decider.specs.Leaf.{IsLog, path_of}
use Rattle.pg_decider.specs.Tree.{Tree, shut, met, fork, has_model, model_of, or_model, visited, lines}
use Rattle.pg_decider.specs.declared.log.TreeNode.{TreeNode}
use Rattle.pg_decider.specs.declared.log.TreeNode.TheVariants.{Split, Leaf}
use Rattle.pg_decider.proofs.Existing.{small-tree-exists}
use Rattle.pg_decider.proofs.Standing.{leaf-shut}
use Rattle.pg_derivation.specs.Derivation.{Node, split, leaf}
use Rattle.pg_derivation.specs.Text.{obligation_text, nodes_text}
use Rattle.pg_tree.specs.Laws.{IsWritten, AreWritten}
use Rattle.pg_outline.specs.Outline.{OutlineTable}
use Rattle.pg_layers.specs.Clauses.{obligation, obligation_clauses, obligation_atoms}
use Rattle.pg_judge.specs.Outcome.{Outcome, accepted, rejected, spent, obligation_count, IsTreeOf, IsClosed, AreClosed, IsNext, IsOutcome, truths_of}
use Rattle.pg_derive.specs.Derived.{IsDerivationUnder, closed_by, end_of}
use Rattle.pg_derive.specs.Begun.{AreFirst, IsFirstText, IsWholeText, IsPartText, AreTexts, IsBegun}
use Rattle.pg_derive.proofs.Texts.{nodes-append, one-more, all-written, texts-more}
use Rattle.pg_derive.proofs.Leaves.{leaf-exists}

-- ---- one tree

module _ (cs : List (List Literal)) (log : List TreeNode) (is : IsLog cs log) where
  record HasNode (k : ℕ) : Type 0 where
    node : Node
    written : IsWritten cs (path_of log k) (get_or log k Leaf) node

  -- something can be written for each node
  node-at : (k : ℕ) → k < length log → HasNode k
  node-at k lt = go (get_or log k Leaf) refl
    where
      go : (x : TreeNode) → get_or log k Leaf ≡ x → HasNode k
      go (Split l) e = record { node = split l; written = subst (λ (y : TreeNode). IsWritten cs (path_of log k) y (split l)) (sym e) refl }
      go Leaf e =
          let shut = leaf-shut cs log k is lt e in
          let h = leaf-exists cs (on (path_of log k)) shut.set shut.closure shut.is in
          record { node = leaf h.numbers; written = subst (λ (y : TreeNode). IsWritten cs (path_of log k) y (leaf h.numbers)) (sym e) h.is }

  pub record HasRest (nodes : List Node) : Type 0 where
    pub more : List Node
    pub written : AreWritten cs log (nodes ++ more)

  no-rest : (nodes : List Node) → AreFirst cs log nodes → length nodes ≡ length log → HasRest nodes
  no-rest nodes h e = record { more = []; written = subst (AreWritten cs log) (sym (append-nil nodes)) (all-written cs log nodes e h) }

  rest-from : (fuel : ℕ) (nodes : List Node) → AreFirst cs log nodes → length log ≤ length nodes + fuel → HasRest nodes
  rest-from zero nodes h le = no-rest nodes h (omega (arith, h.within, le))
  rest-from (suc fuel) nodes h le = elim (cases_eq (length nodes) (length log)) [
    | inl e ↦ no-rest nodes h e
    | inr ne ↦
        let lt : length nodes < length log = omega (arith, h.within, ne) in
        let n = node-at (length nodes) lt in
        let r = rest-from fuel (nodes ++ n.node ∷ []) (one-more cs log nodes n.node h lt n.written) (longer n.node) in
        record { more = n.node ∷ r.more; written = subst (AreWritten cs log) (append_assoc nodes (n.node ∷ []) r.more) r.written }
  ]
    where
      longer : (node : Node) → length log ≤ length (nodes ++ node ∷ []) + fuel
      longer node = omega (arith, le, length-append nodes (node ∷ []))

  pub tree-rest : (nodes : List Node) → AreFirst cs log nodes → HasRest nodes
  tree-rest nodes h = rest-from (length log) nodes h (omega arith)

  pub written-first : (nodes : List Node) → AreWritten cs log nodes → IsFirstText cs log (length log) (nodes_text nodes)
  written-first nodes w = record {
    nodes = nodes;
    count = w.long;
    first = record { within = omega (arith, w.long); each = λ k lt. w.each k (omega (arith, w.long, lt)) };
    spelled = refl;
  }

-- ---- a model that is there

some-model : (t : Tree) → has_model t ≡ true → (u : Assignment) × (model_of t ≡ Some u)
some-model shut h = absurd (both_ways false refl h)
some-model (met u) h = (u, refl)
some-model (fork l a b) h = elim (or_cases (has_model a) (has_model b) h) [
  | inl x ↦ let m = some-model a x in (m.0, ap (λ (p : Option Assignment). or_model p (model_of b)) m.1)
  | inr y ↦ let m = some-model b y in behind (model_of a) m.0 (model_of b) m.1
]
  where
    behind : (p : Option Assignment) (u : Assignment) (q : Option Assignment) → q ≡ Some u → (v : Assignment) × (or_model p q ≡ Some v)
    behind None u q e = (u, e)
    behind (Some v) u q e = (v, refl)

-- ---- an outline

module _ (o : OutlineTable) (budget : ℕ) (over : (i : ℕ) → 1 ≤ i → i ≤ obligation_count o → AreOver (obligation_atoms o (obligation o i)) (obligation_clauses o (obligation o i))) where
  pub record GoesOn (text : List ℕ) : Type 0 where
    pub rest : List ℕ
    pub is : IsDerivationUnder o budget (text ++ rest)

  outcome-here : (a : Outcome) (k : ℕ) (front : List ℕ) → AreTexts o k front → IsOutcome o budget a → k ≡ closed_by a → GoesOn front
  outcome-here a k front h is e = record {
    rest = end_of a;
    is = record { outcome = a; is = is; derivation = record { trees = h.trees; are = h.are; all = h.all ∙ e; spelled = ap (λ (l : List ℕ). l ++ end_of a) h.spelled } };
  }

  next-is : (k nodes : ℕ) → AreClosed o budget k nodes → k < obligation_count o → IsNext o budget (k + 1)
  next-is k nodes c lt = record { from = omega arith; to = omega (arith, lt); nodes = nodes; closed = subst (λ (j : ℕ). AreClosed o budget j nodes) (omega arith) c }

  closed-more : (k nodes n : ℕ) → AreClosed o budget k nodes → IsClosed o budget (k + 1) n → AreClosed o budget (k + 1) (nodes + n)
  closed-more k nodes n c d =
      let next : suc k ≡ k + 1 = omega arith in
      subst (λ (j : ℕ). AreClosed o budget j (nodes + n)) next
      (record { before = nodes; here = n; sum = refl; first = c; next = subst (λ (j : ℕ). IsClosed o budget j n) (sym next) d })

  back-one : (k : ℕ) → k ≡ (k + 1) - 1
  back-one k = omega arith

  longer-text : (front text : List ℕ) → GoesOn (front ++ text) → GoesOn front
  longer-text front text g = record { rest = text ++ g.rest; is = subst (IsDerivationUnder o budget) (append_assoc front text g.rest) g.is }

  -- the tree of the next obligation
  next-tree : (k nodes : ℕ) (front : List ℕ) → AreTexts o k front → AreClosed o budget k nodes → k < obligation_count o
      → (t : Tree) → IsTreeOf o (k + 1) t → ((n : ℕ) (text : List ℕ) → IsClosed o budget (k + 1) n → IsWholeText o (k + 1) text → GoesOn (front ++ text)) → GoesOn front
  next-tree k nodes front h c lt t is further = elim (cases_lt budget (visited t)) [
    | inl more ↦ outcome-here (spent (k + 1)) k front h (record { next = next-is k nodes c lt; tree = t; is = is; more = more }) (back-one k)
    | inr few ↦ within (omega (arith, few)) (cases_Bool (has_model t))
  ]
    where
      cs : List (List Literal)
      cs = obligation_clauses o (obligation o (k + 1))

      closed : visited t ≤ budget → has_model t ≡ false → GoesOn front
      closed le e =
          let log_is : IsLog cs (lines t) = record { tree = t; is = is; closed = e; whole = refl } in
          let r = tree-rest cs (lines t) log_is [] (record { within = omega arith; each = λ j less. absurd (omega (arith, less)) }) in
          let text = obligation_text (k + 1) ++ nodes_text r.more in
          longer-text front text (further (visited t) text (record { tree = t; is = is; closed = e; visited = refl; within = le })
          (record { log = lines t; is = log_is; lines = nodes_text r.more; tree = written-first cs (lines t) log_is r.more r.written; spelled = refl }))

      within : visited t ≤ budget → (has_model t ≡ true) ⊎ (has_model t ≡ false) → GoesOn front
      within le (inl m) =
          let u = some-model t m in
          outcome-here (rejected (k + 1) (truths_of (obligation_atoms o (obligation o (k + 1))) u.0)) k front h
          (record { next = next-is k nodes c lt; tree = t; is = is; model = u.0; meets = u.1; within = le; truths_are = refl }) (back-one k)
      within le (inr e) = closed le e

  on-from : (fuel k nodes : ℕ) (front : List ℕ) → AreTexts o k front → AreClosed o budget k nodes → k ≤ obligation_count o → obligation_count o ≤ k + fuel → GoesOn front
  on-from zero k nodes front h c le most = outcome-here (accepted k nodes) k front h (record { all = omega (arith, le, most); closed = c }) refl
  on-from (suc fuel) k nodes front h c le most = elim (cases_eq k (obligation_count o)) [
    | inl e ↦ outcome-here (accepted k nodes) k front h (record { all = e; closed = c }) refl
    | inr ne ↦
        let lt : k < obligation_count o = omega (arith, le, ne) in
        let small = small-tree-exists (obligation_atoms o (obligation o (k + 1))) (obligation_clauses o (obligation o (k + 1))) (over (k + 1) (omega arith) (omega (arith, lt))) in
        next-tree k nodes front h c lt small.tree small.is
        (λ n text d w. on-from fuel (k + 1) (nodes + n) (front ++ text) (texts-more o k front text h w) (closed-more k nodes n c d) (omega (arith, lt)) (omega (arith, most)))
  ]

  pub goes-on : (text : List ℕ) → IsBegun o budget text → GoesOn text
  goes-on text b = elim b.next [
    | inl e ↦
        subst GoesOn (sym (b.spelled ∙ (ap (λ (l : List ℕ). b.front ++ l) e ∙ append-nil b.front)))
        (on-from (obligation_count o) b.done b.nodes b.front b.texts b.closed b.few (omega arith))
    | inr (n, closed, to, part) ↦ part-on n closed to part
  ]
    where
      part-on : (n : ℕ) → IsClosed o budget (b.done + 1) n → b.done + 1 ≤ obligation_count o → IsPartText o (b.done + 1) b.rest → GoesOn text
      part-on n closed to part =
          let cs = obligation_clauses o (obligation o (b.done + 1)) in
          let first = part.tree.1 in
          let r = tree-rest cs part.log part.is first.nodes first.first in
          let nodes = first.nodes ++ r.more in
          let whole = obligation_text (b.done + 1) ++ nodes_text nodes in
          let w : IsWholeText o (b.done + 1) whole = record { log = part.log; is = part.is; lines = nodes_text nodes; tree = written-first cs part.log part.is nodes r.written; spelled = refl } in
          let g = on-from (obligation_count o) (b.done + 1) (b.nodes + n) (b.front ++ whole) (texts-more o b.done b.front whole b.texts w) (closed-more b.done b.nodes n b.closed closed) to (omega arith) in
          let parts : whole ≡ b.rest ++ nodes_text r.more =
          ap (λ (l : List ℕ). obligation_text (b.done + 1) ++ l) (nodes-append first.nodes r.more ∙ ap (λ (l : List ℕ). l ++ nodes_text r.more) (sym first.spelled))
          ∙ (sym (append_assoc (obligation_text (b.done + 1)) part.lines (nodes_text r.more)) ∙ ap (λ (l : List ℕ). l ++ nodes_text r.more) (sym part.spelled)) in
          let all : b.front ++ whole ≡ text ++ nodes_text r.more =
          ap (λ (l : List ℕ). b.front ++ l) parts ∙ (sym (append_assoc b.front b.rest (nodes_text r.more)) ∙ ap (λ (l : List ℕ). l ++ nodes_text r.more) (sym b.spelled)) in
          longer-text text (nodes_text r.more) (subst GoesOn all g)
