use Rattle.std.proofs.Common.{◌≡◌, ℕ, zero, suc, ◌+◌, ◌<◌, ◌≤◌, Bool, true, false, ◌||◌, List, [], ◌∷◌, length, get_or, take, drop, refl, sym, subst, ◌∙◌, arith}
use Rattle.std.proofs.lemmas.Bool.{both_ways}
use Rattle.std.proofs.lemmas.List.{append-nil, drop_more}
use Rattle.pg_region.specs.Literal.{Literal, negated}
use Rattle.pg_decider.specs.Assignment.{on}
use Rattle.pg_decider.specs.Leaf.{next_paths, paths_after, first_path, path_of, IsLog}
use Rattle.pg_decider.specs.Progress.{any_model, lines_all}
use Rattle.pg_decider.specs.Tree.{Tree, shut, met, fork, IsTree, IsNode, has_model, lines}
use Rattle.pg_decider.specs.declared.log.TreeNode.{TreeNode}
use Rattle.pg_decider.specs.declared.log.TreeNode.TheVariants.{Split, Leaf}
use Rattle.pg_decider.specs.declared.settle.Node.TheVariants.{Open, Shut}
use Rattle.pg_decider.proofs.Trees.{fun-push, lines-fork, models-fork}

-- a tree for each path
abbrev pub AllTrees : List (List Literal) → List (List Literal) → List Tree → Type 0
AllTrees cs [] [] = Unit {0}
AllTrees cs [] (t ∷ ts) = ⊥
AllTrees cs (p ∷ ps) [] = ⊥
AllTrees cs (p ∷ ps) (t ∷ ts) = IsTree cs (on p) t × AllTrees cs ps ts

-- what is left of a log
pub record Standing (cs : List (List Literal)) (ps : List (List Literal)) (xs : List TreeNode) : Type 0 where
  pub trees : List Tree
  pub are : AllTrees cs ps trees
  pub closed : any_model trees ≡ false
  pub left : xs ≡ lines_all trees

some-none : (l : Literal) → Split l ≡ Leaf → ⊥
some-none l e = cc

head-none : (x : TreeNode) (l : Literal) (xs ys : List TreeNode) → (x ∷ xs) ≡ (Leaf ∷ ys) → x ≡ Leaf
head-none x l xs ys e = cc

pub standing-start : (cs : List (List Literal)) (log : List TreeNode) → IsLog cs log → Standing cs ([] ∷ []) log
standing-start cs log h = record {
  trees = h.tree ∷ [];
  are = (h.is, tt);
  closed = or-false (has_model h.tree) h.closed;
  left = sym h.whole ∙ sym (append-nil (lines h.tree));
}
  where
    or-false : (b : Bool) → b ≡ false → (b || false) ≡ false
    or-false true e = e
    or-false false e = e

pub standing-next : (cs : List (List Literal)) (ps : List (List Literal)) (x : TreeNode) (xs : List TreeNode) → Standing cs ps (x ∷ xs) → Standing cs (next_paths ps x) xs
standing-next cs ps x xs h = go ps h.trees h.are h.closed h.left
  where
    nil : (x ∷ xs) ≡ [] → ⊥
    nil e = cc

    tails : (y : TreeNode) (ys : List TreeNode) → (x ∷ xs) ≡ (y ∷ ys) → xs ≡ ys
    tails y ys e = cc

    heads : (y : TreeNode) (ys : List TreeNode) → (x ∷ xs) ≡ (y ∷ ys) → x ≡ y
    heads y ys e = cc

    go : (ps : List (List Literal)) (ts : List Tree) → AllTrees cs ps ts → any_model ts ≡ false → (x ∷ xs) ≡ lines_all ts → Standing cs (next_paths ps x) xs
    go [] [] a m e = absurd (nil e)
    go [] (t ∷ ts) a m e = absurd a
    go (p ∷ ps) [] a m e = absurd a
    go (p ∷ ps) (shut ∷ ts) a m e = subst (λ (y : TreeNode). Standing cs (next_paths (p ∷ ps) y) xs) (sym (heads Leaf (lines_all ts) e))
        (record { trees = ts; are = a.1; closed = m; left = tails Leaf (lines_all ts) e })
    go (p ∷ ps) (met u ∷ ts) a m e = absurd (both_ways true m refl)
    go (p ∷ ps) (fork l x1 x2 ∷ ts) a m e =
        let e2 = e ∙ lines-fork l x1 x2 ts in
        subst (λ (y : TreeNode). Standing cs (next_paths (p ∷ ps) y) xs) (sym (heads (Split l) (lines_all (x1 ∷ x2 ∷ ts)) e2))
        (record {
          trees = x1 ∷ x2 ∷ ts;
          are = (subst (λ (v : Literal → Bool). IsTree cs v x1) (sym (fun-push p l)) a.0.1.0, (subst (λ (v : Literal → Bool). IsTree cs v x2) (sym (fun-push p (negated l))) a.0.1.1, a.1));
          closed = sym (models-fork l x1 x2 ts) ∙ m;
          left = tails (Split l) (lines_all (x1 ∷ x2 ∷ ts)) e2;
        })

pub standing-at : (cs : List (List Literal)) (ps : List (List Literal)) (xs : List TreeNode) (k : ℕ) → Standing cs ps xs → k ≤ length xs → Standing cs (paths_after ps (take k xs)) (drop k xs)
standing-at cs ps xs zero h le = h
standing-at cs ps [] (suc k) h le = absurd (omega arith)
standing-at cs ps (x ∷ xs) (suc k) h le = standing-at cs (next_paths ps x) xs k (standing-next cs ps x xs h) (omega arith)

-- the next node
pub standing-open : (cs : List (List Literal)) (ps : List (List Literal)) (l : Literal) (xs : List TreeNode) → Standing cs ps (Split l ∷ xs) → IsNode cs (on (first_path ps)) (Open l)
standing-open cs ps l xs h = go ps h.trees h.are h.closed h.left
  where
    nil : (Split l ∷ xs) ≡ [] → ⊥
    nil e = cc

    no-leaf : (ys : List TreeNode) → (Split l ∷ xs) ≡ (Leaf ∷ ys) → ⊥
    no-leaf ys e = cc

    heads : (k : Literal) (ys : List TreeNode) → (Split l ∷ xs) ≡ (Split k ∷ ys) → k ≡ l
    heads k ys e = cc

    go : (ps : List (List Literal)) (ts : List Tree) → AllTrees cs ps ts → any_model ts ≡ false → (Split l ∷ xs) ≡ lines_all ts → IsNode cs (on (first_path ps)) (Open l)
    go [] [] a m e = absurd (nil e)
    go [] (t ∷ ts) a m e = absurd a
    go (p ∷ ps) [] a m e = absurd a
    go (p ∷ ps) (shut ∷ ts) a m e = absurd (no-leaf (lines_all ts) e)
    go (p ∷ ps) (met u ∷ ts) a m e = absurd (no-leaf (lines_all ts) e)
    go (p ∷ ps) (fork k x1 x2 ∷ ts) a m e = subst (λ (z : Literal). IsNode cs (on p) (Open z)) (heads k (lines_all (x1 ∷ x2 ∷ ts)) (e ∙ lines-fork k x1 x2 ts)) a.0.0

pub standing-shut : (cs : List (List Literal)) (ps : List (List Literal)) (xs : List TreeNode) → Standing cs ps (Leaf ∷ xs) → IsNode cs (on (first_path ps)) Shut
standing-shut cs ps xs h = go ps h.trees h.are h.closed h.left
  where
    nil : (Leaf ∷ xs) ≡ [] → ⊥
    nil e = cc

    no-split : (k : Literal) (ys : List TreeNode) → (Leaf ∷ xs) ≡ (Split k ∷ ys) → ⊥
    no-split k ys e = cc

    go : (ps : List (List Literal)) (ts : List Tree) → AllTrees cs ps ts → any_model ts ≡ false → (Leaf ∷ xs) ≡ lines_all ts → IsNode cs (on (first_path ps)) Shut
    go [] [] a m e = absurd (nil e)
    go [] (t ∷ ts) a m e = absurd a
    go (p ∷ ps) [] a m e = absurd a
    go (p ∷ ps) (shut ∷ ts) a m e = a.0
    go (p ∷ ps) (met u ∷ ts) a m e = absurd (both_ways true m refl)
    go (p ∷ ps) (fork k x1 x2 ∷ ts) a m e = absurd (no-split k (lines_all (x1 ∷ x2 ∷ ts)) (e ∙ lines-fork k x1 x2 ts))

pub standing-more : (cs : List (List Literal)) (x : TreeNode) (xs : List TreeNode) → Standing cs [] (x ∷ xs) → ⊥
standing-more cs x xs h = go h.trees h.are h.left
  where
    nil : (x ∷ xs) ≡ [] → ⊥
    nil e = cc

    go : (ts : List Tree) → AllTrees cs [] ts → (x ∷ xs) ≡ lines_all ts → ⊥
    go [] a e = nil e
    go (t ∷ ts) a e = a

pub log-at : (cs : List (List Literal)) (log : List TreeNode) (k : ℕ) → IsLog cs log → k < length log →
    Standing cs (paths_after ([] ∷ []) (take k log)) (get_or log k Leaf ∷ drop (k + 1) log)
log-at cs log k h lt = subst (λ (xs : List TreeNode). Standing cs (paths_after ([] ∷ []) (take k log)) xs) (drop_more log k Leaf lt) (standing-at cs ([] ∷ []) log k (standing-start cs log h) (omega arith))

-- the node at place k is a leaf
pub leaf-shut : (cs : List (List Literal)) (log : List TreeNode) (k : ℕ) → IsLog cs log → k < length log → get_or log k Leaf ≡ Leaf → IsNode cs (on (path_of log k)) Shut
leaf-shut cs log k h lt e = standing-shut cs (paths_after ([] ∷ []) (take k log)) (drop (k + 1) log)
    (subst (λ (x : TreeNode). Standing cs (paths_after ([] ∷ []) (take k log)) (x ∷ drop (k + 1) log)) e (log-at cs log k h lt))
