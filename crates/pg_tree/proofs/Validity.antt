-- The laws of valid trees.
use Rattle.std.proofs.Common.{◌≡◌, ℕ, suc, ◌-◌, ◌<◌, ◌≤◌, Bool, true, false, not, cond, ◌||◌, Option, Some, None, List, [], ◌∷◌, ◌++◌, length, get_or, take, refl, sym, ap, subst, ◌∙◌, arith, inl, inr, append_assoc}
use Rattle.std.proofs.lemmas.Bool.{cases_Bool, both_ways, or_left, or_right, false_from_ne_true}
use Rattle.std.proofs.lemmas.List.{append-nil}
use Rattle.pg_region.specs.Literal.{Literal, same, negated}
use Rattle.pg_region.specs.Region.{clause_at}
use Rattle.pg_decider.specs.Assignment.{Assignment, on, added, Within, Forces}
use Rattle.pg_decider.specs.Laws.{AreOver, IsWhole}
use Rattle.pg_decider.specs.Leaf.{next_paths, paths_after, first_path}
use Rattle.pg_decider.specs.Progress.{lines_all}
use Rattle.pg_decider.specs.Split.{any_true, AllMet}
use Rattle.pg_decider.specs.Tree.{IsNode, Tree, shut, met, fork}
use Rattle.pg_decider.specs.declared.log.TreeNode.{TreeNode}
use Rattle.pg_decider.specs.declared.log.TreeNode.TheVariants.{Split, Leaf}
use Rattle.pg_decider.specs.declared.settle.Node.TheVariants.{Open}
use Rattle.pg_decider.proofs.Literals.{same-is, same-refl, added-cases}
use Rattle.pg_decider.proofs.Splits.{split-picks}
use Rattle.pg_decider.proofs.Standing.{AllTrees, Standing, standing-start, standing-next, standing-open, standing-more}
use Rattle.pg_decider.proofs.Trees.{fun-push, lines-fork}
use Rattle.pg_derivation.specs.Derivation.{Node, split, leaf, TreeLine, nodes_of}
use Rattle.pg_tree.specs.Valid.{SplitTree, closing, IsClosing, MaySplit, IsValid, preorder, AreValid}
use Rattle.pg_tree.specs.Valid as valid
use Rattle.pg_tree.specs.Fault.{leaf_fault, may_split, or_fault, on_node, lines_fault}
use Rattle.pg_tree.specs.Laws.{IsWritten, NoFaultIsValid, ValidIsUnsatisfiable, WrittenIsValid}
use Rattle.pg_tree.specs.declared.fault.TreeFault.{TreeFault}
use Rattle.pg_tree.specs.declared.fault.TreeFault.TheVariants.{BadLiteral, EndsEarly, TooMuch}
use Rattle.pg_tree.proofs.Units.{some-none, closing-fault, fault-closing, leaf-closing, may-from, may-is}

-- ---- trees one after the other

abbrev AllValid : ℕ → List (List Literal) → List Assignment → List SplitTree → Type 0
AllValid n cs [] [] = Unit {0}
AllValid n cs [] (t ∷ ts) = ⊥
AllValid n cs (s ∷ more) [] = ⊥
AllValid n cs (s ∷ more) (t ∷ ts) = IsValid n cs s t × AllValid n cs more ts

abbrev preorders : List SplitTree → List Node
preorders [] = []
preorders (t ∷ ts) = preorder t ++ preorders ts

-- nodes are those of valid trees for the sets
record Trees (n : ℕ) (cs : List (List Literal)) (sets : List Assignment) (nodes : List Node) : Type 0 where
  trees : List SplitTree
  are : AllValid n cs sets trees
  whole : preorders trees ≡ nodes

preorders-fork : (l : Literal) (a b : SplitTree) (ts : List SplitTree) → preorders (valid.fork l a b ∷ ts) ≡ split l ∷ preorders (a ∷ b ∷ ts)
preorders-fork l a b ts = ap (λ x. split l ∷ x) (append_assoc (preorder a) (preorder b) (preorders ts))

trees-leaf : (n : ℕ) (cs : List (List Literal)) (s : Assignment) (more : List Assignment) (ns : List ℕ) (nodes : List Node) → IsClosing cs s ns → Trees n cs more nodes → Trees n cs (s ∷ more) (leaf ns ∷ nodes)
trees-leaf n cs s more ns nodes c r = record { trees = closing ns ∷ r.trees; are = (c, r.are); whole = ap (λ x. leaf ns ∷ x) r.whole }

trees-fork : (n : ℕ) (cs : List (List Literal)) (s : Assignment) (more : List Assignment) (l : Literal) (nodes : List Node) → MaySplit n s l
    → Trees n cs (added l s ∷ added (negated l) s ∷ more) nodes → Trees n cs (s ∷ more) (split l ∷ nodes)
trees-fork n cs s more l nodes m r = go r.trees r.are r.whole
  where
    go : (ts : List SplitTree) → AllValid n cs (added l s ∷ added (negated l) s ∷ more) ts → preorders ts ≡ nodes → Trees n cs (s ∷ more) (split l ∷ nodes)
    go [] v w = absurd v
    go (a ∷ []) v w = absurd v.1
    go (a ∷ b ∷ ts) v w = record { trees = valid.fork l a b ∷ ts; are = ((m, (v.0, v.1.0)), v.1.1); whole = preorders-fork l a b ts ∙ ap (λ x. split l ∷ x) w }

nil-cons : (x : Node) (xs : List Node) → [] ≡ (x ∷ xs) → ⊥
nil-cons x xs e = cc

-- ---- no fault exactly where they are valid

trees-from : (n : ℕ) (cs : List (List Literal)) (last : ℕ) (sets : List Assignment) (xs : List TreeLine) → lines_fault n cs last sets xs ≡ None → Trees n cs sets (nodes_of xs)
trees-from n cs last [] [] h = record { trees = []; are = tt; whole = refl }
trees-from n cs last [] (x ∷ xs) h = absurd (some-none (TooMuch x.number) h)
trees-from n cs last (s ∷ more) [] h = absurd (some-none (EndsEarly last) h)
trees-from n cs last (s ∷ more) (x ∷ xs) h = go (λ sets. trees-from n cs x.number sets xs) x.node h
  where
    splits : (l : Literal) (b : Bool) → may_split n s l ≡ b → (lines_fault n cs x.number (added l s ∷ added (negated l) s ∷ more) xs ≡ None → Trees n cs (added l s ∷ added (negated l) s ∷ more) (nodes_of xs))
        → cond b (lines_fault n cs x.number (added l s ∷ added (negated l) s ∷ more) xs) (Some (BadLiteral x.number)) ≡ None → Trees n cs (s ∷ more) (split l ∷ nodes_of xs)
    splits l true m later h = trees-fork n cs s more l (nodes_of xs) (may-is n s l m) (later h)
    splits l false m later h = absurd (some-none (BadLiteral x.number) h)

    closes : (ns : List ℕ) (o : Option TreeFault) → leaf_fault cs x.number s ns ≡ o → (lines_fault n cs x.number more xs ≡ None → Trees n cs more (nodes_of xs))
        → or_fault o (lines_fault n cs x.number more xs) ≡ None → Trees n cs (s ∷ more) (leaf ns ∷ nodes_of xs)
    closes ns None e later h = trees-leaf n cs s more ns (nodes_of xs) (fault-closing cs x.number s ns e) (later h)
    closes ns (Some f) e later h = absurd (some-none f h)

    go : ((sets : List Assignment) → lines_fault n cs x.number sets xs ≡ None → Trees n cs sets (nodes_of xs)) → (node : Node)
        → on_node node (λ l. cond (may_split n s l) (lines_fault n cs x.number (added l s ∷ added (negated l) s ∷ more) xs) (Some (BadLiteral x.number)))
        (λ ns. or_fault (leaf_fault cs x.number s ns) (lines_fault n cs x.number more xs)) ≡ None
        → Trees n cs (s ∷ more) (node ∷ nodes_of xs)
    go later (split l) h = splits l (may_split n s l) refl (later (added l s ∷ added (negated l) s ∷ more)) h
    go later (leaf ns) h = closes ns (leaf_fault cs x.number s ns) refl (later more) h

no-fault : (n : ℕ) (cs : List (List Literal)) (last : ℕ) (sets : List Assignment) (xs : List TreeLine) (ts : List SplitTree) → AllValid n cs sets ts → preorders ts ≡ nodes_of xs → lines_fault n cs last sets xs ≡ None
no-fault n cs last [] [] ts v w = refl
no-fault n cs last [] (x ∷ xs) [] v w = absurd (nil-cons x.node (nodes_of xs) w)
no-fault n cs last [] (x ∷ xs) (t ∷ ts) v w = absurd v
no-fault n cs last (s ∷ more) [] [] v w = absurd v
no-fault n cs last (s ∷ more) [] (closing ns ∷ ts) v w = absurd (nil-cons (leaf ns) (preorders ts) (sym w))
no-fault n cs last (s ∷ more) [] (valid.fork l a b ∷ ts) v w = absurd (nil-cons (split l) (preorders (a ∷ b ∷ ts)) (sym w ∙ preorders-fork l a b ts))
no-fault n cs last (s ∷ more) (x ∷ xs) [] v w = absurd v
no-fault n cs last (s ∷ more) (x ∷ xs) (closing ns ∷ ts) v w =
    ap (λ y. on_node y (λ l. cond (may_split n s l) (lines_fault n cs x.number (added l s ∷ added (negated l) s ∷ more) xs) (Some (BadLiteral x.number)))
    (λ ns. or_fault (leaf_fault cs x.number s ns) (lines_fault n cs x.number more xs))) (sym (heads (leaf ns) (preorders ts) w))
    ∙ (ap (λ (f : Option TreeFault). or_fault f (lines_fault n cs x.number more xs)) (closing-fault cs x.number s ns v.0)
    ∙ no-fault n cs x.number more xs ts v.1 (tails (leaf ns) (preorders ts) w))
  where
    heads : (y : Node) (ys : List Node) → (y ∷ ys) ≡ (x.node ∷ nodes_of xs) → y ≡ x.node
    heads y ys e = cc

    tails : (y : Node) (ys : List Node) → (y ∷ ys) ≡ (x.node ∷ nodes_of xs) → ys ≡ nodes_of xs
    tails y ys e = cc
no-fault n cs last (s ∷ more) (x ∷ xs) (valid.fork l a b ∷ ts) v w =
    let w2 : (split l ∷ preorders (a ∷ b ∷ ts)) ≡ (x.node ∷ nodes_of xs) = sym (preorders-fork l a b ts) ∙ w in
    ap (λ y. on_node y (λ l. cond (may_split n s l) (lines_fault n cs x.number (added l s ∷ added (negated l) s ∷ more) xs) (Some (BadLiteral x.number)))
    (λ ns. or_fault (leaf_fault cs x.number s ns) (lines_fault n cs x.number more xs))) (sym (heads (split l) (preorders (a ∷ b ∷ ts)) w2))
    ∙ (ap (λ (q : Bool). cond q (lines_fault n cs x.number (added l s ∷ added (negated l) s ∷ more) xs) (Some (BadLiteral x.number))) (may-from n s l v.0.0)
    ∙ no-fault n cs x.number (added l s ∷ added (negated l) s ∷ more) xs (a ∷ b ∷ ts) (v.0.1.0, (v.0.1.1, v.1)) (tails (split l) (preorders (a ∷ b ∷ ts)) w2))
  where
    heads : (y : Node) (ys : List Node) → (y ∷ ys) ≡ (x.node ∷ nodes_of xs) → y ≡ x.node
    heads y ys e = cc

    tails : (y : Node) (ys : List Node) → (y ∷ ys) ≡ (x.node ∷ nodes_of xs) → ys ≡ nodes_of xs
    tails y ys e = cc

-- one tree, for the root
valid-from : (n : ℕ) (cs : List (List Literal)) (nodes : List Node) → Trees n cs (on [] ∷ []) nodes → AreValid n cs nodes
valid-from n cs nodes r = go r.trees r.are r.whole
  where
    go : (ts : List SplitTree) → AllValid n cs (on [] ∷ []) ts → preorders ts ≡ nodes → AreValid n cs nodes
    go [] v w = absurd v
    go (t ∷ []) v w = record { tree = t; valid = v.0; whole = sym (append-nil (preorder t)) ∙ w }
    go (t ∷ u ∷ ts) v w = absurd v.1

pub no-fault-valid : NoFaultIsValid
no-fault-valid n cs xs = (
  λ h. valid-from n cs (nodes_of xs) (trees-from n cs 0 (on [] ∷ []) xs h),
  λ r. no-fault n cs 0 (on [] ∷ []) xs (r.tree ∷ []) (r.valid, tt) (append-nil (preorder r.tree) ∙ r.whole),
)

-- ---- a valid tree, no satisfying assignment

none-true : (w : Assignment) (c : List Literal) → ((m : Literal) → on c m ≡ true → w m ≡ false) → any_true w c ≡ false
none-true w [] h = refl
none-true w (m ∷ c) h = go (w m) (any_true w c) (h m (or_left (same m m) (on c m) (same-refl m))) (none-true w c (λ k i. h k (or_right (same m k) (on c k) i)))
  where
    go : (a b : Bool) → a ≡ false → b ≡ false → (a || b) ≡ false
    go true b e f = absurd (both_ways true e refl)
    go false b e f = f

whole-false : (w : Assignment) (m : Literal) → IsWhole w → w (negated m) ≡ true → w m ≡ false
whole-false w m whole h = go (w m) (sym (whole.each m) ∙ h)
  where
    go : (b : Bool) → not b ≡ true → b ≡ false
    go true e = absurd (both_ways false refl e)
    go false e = refl

within-added : (w s : Assignment) (l : Literal) → Within s w → w l ≡ true → Within (added l s) w
within-added w s l sub h m i = elim (added-cases l m s i) [
  | inl e ↦ subst (λ (y : Literal). w y ≡ true) e h
  | inr e ↦ sub m e
]

-- no clause is all false in an assignment that satisfies the clauses
no-conflict : (cs : List (List Literal)) (w : Assignment) (n : ℕ) → AllMet w cs → 1 ≤ n → n ≤ length cs → ((m : Literal) → on (clause_at cs (n - 1)) m ≡ true → w m ≡ false) → ⊥
no-conflict cs w n sat lo hi h = both_ways (any_true w (clause_at cs (n - 1))) (none-true w (clause_at cs (n - 1)) h) (sat.each (n - 1) (omega (arith, lo, hi)))

forced : (cs : List (List Literal)) (w s : Assignment) (n : ℕ) (l : Literal) → IsWhole w → AllMet w cs → Within s w → 1 ≤ n → n ≤ length cs → Forces s (clause_at cs (n - 1)) l → w l ≡ true
forced cs w s n l whole sat sub lo hi f = elim (cases_Bool (w l)) [
  | inl e ↦ e
  | inr e ↦ absurd (no-conflict cs w n sat lo hi (other e))
]
  where
    other : w l ≡ false → (o : Literal) → on (clause_at cs (n - 1)) o ≡ true → w o ≡ false
    other e o i = elim (cases_Bool (same o l)) [
      | inl is ↦ subst (λ (y : Literal). w y ≡ false) (sym (same-is o l is)) e
      | inr ne ↦ whole-false w o whole (sub (negated o) (f.others o i ne))
    ]

closing-unmet : (cs : List (List Literal)) (w s : Assignment) (ns : List ℕ) → IsWhole w → AllMet w cs → Within s w → IsClosing cs s ns → ⊥
closing-unmet cs w s [] whole sat sub h = h
closing-unmet cs w s (n ∷ []) whole sat sub h = no-conflict cs w n sat h.0 h.1 (λ m i. whole-false w m whole (sub (negated m) (h.2.each m i)))
closing-unmet cs w s (n ∷ m ∷ ns) whole sat sub h =
    closing-unmet cs w (added h.0 s) (m ∷ ns) whole sat
    (within-added w s h.0 sub (forced cs w s n h.0 whole sat sub h.1.0.positive h.1.0.within h.1.0.unit.forced)) h.1.1

valid-unmet : (n : ℕ) (cs : List (List Literal)) (w s : Assignment) (t : SplitTree) → IsWhole w → AllMet w cs → Within s w → IsValid n cs s t → ⊥
valid-unmet n cs w s (closing ns) whole sat sub h = closing-unmet cs w s ns whole sat sub h
valid-unmet n cs w s (valid.fork l a b) whole sat sub h = elim (cases_Bool (w l)) [
  | inl e ↦ valid-unmet n cs w (added l s) a whole sat (within-added w s l sub e) h.1.0
  | inr e ↦ valid-unmet n cs w (added (negated l) s) b whole sat (within-added w s (negated l) sub (whole.each l ∙ ap not e)) h.1.1
]

pub unsatisfiable : ValidIsUnsatisfiable
unsatisfiable n cs nodes r w whole sat = valid-unmet n cs w (on []) r.tree whole sat (λ l i. absurd (both_ways false refl i)) r.valid

-- ---- what is written for a log is valid

abbrev sets_of : List (List Literal) → List Assignment
sets_of [] = []
sets_of (p ∷ ps) = on p ∷ sets_of ps

-- what is written for what is left of a log, node by node
abbrev Writes : List (List Literal) → List (List Literal) → List TreeNode → List Node → Type 0
Writes cs ps [] [] = Unit {0}
Writes cs ps [] (y ∷ ys) = ⊥
Writes cs ps (x ∷ xs) [] = ⊥
Writes cs ps (x ∷ xs) (y ∷ ys) = IsWritten cs (first_path ps) x y × Writes cs (next_paths ps x) xs ys

writes-from : (cs : List (List Literal)) (ps : List (List Literal)) (log : List TreeNode) (nodes : List Node) → length nodes ≡ length log
    → ((k : ℕ) → k < length log → IsWritten cs (first_path (paths_after ps (take k log))) (get_or log k Leaf) (get_or nodes k (leaf []))) → Writes cs ps log nodes
writes-from cs ps [] [] e h = tt
writes-from cs ps [] (y ∷ ys) e h = absurd (omega (arith, e))
writes-from cs ps (x ∷ xs) [] e h = absurd (omega (arith, e))
writes-from cs ps (x ∷ xs) (y ∷ ys) e h = (h 0 (omega arith), writes-from cs (next_paths ps x) xs ys (omega (arith, e)) (λ k lt. h (suc k) (omega (arith, lt))))

-- the split literal of a node may be split at
open-may : (n : ℕ) (cs : List (List Literal)) (p : List Literal) (l : Literal) → AreOver n cs → IsNode cs (on p) (Open l) → MaySplit n (on p) l
open-may n cs p l over r =
    let q = split-picks r.set (λ m. ((1 ≤ m.atom) × (m.atom ≤ n)) × (r.set m ≡ false) × (r.set (negated m) ≡ false)) cs l (sym r.is.1) (λ j m lt h a b. (over.each j m h, a, b)) in
    record {
      positive = q.0.0;
      within = q.0.1;
      free = false_from_ne_true (on p l) (λ h. both_ways (r.set l) q.1 (r.closure.above l h));
      unset = false_from_ne_true (on p (negated l)) (λ h. both_ways (r.set (negated l)) q.2 (r.closure.above (negated l) h));
    }

none-left : (cs : List (List Literal)) (p : List Literal) (ps : List (List Literal)) (ts : List Tree) → AllTrees cs (p ∷ ps) ts → [] ≡ lines_all ts → ⊥
none-left cs p ps [] a e = a
none-left cs p ps (shut ∷ ts) a e = nil (lines_all ts) e
  where
    nil : (l : List TreeNode) → [] ≡ (Leaf ∷ l) → ⊥
    nil l e = cc
none-left cs p ps (met u ∷ ts) a e = nil (lines_all ts) e
  where
    nil : (l : List TreeNode) → [] ≡ (Leaf ∷ l) → ⊥
    nil l e = cc
none-left cs p ps (fork k x y ∷ ts) a e = nil (lines_all (x ∷ y ∷ ts)) (e ∙ lines-fork k x y ts)
  where
    nil : (l : List TreeNode) → [] ≡ (Split k ∷ l) → ⊥
    nil l e = cc

written : (n : ℕ) (cs : List (List Literal)) (ps : List (List Literal)) (log : List TreeNode) (nodes : List Node) → AreOver n cs → Standing cs ps log → Writes cs ps log nodes → Trees n cs (sets_of ps) nodes
written n cs [] [] [] over h w = record { trees = []; are = tt; whole = refl }
written n cs (p ∷ ps) [] [] over h w = absurd (none-left cs p ps h.trees h.are h.left)
written n cs ps [] (y ∷ ys) over h w = absurd w
written n cs ps (x ∷ xs) [] over h w = absurd w
written n cs [] (x ∷ xs) (y ∷ ys) over h w = absurd (standing-more cs x xs h)
written n cs (p ∷ ps) (Leaf ∷ xs) (split m ∷ ys) over h w = absurd w.0
written n cs (p ∷ ps) (Leaf ∷ xs) (leaf ns ∷ ys) over h w =
    trees-leaf n cs (on p) (sets_of ps) ns ys (leaf-closing cs (on p) ns w.0) (written n cs ps xs ys over (standing-next cs (p ∷ ps) Leaf xs h) w.1)
written n cs (p ∷ ps) (Split l ∷ xs) (leaf ns ∷ ys) over h w = absurd w.0
written n cs (p ∷ ps) (Split l ∷ xs) (split m ∷ ys) over h w =
    subst (λ (k : Literal). Trees n cs (on p ∷ sets_of ps) (split k ∷ ys)) w.0
    (trees-fork n cs (on p) (sets_of ps) l ys (open-may n cs p l over (standing-open cs (p ∷ ps) l xs h))
    (subst (λ (s : Assignment). Trees n cs (added l (on p) ∷ s ∷ sets_of ps) ys) (fun-push p (negated l))
    (subst (λ (s : Assignment). Trees n cs (s ∷ on (p ++ negated l ∷ []) ∷ sets_of ps) ys) (fun-push p l)
    (written n cs ((p ++ l ∷ []) ∷ (p ++ negated l ∷ []) ∷ ps) xs ys over (standing-next cs (p ∷ ps) (Split l) xs h) w.1))))

pub written-valid : WrittenIsValid
written-valid n cs log nodes over h w = valid-from n cs nodes (written n cs ([] ∷ []) log nodes over (standing-start cs log h) (writes-from cs ([] ∷ []) log nodes w.long w.each))
