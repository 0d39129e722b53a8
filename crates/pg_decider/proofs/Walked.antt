use Rattle.std.proofs.Common.{◌≡◌, ℕ, suc, ◌+◌, ◌-◌, ◌<◌, ◌≤◌, Bool, false, List, [], ◌∷◌, ◌++◌, length, get_or, take, drop, refl, sym, ap, subst, ◌∙◌, arith}
use Rattle.std.proofs.lemmas.Bool.{both_ways, false_from_ne_true}
use Rattle.std.proofs.lemmas.List.{take_more, take-append-le, take_all, take-take, length-take-le, length_push, get_or_default}
use Rattle.pg_region.specs.Literal.{Literal, negated}
use Rattle.pg_decider.specs.Assignment.{on}
use Rattle.pg_decider.specs.Leaf.{next_paths, paths_after, first_path, path_of}
use Rattle.pg_decider.specs.Search.{branch, back_to, AreBranches}
use Rattle.pg_decider.specs.Trail.{TrailTable, added_to, none}
use Rattle.pg_decider.specs.Tree.{IsNode}
use Rattle.pg_decider.specs.Walk.{pending, Walking, IsLogOver}
use Rattle.pg_decider.specs.Watch.{Watched}
use Rattle.pg_decider.specs.declared.log.TreeNode.{TreeNode}
use Rattle.pg_decider.specs.declared.log.TreeNode.TheVariants.{Split, Leaf}
use Rattle.pg_decider.specs.declared.search.Branch.{Branch}
use Rattle.pg_decider.specs.declared.settle.Node.TheVariants.{Open}
use Rattle.pg_decider.proofs.Splits.{split-picks}
use Rattle.pg_decider.proofs.Standing.{Standing, log-at, standing-open, standing-more}
use Rattle.pg_decider.proofs.Searched.{branches-push, branches-pop, branch-old, branch-new}

pub no-watch : (s : Literal → Bool) → Watched [] [] s
no-watch s = record { one = λ x m lt e h. absurd (omega arith); held = λ x lt ne out h. absurd (omega arith) }

paths-snoc : (ps : List (List Literal)) (xs : List TreeNode) (x : TreeNode) → paths_after ps (xs ++ x ∷ []) ≡ next_paths (paths_after ps xs) x
paths-snoc ps [] x = refl
paths-snoc ps (y ∷ xs) x = paths-snoc (next_paths ps y) xs x

paths-more : (log : List TreeNode) (k : ℕ) (x : TreeNode) → k < length log → get_or log k Leaf ≡ x → paths_after ([] ∷ []) (take (k + 1) log) ≡ next_paths (paths_after ([] ∷ []) (take k log)) x
paths-more log k x lt e =
    ap (paths_after ([] ∷ [])) (take_more log k Leaf lt ∙ ap (λ (y : TreeNode). take k log ++ y ∷ []) e) ∙ paths-snoc ([] ∷ []) (take k log) x

pending-snoc : (t : List Literal) (bs : List Branch) (b : Branch) (ps : List (List Literal)) → pending t (bs ++ b ∷ []) ps ≡ (take b.mark t ++ b.literal ∷ []) ∷ pending t bs ps
pending-snoc t [] b ps = refl
pending-snoc t (c ∷ bs) b ps = pending-snoc t bs b ((take c.mark t ++ c.literal ∷ []) ∷ ps)

pending-same : (t u : List Literal) (bs : List Branch) (ps : List (List Literal)) → ((i : ℕ) (d : Branch) → i < length bs → take (get_or bs i d).mark u ≡ take (get_or bs i d).mark t) → pending u bs ps ≡ pending t bs ps
pending-same t u [] ps h = refl
pending-same t u (b ∷ bs) ps h =
    pending-same t u bs ((take b.mark u ++ b.literal ∷ []) ∷ ps) (λ i d lt. h (suc i) d (omega arith))
    ∙ ap (λ (p : List Literal). pending t bs ((p ++ b.literal ∷ []) ∷ ps)) (h 0 b (omega arith))

pub walking-start : (t : TrailTable) (bs : List Branch) (log : List TreeNode) → t.literals ≡ [] → bs ≡ [] → Walking t bs log 0
walking-start t bs log e none-left = record {
  branches = record { low = λ i lt. absurd (omega (arith, ap length none-left)); rising = λ i j ij lt. absurd (omega (arith, ap length none-left)); each = λ i lt. absurd (omega (arith, ap length none-left)) };
  paths = ap (λ (p : List Literal). p ∷ []) (sym e) ∙ ap (λ (l : List Branch). t.literals ∷ pending t.literals l []) (sym none-left);
}

-- the line of a split has a literal without value
pub walking-open : (n : ℕ) (t : TrailTable) (bs : List Branch) (log : List TreeNode) (k : ℕ) (l : Literal) → IsLogOver n log → n ≡ t.atoms → Walking t bs log k → k < length log → get_or log k Leaf ≡ Split l →
    (l.atom ≤ t.atoms) × (on t.literals l ≡ false) × (on t.literals (negated l) ≡ false)
walking-open n t bs log k l g e w lt is = go node
  where
    node : IsNode g.clauses (on t.literals) (Open l)
    node = standing-open g.clauses (t.literals ∷ pending t.literals bs []) l (drop (k + 1) log)
        (subst (λ (ps : List (List Literal)). Standing g.clauses ps (Split l ∷ drop (k + 1) log)) w.paths
        (subst (λ (x : TreeNode). Standing g.clauses (paths_after ([] ∷ []) (take k log)) (x ∷ drop (k + 1) log)) is (log-at g.clauses log k g.log_is lt)))

    go : IsNode g.clauses (on t.literals) (Open l) → (l.atom ≤ t.atoms) × (on t.literals l ≡ false) × (on t.literals (negated l) ≡ false)
    go r =
        let p = split-picks r.set (λ m. (m.atom ≤ n) × (r.set m ≡ false) × (r.set (negated m) ≡ false)) g.clauses l (sym r.is.1) (λ j m jlt h a b. (g.over j m h, a, b)) in (
          omega (arith, p.0, e),
          false_from_ne_true (on t.literals l) (λ h. both_ways (r.set l) p.1 (r.closure.above l h)),
          false_from_ne_true (on t.literals (negated l)) (λ h. both_ways (r.set (negated l)) p.2 (r.closure.above (negated l) h)),
        )

abbrev top-branch : TrailTable → Literal → Branch
top-branch t l = record { mark = length t.literals; literal = negated l }

-- the paths after a split
pub path-down : (t : TrailTable) (bs : List Branch) (l : Literal) → AreBranches [] [] t bs →
    (t.literals ++ l ∷ []) ∷ (t.literals ++ negated l ∷ []) ∷ pending t.literals bs [] ≡ (t.literals ++ l ∷ []) ∷ pending (t.literals ++ l ∷ []) (bs ++ top-branch t l ∷ []) []
path-down t bs l r =
    ap (λ (ps : List (List Literal)). (t.literals ++ l ∷ []) ∷ ps) (ap (λ (p : List Literal). (p ++ negated l ∷ []) ∷ pending t.literals bs []) (sym whole)
    ∙ (ap (λ (ps : List (List Literal)). (take (length t.literals) (t.literals ++ l ∷ []) ++ negated l ∷ []) ∷ ps) (sym (pending-same t.literals (t.literals ++ l ∷ []) bs [] marks))
    ∙ sym (pending-snoc (t.literals ++ l ∷ []) bs (top-branch t l) [])))
  where
    whole : take (length t.literals) (t.literals ++ l ∷ []) ≡ t.literals
    whole = take-append-le (length t.literals) t.literals (l ∷ []) (omega arith) ∙ take_all (length t.literals) t.literals (omega arith)

    marks : (i : ℕ) (d : Branch) → i < length bs → take (get_or bs i d).mark (t.literals ++ l ∷ []) ≡ take (get_or bs i d).mark t.literals
    marks i d ilt =
        let e = get_or_default bs i d (record { mark = 0; literal = none }) ilt in
        subst (λ (b : Branch). take b.mark (t.literals ++ l ∷ []) ≡ take b.mark t.literals) (sym e)
        (take-append-le (branch bs i).mark t.literals (l ∷ []) (omega (arith, (r.each i ilt).inside)))

-- the paths after a leaf
pub path-back : (t : TrailTable) (cs : List Branch) (b : Branch) → AreBranches [] [] t (cs ++ b ∷ []) →
    pending t.literals (cs ++ b ∷ []) [] ≡ (take b.mark t.literals ++ b.literal ∷ []) ∷ pending (take b.mark t.literals ++ b.literal ∷ []) cs []
path-back t cs b br =
    pending-snoc t.literals cs b []
    ∙ ap (λ (ps : List (List Literal)). (take b.mark t.literals ++ b.literal ∷ []) ∷ ps) (sym (pending-same t.literals (take b.mark t.literals ++ b.literal ∷ []) cs [] marks))
  where
    long : length (take b.mark t.literals) ≡ b.mark
    long = length-take-le b.mark t.literals (omega (arith, (branches-pop [] [] t cs b br).0.inside))

    marks : (i : ℕ) (d : Branch) → i < length cs → take (get_or cs i d).mark (take b.mark t.literals ++ b.literal ∷ []) ≡ take (get_or cs i d).mark t.literals
    marks i d ilt =
        let e = get_or_default cs i d (record { mark = 0; literal = none }) ilt in
        let under : (branch cs i).mark < b.mark = omega (arith, ap (λ (x : Branch). x.mark) (branch-old cs b i ilt), ap (λ (x : Branch). x.mark) (branch-new cs b), br.rising i (length cs) ilt (omega (arith, length_push cs b))) in
        subst (λ (x : Branch). take x.mark (take b.mark t.literals ++ b.literal ∷ []) ≡ take x.mark t.literals) (sym e)
        (take-append-le (branch cs i).mark (take b.mark t.literals) (b.literal ∷ []) (omega (arith, long)) ∙ take-take (branch cs i).mark b.mark t.literals (omega arith))

pub walking-down : (t : TrailTable) (bs : List Branch) (log : List TreeNode) (k : ℕ) (l : Literal) → Walking t bs log k → k < length log → get_or log k Leaf ≡ Split l →
    (l.atom ≤ t.atoms) × (on t.literals l ≡ false) × (on t.literals (negated l) ≡ false) → Walking (added_to t l 0) (bs ++ top-branch t l ∷ []) log (k + 1)
walking-down t bs log k l w lt is o = record {
  branches = branches-push [] [] t bs l w.branches (no-watch (on t.literals)) (record { within = o.0; free = o.1; unset = o.2 });
  paths = paths-more log k (Split l) lt is ∙ (ap (λ (ps : List (List Literal)). next_paths ps (Split l)) w.paths ∙ path-down t bs l w.branches);
}

pub walking-back : (t : TrailTable) (bs cs : List Branch) (b : Branch) (log : List TreeNode) (k : ℕ) → Walking t bs log k → bs ≡ cs ++ b ∷ [] → k < length log → get_or log k Leaf ≡ Leaf →
    Walking (back_to t b.mark b.literal) cs log (k + 1)
walking-back t bs cs b log k w whole lt is =
    let br : AreBranches [] [] t (cs ++ b ∷ []) = subst (λ (l : List Branch). AreBranches [] [] t l) whole w.branches in
    let pop = branches-pop [] [] t cs b br in
    record {
      branches = pop.1;
      paths = paths-more log k Leaf lt is ∙ (ap (λ (ps : List (List Literal)). next_paths ps Leaf) w.paths
          ∙ (ap (λ (l : List Branch). pending t.literals l []) whole ∙ path-back t cs b br));
    }

-- a leaf that isn't the last line has a branch
pub walking-more : (n : ℕ) (t : TrailTable) (bs : List Branch) (log : List TreeNode) (k : ℕ) → IsLogOver n log → Walking t bs log k → k + 1 < length log → get_or log k Leaf ≡ Leaf → bs ≡ [] → ⊥
walking-more n t bs log k g w lt is e =
    standing-more g.clauses (get_or log (k + 1) Leaf) (drop (k + 1 + 1) log)
    (subst (λ (ps : List (List Literal)). Standing g.clauses ps (get_or log (k + 1) Leaf ∷ drop (k + 1 + 1) log))
    (paths-more log k Leaf (omega arith) is ∙ (ap (λ (ps : List (List Literal)). next_paths ps Leaf) w.paths ∙ ap (λ (l : List Branch). pending t.literals l []) e))
    (log-at g.clauses log (k + 1) g.log_is lt))

pub walking-done : (t : TrailTable) (bs : List Branch) (log : List TreeNode) (k : ℕ) → Walking t bs log k → t.literals ≡ path_of log k
walking-done t bs log k w = sym (ap first_path w.paths)

-- the node that a log tells for the next place
pub node-at : (log : List TreeNode) (k : ℕ) (x : TreeNode) → x ≡ get_or log ((k + 1) - 1) Leaf → get_or log k Leaf ≡ x
node-at log k x is =
    let e : k ≡ (k + 1) - 1 = omega arith in
    ap (λ (n : ℕ). get_or log n Leaf) e ∙ sym is
