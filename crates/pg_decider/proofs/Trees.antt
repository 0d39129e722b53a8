use Rattle.std.proofs.Common.{◌≡◌, ℕ, suc, ◌+◌, ◌<◌, ◌≤◌, Bool, true, false, cond, ◌||◌, Option, Some, None, List, [], ◌∷◌, ◌++◌, length, get_or, take, reverse, refl, sym, ap, subst, ◌∙◌, arith, inl, inr, ◌⊎◌, append_assoc}
use Rattle.std.proofs.lemmas.Bool.{or_right}
use Rattle.std.proofs.lemmas.List.{reverse-append, append-nil, take-append-le, take_all}
use Rattle.pg_region.specs.Literal.{Literal, same, negated}
use Rattle.pg_decider.specs.Assignment.{on, added, Within, IsClosed, HasConflict, IsClosure}
use Rattle.pg_decider.specs.Progress.{model_all, visited_all, any_model, lines_all, AreTrees, Says}
use Rattle.pg_decider.specs.Reached.{Reached}
use Rattle.pg_decider.specs.Split.{split_literal}
use Rattle.pg_decider.specs.Tree.{NodeIs, IsNode, Tree, shut, met, fork, IsTree, has_model, model_of, or_model, visited, lines}
use Rattle.pg_decider.proofs.Splits.{met-none}
use Rattle.pg_decider.specs.declared.log.TreeNode.{TreeNode}
use Rattle.pg_decider.specs.declared.log.TreeNode.TheVariants.{Split, Leaf}
use Rattle.pg_decider.specs.declared.search.Branch.{Branch}
use Rattle.pg_decider.specs.declared.settle.Node.{Node}
use Rattle.pg_decider.specs.declared.settle.Node.TheVariants.{Met, Open, Shut}
use Rattle.pg_decider.proofs.Literals.{on-push, added-cases, added-here}

-- sets that the same closed sets contain
pub record AreAlike (cs : List (List Literal)) (s v : Literal → Bool) : Type 0 where
  pub there : (u : Literal → Bool) → IsClosed cs u → Within s u → Within v u
  pub back : (u : Literal → Bool) → IsClosed cs u → Within v u → Within s u

closure-alike : (cs : List (List Literal)) (s v u : Literal → Bool) → AreAlike cs s v → IsClosure cs s u → IsClosure cs v u
closure-alike cs s v u a r = record {
  above = a.there u r.closed r.above;
  closed = r.closed;
  least = λ t sub closed. r.least t (a.back t closed sub) closed;
}

node-alike : (cs : List (List Literal)) (s v : Literal → Bool) (n : Node) → AreAlike cs s v → IsNode cs s n → IsNode cs v n
node-alike cs s v n a r = record { set = r.set; closure = closure-alike cs s v r.set a r.closure; is = r.is }

alike-added : (cs : List (List Literal)) (l : Literal) (s v : Literal → Bool) → AreAlike cs s v → AreAlike cs (added l s) (added l v)
alike-added cs l s v a = record { there = λ u c h m i. go s v u (a.there u c) h m (added-cases l m v i); back = λ u c h m i. go v s u (a.back u c) h m (added-cases l m s i) }
  where
    go : (s v u : Literal → Bool) → (Within s u → Within v u) → Within (added l s) u → (m : Literal) → (l ≡ m) ⊎ (v m ≡ true) → u m ≡ true
    go s v u f h m (inl e) = h m (subst (λ (y : Literal). added l s y ≡ true) e (added-here l s))
    go s v u f h m (inr e) = f (λ k i. h k (or_right (same l k) (s k) i)) m e

pub tree-alike : (cs : List (List Literal)) (s v : Literal → Bool) (x : Tree) → AreAlike cs s v → IsTree cs s x → IsTree cs v x
tree-alike cs s v shut a r = node-alike cs s v Shut a r
tree-alike cs s v (met u) a r = (node-alike cs s v Met a r.0, closure-alike cs s v u a r.1)
tree-alike cs s v (fork l x y) a r = (
  node-alike cs s v (Open l) a r.0,
  (tree-alike cs (added l s) (added l v) x (alike-added cs l s v a) r.1.0, tree-alike cs (added (negated l) s) (added (negated l) v) y (alike-added cs (negated l) s v a) r.1.1),
)

pub reached-alike : (cs : List (List Literal)) (s v : Literal → Bool) → Reached cs s v → AreAlike cs s v
reached-alike cs s v r = record { there = λ u c h. r.inside u h c; back = λ u c h m i. h m (r.above m i) }

-- a closed set that is reached is the closure
pub same-set : (u v : Literal → Bool) → Within u v → Within v u → u ≡ v
same-set u v a b = λ i l. (bool_both (u l) (v l) (a l) (b l)) i
  where
    bool_both : (x y : Bool) → (x ≡ true → y ≡ true) → (y ≡ true → x ≡ true) → x ≡ y
    bool_both true y f g = sym (f refl)
    bool_both false true f g = g refl
    bool_both false false f g = refl

pub node-open : (cs : List (List Literal)) (s v : Literal → Bool) (n : Node) → Reached cs s v → IsClosed cs v → IsNode cs s n → NodeIs cs v n
node-open cs s v n r c h = subst (λ (u : Literal → Bool). NodeIs cs u n) (same-set h.set v (h.closure.least v r.above c) (r.inside h.set h.closure.above h.closure.closed)) h.is

pub node-shut : (cs : List (List Literal)) (s v : Literal → Bool) (n : Node) → Reached cs s v → HasConflict cs v → IsNode cs s n → n ≡ Shut
node-shut cs s v n r k h = go n h.is
  where
    up : HasConflict cs h.set
    up = record { place = k.place; within = k.within; false_there = record { each = λ m i. r.inside h.set h.closure.above h.closure.closed (negated m) (k.false_there.each m i) } }

    go : (n : Node) → NodeIs cs h.set n → n ≡ Shut
    go Met q = absurd (q.0 up)
    go (Open l) q = absurd (q.0 up)
    go Shut q = refl

-- a node that splits
pub visited-fork : (l : Literal) (a b : Tree) (ts : List Tree) → visited_all (fork l a b ∷ ts) ≡ 1 + visited_all (a ∷ b ∷ ts)
visited-fork l a b ts = go (has_model a) (has_model b) (visited a) (visited b) (visited_all ts)
  where
    go : (p q : Bool) (x y z : ℕ) → cond (p || q) (cond p (1 + x) ((1 + x) + y)) (cond p (1 + x) ((1 + x) + y) + z) ≡ 1 + cond p x (x + cond q y (y + z))
    go true q x y z = refl
    go false true x y z = omega arith
    go false false x y z = omega arith

pub lines-fork : (l : Literal) (a b : Tree) (ts : List Tree) → lines_all (fork l a b ∷ ts) ≡ (Split l ∷ []) ++ lines_all (a ∷ b ∷ ts)
lines-fork l a b ts = ap (λ x. Split l ∷ x) (append_assoc (lines a) (lines b) (lines_all ts))

pub models-fork : (l : Literal) (a b : Tree) (ts : List Tree) → any_model (fork l a b ∷ ts) ≡ any_model (a ∷ b ∷ ts)
models-fork l a b ts = go (has_model a) (has_model b) (any_model ts)
  where
    go : (p q r : Bool) → ((p || q) || r) ≡ (p || (q || r))
    go true q r = refl
    go false q r = refl

pub model-fork : (l : Literal) (a b : Tree) (ts : List Tree) → model_all (fork l a b ∷ ts) ≡ model_all (a ∷ b ∷ ts)
model-fork l a b ts = go (model_of a) (model_of b) (model_all ts)
  where
    go : (p q r : Option (Literal → Bool)) → or_model (or_model p q) r ≡ or_model p (or_model q r)
    go None q r = refl
    go (Some u) q r = refl

trees-snoc : (cs : List (List Literal)) (t : List Literal) (bs : List Branch) (xs : List Tree) (b : Branch) (x : Tree) → AreTrees cs t bs xs → IsTree cs (added b.literal (on (take b.mark t))) x → AreTrees cs t (bs ++ b ∷ []) (xs ++ x ∷ [])
trees-snoc cs t [] [] b x r h = (h, tt)
trees-snoc cs t [] (y ∷ ys) b x r h = absurd r
trees-snoc cs t (c ∷ bs) [] b x r h = absurd r
trees-snoc cs t (c ∷ bs) (y ∷ ys) b x r h = (r.0, trees-snoc cs t bs ys b x r.1 h)

pub record Unsnoc (cs : List (List Literal)) (t : List Literal) (bs : List Branch) (b : Branch) (xs : List Tree) : Type 0 where
  pub front : List Tree
  pub last : Tree
  pub whole : xs ≡ front ++ last ∷ []
  pub are : AreTrees cs t bs front
  pub is : IsTree cs (added b.literal (on (take b.mark t))) last

trees-unsnoc : (cs : List (List Literal)) (t : List Literal) (bs : List Branch) (b : Branch) (xs : List Tree) → AreTrees cs t (bs ++ b ∷ []) xs → Unsnoc cs t bs b xs
trees-unsnoc cs t [] b [] r = absurd r
trees-unsnoc cs t [] b (x ∷ []) r = record { front = []; last = x; whole = refl; are = tt; is = r.0 }
trees-unsnoc cs t [] b (x ∷ y ∷ ys) r = absurd r.1
trees-unsnoc cs t (c ∷ bs) b [] r = absurd r
trees-unsnoc cs t (c ∷ bs) b (x ∷ xs) r =
    let u = trees-unsnoc cs t bs b xs r.1 in
    record { front = x ∷ u.front; last = u.last; whole = ap (λ (l : List Tree). x ∷ l) u.whole; are = (r.0, u.are); is = u.is }

pub trees-same : (cs : List (List Literal)) (t u : List Literal) (bs : List Branch) (xs : List Tree) → ((i : ℕ) (d : Branch) → i < length bs → take (get_or bs i d).mark u ≡ take (get_or bs i d).mark t) → AreTrees cs t bs xs → AreTrees cs u bs xs
trees-same cs t u [] [] h r = tt
trees-same cs t u [] (x ∷ xs) h r = absurd r
trees-same cs t u (b ∷ bs) [] h r = absurd r
trees-same cs t u (b ∷ bs) (x ∷ xs) h r =
    (subst (λ (l : List Literal). IsTree cs (added b.literal (on l)) x) (sym (h 0 b (omega arith))) r.0, trees-same cs t u bs xs (λ i d lt. h (suc i) d (omega arith)) r.1)

pub shut-open : (l : Literal) → Shut ≡ Open l → ⊥
shut-open l e = cc

pub met-open : (l : Literal) → Met ≡ Open l → ⊥
met-open l e = cc

pub met-shut : Met ≡ Shut → ⊥
met-shut e = cc

open-shut : (l : Literal) → Open l ≡ Shut → ⊥
open-shut l e = cc

pub open-same : (k l : Literal) → Open k ≡ Open l → k ≡ l
open-same k l e = cc

pub fun-push : (t : List Literal) (l : Literal) → on (t ++ l ∷ []) ≡ added l (on t)
fun-push t l = λ i m. on-push t l m i

pub says-open : (cs : List (List Literal)) (t0 t : List Literal) (bs : List Branch) (done : ℕ) (log : List TreeNode) (w : Tree) (l : Literal) (b : Branch) →
    Says cs t0 bs done log w → Reached cs (on t0) (on t) → ((n : Node) → IsNode cs (on t0) n → n ≡ Open l) → b.literal ≡ negated l → b.mark ≡ length t →
    ((i : ℕ) (d : Branch) → i < length bs → take (get_or bs i d).mark (t ++ l ∷ []) ≡ take (get_or bs i d).mark t0) →
    Says cs (t ++ l ∷ []) (bs ++ b ∷ []) (done + 1) (log ++ Split l ∷ []) w
says-open cs t0 t bs done log w l b s r node bl bm marks = go s.first s.is_first s.nodes s.models s.model s.logged
  where
    snoc : (y : Tree) → reverse (s.rest ++ y ∷ []) ≡ y ∷ reverse s.rest
    snoc y = reverse-append s.rest (y ∷ [])

    whole : take b.mark (t ++ l ∷ []) ≡ t
    whole = ap (λ (n : ℕ). take n (t ++ l ∷ [])) bm ∙ (take-append-le (length t) t (l ∷ []) (omega arith) ∙ take_all (length t) t (omega arith))

    here : (k : Literal) (x y : Tree) → k ≡ l → IsTree cs (added k (on t0)) x → IsTree cs (added (negated k) (on t0)) y →
        visited w ≡ done + visited_all (fork k x y ∷ reverse s.rest) → has_model w ≡ any_model (fork k x y ∷ reverse s.rest) → model_of w ≡ model_all (fork k x y ∷ reverse s.rest) → lines w ≡ log ++ lines_all (fork k x y ∷ reverse s.rest) →
        Says cs (t ++ l ∷ []) (bs ++ b ∷ []) (done + 1) (log ++ Split l ∷ []) w
    here k x y e hx hy nodes models model logged = record {
      first = x;
      rest = s.rest ++ y ∷ [];
      is_first = subst (λ (v : Literal → Bool). IsTree cs v x) (sym (fun-push t l))
          (tree-alike cs (added l (on t0)) (added l (on t)) x (alike-added cs l (on t0) (on t) (reached-alike cs (on t0) (on t) r)) (subst (λ (z : Literal). IsTree cs (added z (on t0)) x) e hx));
      are_rest = trees-snoc cs (t ++ l ∷ []) bs s.rest b y (trees-same cs t0 (t ++ l ∷ []) bs s.rest marks s.are_rest)
          (subst (λ (z : Literal). IsTree cs (added z (on (take b.mark (t ++ l ∷ [])))) y) (sym bl)
          (subst (λ (ls : List Literal). IsTree cs (added (negated l) (on ls)) y) (sym whole)
          (tree-alike cs (added (negated l) (on t0)) (added (negated l) (on t)) y (alike-added cs (negated l) (on t0) (on t) (reached-alike cs (on t0) (on t) r)) (subst (λ (z : Literal). IsTree cs (added (negated z) (on t0)) y) e hy))));
      nodes = nodes ∙ (ap (λ (n : ℕ). done + n) (visited-fork k x y (reverse s.rest)) ∙ (omega arith ∙ ap (λ (ts : List Tree). (done + 1) + visited_all (x ∷ ts)) (sym (snoc y))));
      models = models ∙ (models-fork k x y (reverse s.rest) ∙ ap (λ (ts : List Tree). any_model (x ∷ ts)) (sym (snoc y)));
      model = model ∙ (model-fork k x y (reverse s.rest) ∙ ap (λ (ts : List Tree). model_all (x ∷ ts)) (sym (snoc y)));
      logged = logged ∙ (ap (λ (ls : List TreeNode). log ++ ls) (lines-fork k x y (reverse s.rest))
          ∙ (sym (append_assoc log (Split k ∷ []) (lines_all (x ∷ y ∷ reverse s.rest)))
          ∙ (ap (λ (z : Literal). (log ++ Split z ∷ []) ++ lines_all (x ∷ y ∷ reverse s.rest)) e ∙ ap (λ (ts : List Tree). (log ++ Split l ∷ []) ++ lines_all (x ∷ ts)) (sym (snoc y)))));
    }

    go : (x : Tree) → IsTree cs (on t0) x → visited w ≡ done + visited_all (x ∷ reverse s.rest) → has_model w ≡ any_model (x ∷ reverse s.rest) → model_of w ≡ model_all (x ∷ reverse s.rest) → lines w ≡ log ++ lines_all (x ∷ reverse s.rest) →
        Says cs (t ++ l ∷ []) (bs ++ b ∷ []) (done + 1) (log ++ Split l ∷ []) w
    go shut h a c m d = absurd (shut-open l (node Shut h))
    go (met u) h a c m d = absurd (met-open l (node Met h.0))
    go (fork k x y) h a c m d = here k x y (open-same k l (node (Open k) h.0)) h.1.0 h.1.1 a c m d

pub says-shut : (cs : List (List Literal)) (t0 t : List Literal) (bs : List Branch) (done : ℕ) (log : List TreeNode) (w : Tree) (b : Branch) →
    Says cs t0 (bs ++ b ∷ []) done log w → ((n : Node) → IsNode cs (on t0) n → n ≡ Shut) → take b.mark t ≡ take b.mark t0 →
    ((i : ℕ) (d : Branch) → i < length bs → take (get_or bs i d).mark (take b.mark t ++ b.literal ∷ []) ≡ take (get_or bs i d).mark t0) →
    Says cs (take b.mark t ++ b.literal ∷ []) bs (done + 1) (log ++ Leaf ∷ []) w
says-shut cs t0 t bs done log w b s node same marks = go s.first s.is_first s.nodes s.models s.model s.logged
  where
    u : Unsnoc cs t0 bs b s.rest
    u = trees-unsnoc cs t0 bs b s.rest s.are_rest

    snoc : reverse s.rest ≡ u.last ∷ reverse u.front
    snoc = ap (λ (x : List Tree). reverse x) u.whole ∙ reverse-append u.front (u.last ∷ [])

    go : (x : Tree) → IsTree cs (on t0) x → visited w ≡ done + visited_all (x ∷ reverse s.rest) → has_model w ≡ any_model (x ∷ reverse s.rest) → model_of w ≡ model_all (x ∷ reverse s.rest) → lines w ≡ log ++ lines_all (x ∷ reverse s.rest) →
        Says cs (take b.mark t ++ b.literal ∷ []) bs (done + 1) (log ++ Leaf ∷ []) w
    go (met u) h a c m d = absurd (met-shut (node Met h.0))
    go (fork k x y) h a c m d = absurd (open-shut k (node (Open k) h.0))
    go shut h a c m d = record {
      first = u.last;
      rest = u.front;
      is_first = subst (λ (v : Literal → Bool). IsTree cs v u.last) (sym (fun-push (take b.mark t) b.literal)) (subst (λ (ls : List Literal). IsTree cs (added b.literal (on ls)) u.last) (sym same) u.is);
      are_rest = trees-same cs t0 (take b.mark t ++ b.literal ∷ []) bs u.front marks u.are;
      nodes = a ∙ (omega arith ∙ ap (λ (ts : List Tree). (done + 1) + visited_all ts) snoc);
      models = c ∙ ap (λ (ts : List Tree). any_model ts) snoc;
      model = m ∙ ap (λ (ts : List Tree). model_all ts) snoc;
      logged = d ∙ (sym (append_assoc log (Leaf ∷ []) (lines_all (reverse s.rest))) ∙ ap (λ (ts : List Tree). (log ++ Leaf ∷ []) ++ lines_all ts) snoc);
    }

pub says-end : (cs : List (List Literal)) (t0 : List Literal) (done : ℕ) (log : List TreeNode) (w : Tree) → Says cs t0 [] done log w → ((n : Node) → IsNode cs (on t0) n → n ≡ Shut) →
    (has_model w ≡ false) × (visited w ≡ done + 1) × (lines w ≡ log ++ Leaf ∷ [])
says-end cs t0 done log w s node = go s.first s.rest s.is_first s.are_rest s.nodes s.models s.logged
  where
    go : (x : Tree) (xs : List Tree) → IsTree cs (on t0) x → AreTrees cs t0 [] xs → visited w ≡ done + visited_all (x ∷ reverse xs) → has_model w ≡ any_model (x ∷ reverse xs) → lines w ≡ log ++ lines_all (x ∷ reverse xs) →
        (has_model w ≡ false) × (visited w ≡ done + 1) × (lines w ≡ log ++ Leaf ∷ [])
    go (met u) xs h r a c d = absurd (met-shut (node Met h.0))
    go (fork k x y) xs h r a c d = absurd (open-shut k (node (Open k) h.0))
    go shut (y ∷ ys) h r a c d = absurd r
    go shut [] h r a c d = (c, a ∙ omega arith, d)

pub says-met : (cs : List (List Literal)) (t0 t : List Literal) (bs : List Branch) (done : ℕ) (log : List TreeNode) (w : Tree) → Says cs t0 bs done log w → ((n : Node) → IsNode cs (on t0) n → n ≡ Met) →
    Reached cs (on t0) (on t) → IsClosed cs (on t) → (has_model w ≡ true) × (visited w ≡ done + 1) × (model_of w ≡ Some (on t))
says-met cs t0 t bs done log w s node r closed = go s.first s.is_first s.nodes s.models s.model
  where
    go : (x : Tree) → IsTree cs (on t0) x → visited w ≡ done + visited_all (x ∷ reverse s.rest) → has_model w ≡ any_model (x ∷ reverse s.rest) → model_of w ≡ model_all (x ∷ reverse s.rest) →
        (has_model w ≡ true) × (visited w ≡ done + 1) × (model_of w ≡ Some (on t))
    go (met u) h a c m = (c, a, m ∙ ap (λ (v : Literal → Bool). Some v) (same-set u (on t) (h.1.least (on t) r.above closed) (r.inside u h.1.above h.1.closed)))
    go shut h a c m = absurd (met-shut (sym (node Shut h)))
    go (fork k x y) h a c m = absurd (met-open k (sym (node (Open k) h.0)))

visited-some : (x : Tree) → 1 ≤ visited x
visited-some shut = omega arith
visited-some (met u) = omega arith
visited-some (fork l a b) = go (has_model a) (visited a) (visited b)
  where
    go : (p : Bool) (x y : ℕ) → 1 ≤ cond p (1 + x) ((1 + x) + y)
    go true x y = omega arith
    go false x y = omega arith

pub says-spent : (cs : List (List Literal)) (t0 : List Literal) (bs : List Branch) (done : ℕ) (log : List TreeNode) (w : Tree) → Says cs t0 bs done log w → done < visited w
says-spent cs t0 bs done log w s = go (has_model s.first) (visited s.first) (visited_all (reverse s.rest)) (visited-some s.first) s.nodes
  where
    go : (p : Bool) (x y : ℕ) → 1 ≤ x → visited w ≡ done + cond p x (x + y) → done < visited w
    go true x y h e = omega arith
    go false x y h e = omega arith

pub says-start : (cs : List (List Literal)) (t : List Literal) (w : Tree) → IsTree cs (on t) w → Says cs t [] 0 [] w
says-start cs t w h = record {
  first = w;
  rest = [];
  is_first = h;
  are_rest = tt;
  nodes = go (has_model w) (visited w);
  models = or-false (has_model w);
  model = or-none (model_of w);
  logged = sym (append-nil (lines w));
}
  where
    go : (p : Bool) (x : ℕ) → x ≡ 0 + cond p x (x + 0)
    go true x = omega arith
    go false x = omega arith

    or-false : (p : Bool) → p ≡ (p || false)
    or-false true = refl
    or-false false = refl

    or-none : (p : Option (Literal → Bool)) → p ≡ or_model p None
    or-none None = refl
    or-none (Some u) = refl

pub says-begin : (cs : List (List Literal)) (t : List Literal) (bs : List Branch) (done : ℕ) (log : List TreeNode) (w : Tree) → bs ≡ [] → done ≡ 0 → log ≡ [] → IsTree cs (on t) w → Says cs t bs done log w
says-begin cs t bs done log w none zero empty h = rw (none, zero, empty) (says-start cs t w h)

pub node-splits : (cs : List (List Literal)) (v : Literal → Bool) (l : Literal) (n : Node) → (HasConflict cs v → ⊥) → Some l ≡ split_literal v cs → NodeIs cs v n → n ≡ Open l
node-splits cs v l Shut calm e h = absurd (calm h)
node-splits cs v l Met calm e h = absurd (some-none l (e ∙ met-none v cs h.1))
  where
    some-none : (k : Literal) → Some k ≡ None → ⊥
    some-none k f = cc
node-splits cs v l (Open k) calm e h = ap Open (some-same k l (sym h.1 ∙ sym e))
  where
    some-same : (k m : Literal) → Some k ≡ Some m → k ≡ m
    some-same k m f = cc

pub node-met : (cs : List (List Literal)) (v : Literal → Bool) (n : Node) → (HasConflict cs v → ⊥) → None ≡ split_literal v cs → NodeIs cs v n → n ≡ Met
node-met cs v Shut calm e h = absurd (calm h)
node-met cs v Met calm e h = refl
node-met cs v (Open k) calm e h = absurd (some-none k (sym h.1 ∙ sym e))
  where
    some-none : (k : Literal) → Some k ≡ None → ⊥
    some-none k f = cc

-- a model makes each clause true, and none all false
pub model-met : (cs : List (List Literal)) (s u : Literal → Bool) (w : Tree) → IsTree cs s w → model_of w ≡ Some u → NodeIs cs u Met
model-met cs s u shut h e = absurd (none-some e)
  where
    none-some : None ≡ Some u → ⊥
    none-some f = cc
model-met cs s u (met v) h e = subst (λ (z : Literal → Bool). NodeIs cs z Met) (same-set h.0.set v (h.0.closure.least v h.1.above h.1.closed) (h.1.least h.0.set h.0.closure.above h.0.closure.closed) ∙ same-some e) h.0.is
  where
    same-some : Some v ≡ Some u → v ≡ u
    same-some f = cc
model-met cs s u (fork l a b) h e = go (model_of a) refl e (λ f. model-met cs (added l s) u a h.1.0 f) (λ f. model-met cs (added (negated l) s) u b h.1.1 f)
  where
    go : (o : Option (Literal → Bool)) → model_of a ≡ o → or_model o (model_of b) ≡ Some u → (model_of a ≡ Some u → NodeIs cs u Met) → (model_of b ≡ Some u → NodeIs cs u Met) → NodeIs cs u Met
    go None i f x y = y f
    go (Some v) i f x y = x (i ∙ f)
