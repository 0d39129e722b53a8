-- The laws of the plain tree.
use Rattle.std.proofs.Common.{◌≡◌, ℕ, Bool, true, false, not, ◌||◌, Some, None, List, [], ◌∷◌, refl, sym, ap, subst, ◌∙◌, inl, inr}
use Rattle.std.proofs.lemmas.Bool.{cases_Bool, both_ways, or_left, or_right}
use Rattle.pg_region.specs.Literal.{Literal, same, negated}
use Rattle.pg_region.specs.Region.{clause_at}
use Rattle.pg_decider.specs.Assignment.{Assignment, on, added, Within, Forces, HasConflict, IsClosed, IsClosure}
use Rattle.pg_decider.specs.Laws.{TreeIsUnique, SmallTreeExists, IsWhole, NoModelIsUnsatisfiable, Added, nothing_more, one_more, AnyOrderCloses, AnyOrderConflicts}
use Rattle.pg_decider.specs.Reached.{Reached}
use Rattle.pg_decider.specs.Split.{any_true, AllMet}
use Rattle.pg_decider.specs.Tree.{NodeIs, IsNode, Tree, shut, met, fork, IsTree, has_model}
use Rattle.pg_decider.specs.declared.settle.Node.{Node}
use Rattle.pg_decider.specs.declared.settle.Node.TheVariants.{Shut, Met, Open}
use Rattle.pg_decider.proofs.Existing.{small-tree-exists, reached-more}
use Rattle.pg_decider.proofs.Literals.{same-is, same-refl, added-cases}
use Rattle.pg_decider.proofs.Splits.{met-none}
use Rattle.pg_decider.proofs.Trees.{node-open, same-set, shut-open, met-open, met-shut, open-same}

-- ---- at most one tree

closure-reached : (cs : List (List Literal)) (s u : Assignment) → IsClosure cs s u → Reached cs s u
closure-reached cs s u c = record { above = c.above; inside = c.least }

node-here : (cs : List (List Literal)) (s : Assignment) (a b : Node) → (h : IsNode cs s a) → IsNode cs s b → NodeIs cs h.set b
node-here cs s a b h g = node-open cs s h.set b (closure-reached cs s h.set h.closure) h.closure.closed g

node-alone : (cs : List (List Literal)) (u : Assignment) (a b : Node) → NodeIs cs u a → NodeIs cs u b → a ≡ b
node-alone cs u Shut Shut x y = refl
node-alone cs u Shut Met x y = absurd (y.0 x)
node-alone cs u Shut (Open l) x y = absurd (y.0 x)
node-alone cs u Met Shut x y = absurd (x.0 y)
node-alone cs u Met Met x y = refl
node-alone cs u Met (Open l) x y = absurd (none-some l (sym (met-none u cs x.1) ∙ y.1))
  where
    none-some : (k : Literal) → None ≡ Some k → ⊥
    none-some k f = cc
node-alone cs u (Open l) Shut x y = absurd (x.0 y)
node-alone cs u (Open l) Met x y = absurd (some-none l (sym x.1 ∙ met-none u cs y.1))
  where
    some-none : (k : Literal) → Some k ≡ None → ⊥
    some-none k f = cc
node-alone cs u (Open l) (Open k) x y = ap Open (some-same l k (sym x.1 ∙ y.1))
  where
    some-same : (k m : Literal) → Some k ≡ Some m → k ≡ m
    some-same k m f = cc

node-unique : (cs : List (List Literal)) (s : Assignment) (a b : Node) → IsNode cs s a → IsNode cs s b → a ≡ b
node-unique cs s a b h g = node-alone cs h.set a b h.is (node-here cs s a b h g)

pub tree-unique : TreeIsUnique
tree-unique cs path shut shut h g = refl
tree-unique cs path shut (met v) h g = absurd (met-shut (sym (node-unique cs path Shut Met h g.0)))
tree-unique cs path shut (fork k x y) h g = absurd (shut-open k (node-unique cs path Shut (Open k) h g.0))
tree-unique cs path (met u) shut h g = absurd (met-shut (node-unique cs path Met Shut h.0 g))
tree-unique cs path (met u) (met v) h g = ap met (same-set u v (h.1.least v g.1.above g.1.closed) (g.1.least u h.1.above h.1.closed))
tree-unique cs path (met u) (fork k x y) h g = absurd (met-open k (node-unique cs path Met (Open k) h.0 g.0))
tree-unique cs path (fork l a b) shut h g = absurd (shut-open l (node-unique cs path Shut (Open l) g h.0))
tree-unique cs path (fork l a b) (met v) h g = absurd (met-open l (node-unique cs path Met (Open l) g.0 h.0))
tree-unique cs path (fork l a b) (fork k x y) h g =
    let e : l ≡ k = open-same l k (node-unique cs path (Open l) (Open k) h.0 g.0) in
    let left = tree-unique cs (added l path) a x h.1.0 (subst (λ (m : Literal). IsTree cs (added m path) x) (sym e) g.1.0) in
    let right = tree-unique cs (added (negated l) path) b y h.1.1 (subst (λ (m : Literal). IsTree cs (added (negated m) path) y) (sym e) g.1.1) in
    ap (λ (m : Literal). fork m a b) e ∙ (ap (λ (t : Tree). fork k t b) left ∙ ap (λ (t : Tree). fork k x t) right)

-- ---- one exists, with few nodes

pub small-tree : SmallTreeExists
small-tree n cs over = small-tree-exists n cs over

-- ---- no model, no satisfying assignment

-- a clause all of whose literals are false has no true one
none-true : (s : Assignment) (c : List Literal) → ((m : Literal) → on c m ≡ true → s m ≡ false) → any_true s c ≡ false
none-true s [] h = refl
none-true s (m ∷ c) h = go (s m) (any_true s c) (h m (or_left (same m m) (on c m) (same-refl m))) (none-true s c (λ k i. h k (or_right (same m k) (on c k) i)))
  where
    go : (a b : Bool) → a ≡ false → b ≡ false → (a || b) ≡ false
    go true b e f = absurd (both_ways true e refl)
    go false b e f = f

whole-false : (s : Assignment) (m : Literal) → IsWhole s → s (negated m) ≡ true → s m ≡ false
whole-false s m w h = go (s m) (sym (w.each m) ∙ h)
  where
    go : (b : Bool) → not b ≡ true → b ≡ false
    go true e = absurd (both_ways false refl e)
    go false e = refl

no-conflict : (cs : List (List Literal)) (s u : Assignment) → IsWhole s → AllMet s cs → Within u s → HasConflict cs u → ⊥
no-conflict cs s u w m sub h =
    both_ways (any_true s (clause_at cs h.place))
    (none-true s (clause_at cs h.place) (λ l i. whole-false s l w (sub (negated l) (h.false_there.each l i))))
    (m.each h.place h.within)

-- what satisfies the clauses is closed under them
satisfied-closed : (cs : List (List Literal)) (s : Assignment) → IsWhole s → AllMet s cs → IsClosed cs s
satisfied-closed cs s w m = record {
  each = λ k l lt f. elim (cases_Bool (s l)) [
    | inl e ↦ e
    | inr e ↦ absurd (both_ways (any_true s (clause_at cs k)) (none-true s (clause_at cs k) (other k l f e)) (m.each k lt))
  ];
}
  where
    other : (k : ℕ) (l : Literal) → Forces s (clause_at cs k) l → s l ≡ false → (o : Literal) → on (clause_at cs k) o ≡ true → s o ≡ false
    other k l f e o i = elim (cases_Bool (same o l)) [
      | inl is ↦ subst (λ (y : Literal). s y ≡ false) (sym (same-is o l is)) e
      | inr ne ↦ whole-false s o w (f.others o i ne)
    ]

within-added : (s path : Assignment) (l : Literal) → Within path s → s l ≡ true → Within (added l path) s
within-added s path l sub h m i = elim (added-cases l m path i) [
  | inl e ↦ subst (λ (y : Literal). s y ≡ true) e h
  | inr e ↦ sub m e
]

no-model-below : (cs : List (List Literal)) (path : Assignment) (t : Tree) → IsTree cs path t → has_model t ≡ false → (s : Assignment) → IsWhole s → AllMet s cs → Within path s → ⊥
no-model-below cs path shut h e s w m sub = no-conflict cs s h.set w m (h.closure.least s sub (satisfied-closed cs s w m)) h.is
no-model-below cs path (met u) h e s w m sub = both_ways true e refl
no-model-below cs path (fork l a b) h e s w m sub = elim (cases_Bool (s l)) [
  | inl true_there ↦ no-model-below cs (added l path) a h.1.0 (left (has_model a) (has_model b) e) s w m (within-added s path l sub true_there)
  | inr false_there ↦ no-model-below cs (added (negated l) path) b h.1.1 (right (has_model a) (has_model b) e) s w m (within-added s path (negated l) sub (w.each l ∙ ap not false_there))
]
  where
    left : (p q : Bool) → (p || q) ≡ false → p ≡ false
    left true q f = f
    left false q f = refl

    right : (p q : Bool) → (p || q) ≡ false → q ≡ false
    right true q f = absurd (both_ways true f refl)
    right false q f = f

pub no-model : NoModelIsUnsatisfiable
no-model cs t h e s w m = no-model-below cs (on []) t h e s w m (λ l i. absurd (both_ways false refl i))

-- ---- any order of forced literals

added-reached : (cs : List (List Literal)) (s u : Assignment) → Added cs s u → Reached cs s u
added-reached cs s u nothing_more = record { above = λ l h. h; inside = λ t sub closed l h. sub l h }
added-reached cs s w (one_more u k l a lt f) = reached-more cs s u k l (added-reached cs s u a) lt f

pub any-order-closes : AnyOrderCloses
any-order-closes cs s u a c = let r = added-reached cs s u a in record { above = r.above; closed = c; least = r.inside }

pub any-order-conflicts : AnyOrderConflicts
any-order-conflicts cs s u v a h c =
    let r = added-reached cs s u a in
    record { place = h.place; within = h.within; false_there = record { each = λ m i. r.inside v c.above c.closed (negated m) (h.false_there.each m i) } }
