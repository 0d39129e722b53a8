-- The model of a plain tree has no literal together with its negation, and each clause has a true literal in it.
use Rattle.std.proofs.Common.{◌≡◌, ℕ, ◌<◌, Bool, true, false, not, ◌&&◌, ◌||◌, Option, Some, None, List, [], length, refl, sym, ap, subst, ◌∙◌, inl, inr, ◌⊎◌}
use Rattle.std.proofs.lemmas.Bool.{cases_Bool, both_ways, and_parts, and_from, or_right}
use Rattle.pg_region.specs.Literal.{Literal, same, negated}
use Rattle.pg_region.specs.Region.{clause_at}
use Rattle.pg_decider.specs.Assignment.{Assignment, on, added, Within, Forces, HasConflict, IsClosed, IsClosure}
use Rattle.pg_decider.specs.Split.{AllMet}
use Rattle.pg_decider.specs.Tree.{IsNode, Tree, shut, met, fork, IsTree, has_model, model_of, or_model}
use Rattle.pg_decider.specs.declared.settle.Node.TheVariants.{Open}
use Rattle.pg_decider.proofs.Literals.{same-refl, same-cases, same-negated, added-cases, negated-negated}
use Rattle.pg_decider.proofs.Splits.{split-picks}
use Rattle.pg_decider.proofs.Trees.{same-set}

pub record IsConsistent (s : Assignment) : Type 0 where
  pub each : (l : Literal) → s l ≡ true → s (negated l) ≡ false

-- ---- a closure without conflict is no less consistent than what it is the closure of

-- all but l
abbrev without : Literal → Assignment → Assignment
without l u = λ m. not (same l m) && u m

within-without : (l m : Literal) (u : Assignment) → same l m ≡ false → u m ≡ true → without l u m ≡ true
within-without l m u ne h = and_from (not (same l m)) (u m) (ap not ne) h

of-without : (l m : Literal) (u : Assignment) → without l u m ≡ true → u m ≡ true
of-without l m u h = (and_parts (not (same l m)) (u m) h).1

-- where a forced literal and its negation are in a set, the clause is all false
all-false : (cs : List (List Literal)) (u : Assignment) (k : ℕ) (l : Literal) → k < length cs → Forces u (clause_at cs k) l → u (negated l) ≡ true → HasConflict cs u
all-false cs u k l lt f h = record { place = k; within = lt; false_there = record { each = each } }
  where
    each : (m : Literal) → on (clause_at cs k) m ≡ true → u (negated m) ≡ true
    each m i = elim (same-cases m l) [
      | inl e ↦ subst (λ (y : Literal). u (negated y) ≡ true) (sym e) h
      | inr ne ↦ f.others m i ne
    ]

closed-without : (cs : List (List Literal)) (u : Assignment) (l : Literal) → IsClosed cs u → (HasConflict cs u → ⊥) → u (negated l) ≡ true → IsClosed cs (without l u)
closed-without cs u l c calm h = record { each = each }
  where
    wider : (k : ℕ) (m : Literal) → Forces (without l u) (clause_at cs k) m → Forces u (clause_at cs k) m
    wider k m f = record { has = f.has; others = λ o i ne. of-without l (negated o) u (f.others o i ne) }

    each : (k : ℕ) (m : Literal) → k < length cs → Forces (without l u) (clause_at cs k) m → without l u m ≡ true
    each k m lt f = elim (same-cases l m) [
      | inl e ↦ absurd (calm (all-false cs u k m lt (wider k m f) (subst (λ (y : Literal). u (negated y) ≡ true) e h)))
      | inr ne ↦ within-without l m u ne (c.each k m lt (wider k m f))
    ]

-- so of a literal that is there with its negation, each was there from the start
from-start : (cs : List (List Literal)) (path u : Assignment) (l : Literal) → IsClosure cs path u → (HasConflict cs u → ⊥) → u l ≡ true → u (negated l) ≡ true → path l ≡ true
from-start cs path u l c calm h n = elim (cases_Bool (path l)) [
  | inl e ↦ e
  | inr out ↦
      let kept = c.least (without l u) (sub out) (closed-without cs u l c.closed calm n) l h in
      absurd (both_ways (same l l) (not-true (same l l) (and_parts (not (same l l)) (u l) kept).0) (same-refl l))
]
  where
    not-true : (b : Bool) → not b ≡ true → b ≡ false
    not-true true e = absurd (both_ways false refl e)
    not-true false e = refl

    sub : path l ≡ false → Within path (without l u)
    sub out m i = elim (same-cases l m) [
      | inl e ↦ absurd (both_ways (path m) (subst (λ (y : Literal). path y ≡ false) e out) i)
      | inr ne ↦ within-without l m u ne (c.above m i)
    ]

closure-consistent : (cs : List (List Literal)) (path u : Assignment) → IsClosure cs path u → (HasConflict cs u → ⊥) → IsConsistent path → IsConsistent u
closure-consistent cs path u c calm fine = record { each = each }
  where
    each : (l : Literal) → u l ≡ true → u (negated l) ≡ false
    each l h = elim (cases_Bool (u (negated l))) [
      | inl n ↦
          let back = subst (λ (y : Literal). u y ≡ true) (sym (negated-negated l)) h in
          absurd (both_ways (path (negated l)) (fine.each l (from-start cs path u l c calm h n)) (from-start cs path u (negated l) c calm n back))
      | inr e ↦ e
    ]

-- ---- paths

none-on : IsConsistent (on [])
none-on = record { each = λ l h. absurd (both_ways false refl h) }

neither : (a b : Bool) → a ≡ false → b ≡ false → (a || b) ≡ false
neither true b e f = absurd (both_ways true e refl)
neither false b e f = f

added-consistent : (s : Assignment) (l : Literal) → IsConsistent s → s l ≡ false → s (negated l) ≡ false → IsConsistent (added l s)
added-consistent s l fine free unset = record { each = each }
  where
    clear : (m : Literal) → s m ≡ true → same l (negated m) ≡ false
    clear m h = elim (same-cases l (negated m)) [
      | inl e ↦
          let is = ap negated e ∙ negated-negated m in
          absurd (both_ways (s m) (subst (λ (y : Literal). s y ≡ false) is unset) h)
      | inr ne ↦ ne
    ]

    each : (m : Literal) → added l s m ≡ true → added l s (negated m) ≡ false
    each m h = elim (added-cases l m s h) [
      | inl e ↦ subst (λ (y : Literal). added l s (negated y) ≡ false) e (neither (same l (negated l)) (s (negated l)) (same-negated l) unset)
      | inr i ↦ neither (same l (negated m)) (s (negated m)) (clear m i) (fine.each m i)
    ]

-- a split literal has no value in the closure, and so none in the path
record IsUnset (s : Assignment) (l : Literal) : Type 0 where
  free : s l ≡ false
  unset : s (negated l) ≡ false

split-unset : (cs : List (List Literal)) (path : Assignment) (l : Literal) → IsNode cs path (Open l) → IsUnset path l
split-unset cs path l h =
    let set = h.set in
    let up = split-picks set (IsUnset set) cs l (sym h.is.1) (λ k m lt i a b. record { free = a; unset = b }) in
    record { free = out l up.free; unset = out (negated l) up.unset }
  where
    out : (m : Literal) → h.set m ≡ false → path m ≡ false
    out m e = elim (cases_Bool (path m)) [
      | inl i ↦ absurd (both_ways (h.set m) e (h.closure.above m i))
      | inr f ↦ f
    ]

-- ---- models

pub record IsModel (cs : List (List Literal)) (u : Assignment) : Type 0 where
  pub consistent : IsConsistent u
  pub met : AllMet u cs

pub some-alike : {A : Type 0} (a b : A) → Some a ≡ Some b → a ≡ b
some-alike a b e = cc

none-some : {A : Type 0} (a : A) → None ≡ Some a → ⊥
none-some a e = cc

one-of : (m n : Option Assignment) (u : Assignment) → or_model m n ≡ Some u → (m ≡ Some u) ⊎ (n ≡ Some u)
one-of None n u e = inr e
one-of (Some v) n u e = inl e

model-below : (cs : List (List Literal)) (path : Assignment) (t : Tree) (u : Assignment) → IsTree cs path t → IsConsistent path → model_of t ≡ Some u → IsModel cs u
model-below cs path shut u h fine e = absurd (none-some u e)
model-below cs path (met v) u h fine e =
    let here = h.0 in
    let same = same-set here.set v (here.closure.least v h.1.above h.1.closed) (h.1.least here.set here.closure.above here.closure.closed) in
    subst (IsModel cs) (same ∙ some-alike v u e) (record {
      consistent = closure-consistent cs path here.set here.closure here.is.0 fine;
      met = here.is.1;
    })
model-below cs path (fork l a b) u h fine e =
    let unset = split-unset cs path l h.0 in
    let back = subst (λ (y : Literal). path y ≡ false) (sym (negated-negated l)) unset.free in
    elim (one-of (model_of a) (model_of b) u e) [
      | inl x ↦ model-below cs (added l path) a u h.1.0 (added-consistent path l fine unset.free unset.unset) x
      | inr x ↦ model-below cs (added (negated l) path) b u h.1.1 (added-consistent path (negated l) fine unset.unset back) x
    ]

pub model-is : (cs : List (List Literal)) (t : Tree) (u : Assignment) → IsTree cs (on []) t → model_of t ≡ Some u → IsModel cs u
model-is cs t u h e = model-below cs (on []) t u h none-on e

-- a tree that has a model is one that is said to have it
pub has-model : (t : Tree) (u : Assignment) → model_of t ≡ Some u → has_model t ≡ true
has-model shut u e = absurd (none-some u e)
has-model (met v) u e = refl
has-model (fork l a b) u e = elim (one-of (model_of a) (model_of b) u e) [
  | inl x ↦ first (has_model a) (has_model b) (has-model a u x)
  | inr x ↦ or_right (has_model a) (has_model b) (has-model b u x)
]
  where
    first : (p q : Bool) → p ≡ true → (p || q) ≡ true
    first true q f = refl
    first false q f = absurd (both_ways false refl f)
