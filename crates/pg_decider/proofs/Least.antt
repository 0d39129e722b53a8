-- The pass over the clauses can end where a clause has two literals without a value.
use Rattle.std.proofs.Common.{◌≡◌, ℕ, suc, ◌+◌, ◌-◌, ◌<◌, ◌≤◌, nat_le, nat_lt, Bool, true, false, not, cond, ◌&&◌, ◌||◌, Option, Some, None, List, [], ◌∷◌, length, drop, refl, sym, ap, subst, ◌∙◌, arith, inl, inr, ◌⊎◌}
use Rattle.std.proofs.lemmas.Bool.{cases_Bool, both_ways, or_left, or_right, or_cases}
use Rattle.std.proofs.lemmas.List.{drop_more, get_or-drop, length-drop}
use Rattle.pg_region.specs.Literal.{Literal, negated, same}
use Rattle.pg_region.specs.Region.{clause_at}
use Rattle.pg_decider.specs.Assignment.{Assignment, on, Forces, AreFalse, HasConflict, IsClosed}
use Rattle.pg_decider.specs.Noted.{noted, picked, run, least, AreLong}
use Rattle.pg_decider.specs.Split.{any_true, any_false, free, free_count, first_free, split_literal, bit}
use Rattle.pg_decider.specs.declared.split.Found.{Found}
use Rattle.pg_decider.specs.declared.split.Found.TheVariants.{Nothing, Untouched, Touched}
use Rattle.pg_decider.proofs.Existing.{others_false, others-to}
use Rattle.pg_decider.proofs.Literals.{same-is, same-refl}
use Rattle.pg_decider.proofs.Splits.{run-is, first-free-is, none-false}

head-is : (m a : Literal) (c : List Literal) → on (m ∷ c) a ≡ true → on c a ≡ false → m ≡ a
head-is m a c i out = elim (or_cases (same m a) (on c a) i) [
  | inl e ↦ same-is m a e
  | inr e ↦ absurd (both_ways (on c a) out e)
]

counted : (x y : Bool) → x ≡ true → y ≡ false → bit (x && not y) ≡ 1
counted true true h e = absurd (both_ways true e refl)
counted true false h e = refl
counted false y h e = absurd (both_ways false refl h)

-- a literal counts where it stands last
last-counts : (s : Assignment) (m a : Literal) (c : List Literal) → on (m ∷ c) a ≡ true → on c a ≡ false → free s a ≡ true → bit (free s m && not (on c m)) ≡ 1
last-counts s m a c i out f = subst (λ (y : Literal). bit (free s y && not (on c y)) ≡ 1) (sym (head-is m a c i out)) (counted (free s a) (on c a) f out)

one-free : (s : Assignment) (c : List Literal) (a : Literal) → on c a ≡ true → free s a ≡ true → 1 ≤ free_count s c
one-free s [] a i f = absurd (both_ways false refl i)
one-free s (m ∷ c) a i f = elim (cases_Bool (on c a)) [
  | inl later ↦ omega (arith, one-free s c a later f)
  | inr out ↦ omega (arith, last-counts s m a c i out f)
]

two-free : (s : Assignment) (c : List Literal) (a b : Literal) → on c a ≡ true → on c b ≡ true → free s a ≡ true → free s b ≡ true → same b a ≡ false → 2 ≤ free_count s c
two-free s [] a b ia ib fa fb ne = absurd (both_ways false refl ia)
two-free s (m ∷ c) a b ia ib fa fb ne = elim (cases_Bool (on c a)) [
  | inl x ↦ elim (cases_Bool (on c b)) [
    | inl y ↦ omega (arith, two-free s c a b x y fa fb ne)
    | inr y ↦ omega (arith, last-counts s m b c ib y fb, one-free s c a x fa)
  ]
  | inr x ↦ elim (cases_Bool (on c b)) [
    | inl y ↦ omega (arith, last-counts s m a c ia x fa, one-free s c b y fb)
    | inr y ↦ absurd (both_ways (same b a) ne (subst (λ (z : Literal). same z a ≡ true) (sym (head-is m a c ia x) ∙ head-is m b c ib y) (same-refl a)))
  ]
]

-- a literal besides a that is not false
record OtherOne (s : Assignment) (a : Literal) (c : List Literal) : Type 0 where
  literal : Literal
  there : on c literal ≡ true
  apart : same literal a ≡ false
  unset : s (negated literal) ≡ false

other-one : (s : Assignment) (a : Literal) (c : List Literal) → others_false s a c ≡ false → OtherOne s a c
other-one s a [] z = absurd (both_ways true z refl)
other-one s a (m ∷ c) z = elim (cases_Bool (others_false s a c)) [
  | inl y ↦ here y
  | inr y ↦ let q = other-one s a c y in record { literal = q.literal; there = or_right (same m q.literal) (on c q.literal) q.there; apart = q.apart; unset = q.unset }
]
  where
    parts : (p q r : Bool) → ((p || q) && r) ≡ false → r ≡ true → (p ≡ false) × (q ≡ false)
    parts true q true h e = absurd (both_ways true h refl)
    parts false true true h e = absurd (both_ways true h refl)
    parts false false true h e = (refl, refl)
    parts p q false h e = absurd (both_ways false refl e)

    here : others_false s a c ≡ true → OtherOne s a (m ∷ c)
    here y = let h = parts (same m a) (s (negated m)) (others_false s a c) z y in
        record { literal = m; there = or_left (same m m) (on c m) (same-refl m); apart = h.0; unset = h.1 }

none-is-true : (s : Assignment) (c : List Literal) (m : Literal) → any_true s c ≡ false → on c m ≡ true → s m ≡ false
none-is-true s [] m h i = absurd (both_ways false refl i)
none-is-true s (k ∷ c) m h i = elim (or_cases (same k m) (on c m) i) [
  | inl e ↦ subst (λ (y : Literal). s y ≡ false) (same-is k m e) (left (s k) (any_true s c) h)
  | inr e ↦ none-is-true s c m (right (s k) (any_true s c) h) e
]
  where
    left : (p q : Bool) → (p || q) ≡ false → p ≡ false
    left true q h = h
    left false q h = refl

    right : (p q : Bool) → (p || q) ≡ false → q ≡ false
    right true q h = absurd (both_ways true h refl)
    right false q h = h

free-from : (s : Assignment) (m : Literal) → s m ≡ false → s (negated m) ≡ false → free s m ≡ true
free-from s m a b = go (s m) (s (negated m)) a b
  where
    go : (p q : Bool) → p ≡ false → q ≡ false → (not p && not q) ≡ true
    go true q e f = absurd (both_ways true e refl)
    go false true e f = absurd (both_ways true f refl)
    go false false e f = refl

-- a clause without a true literal that is not all false, and forces nothing new, has two literals without a value
open-long : (s : Assignment) (c : List Literal) → any_true s c ≡ false → (AreFalse s c → ⊥) → ((l : Literal) → Forces s c l → s l ≡ true) → 2 ≤ free_count s c
open-long s c none calm closed = go (first_free s c) refl
  where
    second : (a : Literal) → (on c a ≡ true) × (s a ≡ false) × (s (negated a) ≡ false) → (others_false s a c ≡ true) ⊎ (others_false s a c ≡ false) → 2 ≤ free_count s c
    second a p (inl f) = absurd (both_ways (s a) p.1 (closed a (record { has = p.0; others = others-to s a c f })))
    second a p (inr z) = let q = other-one s a c z in
        two-free s c a q.literal p.0 q.there (free-from s a p.1 p.2) (free-from s q.literal (none-is-true s c q.literal none q.there) q.unset) q.apart

    go : (o : Option Literal) → first_free s c ≡ o → 2 ≤ free_count s c
    go None e = absurd (calm (none-false s c e none))
    go (Some a) e = second a (first-free-is s c a (sym e)) (cases_Bool (others_false s a c))

pub closed-long : (cs : List (List Literal)) (s : Assignment) → IsClosed cs s → (HasConflict cs s → ⊥) → AreLong s cs
closed-long cs s closed calm = record {
  each = λ k lt none. open-long s (clause_at cs k) none (λ f. calm (record { place = k; within = lt; false_there = f })) (λ l f. closed.each k l lt f);
}

not-less : (n m : ℕ) → 2 ≤ n → nat_le m 2 ≡ true → nat_lt n m ≡ false
not-less n m h e = grind arith

noted-least : (s : Assignment) (f : Found) (c : List Literal) → (any_true s c ≡ false → 2 ≤ free_count s c) → least f ≡ true → noted s f c ≡ f
noted-least s Nothing c h e = absurd (both_ways false refl e)
noted-least s (Untouched k) c h e = absurd (both_ways false refl e)
noted-least s (Touched m k) c h e = go (any_true s c) (any_false s c) h
  where
    go : (x y : Bool) → (x ≡ false → 2 ≤ free_count s c) →
        cond x (Touched m k) (cond y (cond (nat_lt (free_count s c) m) (Touched (free_count s c) (first_free s c)) (Touched m k)) (Touched m k)) ≡ Touched m k
    go true y h = refl
    go false false h = refl
    go false true h = ap (λ (b : Bool). cond b (Touched (free_count s c) (first_free s c)) (Touched m k)) (not-less (free_count s c) m (h refl) e)

run-least : (s : Assignment) (f : Found) (cs : List (List Literal)) → AreLong s cs → least f ≡ true → run s f cs ≡ picked f
run-least s f [] long e = refl
run-least s f (c ∷ cs) long e =
    ap (λ (g : Found). run s g cs) (noted-least s f c (long.each 0 (omega arith)) e)
    ∙ run-least s f cs (record { each = λ k lt. long.each (suc k) (omega arith) }) e

long-rest : (s : Assignment) (cs : List (List Literal)) (n : ℕ) → AreLong s cs → AreLong s (drop n cs)
long-rest s cs n long = record {
  each = λ k lt. subst (λ (c : List Literal). any_true s c ≡ false → 2 ≤ free_count s c) (sym (get_or-drop n cs k [])) (long.each (n + k) (omega (arith, lt, length-drop n cs)));
}

-- what is found at clause k is what is picked
pub least-found : (s : Assignment) (cs : List (List Literal)) (f g : Found) (k : ℕ) (c : List Literal) → AreLong s cs → k < length cs →
    run s Nothing cs ≡ run s f (drop k cs) → c ≡ clause_at cs ((k + 1) - 1) → g ≡ noted s f c → least g ≡ true → picked g ≡ split_literal s cs
least-found s cs f g k c long lt before here noted-is e =
    let same : (k + 1) - 1 ≡ k = omega arith in
    let is : c ≡ clause_at cs k = here ∙ ap (λ (n : ℕ). clause_at cs n) same in
    sym (run-least s g (drop (k + 1) cs) (long-rest s cs (k + 1) long) e)
    ∙ (ap (λ (h : Found). run s h (drop (k + 1) cs)) (noted-is ∙ ap (λ (d : List Literal). noted s f d) is)
    ∙ (ap (λ (ds : List (List Literal)). run s f ds) (sym (drop_more cs k [] lt))
    ∙ (sym before ∙ run-is s cs)))
