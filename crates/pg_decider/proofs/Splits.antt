use Rattle.std.proofs.Common.{◌≡◌, ℕ, zero, suc, ◌<◌, nat_le, nat_lt, Bool, true, false, not, cond, ◌&&◌, Option, Some, None, List, [], ◌∷◌, length, refl, sym, ap, subst, ◌∙◌, arith, inl, inr}
use Rattle.std.proofs.lemmas.Bool.{cases_Bool, both_ways, and_parts, not-true, or_parts, or_left, or_right, or_cases}
use Rattle.std.specs.Prelude.{IfSome}
use Rattle.pg_region.specs.Literal.{Literal, negated, same}
use Rattle.pg_region.specs.Region.{clause_at}
use Rattle.pg_decider.specs.Assignment.{on, AreFalse}
use Rattle.pg_decider.specs.Noted.{better, or_first, noted, picked, run}
use Rattle.pg_decider.specs.Split.{any_true, any_false, free, free_count, first_free, open_clauses, touched, fewer, fewest, first_clause, or_else, free_in, split_literal, AllMet}
use Rattle.pg_decider.specs.declared.split.Found.{Found}
use Rattle.pg_decider.specs.declared.split.Found.TheVariants.{Nothing, Untouched, Touched}
use Rattle.pg_decider.proofs.Literals.{same-is, same-refl}

-- what the rule gives for what was found and the clauses that are left
abbrev or_literal : (Literal → Bool) → Option (List Literal) → Option Literal → Option Literal
or_literal s None k = k
or_literal s (Some c) k = first_free s c

abbrev best : (Literal → Bool) → ℕ → Option Literal → Option (List Literal) → Option Literal
best s m k None = k
best s m k (Some d) = cond (nat_lt (free_count s d) m) (first_free s d) k

abbrev after : (Literal → Bool) → Found → Option (List Literal) → Option (List Literal) → Option Literal
after s Nothing best-one one = free_in s (or_else best-one one)
after s (Untouched k) best-one one = or_literal s best-one k
after s (Touched m k) best-one one = best s m k best-one

tie : (a b : ℕ) (x y : Option Literal) → cond (nat_lt b a) y x ≡ cond (nat_le a b) x y
tie a b x y = grind arith

three : (n d m : ℕ) (x y k : Option Literal) → cond (nat_lt n m) (cond (nat_lt d n) y x) (cond (nat_lt d m) y k) ≡ cond (nat_lt (cond (nat_le n d) n d) m) (cond (nat_le n d) x y) k
three n d m x y k = grind arith

first-of : (s : Literal → Bool) (b : Bool) (c d : List Literal) → cond b (first_free s c) (first_free s d) ≡ first_free s (cond b c d)
first-of s true c d = refl
first-of s false c d = refl

count-of : (s : Literal → Bool) (b : Bool) (c d : List Literal) → cond b (free_count s c) (free_count s d) ≡ free_count s (cond b c d)
count-of s true c d = refl
count-of s false c d = refl

either : (s : Literal → Bool) (b : Bool) (n m : ℕ) (l k : Option Literal) (F one : Option (List Literal)) → after s (cond b (Touched n l) (Touched m k)) F one ≡ cond b (best s n l F) (best s m k F)
either s true n m l k F one = refl
either s false n m l k F one = refl

best-step : (s : Literal → Bool) (f : Found) (c : List Literal) (one other : Option (List Literal)) (F : Option (List Literal)) →
    after s (better f (free_count s c) (first_free s c)) F one ≡ after s f (Some (fewer s c F)) other
best-step s Nothing c one other None = refl
best-step s Nothing c one other (Some d) = tie (free_count s c) (free_count s d) (first_free s c) (first_free s d) ∙ first-of s (nat_le (free_count s c) (free_count s d)) c d
best-step s (Untouched k) c one other None = refl
best-step s (Untouched k) c one other (Some d) = tie (free_count s c) (free_count s d) (first_free s c) (first_free s d) ∙ first-of s (nat_le (free_count s c) (free_count s d)) c d
best-step s (Touched m k) c one other None = either s (nat_lt (free_count s c) m) (free_count s c) m (first_free s c) k None one
best-step s (Touched m k) c one other (Some d) =
    let q = nat_le (free_count s c) (free_count s d) in
    either s (nat_lt (free_count s c) m) (free_count s c) m (first_free s c) k (Some d) one
    ∙ (three (free_count s c) (free_count s d) m (first_free s c) (first_free s d) k
    ∙ (ap (λ (n : ℕ). cond (nat_lt n m) (cond q (first_free s c) (first_free s d)) k) (count-of s q c d)
    ∙ ap (λ (x : Option Literal). cond (nat_lt (free_count s (cond q c d)) m) x k) (first-of s q c d)))

first-step : (s : Literal → Bool) (f : Found) (c : List Literal) (one : Option (List Literal)) (F : Option (List Literal)) →
    after s (or_first f (first_free s c)) F one ≡ after s f F (Some c)
first-step s Nothing c one None = refl
first-step s Nothing c one (Some d) = refl
first-step s (Untouched k) c one F = refl
first-step s (Touched m k) c one F = refl

rest-step : (s : Literal → Bool) (f : Found) (c : List Literal) (cs : List (List Literal)) →
    after s (noted s f c) (fewest s (touched s (open_clauses s cs))) (first_clause (open_clauses s cs))
    ≡ after s f (fewest s (touched s (open_clauses s (c ∷ cs)))) (first_clause (open_clauses s (c ∷ cs)))
rest-step s f c cs = elim (cases_Bool (any_true s c)) [
  | inl a ↦ rw a refl
  | inr a ↦ elim (cases_Bool (any_false s c)) [
    | inl b ↦ rw (a, b) (best-step s f c (first_clause (open_clauses s cs)) (Some c) (fewest s (touched s (open_clauses s cs))))
    | inr b ↦ rw (a, b) (first-step s f c (first_clause (open_clauses s cs)) (fewest s (touched s (open_clauses s cs))))
  ]
]

run-after : (s : Literal → Bool) (f : Found) (cs : List (List Literal)) → run s f cs ≡ after s f (fewest s (touched s (open_clauses s cs))) (first_clause (open_clauses s cs))
run-after s Nothing [] = refl
run-after s (Untouched k) [] = refl
run-after s (Touched m k) [] = refl
run-after s f (c ∷ cs) = run-after s (noted s f c) cs ∙ rest-step s f c cs

-- one pass over the clauses finds the split literal
pub run-is : (s : Literal → Bool) (cs : List (List Literal)) → run s Nothing cs ≡ split_literal s cs
run-is s cs = run-after s Nothing cs

-- the split literal has no value
pub first-free-is : (s : Literal → Bool) (c : List Literal) (l : Literal) → Some l ≡ first_free s c → (on c l ≡ true) × (s l ≡ false) × (s (negated l) ≡ false)
first-free-is s [] l h = absurd (none h)
  where
    none : Some l ≡ None → ⊥
    none e = cc
first-free-is s (m ∷ c) l h = go (λ e. first-free-is s c l e) (free s m) refl h
  where
    same-some : Some l ≡ Some m → m ≡ l
    same-some e = cc

    go : (Some l ≡ first_free s c → (on c l ≡ true) × (s l ≡ false) × (s (negated l) ≡ false)) → (b : Bool) → free s m ≡ b → Some l ≡ cond b (Some m) (first_free s c) → (on (m ∷ c) l ≡ true) × (s l ≡ false) × (s (negated l) ≡ false)
    go later true f e =
        let p = and_parts (not (s m)) (not (s (negated m))) f in
        subst (λ (y : Literal). (on (m ∷ c) y ≡ true) × (s y ≡ false) × (s (negated y) ≡ false)) (same-some e)
        (or_left (same m m) (on c m) (same-refl m), not-true (s m) p.0, not-true (s (negated m)) p.1)
    go later false f e =
        let p = later e in (or_right (same m l) (on c l) p.0, p.1, p.2)

run-picks : (s : Literal → Bool) (P : Literal → Type 0) (f : Found) (cs : List (List Literal)) → ((k : ℕ) → k < length cs → IfSome (first_free s (clause_at cs k)) P) → IfSome (picked f) P → IfSome (run s f cs) P
run-picks s P f [] all h = h
run-picks s P f (c ∷ cs) all h = run-picks s P (noted s f c) cs (λ k lt. all (suc k) (omega arith)) (go (any_true s c) (any_false s c) f h)
  where
    here : IfSome (first_free s c) P
    here = all 0 (omega arith)

    keep : (b : Bool) (m : ℕ) (k : Option Literal) → IfSome k P → IfSome (picked (cond b (Touched (free_count s c) (first_free s c)) (Touched m k))) P
    keep true m k i = here
    keep false m k i = i

    go : (a b : Bool) (f : Found) → IfSome (picked f) P → IfSome (picked (cond a f (cond b (better f (free_count s c) (first_free s c)) (or_first f (first_free s c))))) P
    go true b f i = i
    go false true Nothing i = here
    go false true (Untouched k) i = here
    go false true (Touched m k) i = keep (nat_lt (free_count s c) m) m k i
    go false false Nothing i = here
    go false false (Untouched k) i = i
    go false false (Touched m k) i = i

pub split-picks : (s : Literal → Bool) (P : Literal → Type 0) (cs : List (List Literal)) (l : Literal) → Some l ≡ split_literal s cs →
    ((k : ℕ) (m : Literal) → k < length cs → on (clause_at cs k) m ≡ true → s m ≡ false → s (negated m) ≡ false → P m) → P l
split-picks s P cs l h all =
    subst (λ (o : Option Literal). IfSome o P) (run-is s cs ∙ sym h)
    (run-picks s P Nothing cs (λ k lt. go k lt (first_free s (clause_at cs k)) refl) tt)
  where
    go : (k : ℕ) → k < length cs → (o : Option Literal) → first_free s (clause_at cs k) ≡ o → IfSome o P
    go k lt None e = tt
    go k lt (Some m) e = let p = first-free-is s (clause_at cs k) m (sym e) in all k m lt p.0 p.1 p.2

-- where no clause is all false, there is a split literal unless each clause has a true one
pub none-false : (s : Literal → Bool) (c : List Literal) → first_free s c ≡ None → any_true s c ≡ false → AreFalse s c
none-false s [] e h = record { each = λ m i. absurd (both_ways false refl i) }
none-false s (m ∷ c) e h = go (λ z. none-false s c z (or_parts (s m) (any_true s c) h).1) (free s m) refl e
  where
    parts : (s m ≡ false) × (any_true s c ≡ false)
    parts = or_parts (s m) (any_true s c) h

    some-none : Some m ≡ None → ⊥
    some-none z = cc

    wrong : (b : Bool) → (not false && not b) ≡ false → b ≡ true
    wrong true z = refl
    wrong false z = absurd (both_ways true z refl)

    go : (first_free s c ≡ None → AreFalse s c) → (b : Bool) → free s m ≡ b → cond b (Some m) (first_free s c) ≡ None → AreFalse s (m ∷ c)
    go later true f z = absurd (some-none z)
    go later false f z =
        let rest = later z in
        let here : s (negated m) ≡ true = wrong (s (negated m)) (subst (λ (b : Bool). (not b && not (s (negated m))) ≡ false) parts.0 f) in
        record {
          each = λ k i. elim (or_cases (same m k) (on c k) i) [
            | inl x ↦ subst (λ (y : Literal). s (negated y) ≡ true) (same-is m k x) here
            | inr x ↦ rest.each k x
          ];
        }

met-open : (s : Literal → Bool) (cs : List (List Literal)) → ((k : ℕ) → k < length cs → any_true s (clause_at cs k) ≡ true) → open_clauses s cs ≡ []
met-open s [] all = refl
met-open s (c ∷ cs) all =
    let h : any_true s c ≡ true = all 0 (omega arith) in
    rw h (met-open s cs (λ k lt. all (suc k) (omega arith)))

pub met-none : (s : Literal → Bool) (cs : List (List Literal)) → AllMet s cs → split_literal s cs ≡ None
met-none s cs a = ap (λ (o : List (List Literal)). free_in s (or_else (fewest s (touched s o)) (first_clause o))) (met-open s cs a.each)

run-some : (s : Literal → Bool) (f : Found) (cs : List (List Literal)) → (picked f ≡ None → ⊥) → ((k : ℕ) → k < length cs → AreFalse s (clause_at cs k) → ⊥) → run s f cs ≡ None → ⊥
run-some s f [] h calm e = h e
run-some s f (c ∷ cs) h calm e = run-some s (noted s f c) cs (go (any_true s c) (any_false s c) f refl h) (λ k lt. calm (suc k) (omega arith)) e
  where
    here : any_true s c ≡ false → first_free s c ≡ None → ⊥
    here a z = calm 0 (omega arith) (none-false s c z a)

    keep : (b : Bool) (m : ℕ) (k : Option Literal) → any_true s c ≡ false → (k ≡ None → ⊥) → picked (cond b (Touched (free_count s c) (first_free s c)) (Touched m k)) ≡ None → ⊥
    keep true m k a i z = here a z
    keep false m k a i z = i z

    go : (a b : Bool) (f : Found) → any_true s c ≡ a → (picked f ≡ None → ⊥) → picked (cond a f (cond b (better f (free_count s c) (first_free s c)) (or_first f (first_free s c)))) ≡ None → ⊥
    go true b f a i z = i z
    go false true Nothing a i z = here a z
    go false true (Untouched k) a i z = here a z
    go false true (Touched m k) a i z = keep (nat_lt (free_count s c) m) m k a i z
    go false false Nothing a i z = here a z
    go false false (Untouched k) a i z = i z
    go false false (Touched m k) a i z = i z

run-met : (s : Literal → Bool) (cs : List (List Literal)) → ((k : ℕ) → k < length cs → AreFalse s (clause_at cs k) → ⊥) → run s Nothing cs ≡ None → (k : ℕ) → k < length cs → any_true s (clause_at cs k) ≡ true
run-met s [] calm e k lt = absurd (omega arith)
run-met s (c ∷ cs) calm e k lt = go (λ z. run-met s cs (λ i li. calm (suc i) (omega arith)) z) (any_true s c) (any_false s c) refl e
  where
    at : ((j : ℕ) → j < length cs → any_true s (clause_at cs j) ≡ true) → any_true s c ≡ true → (k : ℕ) → k < length (c ∷ cs) → any_true s (clause_at (c ∷ cs) k) ≡ true
    at later a zero l = a
    at later a (suc j) l = later j (omega arith)

    here : any_true s c ≡ false → first_free s c ≡ None → ⊥
    here a z = calm 0 (omega arith) (none-false s c z a)

    go : (run s Nothing cs ≡ None → (j : ℕ) → j < length cs → any_true s (clause_at cs j) ≡ true) → (a b : Bool) → any_true s c ≡ a → run s (cond a Nothing (cond b (Touched (free_count s c) (first_free s c)) (Untouched (first_free s c)))) cs ≡ None → any_true s (clause_at (c ∷ cs) k) ≡ true
    go later true b a z = at (later z) a k lt
    go later false true a z = absurd (run-some s (Touched (free_count s c) (first_free s c)) cs (here a) (λ i li. calm (suc i) (omega arith)) z)
    go later false false a z = absurd (run-some s (Untouched (first_free s c)) cs (here a) (λ i li. calm (suc i) (omega arith)) z)

pub all-met : (s : Literal → Bool) (cs : List (List Literal)) → ((k : ℕ) → k < length cs → AreFalse s (clause_at cs k) → ⊥) → None ≡ split_literal s cs → AllMet s cs
all-met s cs calm e = record { each = run-met s cs calm (run-is s cs ∙ sym e) }
