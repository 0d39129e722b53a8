-- Closures and trees exist, and a tree has few nodes.
use Rattle.std.proofs.Common.{◌≡◌, ℕ, zero, suc, ◌+◌, ◌^◌, ◌<◌, ◌≤◌, Bool, true, false, not, ◌&&◌, ◌||◌, Option, Some, None, List, [], ◌∷◌, length, refl, sym, ap, subst, ◌∙◌, arith, inl, inr, ◌⊎◌}
use Rattle.std.proofs.lemmas.Bool.{cases_Bool, cases_eq, cases_lt, both_ways, or_left, or_right, or_cases, and_parts, and_from}
use Rattle.std.proofs.lemmas.List.{get_or_past}
use Rattle.std.proofs.lemmas.List.Elements.{All-get_or}
use Rattle.std.proofs.Math.Nat.{pow-suc, one-le-pow}
use Rattle.std.specs.List.{All}
use Rattle.pg_region.specs.Literal.{Literal, same, negated}
use Rattle.pg_region.specs.Region.{clause_at}
use Rattle.pg_decider.specs.Assignment.{Assignment, on, added, Within, Forces, AreFalse, HasConflict, IsClosed, IsClosure}
use Rattle.pg_decider.specs.Laws.{AreOver, HasSmallTree}
use Rattle.pg_decider.specs.Leaf.{IsLog}
use Rattle.pg_decider.specs.Outcome.{Answers, IfClosed, IsOutcome}
use Rattle.pg_decider.specs.Reached.{Reached, AreWithin}
use Rattle.pg_decider.specs.Split.{free, split_literal, bit}
use Rattle.pg_decider.specs.Tree.{Tree, shut, met, fork, IsTree, size}
use Rattle.pg_decider.specs.declared.log.TreeNode.{TreeNode}
use Rattle.pg_decider.specs.declared.verdict.Verdict.{Verdict}
use Rattle.pg_decider.specs.declared.verdict.Verdict.TheVariants.{Closed, Model, Spent}
use Rattle.pg_decider.proofs.Literals.{same-is, same-refl, added-cases, same_parts, negated-negated}
use Rattle.pg_decider.proofs.Splits.{split-picks, all-met}

-- tests of what Forces and AreFalse say
abbrev pub others_false : Assignment → Literal → List Literal → Bool
others_false s l [] = true
others_false s l (m ∷ c) = (same m l || s (negated m)) && others_false s l c

abbrev all_false : Assignment → List Literal → Bool
all_false s [] = true
all_false s (m ∷ c) = s (negated m) && all_false s c

all-false-from : (s : Literal → Bool) (c : List Literal) → ((m : Literal) → on c m ≡ true → s (negated m) ≡ true) → all_false s c ≡ true
all-false-from s [] h = refl
all-false-from s (m ∷ c) h = and_from (s (negated m)) (all_false s c) (h m (or_left (same m m) (on c m) (same-refl m))) (all-false-from s c (λ k i. h k (or_right (same m k) (on c k) i)))

others-from : (s : Literal → Bool) (l : Literal) (c : List Literal) → ((m : Literal) → on c m ≡ true → same m l ≡ false → s (negated m) ≡ true) → others_false s l c ≡ true
others-from s l [] h = refl
others-from s l (m ∷ c) h = and_from (same m l || s (negated m)) (others_false s l c) (go (same m l) refl) (others-from s l c (λ k i ne. h k (or_right (same m k) (on c k) i) ne))
  where
    go : (b : Bool) → same m l ≡ b → (same m l || s (negated m)) ≡ true
    go true e = or_left (same m l) (s (negated m)) e
    go false e = or_right (same m l) (s (negated m)) (h m (or_left (same m m) (on c m) (same-refl m)) e)

pub others-to : (s : Literal → Bool) (l : Literal) (c : List Literal) → others_false s l c ≡ true → (m : Literal) → on c m ≡ true → same m l ≡ false → s (negated m) ≡ true
others-to s l [] h m i ne = absurd (both_ways false refl i)
others-to s l (k ∷ c) h m i ne =
    let p = and_parts (same k l || s (negated k)) (others_false s l c) h in
    elim (or_cases (same k m) (on c m) i) [
      | inl e ↦
          let is = same-is k m e in
          elim (or_cases (same k l) (s (negated k)) p.0) [
            | inl z ↦ absurd (both_ways (same m l) ne (subst (λ (y : Literal). same y l ≡ true) is z))
            | inr z ↦ subst (λ (y : Literal). s (negated y) ≡ true) is z
          ]
      | inr e ↦ others-to s l c p.1 m e ne
    ]

all-false-to : (s : Literal → Bool) (c : List Literal) → all_false s c ≡ true → (m : Literal) → on c m ≡ true → s (negated m) ≡ true
all-false-to s [] h m i = absurd (both_ways false refl i)
all-false-to s (k ∷ c) h m i =
    let p = and_parts (s (negated k)) (all_false s c) h in
    elim (or_cases (same k m) (on c m) i) [
      | inl e ↦ subst (λ (y : Literal). s (negated y) ≡ true) (same-is k m e) p.0
      | inr e ↦ all-false-to s c p.1 m e
    ]

-- a literal that a clause forces and that is missing
record Missing (s : Literal → Bool) (c : List Literal) : Type 0 where
  literal : Literal
  forced : Forces s c literal
  out : s literal ≡ false

missing-in : (s : Literal → Bool) (c d : List Literal) → ((m : Literal) → on d m ≡ true → on c m ≡ true) → Missing s c ⊎ ((l : Literal) → on d l ≡ true → Forces s c l → s l ≡ true)
missing-in s c [] sub = inr (λ l i f. absurd (both_ways false refl i))
missing-in s c (m ∷ d) sub = go (missing-in s c d (λ k i. sub k (or_right (same m k) (on d k) i)))
  where
    here : (s m ≡ true) ⊎ (others_false s m c ≡ false) → ((l : Literal) → on d l ≡ true → Forces s c l → s l ≡ true) → (l : Literal) → on (m ∷ d) l ≡ true → Forces s c l → s l ≡ true
    here h rest l i f = elim (or_cases (same m l) (on d l) i) [
      | inl e ↦
          let is = same-is m l e in
          elim h [
            | inl t ↦ subst (λ (y : Literal). s y ≡ true) is t
            | inr z ↦ absurd (both_ways (others_false s m c) z (others-from s m c (λ k j ne. f.others k j (subst (λ (y : Literal). same k y ≡ false) is ne))))
          ]
      | inr e ↦ rest l e f
    ]

    go : Missing s c ⊎ ((l : Literal) → on d l ≡ true → Forces s c l → s l ≡ true) → Missing s c ⊎ ((l : Literal) → on (m ∷ d) l ≡ true → Forces s c l → s l ≡ true)
    go (inl x) = inl x
    go (inr rest) = elim (cases_Bool (s m)) [
      | inl t ↦ inr (here (inl t) rest)
      | inr o ↦ elim (cases_Bool (others_false s m c)) [
        | inl f ↦ inl (record { literal = m; forced = record { has = sub m (or_left (same m m) (on d m) (same-refl m)); others = others-to s m c f }; out = o })
        | inr z ↦ inr (here (inr z) rest)
      ]
    ]

record MissingAt (cs : List (List Literal)) (s : Literal → Bool) : Type 0 where
  place : ℕ
  within : place < length cs
  is : Missing s (clause_at cs place)

missing-at : (cs : List (List Literal)) (s : Literal → Bool) → MissingAt cs s ⊎ IsClosed cs s
missing-at [] s = inr (record { each = λ k l lt f. absurd (omega arith) })
missing-at (c ∷ cs) s = go (missing-in s c c (λ m i. i)) (missing-at cs s)
  where
    go : Missing s c ⊎ ((l : Literal) → on c l ≡ true → Forces s c l → s l ≡ true) → MissingAt cs s ⊎ IsClosed cs s → MissingAt (c ∷ cs) s ⊎ IsClosed (c ∷ cs) s
    go (inl m) y = inl (record { place = 0; within = omega arith; is = m })
    go (inr h) (inl m) = inl (record { place = suc m.place; within = omega (arith, m.within); is = m.is })
    go (inr h) (inr r) = inr (record { each = at })
      where
        at : (k : ℕ) (l : Literal) → k < length (c ∷ cs) → Forces s (clause_at (c ∷ cs) k) l → s l ≡ true
        at zero l lt f = h l f.has f
        at (suc k) l lt f = r.each k l (omega arith) f

conflict-at : (cs : List (List Literal)) (s : Literal → Bool) → HasConflict cs s ⊎ (HasConflict cs s → ⊥)
conflict-at [] s = inr (λ h. absurd (omega (arith, h.within)))
conflict-at (c ∷ cs) s = go (cases_Bool (all_false s c)) (conflict-at cs s)
  where
    go : (all_false s c ≡ true) ⊎ (all_false s c ≡ false) → HasConflict cs s ⊎ (HasConflict cs s → ⊥) → HasConflict (c ∷ cs) s ⊎ (HasConflict (c ∷ cs) s → ⊥)
    go (inl f) y = inl (record { place = 0; within = omega arith; false_there = record { each = all-false-to s c f } })
    go (inr f) (inl h) = inl (record { place = suc h.place; within = omega (arith, h.within); false_there = h.false_there })
    go (inr f) (inr n) = inr (λ h. at h.place h.within h.false_there)
      where
        at : (k : ℕ) → k < length (c ∷ cs) → AreFalse s (clause_at (c ∷ cs) k) → ⊥
        at zero lt a = both_ways (all_false s c) f (all-false-from s c a.each)
        at (suc k) lt a = n (record { place = k; within = omega arith; false_there = a })

-- the literals of the clauses are of the n atoms from a on
abbrev AreAmong : ℕ → ℕ → List (List Literal) → Type 0
AreAmong a n cs = (k : ℕ) (l : Literal) → on (clause_at cs k) l ≡ true → (a ≤ l.atom) × (l.atom < a + n)

-- of the literals of these atoms, how many a set lacks
abbrev lacks : ℕ → ℕ → Assignment → ℕ
lacks a zero s = 0
lacks a (suc n) s = (bit (not (s (record { atom = a + n; positive = true }))) + bit (not (s (record { atom = a + n; positive = false })))) + lacks a n s

bit-le : (a b : Bool) → bit (not (a || b)) ≤ bit (not b)
bit-le true true = omega arith
bit-le true false = omega arith
bit-le false b = omega arith

bit-less : (a b : Bool) → a ≡ true → b ≡ false → bit (not (a || b)) + 1 ≤ bit (not b)
bit-less true true h e = absurd (both_ways true e refl)
bit-less true false h e = omega arith
bit-less false b h e = absurd (both_ways false refl h)

lacks-le : (a n : ℕ) (l : Literal) (s : Assignment) → lacks a n (added l s) ≤ lacks a n s
lacks-le a zero l s = omega arith
lacks-le a (suc n) l s =
    let p : Literal = record { atom = a + n; positive = true } in
    let q : Literal = record { atom = a + n; positive = false } in
    omega (arith, bit-le (same l p) (s p), bit-le (same l q) (s q), lacks-le a n l s)

lacks-less : (a n : ℕ) (l : Literal) (s : Assignment) → a ≤ l.atom → l.atom < a + n → s l ≡ false → lacks a n (added l s) + 1 ≤ lacks a n s
lacks-less a zero l s lo hi out = absurd (omega arith)
lacks-less a (suc n) l s lo hi out = elim (cases_eq l.atom (a + n)) [
  | inl e ↦ here l.positive refl e
  | inr ne ↦
      let p : Literal = record { atom = a + n; positive = true } in
      let q : Literal = record { atom = a + n; positive = false } in
      omega (arith, bit-le (same l p) (s p), bit-le (same l q) (s q), lacks-less a n l s lo (omega arith) out)
]
  where
    here : (b : Bool) → l.positive ≡ b → l.atom ≡ a + n → lacks a (suc n) (added l s) + 1 ≤ lacks a (suc n) s
    here true pos e =
        let p : Literal = record { atom = a + n; positive = true } in
        let q : Literal = record { atom = a + n; positive = false } in
        let is : l ≡ p = same_parts l p e pos in
        omega (arith, bit-less (same l p) (s p) (subst (λ (y : Literal). same l y ≡ true) is (same-refl l)) (subst (λ (y : Literal). s y ≡ false) is out), bit-le (same l q) (s q), lacks-le a n l s)
    here false pos e =
        let p : Literal = record { atom = a + n; positive = true } in
        let q : Literal = record { atom = a + n; positive = false } in
        let is : l ≡ q = same_parts l q e pos in
        omega (arith, bit-less (same l q) (s q) (subst (λ (y : Literal). same l y ≡ true) is (same-refl l)) (subst (λ (y : Literal). s y ≡ false) is out), bit-le (same l p) (s p), lacks-le a n l s)

record Exists (cs : List (List Literal)) (s : Assignment) : Type 0 where
  set : Assignment
  is : IsClosure cs s set

-- a forced literal is added
pub reached-more : (cs : List (List Literal)) (s v : Assignment) (k : ℕ) (l : Literal) → Reached cs s v → k < length cs → Forces v (clause_at cs k) l → Reached cs s (added l v)
reached-more cs s v k l r lt f = record {
  above = λ m h. or_right (same l m) (v m) (r.above m h);
  inside = λ t sub closed m h. elim (added-cases l m v h) [
    | inl e ↦ subst (λ (y : Literal). t y ≡ true) e (closed.each k l lt (record { has = f.has; others = λ o i ne. r.inside t sub closed (negated o) (f.others o i ne) }))
    | inr e ↦ r.inside t sub closed m e
  ];
}

closure-from : (fuel a n : ℕ) (cs : List (List Literal)) (s v : Assignment) → AreAmong a n cs → lacks a n v ≤ fuel → Reached cs s v → Exists cs s
closure-from zero a n cs s v over le r = go (missing-at cs v)
  where
    go : MissingAt cs v ⊎ IsClosed cs v → Exists cs s
    go (inl m) = let o = over m.place m.is.literal m.is.forced.has in absurd (omega (arith, lacks-less a n m.is.literal v o.0 o.1 m.is.out))
    go (inr c) = record { set = v; is = record { above = r.above; closed = c; least = r.inside } }
closure-from (suc fuel) a n cs s v over le r = go (missing-at cs v) (λ m. let o = over m.place m.is.literal m.is.forced.has in
    closure-from fuel a n cs s (added m.is.literal v) over (omega (arith, lacks-less a n m.is.literal v o.0 o.1 m.is.out)) (reached-more cs s v m.place m.is.literal r m.within m.is.forced))
  where
    go : MissingAt cs v ⊎ IsClosed cs v → (MissingAt cs v → Exists cs s) → Exists cs s
    go (inl m) next = next m
    go (inr c) next = record { set = v; is = record { above = r.above; closed = c; least = r.inside } }

closure-exists : (a n : ℕ) (cs : List (List Literal)) (s : Assignment) → AreAmong a n cs → Exists cs s
closure-exists a n cs s over = closure-from (lacks a n s) a n cs s s over (omega arith) (record { above = λ l h. h; inside = λ t sub closed l h. sub l h })

-- how many of the atoms have no value
abbrev unset : ℕ → ℕ → Assignment → ℕ
unset a zero s = 0
unset a (suc n) s = bit (free s (record { atom = a + n; positive = true })) + unset a n s

unset-most : (a n : ℕ) (s : Assignment) → unset a n s ≤ n
unset-most a zero s = omega arith
unset-most a (suc n) s = omega (arith, unset-most a n s, bit-one (free s (record { atom = a + n; positive = true })))
  where
    bit-one : (b : Bool) → bit b ≤ 1
    bit-one true = omega arith
    bit-one false = omega arith

free-le : (l m : Literal) (s : Assignment) → bit (free (added l s) m) ≤ bit (free s m)
free-le l m s = go (same l m) (s m) (same l (negated m)) (s (negated m))
  where
    go : (p q x y : Bool) → bit (not (p || q) && not (x || y)) ≤ bit (not q && not y)
    go true q x y = omega arith
    go false true x y = omega arith
    go false false true y = omega arith
    go false false false y = omega arith

unset-le : (a n : ℕ) (l : Literal) (s : Assignment) → unset a n (added l s) ≤ unset a n s
unset-le a zero l s = omega arith
unset-le a (suc n) l s = omega (arith, free-le l (record { atom = a + n; positive = true }) s, unset-le a n l s)

-- a literal that can be chosen
record CanSplit (a n : ℕ) (s : Assignment) (l : Literal) : Type 0 where
  low : a ≤ l.atom
  high : l.atom < a + n
  free : s l ≡ false
  unset : s (negated l) ≡ false

free-less : (l m : Literal) (s : Assignment) → m.atom ≡ l.atom → s l ≡ false → s (negated l) ≡ false → bit (free (added l s) m) + 1 ≤ bit (free s m)
free-less l m s e out off = by-sign l.positive m.positive refl refl
  where
    same-one : l ≡ m → bit (free (added l s) m) + 1 ≤ bit (free s m)
    same-one is = subst (λ (y : Literal). bit (free (added l s) y) + 1 ≤ bit (free s y)) is
        (go (same l l) (s l) (same l (negated l)) (s (negated l)) (inl (same-refl l)) out off)
      where
        go : (p q x y : Bool) → (p ≡ true) ⊎ (x ≡ true) → q ≡ false → y ≡ false → bit (not (p || q) && not (x || y)) + 1 ≤ bit (not q && not y)
        go p true x y h f g = absurd (both_ways true f refl)
        go p false x true h f g = absurd (both_ways true g refl)
        go true false x false h f g = omega arith
        go false false true false h f g = omega arith
        go false false false false (inl h) f g = absurd (both_ways false refl h)
        go false false false false (inr h) f g = absurd (both_ways false refl h)

    other-one : negated l ≡ m → bit (free (added l s) m) + 1 ≤ bit (free s m)
    other-one is = subst (λ (y : Literal). bit (free (added l s) y) + 1 ≤ bit (free s y)) is
        (go (same l (negated l)) (s (negated l)) (same l (negated (negated l))) (s (negated (negated l))) (inr (subst (λ (y : Literal). same l y ≡ true) (sym (negated-negated l)) (same-refl l))) off (subst (λ (y : Literal). s y ≡ false) (sym (negated-negated l)) out))
      where
        go : (p q x y : Bool) → (p ≡ true) ⊎ (x ≡ true) → q ≡ false → y ≡ false → bit (not (p || q) && not (x || y)) + 1 ≤ bit (not q && not y)
        go p true x y h f g = absurd (both_ways true f refl)
        go p false x true h f g = absurd (both_ways true g refl)
        go true false x false h f g = omega arith
        go false false true false h f g = omega arith
        go false false false false (inl h) f g = absurd (both_ways false refl h)
        go false false false false (inr h) f g = absurd (both_ways false refl h)

    by-sign : (p q : Bool) → l.positive ≡ p → m.positive ≡ q → bit (free (added l s) m) + 1 ≤ bit (free s m)
    by-sign true true i j = same-one (same_parts l m (sym e) (i ∙ sym j))
    by-sign false false i j = same-one (same_parts l m (sym e) (i ∙ sym j))
    by-sign true false i j = other-one (same_parts (negated l) m (sym e) (ap not i ∙ sym j))
    by-sign false true i j = other-one (same_parts (negated l) m (sym e) (ap not i ∙ sym j))

unset-less : (a n : ℕ) (l : Literal) (s : Assignment) → CanSplit a n s l → unset a n (added l s) + 1 ≤ unset a n s
unset-less a zero l s c = absurd (omega (arith, c.low, c.high))
unset-less a (suc n) l s c = elim (cases_eq l.atom (a + n)) [
  | inl e ↦ omega (arith, free-less l (record { atom = a + n; positive = true }) s (sym e) c.free c.unset, unset-le a n l s)
  | inr ne ↦ omega (arith, free-le l (record { atom = a + n; positive = true }) s, unset-less a n l s (record { low = c.low; high = omega (arith, c.high); free = c.free; unset = c.unset }))
]

record SmallTree (cs : List (List Literal)) (s : Assignment) (m : ℕ) : Type 0 where
  tree : Tree
  is : IsTree cs s tree
  small : size tree < 2 ^ m

out-of : (a b : Bool) → (a ≡ true → b ≡ true) → b ≡ false → a ≡ false
out-of true b f e = absurd (both_ways b e (f refl))
out-of false b f e = refl

can-split : (a n : ℕ) (cs : List (List Literal)) (s u : Assignment) (l : Literal) → AreAmong a n cs → Within s u → split_literal u cs ≡ Some l → CanSplit a n s l
can-split a n cs s u l over sub e =
    split-picks u (λ m. CanSplit a n s m) cs l (sym e) (λ k m lt h x y. record { low = (over k m h).0; high = (over k m h).1; free = out-of (s m) (u m) (sub m) x; unset = out-of (s (negated m)) (u (negated m)) (sub (negated m)) y })

turned : (a n : ℕ) (s : Assignment) (l : Literal) → CanSplit a n s l → CanSplit a n s (negated l)
turned a n s l c = record { low = c.low; high = c.high; free = c.unset; unset = subst (λ (y : Literal). s y ≡ false) (sym (negated-negated l)) c.free }

one-small : (m : ℕ) → 1 < 2 ^ suc m
one-small m = omega (arith, pow-suc 2 m, one-le-pow m 2 (omega arith))

fork-small : (x y m : ℕ) → x < 2 ^ m → y < 2 ^ m → (1 + x) + y < 2 ^ suc m
fork-small x y m a b = omega (arith, pow-suc 2 m)

tree-step : (a n m : ℕ) (cs : List (List Literal)) (s u : Assignment) → AreAmong a n cs → IsClosure cs s u → ((l : Literal) → CanSplit a n s l → SmallTree cs (added l s) m × SmallTree cs (added (negated l) s) m) → SmallTree cs s (suc m)
tree-step a n m cs s u over c next = go (conflict-at cs u)
  where
    split-at : (HasConflict cs u → ⊥) → (o : Option Literal) → split_literal u cs ≡ o → SmallTree cs s (suc m)
    split-at calm None e = record { tree = met u; is = (record { set = u; closure = c; is = (calm, all-met u cs (λ k lt f. calm (record { place = k; within = lt; false_there = f })) (sym e)) }, c); small = one-small m }
    split-at calm (Some l) e =
        let x = next l (can-split a n cs s u l over c.above e) in
        record { tree = fork l x.0.tree x.1.tree; is = (record { set = u; closure = c; is = (calm, e) }, (x.0.is, x.1.is)); small = fork-small (size x.0.tree) (size x.1.tree) m x.0.small x.1.small }

    go : HasConflict cs u ⊎ (HasConflict cs u → ⊥) → SmallTree cs s (suc m)
    go (inl h) = record { tree = shut; is = record { set = u; closure = c; is = h }; small = one-small m }
    go (inr calm) = split-at calm (split_literal u cs) refl

tree-from : (fuel a n : ℕ) (cs : List (List Literal)) (s : Assignment) → AreAmong a n cs → unset a n s ≤ fuel → SmallTree cs s (suc fuel)
tree-from zero a n cs s over le =
    let c = closure-exists a n cs s over in
    tree-step a n 0 cs s c.set over c.is (λ l p. absurd (omega (arith, unset-less a n l s p)))
tree-from (suc fuel) a n cs s over le =
    let c = closure-exists a n cs s over in
    tree-step a n (suc fuel) cs s c.set over c.is (λ l p. (
      tree-from fuel a n cs (added l s) over (omega (arith, unset-less a n l s p)),
      tree-from fuel a n cs (added (negated l) s) over (omega (arith, unset-less a n (negated l) s (turned a n s l p))),
    ))

tree-exists : (a n : ℕ) (cs : List (List Literal)) (s : Assignment) → AreAmong a n cs → SmallTree cs s (suc n)
tree-exists a n cs s over = tree-from n a n cs s over (unset-most a n s)

pub small-tree-exists : (n : ℕ) (cs : List (List Literal)) → AreOver n cs → HasSmallTree n cs
small-tree-exists n cs over =
    let x = tree-exists 1 n cs (on []) (λ k l h. let o = over.each k l h in (o.0, omega (arith, o.1))) in
    record { tree = x.tree; is = x.is; small = subst (λ (m : ℕ). size x.tree < 2 ^ m) (let e : suc n ≡ n + 1 = omega arith in e) x.small }

-- what is said of each tree holds of one
pub outcome : (n : ℕ) (cs : List (List Literal)) (v : Verdict) (b : ℕ) (log : List TreeNode) (s : Assignment) → AreWithin n cs → ((t : Tree) → IsTree cs (on []) t → Answers v b log s t) → IsOutcome cs v b log s
outcome n cs v b log s over says =
    let x = tree-exists 0 (suc n) cs (on []) (λ k l h. (omega arith, omega (arith, over k l h))) in
    record { tree = x.tree; is = x.is; answers = says x.tree x.is }

-- after Closed the log is that of a closed tree
pub closed-log : (cs : List (List Literal)) (v : Verdict) (b : ℕ) (log : List TreeNode) (s : Assignment) → IsOutcome cs v b log s → IfClosed v (IsLog cs log)
closed-log cs (Closed n) b log s o = record { tree = o.tree; is = o.is; closed = o.answers.0; whole = o.answers.3 }
closed-log cs (Model n) b log s o = tt
closed-log cs Spent b log s o = tt

-- the literals of clauses whose atoms are few are within more atoms
pub within-more : (n m : ℕ) (cs : List (List Literal)) → All (All (λ (l : Literal). l.atom ≤ n)) cs → n ≤ m → AreWithin m cs
within-more n m cs all le k l h = elim (cases_lt k (length cs)) [
  | inl lt ↦ omega (arith, in-clause (clause_at cs k) (All-get_or (All (λ (l : Literal). l.atom ≤ n)) cs k [] lt all) l h)
  | inr past ↦ absurd (both_ways (on (clause_at cs k) l) (ap (λ (c : List Literal). on c l) (get_or_past cs k [] past)) h)
]
  where
    in-clause : (c : List Literal) → All (λ (l : Literal). l.atom ≤ n) c → (l : Literal) → on c l ≡ true → l.atom ≤ n
    in-clause [] a l i = absurd (both_ways false refl i)
    in-clause (m ∷ c) a l i = elim (or_cases (same m l) (on c l) i) [
      | inl e ↦ subst (λ (y : Literal). y.atom ≤ n) (same-is m l e) (a 0 m (omega arith))
      | inr e ↦ in-clause c (λ k d lt. a (suc k) d (omega arith)) l e
    ]
