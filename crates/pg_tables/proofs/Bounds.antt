-- How many clauses and literals a table has at most. A clause of n literals weighs g n: where clauses are counted each weighs 1,
-- and where literals are it weighs n.
use Rattle.std.proofs.Common.{◌≡◌, ℕ, zero, suc, ◌+◌, ◌-◌, ◌*◌, ◌≤◌, Bool, true, false, not, ◌==◌, nat_lt, List, [], ◌∷◌, ◌++◌, length, refl, sym, ap, subst, ◌∙◌, arith, sum_by}
use Rattle.std.proofs.lemmas.List.Sums.{sum_by-append, sum_by-cons}
use Rattle.std.proofs.lemmas.Grind.{flat_map-append}
use Rattle.std.proofs.lemmas.Bool.{le-ltb, eq-eqb, true≢false}
use Rattle.std.proofs.Math.Nat.{mul-le-mul_right, mul-le-mul_left}
use Rattle.std.specs.List.{flat_map, range_with_len}
use Rattle.pg_region.specs.Pieces.{total}
use Rattle.pg_assertion.specs.Layout.{Sizes}
use Rattle.pg_assertion.specs.declared.step_atom.StepAtom.{StepAtom}
use Rattle.pg_tables.specs.declared.clause.StepLiteral.{StepLiteral}
use Rattle.pg_tables.specs.declared.clause.Case.{Case}
use Rattle.pg_tables.specs.Clause.{premise}
use Rattle.pg_tables.specs.Table.{when, under, per_thread, per_location, per_value, per_scalar, IsOneOf}
use Rattle.pg_tables.specs.Shapes.{becomes, becomes_both, gains, gains_both}
use Rattle.pg_tables.specs.Bound.{AreWithin, AreFew}
use Rattle.pg_tables.proofs.Lists.{range-split}

pub record IsAtMost (g : ℕ → ℕ) (cs : List (List StepLiteral)) (n : ℕ) : Type 0 where
  pub bound : sum_by (λ c. g (length c)) cs ≤ n

-- ---- what is counted

clauses-are : (cs : List (List StepLiteral)) → sum_by (λ c. 1) cs ≡ length cs
clauses-are [] = refl
clauses-are (c ∷ cs) = omega (arith, sum_by-cons (λ (d : List StepLiteral). 1) c cs, clauses-are cs)

literals-are : (cs : List (List StepLiteral)) → sum_by (λ c. length c) cs ≡ total cs
literals-are [] = refl
literals-are (c ∷ cs) = omega (arith, sum_by-cons (λ (d : List StepLiteral). length d) c cs, literals-are cs)

pub are-few : (cs : List (List StepLiteral)) (m n : ℕ) → IsAtMost (λ k. 1) cs m → IsAtMost (λ k. k) cs n → AreFew cs m n
are-few cs m n c l = record {
  clauses = omega (arith, clauses-are cs, c.bound);
  literals = omega (arith, literals-are cs, l.bound);
}

-- ---- the words of tables

-- how many pairs of n numbers there are, each pair in order
abbrev pub pairs : ℕ → ℕ
pairs zero = 0
pairs (suc n) = n + pairs n

pairs-rise : (a k : ℕ) → pairs a ≤ pairs (k + a)
pairs-rise a zero = let e : zero + a ≡ a = omega arith in omega (arith, ap pairs e)
pairs-rise a (suc k) = let e : suc k + a ≡ suc (k + a) = omega arith in omega (arith, ap pairs e, pairs-rise a k)

pub pairs-up : {a b : ℕ} → a ≤ b → pairs a ≤ pairs b
pairs-up {a} {b} h = let e : (b - a) + a ≡ b = omega arith in omega (arith, pairs-rise a (b - a), ap pairs e)

-- and how many pairs of two different ones
abbrev pub apart : ℕ → ℕ → ℕ
apart n m = n * ((n - 1) * m)

pub apart-up : {a b : ℕ} (m : ℕ) → a ≤ b → apart a m ≤ apart b m
apart-up {a} {b} m h =
    let less : a - 1 ≤ b - 1 = omega arith in
    let inner = mul-le-mul_right m less in
    omega (arith, mul-le-mul_right ((a - 1) * m) h, mul-le-mul_left b inner)

module _ (g : ℕ → ℕ) where
  pub most-none : IsAtMost g [] 0
  most-none = record { bound = omega arith }

  pub most-cons : (c : List StepLiteral) (cs : List (List StepLiteral)) (n : ℕ) → IsAtMost g cs n → IsAtMost g (c ∷ cs) (g (length c) + n)
  most-cons c cs n h = record { bound = omega (arith, sum_by-cons (λ d. g (length d)) c cs, h.bound) }

  pub most-append : (cs ds : List (List StepLiteral)) (m n : ℕ) → IsAtMost g cs m → IsAtMost g ds n → IsAtMost g (cs ++ ds) (m + n)
  most-append cs ds m n h t = record { bound = omega (arith, sum_by-append (λ d. g (length d)) cs ds, h.bound, t.bound) }

  pub most-when : (b : Bool) {cs : List (List StepLiteral)} {n : ℕ} → IsAtMost g cs n → IsAtMost g (when b cs) n
  unfolding when
  most-when true h = h
  most-when false h = record { bound = omega arith }

  most-unless : (b : Bool) (cs : List (List StepLiteral)) → b ≡ false → IsAtMost g (when b cs) 0
  unfolding when
  most-unless true cs h = absurd (true≢false h)
  most-unless false cs h = most-none

  -- under a case each clause has one literal more
  pub most-under : (case : Case) (cs : List (List StepLiteral)) (n : ℕ) → IsAtMost (λ k. g (suc k)) cs n → IsAtMost g (under case cs) n
  most-under case cs n h = record { bound = omega (arith, same cs, h.bound) }
    where
      same : (ds : List (List StepLiteral)) → sum_by (λ c. g (length c)) (under case ds) ≡ sum_by (λ c. g (suc (length c))) ds
      same [] = refl
      same (d ∷ ds) = omega (arith, sum_by-cons (λ c. g (length c)) (premise case ∷ d) (under case ds), sum_by-cons (λ c. g (suc (length c))) d ds, same ds)

  most-of : (f : ℕ → List (List StepLiteral)) (a n m : ℕ) → ((k : ℕ) → IsOneOf a n k → IsAtMost g (f k) m) → IsAtMost g (flat_map f (range_with_len a n)) (n * m)
  most-of f a zero m h = record { bound = omega arith }
  most-of f a (suc n) m h =
      let t = most-append (f a) (flat_map f (range_with_len (a + 1) n)) m (n * m) (h a (record { from = omega arith; to = omega arith }))
      (most-of f (a + 1) n m (λ k i. h k (record { from = omega (arith, i.from); to = omega (arith, i.to) }))) in
      record { bound = omega (arith, t.bound) }

  pub most-each : (f : ℕ → List (List StepLiteral)) (a n m : ℕ) → ((k : ℕ) → IsAtMost g (f k) m) → IsAtMost g (flat_map f (range_with_len a n)) (n * m)
  most-each f a n m h = most-of f a n m (λ k i. h k)

  pub most-within : (f : ℕ → List (List StepLiteral)) (a n h m : ℕ) → n ≤ h → ((k : ℕ) → IsAtMost g (f k) m) → IsAtMost g (flat_map f (range_with_len a n)) (h * m)
  most-within f a n h m le each = record { bound = omega (arith, (most-each f a n m each).bound, mul-le-mul_right m le) }

  -- two parts of a range
  most-parts : (f : ℕ → List (List StepLiteral)) (a i j m n : ℕ) → IsAtMost g (flat_map f (range_with_len a i)) m → IsAtMost g (flat_map f (range_with_len (a + i) j)) n
      → IsAtMost g (flat_map f (range_with_len a (i + j))) (m + n)
  most-parts f a i j m n h t =
      let e = ap (flat_map f) (range-split a i j) ∙ flat_map-append f (range_with_len a i) (range_with_len (a + i) j) in
      subst (λ (cs : List (List StepLiteral)). IsAtMost g cs (m + n)) (sym e) (most-append _ _ m n h t)

  module _ (f : ℕ → ℕ → List (List StepLiteral)) (m : ℕ) (each : (i j : ℕ) → IsAtMost g (f i j) m) where
    -- for two numbers in order
    abbrev less : ℕ → ℕ → List (List StepLiteral)
    less i j = when (nat_lt i j) (f i j)

    less-inner : (i k : ℕ) → IsAtMost g (flat_map (less i) (range_with_len 0 (i + 1 + k))) (k * m)
    less-inner i k =
        let t = most-parts (less i) 0 (i + 1) k ((i + 1) * 0) (k * m)
        (most-of (less i) 0 (i + 1) 0 (λ j o. most-unless (nat_lt i j) (f i j) (le-ltb i j (omega (arith, o.to)))))
        (most-each (less i) (0 + (i + 1)) k m (λ j. most-when (nat_lt i j) (each i j))) in
        record { bound = omega (arith, t.bound) }

    less-outer : (n a k : ℕ) → a + k ≡ n → IsAtMost g (flat_map (λ i. flat_map (less i) (range_with_len 0 n)) (range_with_len a k)) (pairs k * m)
    less-outer n a zero e = record { bound = omega arith }
    less-outer n a (suc k) e =
        let s : a + 1 + k ≡ n = omega arith in
        let t = most-append _ _ (k * m) (pairs k * m) (subst (λ (q : ℕ). IsAtMost g (flat_map (less a) (range_with_len 0 q)) (k * m)) s (less-inner a k)) (less-outer n (a + 1) k s) in
        record { bound = omega (arith, t.bound) }

    pub most-less : (n : ℕ) → IsAtMost g (flat_map (λ i. flat_map (λ j. when (nat_lt i j) (f i j)) (range_with_len 0 n)) (range_with_len 0 n)) (pairs n * m)
    most-less n = less-outer n 0 n (omega arith)

    -- for two different numbers
    abbrev other : ℕ → ℕ → List (List StepLiteral)
    other i j = when (not (i == j)) (f i j)

    other-inner : (i k : ℕ) → IsAtMost g (flat_map (other i) (range_with_len 0 (i + (1 + k)))) ((i + k) * m)
    other-inner i k =
        let t = most-parts (other i) 0 i (1 + k) (i * m) (0 + k * m) (most-each (other i) 0 i m (λ j. most-when (not (i == j)) (each i j)))
        (most-parts (other i) (0 + i) 1 k 0 (k * m)
        (most-append _ _ 0 0 (most-unless (not (i == (0 + i))) (f i (0 + i)) (ap not (eq-eqb i (0 + i) (omega arith)))) most-none)
        (most-each (other i) (0 + i + 1) k m (λ j. most-when (not (i == j)) (each i j)))) in
        record { bound = omega (arith, t.bound) }

    pub most-other : (n : ℕ) → IsAtMost g (flat_map (λ i. flat_map (λ j. when (not (i == j)) (f i j)) (range_with_len 0 n)) (range_with_len 0 n)) (apart n m)
    most-other n = most-of _ 0 n ((n - 1) * m) (λ i o.
        let e : i + (1 + (n - 1 - i)) ≡ n = omega (arith, o.to) in
        let d : i + (n - 1 - i) ≡ n - 1 = omega (arith, o.to) in
        subst (λ (q : ℕ). IsAtMost g (flat_map (other i) (range_with_len 0 q)) ((n - 1) * m)) e
        (subst (λ (q : ℕ). IsAtMost g (flat_map (other i) (range_with_len 0 (i + (1 + (n - 1 - i))))) (q * m)) d (other-inner i (n - 1 - i))))

  -- ---- in a layout that is within another

  pub most-threads : {l m : Sizes} (w : AreWithin l m) {f : ℕ → List (List StepLiteral)} {n : ℕ} → ((k : ℕ) → IsAtMost g (f k) n) → IsAtMost g (per_thread l f) (m.threads * n)
  unfolding per_thread
  most-threads {l} {m} w {f} {n} h = most-within f 1 l.threads m.threads n w.threads h

  pub most-locations : {l m : Sizes} (w : AreWithin l m) {f : ℕ → List (List StepLiteral)} {n : ℕ} → ((k : ℕ) → IsAtMost g (f k) n) → IsAtMost g (per_location l f) (m.locations * n)
  unfolding per_location
  most-locations {l} {m} w {f} {n} h = most-within f 0 l.locations m.locations n w.locations h

  pub most-values : {l m : Sizes} (w : AreWithin l m) {f : ℕ → List (List StepLiteral)} {n : ℕ} → ((k : ℕ) → IsAtMost g (f k) n) → IsAtMost g (per_value l f) (m.domain * n)
  unfolding per_value
  most-values {l} {m} w {f} {n} h = most-within f 0 l.domain m.domain n w.domain h

  pub most-scalars : {l m : Sizes} (w : AreWithin l m) {f : ℕ → List (List StepLiteral)} {n : ℕ} → ((k : ℕ) → IsAtMost g (f k) n) → IsAtMost g (per_scalar l f) (m.scalars * n)
  unfolding per_scalar
  most-scalars {l} {m} w {f} {n} h = most-within f 0 l.scalars m.scalars n w.scalars h

  -- two values v < w, and two that differ
  pub most-values_less : {l m : Sizes} (w : AreWithin l m) (f : ℕ → ℕ → List (List StepLiteral)) (n : ℕ) → ((u v : ℕ) → IsAtMost g (f u v) n)
      → IsAtMost g (per_value l (λ u. per_value l (λ v. when (nat_lt u v) (f u v)))) (pairs m.domain * n)
  unfolding per_value
  most-values_less {l} {m} w f n h = record { bound = omega (arith, (most-less f n h l.domain).bound, mul-le-mul_right n (pairs-up w.domain)) }

  pub most-values_other : {l m : Sizes} (w : AreWithin l m) (f : ℕ → ℕ → List (List StepLiteral)) (n : ℕ) → ((u v : ℕ) → IsAtMost g (f u v) n)
      → IsAtMost g (per_value l (λ u. per_value l (λ v. when (not (u == v)) (f u v)))) (apart m.domain n)
  unfolding per_value
  most-values_other {l} {m} w f n h = record { bound = omega (arith, (most-other f n h l.domain).bound, apart-up n w.domain) }

  -- ---- shapes

  pub most-becomes : (a b : StepAtom) → IsAtMost g (becomes a b) (2 * g 2)
  most-becomes a b = record { bound = omega arith }

  pub most-becomes_both : (a b c : StepAtom) → IsAtMost g (becomes_both a b c) (2 * g 2 + g 3)
  most-becomes_both a b c = record { bound = omega arith }

  pub most-gains : (a old b : StepAtom) → IsAtMost g (gains a old b) (2 * g 2 + g 3)
  most-gains a old b = record { bound = omega arith }

  pub most-gains_both : (a old b c : StepAtom) → IsAtMost g (gains_both a old b c) (g 2 + 3 * g 3)
  most-gains_both a old b c = record { bound = omega arith }
