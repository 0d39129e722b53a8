-- The bound of a table for each of some numbers, where one of them has a bound of its own.
use Rattle.std.proofs.Common.{◌≡◌, ℕ, zero, suc, ◌+◌, ◌-◌, ◌*◌, ◌<◌, ◌≤◌, Bool, true, false, ◌==◌, ◌⊎◌, inl, inr, List, [], ◌∷◌, length, refl, sym, subst, ◌∙◌, arith, sum_by}
use Rattle.std.proofs.lemmas.Bool.{eqb-true, eq-eqb, cases_lt, true≢false}
use Rattle.std.proofs.lemmas.List.Sums.{sum_by-append, sum_by-cons}
use Rattle.std.proofs.Math.Nat.{mul-le-mul_right}
use Rattle.std.specs.List.{flat_map, range_with_len}
use Rattle.pg_assertion.specs.Layout.{Sizes, IsThreadNumber}
use Rattle.pg_tables.specs.declared.clause.StepLiteral.{StepLiteral}
use Rattle.pg_tables.specs.Table.{per_thread, per_location, per_value, IsOneOf}
use Rattle.pg_tables.specs.Bound.{AreWithin}
use Rattle.pg_tables.proofs.Bounds.{IsAtMost}

-- the test holds of one number alone
pub record IsOnly (is : ℕ → Bool) (s : ℕ) : Type 0 where
  pub here : is s ≡ true
  pub only : (i : ℕ) → is i ≡ true → i ≡ s

pub only-this : (s : ℕ) → IsOnly (λ i. i == s) s
only-this s = record { here = eq-eqb s s refl; only = λ i e. eqb-true i s e }

pub only-that : (s : ℕ) → IsOnly (λ i. s == i) s
only-that s = record { here = eq-eqb s s refl; only = λ i e. sym (eqb-true s i e) }

-- ---- sums

later : {a n i : ℕ} → IsOneOf (a + 1) n i → IsOneOf a (suc n) i
later o = record { from = omega (arith, o.from); to = omega (arith, o.to) }

first : (a n : ℕ) → IsOneOf a (suc n) a
first a n = record { from = omega arith; to = omega arith }

module _ (c : ℕ → ℕ) (k : ℕ) where
  pub sum-each : (a n : ℕ) → ((i : ℕ) → IsOneOf a n i → c i ≤ k) → sum_by c (range_with_len a n) ≤ n * k
  sum-each a zero h = omega arith
  sum-each a (suc n) h =
      let rest = sum-each (a + 1) n (λ i o. h i (later o)) in
      omega (arith, sum_by-cons c a (range_with_len (a + 1) n), h a (first a n), rest)

  module _ (is : ℕ → Bool) (s : ℕ) (one : IsOnly is s) (m : ℕ) where
    not_later : (a n i : ℕ) → is a ≡ true → IsOneOf (a + 1) n i → is i ≡ false
    not_later a n i e o = by (is i) refl
      where
        by : (b : Bool) → is i ≡ b → is i ≡ false
        by true h = absurd (omega (arith, one.only i h, one.only a e, o.from))
        by false h = h

    is_later : (a n : ℕ) → is a ≡ false → IsOneOf a (suc n) s → IsOneOf (a + 1) n s
    is_later a n e o = by (cases_lt a s)
      where
        by : (a < s) ⊎ (s ≤ a) → IsOneOf (a + 1) n s
        by (inl h) = record { from = omega (arith, h); to = omega (arith, o.to) }
        by (inr h) =
            let same : a ≡ s = omega (arith, o.from, h) in
            absurd (true≢false (sym one.here ∙ subst (λ (j : ℕ). is j ≡ false) same e))

    sum-one : (a n : ℕ) → IsOneOf a (suc n) s → ((i : ℕ) → IsOneOf a (suc n) i → is i ≡ true → c i ≤ m) → ((i : ℕ) → IsOneOf a (suc n) i → is i ≡ false → c i ≤ k)
        → sum_by c (range_with_len a (suc n)) ≤ m + n * k
    sum-one a zero o hit miss =
        let same : s ≡ a = omega (arith, o.from, o.to) in
        let none = sum-each (a + 1) 0 (λ i p. absurd (omega (arith, p.from, p.to))) in
        omega (arith, sum_by-cons c a (range_with_len (a + 1) 0), hit a (first a 0) (subst (λ (j : ℕ). is j ≡ true) same one.here), none)
    sum-one a (suc n) o hit miss = by (is a) refl (λ e. sum-one (a + 1) n (is_later a (suc n) e o) (λ i p. hit i (later p)) (λ i p. miss i (later p)))
      where
        by : (b : Bool) → is a ≡ b → (is a ≡ false → sum_by c (range_with_len (a + 1) (suc n)) ≤ m + n * k) → sum_by c (range_with_len a (suc (suc n))) ≤ m + suc n * k
        by true e ih =
            let rest = sum-each (a + 1) (suc n) (λ i p. miss i (later p) (not_later a (suc n) i e p)) in
            omega (arith, sum_by-cons c a (range_with_len (a + 1) (suc n)), hit a (first a (suc n)) e, rest)
        by false e ih = omega (arith, sum_by-cons c a (range_with_len (a + 1) (suc n)), miss a (first a (suc n)) e, ih e)

    pub sum-within : (a n h : ℕ) → n ≤ h → IsOneOf a n s → ((i : ℕ) → IsOneOf a n i → is i ≡ true → c i ≤ m) → ((i : ℕ) → IsOneOf a n i → is i ≡ false → c i ≤ k)
        → sum_by c (range_with_len a n) ≤ m + (h - 1) * k
    sum-within a zero h le o hit miss = absurd (omega (arith, o.from, o.to))
    sum-within a (suc n) h le o hit miss =
        let less : n ≤ h - 1 = omega (arith, le) in
        omega (arith, sum-one a n o hit miss, mul-le-mul_right k less)

-- ---- tables

module _ (g : ℕ → ℕ) (f : ℕ → List (List StepLiteral)) where
  abbrev pub weight : ℕ → ℕ
  weight i = sum_by (λ c. g (length c)) (f i)

  weight-of : (xs : List ℕ) → sum_by (λ c. g (length c)) (flat_map f xs) ≡ sum_by weight xs
  weight-of [] = refl
  weight-of (x ∷ xs) = omega (arith, sum_by-append (λ c. g (length c)) (f x) (flat_map f xs), sum_by-cons weight x xs, weight-of xs)

  each-in : (a n h k : ℕ) → n ≤ h → ((i : ℕ) → IsOneOf a n i → IsAtMost g (f i) k) → IsAtMost g (flat_map f (range_with_len a n)) (h * k)
  each-in a n h k le each =
      record { bound = omega (arith, weight-of (range_with_len a n), sum-each weight k a n (λ i o. (each i o).bound), mul-le-mul_right k le) }

  one-in : {is : ℕ → Bool} {s : ℕ} → IsOnly is s → (a n h p k : ℕ) → n ≤ h → IsOneOf a n s → ((i : ℕ) → IsOneOf a n i → is i ≡ true → IsAtMost g (f i) p)
      → ((i : ℕ) → IsOneOf a n i → is i ≡ false → IsAtMost g (f i) k) → IsAtMost g (flat_map f (range_with_len a n)) (p + (h - 1) * k)
  one-in {is} {s} one a n h p k le o hit miss =
      record { bound = omega (arith, weight-of (range_with_len a n), sum-within weight k is s one p a n h le o (λ i q e. (hit i q e).bound) (λ i q e. (miss i q e).bound)) }

module _ (g : ℕ → ℕ) {l m : Sizes} (w : AreWithin l m) where
  below : {n i : ℕ} → IsOneOf 0 n i → i < n
  below o = omega (arith, o.to)

  within : {n i : ℕ} → i < n → IsOneOf 0 n i
  within h = record { from = omega arith; to = omega (arith, h) }

  pub each_location : (f : ℕ → List (List StepLiteral)) (k : ℕ) → ((z : ℕ) → z < l.locations → IsAtMost g (f z) k) → IsAtMost g (per_location l f) (m.locations * k)
  unfolding per_location
  each_location f k each = each-in g f 0 l.locations m.locations k w.locations (λ i o. each i (below o))

  pub each_value : (f : ℕ → List (List StepLiteral)) (k : ℕ) → ((v : ℕ) → v < l.domain → IsAtMost g (f v) k) → IsAtMost g (per_value l f) (m.domain * k)
  unfolding per_value
  each_value f k each = each-in g f 0 l.domain m.domain k w.domain (λ i o. each i (below o))

  pub one_thread : {is : ℕ → Bool} {s : ℕ} → IsOnly is s → IsThreadNumber l s → (f : ℕ → List (List StepLiteral)) (p k : ℕ) → ((t : ℕ) → is t ≡ true → IsAtMost g (f t) p)
      → ((t : ℕ) → is t ≡ false → IsAtMost g (f t) k) → IsAtMost g (per_thread l f) (p + (m.threads - 1) * k)
  unfolding per_thread
  one_thread one s f p k hit miss =
      one-in g f one 1 l.threads m.threads p k w.threads (record { from = omega (arith, s.first); to = omega (arith, s.last) }) (λ i o. hit i) (λ i o. miss i)

  pub one_location : {is : ℕ → Bool} {s : ℕ} → IsOnly is s → s < l.locations → (f : ℕ → List (List StepLiteral)) (p k : ℕ) → ((z : ℕ) → is z ≡ true → IsAtMost g (f z) p)
      → ((z : ℕ) → is z ≡ false → IsAtMost g (f z) k) → IsAtMost g (per_location l f) (p + (m.locations - 1) * k)
  unfolding per_location
  one_location one s f p k hit miss = one-in g f one 0 l.locations m.locations p k w.locations (within s) (λ i o. hit i) (λ i o. miss i)

  pub one_value : {is : ℕ → Bool} {s : ℕ} → IsOnly is s → s < l.domain → (f : ℕ → List (List StepLiteral)) (p k : ℕ) → ((v : ℕ) → is v ≡ true → IsAtMost g (f v) p)
      → ((v : ℕ) → is v ≡ false → IsAtMost g (f v) k) → IsAtMost g (per_value l f) (p + (m.domain - 1) * k)
  unfolding per_value
  one_value one s f p k hit miss = one-in g f one 0 l.domain m.domain p k w.domain (within s) (λ i o. hit i) (λ i o. miss i)
