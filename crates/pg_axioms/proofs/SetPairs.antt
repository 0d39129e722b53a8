-- The pairs of sets of values, by their places.
use Rattle.std.proofs.Common.{◌≡◌, ℕ, zero, suc, ◌+◌, ◌-◌, ◌<◌, ◌≤◌, Bool, true, false, ◌==◌, nat_lt, List, [], ◌∷◌, ◌++◌, map, refl, sym, ap, ◌∙◌, arith, if◌then◌else◌}
use Rattle.std.proofs.lemmas.Grind.{flat_map-append}
use Rattle.std.proofs.lemmas.Bool.{le-ltb, lt-ltb, eq-eqb, ne_eqb, true≢false, false≢true}
use Rattle.std.proofs.lemmas.List.{map-append}
use Rattle.std.specs.List.{flat_map, range_with_len}
use Rattle.pg_assertion.specs.declared.layout.Side.{Side}
use Rattle.pg_assertion.specs.Layout.{Sizes, threads}
use Rattle.pg_views.specs.Laws.{ValueSet, readable, persistent, pending}
use Rattle.pg_tables.specs.declared.clause.StepLiteral.{StepLiteral}
use Rattle.pg_tables.specs.Table.{when}
use Rattle.pg_tables.proofs.Lists.{range-split}
use Rattle.pg_axioms.specs.Axioms.{each_pair, value_sets, not_both_apart}
use Rattle.pg_axioms.specs.Places.{set_count, set_at, per_place}

-- ---- the sets in their order

module _ {A : Type 0} (g h : ℕ → A) where
  same_from : (a b n : ℕ) → ((k : ℕ) → k < n → g (a + k) ≡ h (b + k)) → map g (range_with_len a n) ≡ map h (range_with_len b n)
  same_from a b zero e = refl
  same_from a b (suc n) e =
      let z : a + 0 ≡ a = omega arith in
      let y : b + 0 ≡ b = omega arith in
      ap (λ x. x ∷ map g (range_with_len (a + 1) n)) (ap g (sym z) ∙ e 0 (omega arith) ∙ ap h y)
      ∙ ap (λ l. h b ∷ l) (same_from (a + 1) (b + 1) n (λ k t.
      let p : a + 1 + k ≡ a + (k + 1) = omega arith in
      let q : b + (k + 1) ≡ b + 1 + k = omega arith in
      ap g p ∙ e (k + 1) (omega arith) ∙ ap h q))

chosen : {A : Type 0} (b : Bool) (x y : A) → b ≡ true → (if b then x else y) ≡ x
chosen true x y e = refl
chosen false x y e = absurd (false≢true e)

passed : {A : Type 0} (b : Bool) (x y : A) → b ≡ false → (if b then x else y) ≡ y
passed true x y e = absurd (true≢false e)
passed false x y e = refl

module _ (l : Sizes) where
  at_reads : (i : ℕ) → i < l.threads → set_at l i ≡ readable (i + 1)
  at_reads i h = chosen (nat_lt i l.threads) _ _ (lt-ltb i l.threads h)

  at_persist : set_at l l.threads ≡ persistent
  at_persist = passed (nat_lt l.threads l.threads) _ _ (le-ltb l.threads l.threads (omega arith)) ∙ chosen (l.threads == l.threads) _ _ (eq-eqb l.threads l.threads refl)

  at_pending : (k : ℕ) → set_at l (l.threads + 1 + k) ≡ pending (1 + k)
  at_pending k =
      let e : l.threads + 1 + k - l.threads ≡ 1 + k = omega arith in
      passed (nat_lt (l.threads + 1 + k) l.threads) _ _ (le-ltb (l.threads + 1 + k) l.threads (omega arith))
      ∙ passed (l.threads + 1 + k == l.threads) _ _ (ne_eqb (l.threads + 1 + k) l.threads (λ (q : l.threads + 1 + k ≡ l.threads). omega (arith, q)))
      ∙ ap pending e

  sets-in-order : map (set_at l) (range_with_len 0 (set_count l)) ≡ value_sets l
  sets-in-order =
      let n : set_count l ≡ l.threads + (suc l.threads) = omega arith in
      let z : 0 + l.threads ≡ l.threads = omega arith in
      ap (λ k. map (set_at l) (range_with_len 0 k)) n
      ∙ ap (map (set_at l)) (range-split 0 l.threads (suc l.threads) ∙ ap (λ k. range_with_len 0 l.threads ++ range_with_len k (suc l.threads)) z)
      ∙ map-append (set_at l) (range_with_len 0 l.threads) (range_with_len l.threads (suc l.threads))
      ∙ ap (λ r. r ++ map (set_at l) (range_with_len l.threads (suc l.threads))) (same_from (set_at l) readable 0 1 l.threads reads)
      ∙ ap (λ r. map readable (threads l) ++ r) rest
    where
      reads : (k : ℕ) → k < l.threads → set_at l (0 + k) ≡ readable (1 + k)
      reads k h =
          let e : 0 + k ≡ k = omega arith in
          let f : k + 1 ≡ 1 + k = omega arith in
          ap (set_at l) e ∙ at_reads k h ∙ ap readable f

      rest : map (set_at l) (range_with_len l.threads (suc l.threads)) ≡ persistent ∷ map pending (threads l)
      rest =
          ap (λ x. x ∷ map (set_at l) (range_with_len (l.threads + 1) l.threads)) at_persist
          ∙ ap (λ r. persistent ∷ r) (same_from (set_at l) pending (l.threads + 1) 1 l.threads (λ k h. at_pending k))

-- ---- the pairs in their order

module _ (f : ValueSet → ValueSet → List (List StepLiteral)) (at : ℕ → ValueSet) where
  abbrev less : ℕ → ℕ → List (List StepLiteral)
  less i j = when (nat_lt i j) (f (at i) (at j))

  none-before : (i a n : ℕ) → a + n ≤ i + 1 → flat_map (less i) (range_with_len a n) ≡ []
  unfolding when
  none-before i a zero h = refl
  none-before i a (suc n) h = ap (λ b. when b (f (at i) (at a)) ++ flat_map (less i) (range_with_len (a + 1) n)) (le-ltb i a (omega arith)) ∙ none-before i (a + 1) n (omega arith)

  all-after : (i a n : ℕ) → i < a → flat_map (less i) (range_with_len a n) ≡ flat_map (f (at i)) (map at (range_with_len a n))
  unfolding when
  all-after i a zero h = refl
  all-after i a (suc n) h =
      ap (λ b. when b (f (at i) (at a)) ++ flat_map (less i) (range_with_len (a + 1) n)) (lt-ltb i a h)
      ∙ ap (λ r. f (at i) (at a) ++ r) (all-after i (a + 1) n (omega arith))

  one-before : (i k : ℕ) → flat_map (less i) (range_with_len 0 (i + 1 + k)) ≡ flat_map (f (at i)) (map at (range_with_len (i + 1) k))
  one-before i k =
      let z : 0 + (i + 1) ≡ i + 1 = omega arith in
      ap (flat_map (less i)) (range-split 0 (i + 1) k) ∙ flat_map-append (less i) (range_with_len 0 (i + 1)) (range_with_len (0 + (i + 1)) k)
      ∙ ap (λ r. r ++ flat_map (less i) (range_with_len (0 + (i + 1)) k)) (none-before i 0 (i + 1) (omega arith))
      ∙ ap (λ a. flat_map (less i) (range_with_len a k)) z ∙ all-after i (i + 1) k (omega arith)

  pairs-from : (n a k : ℕ) → a + k ≡ n → flat_map (λ i. flat_map (less i) (range_with_len 0 n)) (range_with_len a k) ≡ each_pair (map at (range_with_len a k)) f
  pairs-from n a zero e = refl
  pairs-from n a (suc k) e =
      let s : n ≡ a + 1 + k = omega arith in
      ap (λ r. r ++ flat_map (λ i. flat_map (less i) (range_with_len 0 n)) (range_with_len (a + 1) k)) (ap (λ m. flat_map (less a) (range_with_len 0 m)) s ∙ one-before a k)
      ∙ ap (λ r. flat_map (f (at a)) (map at (range_with_len (a + 1) k)) ++ r) (pairs-from n (a + 1) k (sym s))

pub sets-by-place : (l : Sizes) (side : Side) (x : ℕ)
    → per_place l (λ a. per_place l (λ b. when (nat_lt a b) (not_both_apart l side x (set_at l a) (set_at l b)))) ≡ each_pair (value_sets l) (not_both_apart l side x)
unfolding per_place
sets-by-place l side x =
    pairs-from (not_both_apart l side x) (set_at l) (set_count l) 0 (set_count l) (omega arith)
    ∙ ap (λ as'. each_pair as' (not_both_apart l side x)) (sets-in-order l)
