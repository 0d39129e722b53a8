-- The targets of a bracket: they differ, and the register that an act writes is none of them. So the rows of the scalars and the
-- assignments of the bracket together are one for each scalar.
use Rattle.std.proofs.Common.{◌≡◌, ℕ, zero, suc, ◌+◌, ◌-◌, ◌*◌, ◌<◌, ◌≤◌, ◌==◌, Bool, true, false, not, ◌||◌, eqb, eq-eqb, cond, List, [], ◌∷◌, ◌++◌, length, None, Some, ◌⊎◌, inl, inr, refl, sym, ap, ◌∙◌, subst, arith, append_assoc, sum_by}
use Rattle.std.proofs.lemmas.Bool.{eqb-true, cases_lt, false≢true, true≢false, and_from}
use Rattle.std.proofs.lemmas.List.{append-nil}
use Rattle.std.proofs.lemmas.List.Sums.{sum_by-append, sum_by-cons}
use Rattle.std.proofs.lemmas.List.Elements.{All-head, All-tail}
use Rattle.std.proofs.lemmas.Option.{none-some}
use Rattle.std.proofs.lemmas.Map.Keys.{IsDistinct-push}
use Rattle.std.proofs.lemmas.Map.Made.{length-le_from_is_member, is_member-filter}
use Rattle.std.proofs.Math.Nat.{mul-le-mul_right}
use Rattle.std.specs.Cmp.{IsEquivalence}
use Rattle.std.specs.Set.{is_member}
use Rattle.std.specs.List.{IsDistinct, All, list_any, filter, flat_map, range_with_len}
use Rattle.pg_program.specs.Words.{repeated, is_in}
use Rattle.pg_tables.specs.declared.clause.StepLiteral.{StepLiteral}
use Rattle.pg_tables.specs.Table.{when}
use Rattle.pg_tables.proofs.Bounds.{IsAtMost}
use Rattle.pg_rules_access.proofs.Special.{weight, sum-each, sum-within, only-this}

-- ---- they differ

same_bool : (b c : Bool) → (b ≡ true → c ≡ true) → (c ≡ true → b ≡ true) → b ≡ c
same_bool true c f g = sym (f refl)
same_bool false true f g = g refl
same_bool false false f g = refl

flips : (a b : ℕ) → eqb a b ≡ eqb b a
flips a b = same_bool (eqb a b) (eqb b a) (λ h. eq-eqb b a (sym (eqb-true a b h))) (λ h. eq-eqb a b (sym (eqb-true b a h)))

laws : IsEquivalence eqb
laws = record {
  refl = λ x. eq-eqb x x refl;
  symm = flips;
  congr = λ x y z h. ap (λ k. eqb k z) (eqb-true x y h);
}

turned : (r : ℕ) (xs : List ℕ) → list_any (eqb r) xs ≡ is_in r xs
turned r [] = refl
turned r (x ∷ xs) = ap (λ b. b || list_any (eqb r) xs) (flips r x) ∙ ap (λ b. eqb x r || b) (turned r xs)

distinct_by : (b : Bool) (before rs : List ℕ) (r : ℕ) → IsDistinct eqb before → is_in r before ≡ b → cond b (Some r) (repeated (before ++ (r ∷ [])) rs) ≡ None
    → (IsDistinct eqb (before ++ (r ∷ [])) → repeated (before ++ (r ∷ [])) rs ≡ None → IsDistinct eqb ((before ++ (r ∷ [])) ++ rs)) → IsDistinct eqb (before ++ (r ∷ rs))
distinct_by true before rs r d e t go = absurd (none-some r (sym t))
distinct_by false before rs r d e t go = subst (IsDistinct eqb) (append_assoc before (r ∷ []) rs) (go (IsDistinct-push laws before r d (turned r before ∙ e)) t)

distinct : (before rs : List ℕ) → IsDistinct eqb before → repeated before rs ≡ None → IsDistinct eqb (before ++ rs)
distinct before [] d h = subst (IsDistinct eqb) (sym (append-nil before)) d
distinct before (r ∷ rs) d h = distinct_by (is_in r before) before rs r d refl h (λ d' h'. distinct (before ++ (r ∷ [])) rs d' h')

nothing : IsDistinct eqb []
unfolding IsDistinct
nothing = tt

or_true : (b c : Bool) → (b || c) ≡ true → (b ≡ true) ⊎ (c ≡ true)
or_true true c h = inl refl
or_true false c h = inr h

or_second : (b c : Bool) → c ≡ true → (b || c) ≡ true
or_second true c h = refl
or_second false c h = h

below_by : (n r q : ℕ) (c : Bool) → r < n → (c ≡ true → q < n) → (eqb q r ≡ true) ⊎ (c ≡ true) → q < n
below_by n r q c h go (inl e) = omega (arith, eqb-true q r e)
below_by n r q c h go (inr e) = go e

below_all : (n : ℕ) (rs : List ℕ) (q : ℕ) → All (λ r. r < n) rs → is_member eqb rs q ≡ true → q < n
below_all n [] q h t = absurd (false≢true t)
below_all n (r ∷ rs) q h t = below_by n r q (is_member eqb rs q) (All-head (λ x. x < n) r rs h) (below_all n rs q (All-tail (λ x. x < n) r rs h)) (or_true (eqb q r) _ t)

member_by : (a n q : ℕ) → (a < q → is_member eqb (range_with_len (a + 1) n) q ≡ true) → a ≤ q → (a < q) ⊎ (q ≤ a) → (eqb q a || is_member eqb (range_with_len (a + 1) n) q) ≡ true
member_by a n q go h (inl lt) = or_second (eqb q a) _ (go lt)
member_by a n q go h (inr le) = ap (λ b. b || is_member eqb (range_with_len (a + 1) n) q) (eq-eqb q a (omega arith))

member_below : (a n q : ℕ) → a ≤ q → q < a + n → is_member eqb (range_with_len a n) q ≡ true
member_below a zero q h t = absurd (omega arith)
member_below a (suc n) q h t = member_by a n q (λ lt. member_below (a + 1) n q (omega arith) (omega arith)) h (cases_lt a q)

-- numbers below n that differ are as many of the numbers below n
pub as_many : (n : ℕ) (rs : List ℕ) → All (λ r. r < n) rs → repeated [] rs ≡ None → length rs ≤ length (filter (λ q. is_in q rs) (range_with_len 0 n))
as_many n rs below none =
    length-le_from_is_member laws rs (filter (λ q. is_in q rs) (range_with_len 0 n)) (distinct [] rs nothing none) each
  where
    each : (q : ℕ) → is_member eqb rs q ≡ true → is_member eqb (filter (λ k. is_in k rs) (range_with_len 0 n)) q ≡ true
    each q t =
        is_member-filter laws (λ k. is_in k rs) q (λ k e. ap (λ j. is_in j rs) (eqb-true q k e)) (range_with_len 0 n)
        ∙ and_from _ _ (member_below 0 n q (omega arith) (omega (arith, below_all n rs q below t))) (sym (turned q rs) ∙ t)

-- ---- a row or an assignment for each scalar

module _ (g : ℕ → ℕ) (p : ℕ → Bool) (rows : ℕ → List (List StepLiteral)) (n : ℕ) where
  abbrev pub kept_rows : ℕ → List (List StepLiteral)
  kept_rows q = when (not (p q)) (rows q)

  -- the row where it is kept, and else an assignment
  abbrev share : ℕ → ℕ
  share q = weight g kept_rows q + cond (p q) n 0

  shares : (xs : List ℕ) → sum_by (λ c. g (length c)) (flat_map kept_rows xs) + length (filter p xs) * n ≡ sum_by share xs
  shares [] = omega arith
  shares (x ∷ xs) = by (p x) refl (shares xs)
    where
      by : (b : Bool) → p x ≡ b → sum_by (λ c. g (length c)) (flat_map kept_rows xs) + length (filter p xs) * n ≡ sum_by share xs
          → sum_by (λ c. g (length c)) (flat_map kept_rows (x ∷ xs)) + length (filter p (x ∷ xs)) * n ≡ sum_by share (x ∷ xs)
      by true e ih =
          let f : length (filter p (x ∷ xs)) ≡ suc (length (filter p xs)) = ap (λ b. length (cond b (x ∷ filter p xs) (filter p xs))) e in
          let c : cond (p x) n 0 ≡ n = ap (λ b. cond b n 0) e in
          let mul : length (filter p (x ∷ xs)) * n ≡ suc (length (filter p xs)) * n = ap (λ (k : ℕ). k * n) f in
          omega (arith, sum_by-append (λ d. g (length d)) (kept_rows x) (flat_map kept_rows xs), sum_by-cons share x xs, mul, c, ih)
      by false e ih =
          let f : length (filter p (x ∷ xs)) ≡ length (filter p xs) = ap (λ b. length (cond b (x ∷ filter p xs) (filter p xs))) e in
          let c : cond (p x) n 0 ≡ 0 = ap (λ b. cond b n 0) e in
          let mul : length (filter p (x ∷ xs)) * n ≡ length (filter p xs) * n = ap (λ (k : ℕ). k * n) f in
          omega (arith, sum_by-append (λ d. g (length d)) (kept_rows x) (flat_map kept_rows xs), sum_by-cons share x xs, mul, c, ih)

  share_by : (b : Bool) (cs : List (List StepLiteral)) (m : ℕ) → IsAtMost g cs m → (b ≡ true → n ≤ m) → sum_by (λ c. g (length c)) (when (not b) cs) + cond b n 0 ≤ m
  unfolding when
  share_by true cs m h le = omega (arith, le refl)
  share_by false cs m h le = omega (arith, h.bound)

  -- One scalar r is not assigned, and has a row of its own. No other row is longer than an assignment.
  pub most-shared : (a k r m : ℕ) → a ≤ k → r < a → p r ≡ false → ((q : ℕ) → (q == r) ≡ true → IsAtMost g (rows q) m) → ((q : ℕ) → (q == r) ≡ false → IsAtMost g (rows q) n)
      → sum_by (λ c. g (length c)) (flat_map kept_rows (range_with_len 0 a)) + length (filter p (range_with_len 0 a)) * n ≤ m + (k - 1) * n
  most-shared a k r m le h free own other =
      let s = sum-within share n (λ q. q == r) r (only-this r) m 0 a k le (record { from = omega arith; to = omega (arith, h) })
      (λ q o e. share_by (p q) (rows q) m (own q e) (λ t. absurd (true≢false (sym t ∙ (ap p (eqb-true q r e) ∙ free)))))
      (λ q o e. share_by (p q) (rows q) n (other q e) (λ t. omega arith)) in
      omega (arith, shares (range_with_len 0 a), s)

  -- no row is longer than an assignment
  pub most-shared_all : (a k : ℕ) → a ≤ k → ((q : ℕ) → IsAtMost g (rows q) n)
      → sum_by (λ c. g (length c)) (flat_map kept_rows (range_with_len 0 a)) + length (filter p (range_with_len 0 a)) * n ≤ k * n
  most-shared_all a k le each =
      let s = sum-each share n 0 a (λ q o. share_by (p q) (rows q) n (each q) (λ t. omega arith)) in
      omega (arith, shares (range_with_len 0 a), s, mul-le-mul_right n le)
