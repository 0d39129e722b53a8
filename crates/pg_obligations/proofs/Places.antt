-- What stands at a place of lists that follow one another.
use Rattle.std.proofs.Common.{◌≡◌, ℕ, zero, suc, ◌+◌, ◌-◌, ◌<◌, ◌≤◌, List, [], map, option_map, cond, eqb, ◌∷◌, ◌++◌, Some, length, take, drop, get_or, refl, ap, ◌∙◌, append_assoc, arith, length-append}
use Rattle.std.proofs.lemmas.Grind.{flat_map-append}
use Rattle.std.proofs.lemmas.List.{append-nil}
use Rattle.std.proofs.lemmas.Option.{slice_get-map}
use Rattle.std.proofs.lemmas.Bool.{ne_eqb}
use Rattle.std.proofs.lemmas.List.FromFn.{length-map-range_with_len}
use Rattle.std.specs.List.{flat_map, range_with_len, slice_get}
use Rattle.pg_tables.proofs.Lists.{range-split}

get_behind : {A : Type 0} (xs ys : List A) (n m : ℕ) → n ≡ length xs + m → slice_get (xs ++ ys) n ≡ slice_get ys m
get_behind [] ys n m e = let f : n ≡ m = omega arith in ap (slice_get ys) f
get_behind (x ∷ xs) ys zero m e = absurd (omega arith)
get_behind (x ∷ xs) ys (suc n) m e = get_behind xs ys n m (omega arith)

get_before : {A : Type 0} (xs ys : List A) (n : ℕ) (x : A) → slice_get xs n ≡ Some x → slice_get (xs ++ ys) n ≡ Some x
get_before [] ys n x e = absurd (cc)
get_before (y ∷ xs) ys zero x e = e
get_before (y ∷ xs) ys (suc n) x e = get_before xs ys n x e

module _ {A B : Type 0} (f : A → List B) where
  -- what stands at a place of the list for x stands that far behind the lists before it
  behind : (xs ys : List A) (x : A) (n m : ℕ) (b : B) → n ≡ length (flat_map f xs) + m → slice_get (f x) m ≡ Some b → slice_get (flat_map f (xs ++ (x ∷ ys))) n ≡ Some b
  behind xs ys x n m b e is =
      ap (λ l. slice_get l n) (flat_map-append f xs (x ∷ ys)) ∙ get_behind (flat_map f xs) (f x ++ flat_map f ys) n m e ∙ get_before (f x) (flat_map f ys) m b is

  one_more : (xs : List A) (x : A) → length (flat_map f (xs ++ (x ∷ []))) ≡ length (flat_map f xs) + length (f x)
  one_more xs x =
      let s = ap length (flat_map-append f xs (x ∷ [])) ∙ length-append (flat_map f xs) (f x ++ []) in
      let t = ap length (append-nil (f x)) in
      omega (arith, s, t)

module _ {B : Type 0} (f : ℕ → List B) where
  up_to : (a k : ℕ) → a ≤ k → range_with_len a (k + 1 - a) ≡ range_with_len a (k - a) ++ (k ∷ [])
  up_to a k h =
      let e : k + 1 - a ≡ (k - a) + 1 = omega arith in
      let d : a + (k - a) ≡ k = omega arith in
      ap (range_with_len a) e ∙ range-split a (k - a) 1 ∙ ap (λ r. range_with_len a (k - a) ++ range_with_len r 1) d

  whole : (a n k : ℕ) → a ≤ k → k < a + n → range_with_len a n ≡ range_with_len a (k - a) ++ (k ∷ range_with_len (k + 1) (a + n - (k + 1)))
  whole a n k h t =
      let e : n ≡ (k + 1 - a) + (a + n - (k + 1)) = omega arith in
      let d : a + (k + 1 - a) ≡ k + 1 = omega arith in
      ap (range_with_len a) e ∙ range-split a (k + 1 - a) (a + n - (k + 1)) ∙ ap (λ r. range_with_len a (k + 1 - a) ++ range_with_len r (a + n - (k + 1))) d
      ∙ ap (λ r. r ++ range_with_len (k + 1) (a + n - (k + 1))) (up_to a k h) ∙ append_assoc (range_with_len a (k - a)) (k ∷ []) (range_with_len (k + 1) (a + n - (k + 1)))

  -- at a place of the list for k, which is one of the n numbers from a on
  pub range_here : (a n k place m : ℕ) (b : B) → a ≤ k → k < a + n → place ≡ length (flat_map f (range_with_len a (k - a))) + m
      → slice_get (f k) m ≡ Some b → slice_get (flat_map f (range_with_len a n)) place ≡ Some b
  range_here a n k place m b h t e is =
      ap (λ r. slice_get (flat_map f r) place) (whole a n k h t) ∙ behind f (range_with_len a (k - a)) (range_with_len (k + 1) (a + n - (k + 1))) k place m b e is

  -- the lists of the numbers from a up to k have as many items as those below k, and those of k
  pub range_length : (a k : ℕ) → a ≤ k → length (flat_map f (range_with_len a (k + 1 - a))) ≡ length (flat_map f (range_with_len a (k - a))) + length (f k)
  range_length a k h = ap (λ l. length (flat_map f l)) (up_to a k h) ∙ one_more f (range_with_len a (k - a)) k

  pub range_more : (a k place m r : ℕ) → a ≤ k → place ≡ length (flat_map f (range_with_len a (k - a))) + m → m ≡ length (f k) + r
      → place ≡ length (flat_map f (range_with_len a (k + 1 - a))) + r
  range_more a k place m r h e t = omega (arith, e, t, range_length a k h)

get_range : (a n i : ℕ) → i < n → slice_get (range_with_len a n) i ≡ Some (a + i)
get_range a zero i h = absurd (omega arith)
get_range a (suc n) zero h = let e : a ≡ a + 0 = omega arith in ap Some e
get_range a (suc n) (suc i) h = let e : a + 1 + i ≡ a + suc i = omega arith in get_range (a + 1) n i (omega arith) ∙ ap Some e

-- an item for each of the n numbers from 1 on
pub get_map_range : {B : Type 0} (f : ℕ → B) (n i : ℕ) → i < n → slice_get (map f (range_with_len 1 n)) i ≡ Some (f (i + 1))
get_map_range f n i h = let e : 1 + i ≡ i + 1 = omega arith in slice_get-map f (range_with_len 1 n) i ∙ ap (option_map f) (get_range 1 n i h ∙ ap Some e)

pub length_other : {B : Type 0} (f : ℕ → B) (a b n : ℕ) → (a ≡ b → ⊥) → length (cond (eqb a b) [] (map f (range_with_len 1 n))) ≡ n
length_other f a b n ne = ap (λ t. length (cond t [] (map f (range_with_len 1 n)))) (ne_eqb a b ne) ∙ length-map-range_with_len f 1 n

-- a list that is there where two numbers differ
pub where_other : {B : Type 0} (a b : ℕ) (xs : List B) → (a ≡ b → ⊥) → cond (eqb a b) [] xs ≡ xs
where_other a b xs ne = ap (λ t. cond t [] xs) (ne_eqb a b ne)

list_at : {A : Type 0} (xs : List A) (i : ℕ) (d : A) → i < length xs → xs ≡ take i xs ++ (get_or xs i d ∷ drop (suc i) xs)
list_at [] i d h = absurd (omega arith)
list_at (y ∷ xs) zero d h = refl
list_at (y ∷ xs) (suc i) d h = ap (λ l. y ∷ l) (list_at xs i d (omega arith))

-- at a place of the list for the item i
pub list_here : {A B : Type 0} (f : A → List B) (xs : List A) (i place m : ℕ) (d : A) (b : B) → i < length xs → place ≡ length (flat_map f (take i xs)) + m
    → slice_get (f (get_or xs i d)) m ≡ Some b → slice_get (flat_map f xs) place ≡ Some b
list_here f xs i place m d b h e is =
    ap (λ l. slice_get (flat_map f l) place) (list_at xs i d h) ∙ behind f (take i xs) (drop (suc i) xs) (get_or xs i d) place m b e is

-- ---- the whole list: one item, others, one more, and the rest

module _ {A : Type 0} (x : A) (xs : List A) (y : A) (ys : List A) where
  from_one : (i : ℕ) → 2 ≤ i → slice_get (x ∷ (xs ++ (y ∷ ys))) (i - 1) ≡ slice_get (xs ++ (y ∷ ys)) (i - 2)
  from_one i h = let e : i - 1 ≡ suc (i - 2) = omega arith in ap (slice_get (x ∷ (xs ++ (y ∷ ys)))) e

  pub among_first : (i : ℕ) (b : A) → 2 ≤ i → slice_get xs (i - 2) ≡ Some b → slice_get (x ∷ (xs ++ (y ∷ ys))) (i - 1) ≡ Some b
  among_first i b h is = from_one i h ∙ get_before xs (y ∷ ys) (i - 2) b is

  pub between : (i m : ℕ) → 2 ≤ i → i - 2 ≡ length xs + m → m ≡ 0 → slice_get (x ∷ (xs ++ (y ∷ ys))) (i - 1) ≡ Some y
  between i m h e z = from_one i h ∙ get_behind xs (y ∷ ys) (i - 2) 0 (omega (arith, e, z))

  pub among_rest : (i m : ℕ) (b : A) → 2 ≤ i → i - 2 ≡ length xs + m → (m ≡ 0 → ⊥) → slice_get ys (m - 1) ≡ Some b → slice_get (x ∷ (xs ++ (y ∷ ys))) (i - 1) ≡ Some b
  among_rest i m b h e ne is =
      let f : m ≡ suc (m - 1) = omega (arith, ne) in
      from_one i h ∙ get_behind xs (y ∷ ys) (i - 2) (suc (m - 1)) (omega (arith, e, f)) ∙ is
