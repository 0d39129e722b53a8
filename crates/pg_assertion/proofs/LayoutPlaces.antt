-- Places in a list that is put together of others: of two, and of rows of one width.
use Rattle.std.proofs.Common.{◌≡◌, ℕ, zero, suc, ◌+◌, ◌*◌, ◌<◌, ◌⊎◌, inl, inr, List, [], ◌∷◌, ◌++◌, length, map, Some, refl, ap, ◌∙◌, arith, length-append}
use Rattle.std.specs.List.{slice_get, flat_map, range_with_len}

-- an entry of the first list, and of the second
pub stands_before : {A : Type 0} (xs ys : List A) (i : ℕ) (a : A) → slice_get xs i ≡ Some a → slice_get (xs ++ ys) i ≡ Some a
stands_before [] ys i a h = cc
stands_before (x ∷ xs) ys zero a h = h
stands_before (x ∷ xs) ys (suc i) a h = stands_before xs ys i a h

pub stands_behind : {A : Type 0} (xs ys : List A) (m i : ℕ) (a : A) → length xs ≡ m → slice_get ys i ≡ Some a → slice_get (xs ++ ys) (m + i) ≡ Some a
stands_behind [] ys m i a e h = let s : m + i ≡ i = omega arith in rw s h
stands_behind (x ∷ xs) ys zero i a e h = absurd (omega arith)
stands_behind (x ∷ xs) ys (suc m) i a e h =
    let s : suc m + i ≡ suc (m + i) = omega arith in rw s (stands_behind xs ys m i a (omega arith) h)

-- an entry of both is one of the first, or one of the second, which stands after the first
pub stands_in_one : {A : Type 0} (xs ys : List A) (m i : ℕ) (a : A) → length xs ≡ m → slice_get (xs ++ ys) i ≡ Some a
    → (slice_get xs i ≡ Some a) ⊎ ((j : ℕ) × (i ≡ m + j) × (slice_get ys j ≡ Some a))
stands_in_one [] ys m i a e h = inr (i, omega arith, h)
stands_in_one (x ∷ xs) ys zero i a e h = absurd (omega arith)
stands_in_one (x ∷ xs) ys (suc m) zero a e h = inl h
stands_in_one (x ∷ xs) ys (suc m) (suc i) a e h = by (stands_in_one xs ys m i a (omega arith) h)
  where
    by : ((slice_get xs i ≡ Some a) ⊎ ((j : ℕ) × (i ≡ m + j) × (slice_get ys j ≡ Some a)))
        → (slice_get xs i ≡ Some a) ⊎ ((j : ℕ) × (suc i ≡ suc m + j) × (slice_get ys j ≡ Some a))
    by (inl p) = inl p
    by (inr q) = inr (q.0, omega arith, q.2)

-- a row, one entry for each number
pub stands_in_row : {A : Type 0} (f : ℕ → A) (from n i : ℕ) → i < n → slice_get (map f (range_with_len from n)) i ≡ Some (f (from + i))
stands_in_row f from zero i lt = absurd (omega arith)
stands_in_row f from (suc n) zero lt = ap (λ k. Some (f k)) (omega arith)
stands_in_row f from (suc n) (suc i) lt =
    stands_in_row f (from + 1) n i (omega arith) ∙ ap (λ k. Some (f k)) (omega arith)

pub of_row : {A : Type 0} (f : ℕ → A) (from n i : ℕ) (a : A) → slice_get (map f (range_with_len from n)) i ≡ Some a → (i < n) × (f (from + i) ≡ a)
of_row f from zero i a h = absurd cc
of_row f from (suc n) zero a h = (omega arith, (let s : from + 0 ≡ from = omega arith in rw s cc))
of_row f from (suc n) (suc i) a h =
    let p = of_row f (from + 1) n i a h in
    let s : from + suc i ≡ from + 1 + i = omega arith in
    (omega (arith, p.0), rw s p.1)

pub length-row : {A : Type 0} (f : ℕ → A) (from n : ℕ) → length (map f (range_with_len from n)) ≡ n
length-row f from zero = refl
length-row f from (suc n) = ap suc (length-row f (from + 1) n)

-- rows of the width w, one for each number
pub length-rows : {A : Type 0} (f : ℕ → List A) (w from n : ℕ) → ((k : ℕ) → length (f k) ≡ w) → length (flat_map f (range_with_len from n)) ≡ w * n
length-rows f w from zero wide = omega arith
length-rows f w from (suc n) wide =
    length-append (f from) (flat_map f (range_with_len (from + 1) n))
    ∙ (ap (λ k. k + length (flat_map f (range_with_len (from + 1) n))) (wide from)
    ∙ (ap (λ k. w + k) (length-rows f w (from + 1) n wide) ∙ omega arith))

pub stands_in_rows : {A : Type 0} (f : ℕ → List A) (w from n i j : ℕ) (a : A) → ((k : ℕ) → length (f k) ≡ w) → i < n
    → slice_get (f (from + i)) j ≡ Some a → slice_get (flat_map f (range_with_len from n)) (i * w + j) ≡ Some a
stands_in_rows f w from zero i j a wide lt h = absurd (omega arith)
stands_in_rows f w from (suc n) zero j a wide lt h =
    let s : 0 * w + j ≡ j = omega arith in
    let t : from + 0 ≡ from = omega arith in
    rw s (stands_before (f from) (flat_map f (range_with_len (from + 1) n)) j a (rw t at h))
stands_in_rows f w from (suc n) (suc i) j a wide lt h =
    let s : suc i * w + j ≡ w + (i * w + j) = omega arith in
    let t : from + suc i ≡ from + 1 + i = omega arith in
    rw s (stands_behind (f from) (flat_map f (range_with_len (from + 1) n)) w (i * w + j) a (wide from)
    (stands_in_rows f w (from + 1) n i j a wide (omega arith) (rw t at h)))

-- an entry of the rows stands in one of them
pub record InRows {A : Type 0} (f : ℕ → List A) (w from n i : ℕ) (a : A) : Type 0 where
  pub row : ℕ
  pub column : ℕ
  pub row_below : row < n
  pub place : i ≡ row * w + column
  pub stands : slice_get (f (from + row)) column ≡ Some a

in_first_row : {A : Type 0} (f : ℕ → List A) (w from n i : ℕ) (a : A) → slice_get (f from) i ≡ Some a → InRows f w from (suc n) i a
in_first_row f w from n i a h =
    let s : from + 0 ≡ from = omega arith in
    record { row = 0; column = i; row_below = omega arith; place = omega arith; stands = rw s h }

in_later_row : {A : Type 0} (f : ℕ → List A) (w from n i j : ℕ) (a : A) → i ≡ w + j → InRows f w (from + 1) n j a → InRows f w from (suc n) i a
in_later_row f w from n i j a e p =
    let below : p.row < n = p.row_below in
    let at : j ≡ p.row * w + p.column = p.place in
    let s : from + suc p.row ≡ from + 1 + p.row = omega arith in
    record { row = suc p.row; column = p.column; row_below = omega arith; place = omega arith; stands = rw s p.stands }

pub of_rows : {A : Type 0} (f : ℕ → List A) (w from n i : ℕ) (a : A) → ((k : ℕ) → length (f k) ≡ w)
    → slice_get (flat_map f (range_with_len from n)) i ≡ Some a → InRows f w from n i a
of_rows f w from zero i a wide h = absurd cc
of_rows f w from (suc n) i a wide h =
    elim (stands_in_one (f from) (flat_map f (range_with_len (from + 1) n)) w i a (wide from) h) [
      | inl p ↦ in_first_row f w from n i a p
      | inr q ↦ in_later_row f w from n i q.0 a q.1 (of_rows f w (from + 1) n q.0 a wide q.2)
    ]

-- A grid has one entry for each row and column.
abbrev pub grid : {A : Type 0} → (ℕ → ℕ → A) → ℕ → ℕ → ℕ → List A
grid g from rows columns = flat_map (λ a. map (λ b. g a b) (range_with_len 0 columns)) (range_with_len from rows)

pub length-grid : {A : Type 0} (g : ℕ → ℕ → A) (from rows columns : ℕ) → length (grid g from rows columns) ≡ columns * rows
length-grid g from rows columns =
    length-rows (λ a. map (λ b. g a b) (range_with_len 0 columns)) columns from rows (λ a. length-row (λ b. g a b) 0 columns)

pub stands_in_grid : {A : Type 0} (g : ℕ → ℕ → A) (from rows columns a b : ℕ) → a < rows → b < columns
    → slice_get (grid g from rows columns) (a * columns + b) ≡ Some (g (from + a) b)
stands_in_grid g from rows columns a b p q =
    stands_in_rows (λ k. map (λ c. g k c) (range_with_len 0 columns)) columns from rows a b (g (from + a) b)
    (λ k. length-row (λ c. g k c) 0 columns) p
    (stands_in_row (λ c. g (from + a) c) 0 columns b q ∙ ap (λ c. Some (g (from + a) c)) (omega arith))

pub record InGrid {A : Type 0} (g : ℕ → ℕ → A) (from rows columns i : ℕ) (e : A) : Type 0 where
  pub row : ℕ
  pub column : ℕ
  pub row_below : row < rows
  pub column_below : column < columns
  pub place : i ≡ row * columns + column
  pub is : g (from + row) column ≡ e

pub of_grid : {A : Type 0} (g : ℕ → ℕ → A) (from rows columns i : ℕ) (e : A)
    → slice_get (grid g from rows columns) i ≡ Some e → InGrid g from rows columns i e
of_grid g from rows columns i e h = by (of_rows (λ k. map (λ c. g k c) (range_with_len 0 columns)) columns from rows i e (λ k. length-row (λ c. g k c) 0 columns) h)
  where
    by : InRows (λ k. map (λ c. g k c) (range_with_len 0 columns)) columns from rows i e → InGrid g from rows columns i e
    by p =
        let q = of_row (λ c. g (from + p.row) c) 0 columns p.column e p.stands in
        record {
          row = p.row;
          column = p.column;
          row_below = p.row_below;
          column_below = q.0;
          place = p.place;
          is = ap (λ c. g (from + p.row) c) (omega arith) ∙ q.1;
        }

-- Rows of rows are rows: the row of a row has its place in the grid of both.
pub nested_place : (a b d w j : ℕ) → a * (w * d) + (b * w + j) ≡ (a * d + b) * w + j
nested_place a b d w j = omega arith
