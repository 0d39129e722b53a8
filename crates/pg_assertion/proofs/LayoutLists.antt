-- The lists of locations with a value, and what is made of them: their lengths, and what stands at which place.
use Rattle.std.proofs.Common.{◌≡◌, ℕ, ◌+◌, ◌-◌, ◌*◌, ◌<◌, List, length, Some, ap, ◌∙◌, arith}
use Rattle.std.specs.List.{slice_get, flat_map}
use Rattle.pg_assertion.specs.Layout.{Sizes, IsThreadNumber, values, locations, threads, cells, seen_cells, cell_pairs, thread_locations, cell_place, seen_place, pair_place, view_place}
use Rattle.pg_assertion.proofs.LayoutPlaces.{length-rows, stands_in_rows, InRows, of_rows, grid, length-grid, stands_in_grid, InGrid, of_grid, nested_place}

-- Locations with a value, these for each thread, pairs of them, and locations for each thread; `g` is any kind.
abbrev pub cell_list : {A : Type 0} → Sizes → (ℕ → ℕ → A) → List A
cell_list l g = grid g 0 l.locations l.domain

abbrev pub seen_list : {A : Type 0} → Sizes → (ℕ → ℕ → ℕ → A) → List A
seen_list l g = flat_map (λ t. cell_list l (g t)) (threads l)

abbrev pub view_list : {A : Type 0} → Sizes → (ℕ → ℕ → A) → List A
view_list l g = grid g 1 l.threads l.locations

pub length-cell_list : {A : Type 0} (l : Sizes) (g : ℕ → ℕ → A) → length (cell_list l g) ≡ cells l
length-cell_list l g = length-grid g 0 l.locations l.domain

pub length-seen_list : {A : Type 0} (l : Sizes) (g : ℕ → ℕ → ℕ → A) → length (seen_list l g) ≡ seen_cells l
length-seen_list l g = length-rows (λ t. cell_list l (g t)) (cells l) 1 l.threads (λ t. length-cell_list l (g t))

pub length-view_list : {A : Type 0} (l : Sizes) (g : ℕ → ℕ → A) → length (view_list l g) ≡ thread_locations l
length-view_list l g = length-grid g 1 l.threads l.locations

pub stands_in_cells : {A : Type 0} (l : Sizes) (g : ℕ → ℕ → A) (x v : ℕ) → x < l.locations → v < l.domain
    → slice_get (cell_list l g) (cell_place l x v) ≡ Some (g x v)
stands_in_cells l g x v p q =
    stands_in_grid g 0 l.locations l.domain x v p q ∙ ap (λ y. Some (g y v)) (omega arith)

pub stands_in_seen : {A : Type 0} (l : Sizes) (g : ℕ → ℕ → ℕ → A) (t x v : ℕ) → IsThreadNumber l t → x < l.locations → v < l.domain
    → slice_get (seen_list l g) (seen_place l t x v) ≡ Some (g t x v)
stands_in_seen l g t x v is p q =
    let s : 1 + (t - 1) ≡ t = omega (arith, is.first) in
    stands_in_rows (λ u. cell_list l (g u)) (cells l) 1 l.threads (t - 1) (cell_place l x v) (g t x v)
    (λ u. length-cell_list l (g u)) (omega (arith, is.first, is.last)) (rw s (stands_in_cells l (g t) x v p q))

pub stands_in_views : {A : Type 0} (l : Sizes) (g : ℕ → ℕ → A) (t x : ℕ) → IsThreadNumber l t → x < l.locations
    → slice_get (view_list l g) (view_place l t x) ≡ Some (g t x)
stands_in_views l g t x is p =
    stands_in_grid g 1 l.threads l.locations (t - 1) x (omega (arith, is.first, is.last)) p
    ∙ ap (λ u. Some (g u x)) (omega (arith, is.first))

pub record IsCell {A : Type 0} (l : Sizes) (g : ℕ → ℕ → A) (i : ℕ) (e : A) : Type 0 where
  pub x : ℕ
  pub v : ℕ
  pub x_below : x < l.locations
  pub v_below : v < l.domain
  pub place : i ≡ cell_place l x v
  pub is : g x v ≡ e

pub of_cells : {A : Type 0} (l : Sizes) (g : ℕ → ℕ → A) (i : ℕ) (e : A) → slice_get (cell_list l g) i ≡ Some e → IsCell l g i e
of_cells l g i e h = by (of_grid g 0 l.locations l.domain i e h)
  where
    by : InGrid g 0 l.locations l.domain i e → IsCell l g i e
    by p = record {
      x = p.row;
      v = p.column;
      x_below = p.row_below;
      v_below = p.column_below;
      place = p.place;
      is = ap (λ y. g y p.column) (omega arith) ∙ p.is;
    }

pub record IsSeen {A : Type 0} (l : Sizes) (g : ℕ → ℕ → ℕ → A) (i : ℕ) (e : A) : Type 0 where
  pub t : ℕ
  pub x : ℕ
  pub v : ℕ
  pub is_thread : IsThreadNumber l t
  pub x_below : x < l.locations
  pub v_below : v < l.domain
  pub place : i ≡ seen_place l t x v
  pub is : g t x v ≡ e

thread_from : (l : Sizes) (row : ℕ) → row < l.threads → IsThreadNumber l (1 + row)
thread_from l row below = record { first = omega arith; last = omega arith }

pub of_seen : {A : Type 0} (l : Sizes) (g : ℕ → ℕ → ℕ → A) (i : ℕ) (e : A) → slice_get (seen_list l g) i ≡ Some e → IsSeen l g i e
of_seen l g i e h = by (of_rows (λ u. cell_list l (g u)) (cells l) 1 l.threads i e (λ u. length-cell_list l (g u)) h)
  where
    seen : (row column : ℕ) → row < l.threads → i ≡ row * cells l + column → IsCell l (g (1 + row)) column e → IsSeen l g i e
    seen row column below place q =
        let s : 1 + row - 1 ≡ row = omega arith in
        record {
          t = 1 + row;
          x = q.x;
          v = q.v;
          is_thread = thread_from l row below;
          x_below = q.x_below;
          v_below = q.v_below;
          place = rw s (place ∙ ap (λ k. row * cells l + k) q.place);
          is = q.is;
        }

    by : InRows (λ u. cell_list l (g u)) (cells l) 1 l.threads i e → IsSeen l g i e
    by p = seen p.row p.column p.row_below p.place (of_cells l (g (1 + p.row)) p.column e p.stands)

pub record IsView {A : Type 0} (l : Sizes) (g : ℕ → ℕ → A) (i : ℕ) (e : A) : Type 0 where
  pub t : ℕ
  pub x : ℕ
  pub is_thread : IsThreadNumber l t
  pub x_below : x < l.locations
  pub place : i ≡ view_place l t x
  pub is : g t x ≡ e

pub of_views : {A : Type 0} (l : Sizes) (g : ℕ → ℕ → A) (i : ℕ) (e : A) → slice_get (view_list l g) i ≡ Some e → IsView l g i e
of_views l g i e h = by (of_grid g 1 l.threads l.locations i e h)
  where
    by : InGrid g 1 l.threads l.locations i e → IsView l g i e
    by p =
        let s : 1 + p.row - 1 ≡ p.row = omega arith in
        record {
          t = 1 + p.row;
          x = p.column;
          is_thread = thread_from l p.row p.row_below;
          x_below = p.column_below;
          place = rw s p.place;
          is = p.is;
        }

-- Lists of the width w, one for each location with a value.
abbrev pub cell_rows : {A : Type 0} → Sizes → (ℕ → ℕ → List A) → List A
cell_rows l f = flat_map (λ x. flat_map (λ v. f x v) (values l)) (locations l)

length-values : {A : Type 0} (l : Sizes) (f : ℕ → ℕ → List A) (w : ℕ) → ((x v : ℕ) → length (f x v) ≡ w)
    → (x : ℕ) → length (flat_map (λ v. f x v) (values l)) ≡ w * l.domain
length-values l f w wide x = length-rows (λ v. f x v) w 0 l.domain (wide x)

length-cell_rows : {A : Type 0} (l : Sizes) (f : ℕ → ℕ → List A) (w : ℕ) → ((x v : ℕ) → length (f x v) ≡ w)
    → length (cell_rows l f) ≡ w * cells l
length-cell_rows l f w wide =
    length-rows (λ x. flat_map (λ v. f x v) (values l)) (w * l.domain) 0 l.locations (length-values l f w wide) ∙ omega arith

stands_in_cell_rows : {A : Type 0} (l : Sizes) (f : ℕ → ℕ → List A) (w x v j : ℕ) (a : A) → ((x v : ℕ) → length (f x v) ≡ w)
    → x < l.locations → v < l.domain → slice_get (f x v) j ≡ Some a → slice_get (cell_rows l f) (cell_place l x v * w + j) ≡ Some a
stands_in_cell_rows l f w x v j a wide p q h =
    let s : 0 + x ≡ x = omega arith in
    let t : 0 + v ≡ v = omega arith in
    rw (← nested_place x v l.domain w j)
    (stands_in_rows (λ y. flat_map (λ k. f y k) (values l)) (w * l.domain) 0 l.locations x (v * w + j) a (length-values l f w wide) p
    (rw s (stands_in_rows (λ k. f x k) w 0 l.domain v j a (wide x) q (rw t h))))

record InCellRows {A : Type 0} (l : Sizes) (f : ℕ → ℕ → List A) (w i : ℕ) (a : A) : Type 0 where
  pub x : ℕ
  pub v : ℕ
  pub j : ℕ
  pub x_below : x < l.locations
  pub v_below : v < l.domain
  pub place : i ≡ cell_place l x v * w + j
  pub stands : slice_get (f x v) j ≡ Some a

of_cell_rows : {A : Type 0} (l : Sizes) (f : ℕ → ℕ → List A) (w i : ℕ) (a : A) → ((x v : ℕ) → length (f x v) ≡ w)
    → slice_get (cell_rows l f) i ≡ Some a → InCellRows l f w i a
of_cell_rows l f w i a wide h = by (of_rows (λ y. flat_map (λ k. f y k) (values l)) (w * l.domain) 0 l.locations i a (length-values l f w wide) h)
  where
    in_rows : (x column : ℕ) → x < l.locations → i ≡ x * (w * l.domain) + column → InRows (λ k. f x k) w 0 l.domain column a → InCellRows l f w i a
    in_rows x column below place q =
        let t : 0 + q.row ≡ q.row = omega arith in
        record {
          x = x;
          v = q.row;
          j = q.column;
          x_below = below;
          v_below = q.row_below;
          place = place ∙ (ap (λ k. x * (w * l.domain) + k) q.place ∙ nested_place x q.row l.domain w q.column);
          stands = rw t at q.stands;
        }

    by : InRows (λ y. flat_map (λ k. f y k) (values l)) (w * l.domain) 0 l.locations i a → InCellRows l f w i a
    by p =
        let s : 0 + p.row ≡ p.row = omega arith in
        in_rows p.row p.column p.row_below p.place (of_rows (λ k. f p.row k) w 0 l.domain p.column a (wide p.row) (rw s at p.stands))

-- For each thread, a location with a value, and then another.
abbrev pub pair_list : {A : Type 0} → Sizes → (ℕ → ℕ → ℕ → ℕ → ℕ → A) → List A
pair_list l g = flat_map (λ t. cell_rows l (λ x v. cell_list l (g t x v))) (threads l)

length-of_thread : {A : Type 0} (l : Sizes) (g : ℕ → ℕ → ℕ → ℕ → ℕ → A) (t : ℕ)
    → length (cell_rows l (λ x v. cell_list l (g t x v))) ≡ cells l * cells l
length-of_thread l g t = length-cell_rows l (λ x v. cell_list l (g t x v)) (cells l) (λ x v. length-cell_list l (g t x v))

pub length-pair_list : {A : Type 0} (l : Sizes) (g : ℕ → ℕ → ℕ → ℕ → ℕ → A) → length (pair_list l g) ≡ cell_pairs l
length-pair_list l g =
    length-rows (λ t. cell_rows l (λ x v. cell_list l (g t x v))) (cells l * cells l) 1 l.threads (length-of_thread l g) ∙ omega arith

pub stands_in_pairs : {A : Type 0} (l : Sizes) (g : ℕ → ℕ → ℕ → ℕ → ℕ → A) (t x v y w : ℕ) → IsThreadNumber l t → x < l.locations → v < l.domain
    → y < l.locations → w < l.domain → slice_get (pair_list l g) (pair_place l t x v y w) ≡ Some (g t x v y w)
stands_in_pairs l g t x v y w is p q r u =
    let s : 1 + (t - 1) ≡ t = omega (arith, is.first) in
    rw (← nested_place (t - 1) (cell_place l x v) (cells l) (cells l) (cell_place l y w))
    (stands_in_rows (λ k. cell_rows l (λ a b. cell_list l (g k a b))) (cells l * cells l) 1 l.threads (t - 1)
    (cell_place l x v * cells l + cell_place l y w) (g t x v y w) (length-of_thread l g) (omega (arith, is.first, is.last))
    (rw s (stands_in_cell_rows l (λ a b. cell_list l (g t a b)) (cells l) x v (cell_place l y w) (g t x v y w)
    (λ a b. length-cell_list l (g t a b)) p q (stands_in_cells l (g t x v) y w r u))))

pub record IsPair {A : Type 0} (l : Sizes) (g : ℕ → ℕ → ℕ → ℕ → ℕ → A) (i : ℕ) (e : A) : Type 0 where
  pub t : ℕ
  pub x : ℕ
  pub v : ℕ
  pub y : ℕ
  pub w : ℕ
  pub is_thread : IsThreadNumber l t
  pub x_below : x < l.locations
  pub v_below : v < l.domain
  pub y_below : y < l.locations
  pub w_below : w < l.domain
  pub place : i ≡ pair_place l t x v y w
  pub is : g t x v y w ≡ e

pub of_pairs : {A : Type 0} (l : Sizes) (g : ℕ → ℕ → ℕ → ℕ → ℕ → A) (i : ℕ) (e : A) → slice_get (pair_list l g) i ≡ Some e → IsPair l g i e
of_pairs l g i e h = by (of_rows (λ k. cell_rows l (λ a b. cell_list l (g k a b))) (cells l * cells l) 1 l.threads i e (length-of_thread l g) h)
  where
    pair : (row column : ℕ) → row < l.threads → i ≡ row * (cells l * cells l) + column
        → (q : InCellRows l (λ a b. cell_list l (g (1 + row) a b)) (cells l) column e) → IsCell l (g (1 + row) q.x q.v) q.j e → IsPair l g i e
    pair row column below place q r =
        let s : 1 + row - 1 ≡ row = omega arith in
        record {
          t = 1 + row;
          x = q.x;
          v = q.v;
          y = r.x;
          w = r.v;
          is_thread = thread_from l row below;
          x_below = q.x_below;
          v_below = q.v_below;
          y_below = r.x_below;
          w_below = r.v_below;
          place = rw s (place ∙ (ap (λ k. row * (cells l * cells l) + k) (q.place ∙ ap (λ k. cell_place l q.x q.v * cells l + k) r.place)
              ∙ nested_place row (cell_place l q.x q.v) (cells l) (cells l) (cell_place l r.x r.v)));
          is = r.is;
        }

    seconds : (row column : ℕ) → row < l.threads → i ≡ row * (cells l * cells l) + column
        → InCellRows l (λ a b. cell_list l (g (1 + row) a b)) (cells l) column e → IsPair l g i e
    seconds row column below place q = pair row column below place q (of_cells l (g (1 + row) q.x q.v) q.j e q.stands)

    by : InRows (λ k. cell_rows l (λ a b. cell_list l (g k a b))) (cells l * cells l) 1 l.threads i e → IsPair l g i e
    by p =
        seconds p.row p.column p.row_below p.place
        (of_cell_rows l (λ a b. cell_list l (g (1 + p.row) a b)) (cells l) p.column e (λ a b. length-cell_list l (g (1 + p.row) a b)) p.stands)
