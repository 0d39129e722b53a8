-- Each kind of atoms in the list of all, and the laws of the numbering.
use Rattle.std.proofs.Common.{◌≡◌, ℕ, ◌+◌, ◌-◌, ◌*◌, ◌<◌, ◌≤◌, ◌⊎◌, inl, inr, List, ◌++◌, length, get_or, Some, None, refl, subst, ap, ◌∙◌, sym, arith, length-append}
use Rattle.std.proofs.lemmas.Option.{slice_get_within, slice_get_cases}
use Rattle.std.specs.List.{slice_get}
use Rattle.pg_assertion.specs.declared.atom.ViewAtom.{ViewAtom}
use Rattle.pg_assertion.specs.declared.atom.ViewAtom.TheVariants.{Scalar, Last, Read, Persist, Async, Then, Newest, Ordered, Fenced}
use Rattle.pg_assertion.specs.declared.layout.Side.{Side}
use Rattle.pg_assertion.specs.declared.layout.Side.TheVariants.{Before, After}
use Rattle.pg_assertion.specs.Layout.{Sizes, IsAtom, scalar_atoms, last_atoms, read_atoms, persist_atoms, async_atoms, then_atoms, newest_atoms, ordered_atoms, fenced_atoms, atoms_in_order, cells, seen_cells, cell_pairs, thread_locations, scalar_place, cell_place, seen_place, pair_place, view_place, last_start, read_start, persist_start, async_start, then_start, newest_start, ordered_start, fenced_start, atoms, place_of, number, AtomsStandInOrder, PlacesAreNumbers, AtomsAreCounted, LargestHasMost, NumbersTellAtomsApart, NumbersHaveNoGap, NumbersTellSidesApart, number_on}
use Rattle.pg_assertion.proofs.LayoutPlaces.{stands_before, stands_behind, stands_in_one, length-grid, stands_in_grid, of_grid}
use Rattle.pg_assertion.proofs.LayoutLists.{length-cell_list, length-seen_list, length-view_list, length-pair_list, stands_in_cells, stands_in_seen, stands_in_views, stands_in_pairs, of_cells, of_seen, of_views, of_pairs}

-- An atom has its place there.
record IsPlaced (l : Sizes) (a : ViewAtom) (place : ℕ) : Type 0 where
  pub is_atom : IsAtom l a
  pub at : place_of l a ≡ place

-- A list has the atoms of some kinds, so many from a place on.
record IsPart (l : Sizes) (xs : List ViewAtom) (start size : ℕ) : Type 0 where
  pub size_is : length xs ≡ size
  pub back : (i : ℕ) (a : ViewAtom) → slice_get xs i ≡ Some a → IsPlaced l a (start + i)

-- what follows is a part of the list of all
joined : {l : Sizes} {xs ys : List ViewAtom} {m n : ℕ} → IsPart l xs 0 m → IsPart l ys m n → IsPart l (xs ++ ys) 0 (m + n)
joined {l} {xs} {ys} {m} {n} p q = record {
  size_is = length-append xs ys ∙ (ap (λ k. k + length ys) p.size_is ∙ ap (λ k. m + k) q.size_is);
  back = λ (i : ℕ) (a : ViewAtom) (h : slice_get (xs ++ ys) i ≡ Some a). by i a (stands_in_one xs ys m i a p.size_is h);
}
  where
    by : (i : ℕ) (a : ViewAtom) → ((slice_get xs i ≡ Some a) ⊎ ((j : ℕ) × (i ≡ m + j) × (slice_get ys j ≡ Some a))) → IsPlaced l a (0 + i)
    by i a (inl h) = p.back i a h
    by i a (inr r) = let s : 0 + i ≡ m + r.0 = omega (arith, r.1) in rw s (q.back r.0 a r.2)

-- The atoms of a kind are made of arguments within range, and stand from a place on, each at the place of its arguments.
kind_part : {E : Type 0} (l : Sizes) (xs : List ViewAtom) (start size : ℕ) (make : E → ViewAtom) (place : E → ℕ) → length xs ≡ size
    → ((i : ℕ) (a : ViewAtom) → slice_get xs i ≡ Some a → (e : E) × IsPlaced l (make e) (start + place e) × (i ≡ place e) × (make e ≡ a))
    → IsPart l xs start size
kind_part l xs start size make place many of = record {
  size_is = many;
  back = λ (i : ℕ) (a : ViewAtom) (h : slice_get xs i ≡ Some a).
      let p = of i a h in
      subst (λ b. IsPlaced l b (start + i)) p.3 (subst (IsPlaced l (make p.0)) (ap (λ k. start + k) (sym p.2)) p.1);
}

scalar_part : (l : Sizes) → IsPart l (scalar_atoms l) 0 (last_start l)
scalar_part l =
    kind_part l (scalar_atoms l) 0 (last_start l) (λ (e : ℕ × ℕ). Scalar e.0 e.1) (λ e. scalar_place l e.0 e.1) (length-grid (λ r k. Scalar r k) 0 l.scalars l.domain)
    (λ i a h.
    let p = of_grid (λ r k. Scalar r k) 0 l.scalars l.domain i a h in
    let s : 0 + p.row ≡ p.row = omega arith in
    ((p.row, p.column), record { is_atom = (p.row_below, p.column_below); at = omega arith }, p.place, rw s at p.is))

last_part : (l : Sizes) → IsPart l (last_atoms l) (last_start l) (cells l)
last_part l =
    kind_part l (last_atoms l) (last_start l) (cells l) (λ (e : ℕ × ℕ). Last e.0 e.1) (λ e. cell_place l e.0 e.1) (length-cell_list l (λ x v. Last x v))
    (λ i a h. let p = of_cells l (λ x v. Last x v) i a h in ((p.x, p.v), record { is_atom = (p.x_below, p.v_below); at = refl }, p.place, p.is))

read_part : (l : Sizes) → IsPart l (read_atoms l) (read_start l) (seen_cells l)
read_part l =
    kind_part l (read_atoms l) (read_start l) (seen_cells l) (λ (e : ℕ × ℕ × ℕ). Read e.0 e.1 e.2) (λ e. seen_place l e.0 e.1 e.2) (length-seen_list l (λ t x v. Read t x v))
    (λ i a h. let p = of_seen l (λ t x v. Read t x v) i a h in ((p.t, p.x, p.v), record { is_atom = (p.is_thread, p.x_below, p.v_below); at = refl }, p.place, p.is))

persist_part : (l : Sizes) → IsPart l (persist_atoms l) (persist_start l) (cells l)
persist_part l =
    kind_part l (persist_atoms l) (persist_start l) (cells l) (λ (e : ℕ × ℕ). Persist e.0 e.1) (λ e. cell_place l e.0 e.1) (length-cell_list l (λ x v. Persist x v))
    (λ i a h. let p = of_cells l (λ x v. Persist x v) i a h in ((p.x, p.v), record { is_atom = (p.x_below, p.v_below); at = refl }, p.place, p.is))

async_part : (l : Sizes) → IsPart l (async_atoms l) (async_start l) (seen_cells l)
async_part l =
    kind_part l (async_atoms l) (async_start l) (seen_cells l) (λ (e : ℕ × ℕ × ℕ). Async e.0 e.1 e.2) (λ e. seen_place l e.0 e.1 e.2) (length-seen_list l (λ t x v. Async t x v))
    (λ i a h. let p = of_seen l (λ t x v. Async t x v) i a h in ((p.t, p.x, p.v), record { is_atom = (p.is_thread, p.x_below, p.v_below); at = refl }, p.place, p.is))

then_part : (l : Sizes) → IsPart l (then_atoms l) (then_start l) (cell_pairs l)
then_part l =
    kind_part l (then_atoms l) (then_start l) (cell_pairs l) (λ (e : ℕ × ℕ × ℕ × ℕ × ℕ). Then e.0 e.1 e.2 e.3 e.4) (λ e. pair_place l e.0 e.1 e.2 e.3 e.4) (length-pair_list l (λ t x v y w. Then t x v y w))
    (λ i a h. let p = of_pairs l (λ t x v y w. Then t x v y w) i a h in ((p.t, p.x, p.v, p.y, p.w), record { is_atom = (p.is_thread, p.x_below, p.v_below, p.y_below, p.w_below); at = refl }, p.place, p.is))

newest_part : (l : Sizes) → IsPart l (newest_atoms l) (newest_start l) (thread_locations l)
newest_part l =
    kind_part l (newest_atoms l) (newest_start l) (thread_locations l) (λ (e : ℕ × ℕ). Newest e.0 e.1) (λ e. view_place l e.0 e.1) (length-view_list l (λ t x. Newest t x))
    (λ i a h. let p = of_views l (λ t x. Newest t x) i a h in ((p.t, p.x), record { is_atom = (p.is_thread, p.x_below); at = refl }, p.place, p.is))

ordered_part : (l : Sizes) → IsPart l (ordered_atoms l) (ordered_start l) (thread_locations l)
ordered_part l =
    kind_part l (ordered_atoms l) (ordered_start l) (thread_locations l) (λ (e : ℕ × ℕ). Ordered e.0 e.1) (λ e. view_place l e.0 e.1) (length-view_list l (λ t x. Ordered t x))
    (λ i a h. let p = of_views l (λ t x. Ordered t x) i a h in ((p.t, p.x), record { is_atom = (p.is_thread, p.x_below); at = refl }, p.place, p.is))

fenced_part : (l : Sizes) → IsPart l (fenced_atoms l) (fenced_start l) (thread_locations l)
fenced_part l =
    kind_part l (fenced_atoms l) (fenced_start l) (thread_locations l) (λ (e : ℕ × ℕ). Fenced e.0 e.1) (λ e. view_place l e.0 e.1) (length-view_list l (λ t x. Fenced t x))
    (λ i a h. let p = of_views l (λ t x. Fenced t x) i a h in ((p.t, p.x), record { is_atom = (p.is_thread, p.x_below); at = refl }, p.place, p.is))

-- The kinds up to one of them, and what stands there in the list of all.
abbrev upto_scalar : Sizes → List ViewAtom
upto_scalar l = scalar_atoms l

abbrev upto_last : Sizes → List ViewAtom
upto_last l = upto_scalar l ++ last_atoms l

abbrev upto_read : Sizes → List ViewAtom
upto_read l = upto_last l ++ read_atoms l

abbrev upto_persist : Sizes → List ViewAtom
upto_persist l = upto_read l ++ persist_atoms l

abbrev upto_async : Sizes → List ViewAtom
upto_async l = upto_persist l ++ async_atoms l

abbrev upto_then : Sizes → List ViewAtom
upto_then l = upto_async l ++ then_atoms l

abbrev upto_newest : Sizes → List ViewAtom
upto_newest l = upto_then l ++ newest_atoms l

abbrev upto_ordered : Sizes → List ViewAtom
upto_ordered l = upto_newest l ++ ordered_atoms l

abbrev upto_fenced : Sizes → List ViewAtom
upto_fenced l = upto_ordered l ++ fenced_atoms l

upto_scalar_part : (l : Sizes) → IsPart l (upto_scalar l) 0 (last_start l)
upto_scalar_part l = scalar_part l

upto_last_part : (l : Sizes) → IsPart l (upto_last l) 0 (read_start l)
upto_last_part l = joined (upto_scalar_part l) (last_part l)

upto_read_part : (l : Sizes) → IsPart l (upto_read l) 0 (persist_start l)
upto_read_part l = joined (upto_last_part l) (read_part l)

upto_persist_part : (l : Sizes) → IsPart l (upto_persist l) 0 (async_start l)
upto_persist_part l = joined (upto_read_part l) (persist_part l)

upto_async_part : (l : Sizes) → IsPart l (upto_async l) 0 (then_start l)
upto_async_part l = joined (upto_persist_part l) (async_part l)

upto_then_part : (l : Sizes) → IsPart l (upto_then l) 0 (newest_start l)
upto_then_part l = joined (upto_async_part l) (then_part l)

upto_newest_part : (l : Sizes) → IsPart l (upto_newest l) 0 (ordered_start l)
upto_newest_part l = joined (upto_then_part l) (newest_part l)

upto_ordered_part : (l : Sizes) → IsPart l (upto_ordered l) 0 (fenced_start l)
upto_ordered_part l = joined (upto_newest_part l) (ordered_part l)

upto_fenced_part : (l : Sizes) → IsPart l (upto_fenced l) 0 (atoms l)
upto_fenced_part l = joined (upto_ordered_part l) (fenced_part l)

of_fenced : (l : Sizes) (i : ℕ) (a : ViewAtom) → slice_get (upto_fenced l) i ≡ Some a → slice_get (atoms_in_order l) i ≡ Some a
of_fenced l i a h = h

of_ordered : (l : Sizes) (i : ℕ) (a : ViewAtom) → slice_get (upto_ordered l) i ≡ Some a → slice_get (atoms_in_order l) i ≡ Some a
of_ordered l i a h = of_fenced l i a (stands_before (upto_ordered l) (fenced_atoms l) i a h)

of_newest : (l : Sizes) (i : ℕ) (a : ViewAtom) → slice_get (upto_newest l) i ≡ Some a → slice_get (atoms_in_order l) i ≡ Some a
of_newest l i a h = of_ordered l i a (stands_before (upto_newest l) (ordered_atoms l) i a h)

of_then : (l : Sizes) (i : ℕ) (a : ViewAtom) → slice_get (upto_then l) i ≡ Some a → slice_get (atoms_in_order l) i ≡ Some a
of_then l i a h = of_newest l i a (stands_before (upto_then l) (newest_atoms l) i a h)

of_async : (l : Sizes) (i : ℕ) (a : ViewAtom) → slice_get (upto_async l) i ≡ Some a → slice_get (atoms_in_order l) i ≡ Some a
of_async l i a h = of_then l i a (stands_before (upto_async l) (then_atoms l) i a h)

of_persist : (l : Sizes) (i : ℕ) (a : ViewAtom) → slice_get (upto_persist l) i ≡ Some a → slice_get (atoms_in_order l) i ≡ Some a
of_persist l i a h = of_async l i a (stands_before (upto_persist l) (async_atoms l) i a h)

of_read : (l : Sizes) (i : ℕ) (a : ViewAtom) → slice_get (upto_read l) i ≡ Some a → slice_get (atoms_in_order l) i ≡ Some a
of_read l i a h = of_persist l i a (stands_before (upto_read l) (persist_atoms l) i a h)

of_last : (l : Sizes) (i : ℕ) (a : ViewAtom) → slice_get (upto_last l) i ≡ Some a → slice_get (atoms_in_order l) i ≡ Some a
of_last l i a h = of_read l i a (stands_before (upto_last l) (read_atoms l) i a h)

of_scalar : (l : Sizes) (i : ℕ) (a : ViewAtom) → slice_get (upto_scalar l) i ≡ Some a → slice_get (atoms_in_order l) i ≡ Some a
of_scalar l i a h = of_last l i a (stands_before (upto_scalar l) (last_atoms l) i a h)

stands : (l : Sizes) (a : ViewAtom) → IsAtom l a → slice_get (atoms_in_order l) (place_of l a) ≡ Some a
stands l (Scalar r k) p =
    of_scalar l (scalar_place l r k) (Scalar r k)
    (stands_in_grid (λ s v. Scalar s v) 0 l.scalars l.domain r k p.0 p.1 ∙ ap (λ s. Some (Scalar s k)) (omega arith))
stands l (Last x v) p =
    of_last l (last_start l + cell_place l x v) (Last x v)
    (stands_behind (upto_scalar l) (last_atoms l) (last_start l) (cell_place l x v) (Last x v) (upto_scalar_part l).size_is
    (stands_in_cells l (λ x v. Last x v) x v p.0 p.1))
stands l (Read t x v) p =
    of_read l (read_start l + seen_place l t x v) (Read t x v)
    (stands_behind (upto_last l) (read_atoms l) (read_start l) (seen_place l t x v) (Read t x v) (upto_last_part l).size_is
    (stands_in_seen l (λ t x v. Read t x v) t x v p.0 p.1 p.2))
stands l (Persist x v) p =
    of_persist l (persist_start l + cell_place l x v) (Persist x v)
    (stands_behind (upto_read l) (persist_atoms l) (persist_start l) (cell_place l x v) (Persist x v) (upto_read_part l).size_is
    (stands_in_cells l (λ x v. Persist x v) x v p.0 p.1))
stands l (Async t x v) p =
    of_async l (async_start l + seen_place l t x v) (Async t x v)
    (stands_behind (upto_persist l) (async_atoms l) (async_start l) (seen_place l t x v) (Async t x v) (upto_persist_part l).size_is
    (stands_in_seen l (λ t x v. Async t x v) t x v p.0 p.1 p.2))
stands l (Then t x v y w) p =
    of_then l (then_start l + pair_place l t x v y w) (Then t x v y w)
    (stands_behind (upto_async l) (then_atoms l) (then_start l) (pair_place l t x v y w) (Then t x v y w) (upto_async_part l).size_is
    (stands_in_pairs l (λ t x v y w. Then t x v y w) t x v y w p.0 p.1 p.2 p.3 p.4))
stands l (Newest t x) p =
    of_newest l (newest_start l + view_place l t x) (Newest t x)
    (stands_behind (upto_then l) (newest_atoms l) (newest_start l) (view_place l t x) (Newest t x) (upto_then_part l).size_is
    (stands_in_views l (λ t x. Newest t x) t x p.0 p.1))
stands l (Ordered t x) p =
    of_ordered l (ordered_start l + view_place l t x) (Ordered t x)
    (stands_behind (upto_newest l) (ordered_atoms l) (ordered_start l) (view_place l t x) (Ordered t x) (upto_newest_part l).size_is
    (stands_in_views l (λ t x. Ordered t x) t x p.0 p.1))
stands l (Fenced t x) p =
    of_fenced l (fenced_start l + view_place l t x) (Fenced t x)
    (stands_behind (upto_ordered l) (fenced_atoms l) (fenced_start l) (view_place l t x) (Fenced t x) (upto_ordered_part l).size_is
    (stands_in_views l (λ t x. Fenced t x) t x p.0 p.1))

pub atoms_stand_in_order : AtomsStandInOrder
atoms_stand_in_order l a p = let s : 1 + place_of l a - 1 ≡ place_of l a = omega arith in rw s (stands l a p)

pub places_are_numbers : PlacesAreNumbers
places_are_numbers l i a h =
    let p = (upto_fenced_part l).back i a h in
    (p.is_atom, ap (λ k. 1 + k) p.at ∙ omega arith)

pub atoms_are_counted : AtomsAreCounted
atoms_are_counted l = (upto_fenced_part l).size_is

pub largest_has_most : LargestHasMost
largest_has_most l values scalars locations threads = simp (values, scalars, locations, threads) refl

same_option : {A : Type 0} (a b : A) → Some a ≡ Some b → a ≡ b
same_option a b e = cc

pub numbers_tell_atoms_apart : NumbersTellAtomsApart
numbers_tell_atoms_apart l a b p q e =
    let place : place_of l a ≡ place_of l b = omega (arith, e) in
    same_option a b (sym (stands l a p) ∙ (ap (λ k. slice_get (atoms_in_order l) k) place ∙ stands l b q))

pub number_within : (l : Sizes) (a : ViewAtom) → IsAtom l a → (1 ≤ number l a) × (number l a ≤ atoms l)
number_within l a p =
    let below : place_of l a < length (atoms_in_order l) = slice_get_within (atoms_in_order l) (place_of l a) a (stands l a p) in
    (omega arith, omega (arith, below, atoms_are_counted l))

pub has_atom : (l : Sizes) (n : ℕ) → 1 ≤ n → n ≤ atoms l → (a : ViewAtom) × IsAtom l a × (number l a ≡ n)
has_atom l n from to = by (slice_get_cases (atoms_in_order l) (n - 1)).1
  where
    by : (((a : ViewAtom) × (n - 1 < length (atoms_in_order l)) × (slice_get (atoms_in_order l) (n - 1) ≡ Some a) × (get_or (atoms_in_order l) (n - 1) a ≡ a))
        ⊎ ((length (atoms_in_order l) ≤ n - 1) × (slice_get (atoms_in_order l) (n - 1) ≡ None))) → (a : ViewAtom) × IsAtom l a × (number l a ≡ n)
    by (inl r) = let p = places_are_numbers l (n - 1) r.0 r.2 in (r.0, p.0, p.1 ∙ omega arith)
    by (inr r) = absurd (omega (arith, r.0, atoms_are_counted l, from, to))

pub numbers_have_no_gap : NumbersHaveNoGap
numbers_have_no_gap = (number_within, has_atom)

pub number_on_within : (l : Sizes) (a : ViewAtom) (s : Side) → IsAtom l a → (1 ≤ number_on l a s) × (number_on l a s ≤ 2 * atoms l)
number_on_within l a Before p = let w = number_within l a p in (omega (arith, w.0), omega (arith, w.1))
number_on_within l a After p = let w = number_within l a p in (omega (arith, w.0), omega (arith, w.1))

-- a number before a step is too small for one after it
sides_differ : (l : Sizes) (a b : ViewAtom) → IsAtom l a → IsAtom l b → number l a ≡ number l b + atoms l → ⊥
sides_differ l a b p q e = omega (arith, (number_within l a p).1, (number_within l b q).0, e)

tell_apart : (l : Sizes) (a b : ViewAtom) (s t : Side) → IsAtom l a → IsAtom l b → number_on l a s ≡ number_on l b t → (a ≡ b) × (s ≡ t)
tell_apart l a b Before Before p q e = (numbers_tell_atoms_apart l a b p q e, refl)
tell_apart l a b Before After p q e = absurd (sides_differ l a b p q e)
tell_apart l a b After Before p q e = absurd (sides_differ l b a q p (sym e))
tell_apart l a b After After p q e = (numbers_tell_atoms_apart l a b p q (omega (arith, e)), refl)

pub numbers_tell_sides_apart : NumbersTellSidesApart
numbers_tell_sides_apart = (number_on_within, tell_apart)
