-- The atoms of one side of a step: which they are, their order, and their numbers. A number is computed; the laws
-- at the end tie it to the list of all atoms in their order.
use Rattle.std.specs.Prelude.{◌≡◌, ℕ, ◌+◌, ◌-◌, ◌*◌, ◌<◌, ◌≤◌, List, ◌++◌, length, map, Some, slice_get}
use Rattle.std.specs.List.{flat_map, range_with_len}
use Rattle.pg_program.specs.Limits.{least_domain, largest_domain_2, most_scalars, most_locations_2, most_threads}
use Rattle.pg_program.specs.NameTable.{NameTable}
use Rattle.pg_assertion.specs.Limits.{most_atoms}
use Rattle.pg_assertion.specs.declared.atom.ViewAtom.{ViewAtom}
use Rattle.pg_assertion.specs.declared.atom.ViewAtom.TheVariants.{Scalar, Last, Read, Persist, Async, Then, Newest, Ordered, Fenced}
use Rattle.pg_assertion.specs.declared.layout.Side.{Side}
use Rattle.pg_assertion.specs.declared.layout.Side.TheVariants.{Before, After}

-- how many values, scalars, locations and threads there are
pub record Sizes : Type 0 where
  pub domain : ℕ
  pub scalars : ℕ
  pub locations : ℕ
  pub threads : ℕ

-- those of a table of names, with a number of threads
abbrev pub sizes : NameTable → ℕ → Sizes
sizes names threads =
    record { domain = names.domain; scalars = length names.scalars; locations = length names.locations; threads = threads }

-- values, scalars and locations are numbered from 0, threads from 1
abbrev pub values : Sizes → List ℕ
values l = range_with_len 0 l.domain

abbrev pub scalars : Sizes → List ℕ
scalars l = range_with_len 0 l.scalars

abbrev pub locations : Sizes → List ℕ
locations l = range_with_len 0 l.locations

abbrev pub threads : Sizes → List ℕ
threads l = range_with_len 1 l.threads

-- a thread is one of 1 to their number
pub record IsThreadNumber (l : Sizes) (t : ℕ) : Type 0 where
  pub first : 1 ≤ t
  pub last : t ≤ l.threads

-- The arguments of an atom are in range.
abbrev pub IsAtom : Sizes → ViewAtom → Type 0
IsAtom l (Scalar r k) = (r < l.scalars) × (k < l.domain)
IsAtom l (Last x v) = (x < l.locations) × (v < l.domain)
IsAtom l (Read t x v) = IsThreadNumber l t × (x < l.locations) × (v < l.domain)
IsAtom l (Persist x v) = (x < l.locations) × (v < l.domain)
IsAtom l (Async t x v) = IsThreadNumber l t × (x < l.locations) × (v < l.domain)
IsAtom l (Then t x v y w) = IsThreadNumber l t × (x < l.locations) × (v < l.domain) × (y < l.locations) × (w < l.domain)
IsAtom l (Newest t x) = IsThreadNumber l t × (x < l.locations)
IsAtom l (Ordered t x) = IsThreadNumber l t × (x < l.locations)
IsAtom l (Fenced t x) = IsThreadNumber l t × (x < l.locations)

-- The atoms of a kind, by their arguments as written, the first slowest.
abbrev pub scalar_atoms : Sizes → List ViewAtom
scalar_atoms l = flat_map (λ r. map (λ k. Scalar r k) (values l)) (scalars l)

abbrev pub last_atoms : Sizes → List ViewAtom
last_atoms l = flat_map (λ x. map (λ v. Last x v) (values l)) (locations l)

abbrev pub read_atoms : Sizes → List ViewAtom
read_atoms l = flat_map (λ t. flat_map (λ x. map (λ v. Read t x v) (values l)) (locations l)) (threads l)

abbrev pub persist_atoms : Sizes → List ViewAtom
persist_atoms l = flat_map (λ x. map (λ v. Persist x v) (values l)) (locations l)

abbrev pub async_atoms : Sizes → List ViewAtom
async_atoms l = flat_map (λ t. flat_map (λ x. map (λ v. Async t x v) (values l)) (locations l)) (threads l)

abbrev pub then_atoms : Sizes → List ViewAtom
then_atoms l =
    flat_map (λ t. flat_map (λ x. flat_map (λ v. flat_map (λ y. map (λ w. Then t x v y w) (values l)) (locations l))
    (values l)) (locations l)) (threads l)

abbrev pub newest_atoms : Sizes → List ViewAtom
newest_atoms l = flat_map (λ t. map (λ x. Newest t x) (locations l)) (threads l)

abbrev pub ordered_atoms : Sizes → List ViewAtom
ordered_atoms l = flat_map (λ t. map (λ x. Ordered t x) (locations l)) (threads l)

abbrev pub fenced_atoms : Sizes → List ViewAtom
fenced_atoms l = flat_map (λ t. map (λ x. Fenced t x) (locations l)) (threads l)

-- All atoms of a side, kind by kind.
abbrev pub atoms_in_order : Sizes → List ViewAtom
atoms_in_order l =
    scalar_atoms l ++ last_atoms l ++ read_atoms l ++ persist_atoms l ++ async_atoms l ++ then_atoms l
    ++ newest_atoms l ++ ordered_atoms l ++ fenced_atoms l

-- How many scalars with a value there are; locations with a value; these for each thread; pairs of a location with
-- a value for each thread; and locations for each thread.
abbrev pub scalar_cells : Sizes → ℕ
scalar_cells l = l.domain * l.scalars

abbrev pub cells : Sizes → ℕ
cells l = l.domain * l.locations

abbrev pub seen_cells : Sizes → ℕ
seen_cells l = cells l * l.threads

abbrev pub cell_pairs : Sizes → ℕ
cell_pairs l = cells l * seen_cells l

abbrev pub thread_locations : Sizes → ℕ
thread_locations l = l.locations * l.threads

-- The place of each among its own, from 0.
abbrev pub scalar_place : Sizes → ℕ → ℕ → ℕ
scalar_place l r k = r * l.domain + k

abbrev pub cell_place : Sizes → ℕ → ℕ → ℕ
cell_place l x v = x * l.domain + v

abbrev pub seen_place : Sizes → ℕ → ℕ → ℕ → ℕ
seen_place l t x v = (t - 1) * cells l + cell_place l x v

abbrev pub pair_place : Sizes → ℕ → ℕ → ℕ → ℕ → ℕ → ℕ
pair_place l t x v y w = seen_place l t x v * cells l + cell_place l y w

abbrev pub view_place : Sizes → ℕ → ℕ → ℕ
view_place l t x = (t - 1) * l.locations + x

-- How many atoms stand before those of a kind.
abbrev pub last_start : Sizes → ℕ
last_start l = scalar_cells l

abbrev pub read_start : Sizes → ℕ
read_start l = last_start l + cells l

abbrev pub persist_start : Sizes → ℕ
persist_start l = read_start l + seen_cells l

abbrev pub async_start : Sizes → ℕ
async_start l = persist_start l + cells l

abbrev pub then_start : Sizes → ℕ
then_start l = async_start l + seen_cells l

abbrev pub newest_start : Sizes → ℕ
newest_start l = then_start l + cell_pairs l

abbrev pub ordered_start : Sizes → ℕ
ordered_start l = newest_start l + thread_locations l

abbrev pub fenced_start : Sizes → ℕ
fenced_start l = ordered_start l + thread_locations l

-- How many atoms a side has.
abbrev pub atoms : Sizes → ℕ
atoms l = fenced_start l + thread_locations l

-- The place of an atom among all, from 0, and its number, from 1.
abbrev pub place_of : Sizes → ViewAtom → ℕ
place_of l (Scalar r k) = scalar_place l r k
place_of l (Last x v) = last_start l + cell_place l x v
place_of l (Read t x v) = read_start l + seen_place l t x v
place_of l (Persist x v) = persist_start l + cell_place l x v
place_of l (Async t x v) = async_start l + seen_place l t x v
place_of l (Then t x v y w) = then_start l + pair_place l t x v y w
place_of l (Newest t x) = newest_start l + view_place l t x
place_of l (Ordered t x) = ordered_start l + view_place l t x
place_of l (Fenced t x) = fenced_start l + view_place l t x

abbrev pub number : Sizes → ViewAtom → ℕ
number l a = 1 + place_of l a

-- The atoms after a step are numbered on from those before it.
abbrev pub number_on : Sizes → ViewAtom → Side → ℕ
number_on l a Before = number l a
number_on l a After = number l a + atoms l

-- what a layout keeps to, so that its numbers stay small
pub record IsWithinLimits (l : Sizes) : Type 0 where
  pub some_values : least_domain ≤ l.domain
  pub few_values : l.domain ≤ largest_domain_2
  pub few_scalars : l.scalars ≤ most_scalars
  pub few_locations : l.locations ≤ most_locations_2
  pub some_threads : 1 ≤ l.threads
  pub few_threads : l.threads ≤ most_threads

-- An atom with the number n stands at the place n of the list, which counts from 1.
abbrev pub AtomsStandInOrder : Type 0
AtomsStandInOrder = (l : Sizes) (a : ViewAtom) → IsAtom l a → slice_get (atoms_in_order l) (number l a - 1) ≡ Some a

-- What stands in the list is an atom in range, and its place is its number.
abbrev pub PlacesAreNumbers : Type 0
PlacesAreNumbers =
    (l : Sizes) (i : ℕ) (a : ViewAtom) → slice_get (atoms_in_order l) i ≡ Some a → IsAtom l a × (number l a ≡ i + 1)

-- The list has as many entries as a side has atoms.
abbrev pub AtomsAreCounted : Type 0
AtomsAreCounted = (l : Sizes) → length (atoms_in_order l) ≡ atoms l

-- Of the layouts within the limits the largest has as many atoms as a side may have.
abbrev pub LargestHasMost : Type 0
LargestHasMost =
    (l : Sizes) → l.domain ≡ largest_domain_2 → l.scalars ≡ most_scalars → l.locations ≡ most_locations_2 → l.threads ≡ most_threads
    → atoms l ≡ most_atoms

-- No two atoms have one number.
abbrev pub NumbersTellAtomsApart : Type 0
NumbersTellAtomsApart =
    (l : Sizes) (a b : ViewAtom) → IsAtom l a → IsAtom l b → number l a ≡ number l b → a ≡ b

-- The number of an atom is one of 1 to their count, and each of these is the number of an atom.
abbrev pub NumbersHaveNoGap : Type 0
NumbersHaveNoGap =
    ((l : Sizes) (a : ViewAtom) → IsAtom l a → (1 ≤ number l a) × (number l a ≤ atoms l))
    × ((l : Sizes) (n : ℕ) → 1 ≤ n → n ≤ atoms l → (a : ViewAtom) × IsAtom l a × (number l a ≡ n))

-- An atom has a number on each side, from 1 to twice their count, and no other atom has it on any side.
abbrev pub NumbersTellSidesApart : Type 0
NumbersTellSidesApart =
    ((l : Sizes) (a : ViewAtom) (s : Side) → IsAtom l a → (1 ≤ number_on l a s) × (number_on l a s ≤ 2 * atoms l))
    × ((l : Sizes) (a b : ViewAtom) (s t : Side) → IsAtom l a → IsAtom l b → number_on l a s ≡ number_on l b t
    → (a ≡ b) × (s ≡ t))
