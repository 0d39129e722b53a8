-- A name's place among declarations: in a map's keys, and after one more declaration.
use Rattle.std.proofs.Common.{◌≡◌, ℕ, zero, suc, ◌+◌, ◌<◌, ◌≤◌, ◌==◌, Bool, true, false, cond, not, nat_lt, List, [], ◌∷◌, ◌++◌, length, map, max, Option, Some, None, option_map, slice_get, refl, sym, ap, subst, ◌∙◌, inl, inr, ◌⊎◌, arith}
use Rattle.std.specs.List.{position, position_or_len}
use Rattle.std.specs.Str.{bytes_eq}
use Rattle.std.specs.Prelude.{String, string_bytes}
use Rattle.std.specs.String.{string_eq}
use Rattle.std.specs.Map.{keys_of}
use Rattle.std.specs.declared.alloc.Global.{Global}
use Rattle.std.proofs.lemmas.List.{length-map}
use Rattle.std.proofs.lemmas.Bool.{lt-ltb, le-ltb, cases_lt, cond-true, cond-false}
use Rattle.std.proofs.lemmas.Slice.Eq.{bytes_eq-Decides}
use Rattle.indexmap.specs.IndexMap.{insert_entry}
use Rattle.std.proofs.Common.{Result, Ok, Err, OnOk, OnErr, length-append}
use Rattle.pg_program.specs.declared.name_table.NameRef.{NameRef}
use Rattle.pg_program.specs.declared.name_table.NameRef.TheVariants as place
use Rattle.pg_program.specs.declared.name_table.ScalarKind.{ScalarKind}
use Rattle.pg_program.specs.declared.name_table.Placed.{Placed}
use Rattle.pg_program.specs.Limits.{most_locations, most_locations_1, most_locations_2, most_scalars}
use Rattle.pg_program.specs.NameTable.{NameTable, Location, IsNameTable, AreGrouped, by_bytes, location_of, lines, line_count, location_names, scalar_names, place_in, find, found, with_location}

-- one step of `position`, with the recursion's parts as numbers
first_step : (b : Bool) (n m : ℕ)
    → cond (nat_lt (cond (not b) (1 + n) 0) (suc m)) (Some (cond (not b) (1 + n) 0)) None ≡ cond b (Some 0) (option_map (λ i. i + 1) (cond (nat_lt n m) (Some n) None))
first_step true n m = cond-true (nat_lt 0 (suc m)) (Some 0) None (lt-ltb 0 (suc m) (omega arith))
first_step false n m = elim (cases_lt n m) [
  | inl h ↦ cond-true (nat_lt (1 + n) (suc m)) (Some (1 + n)) None (lt-ltb (1 + n) (suc m) (omega arith))
      ∙ (let e : 1 + n ≡ n + 1 = omega arith in ap Some e)
      ∙ sym (ap (option_map (λ i. i + 1)) (cond-true (nat_lt n m) (Some n) None (lt-ltb n m h)))
  | inr h ↦ cond-false (nat_lt (1 + n) (suc m)) (Some (1 + n)) None (le-ltb (1 + n) (suc m) (omega arith))
      ∙ sym (ap (option_map (λ i. i + 1)) (cond-false (nat_lt n m) (Some n) None (le-ltb n m h)))
]

-- the index that a map gives is the place by bytes
pub place_in-by_bytes : {V : Type 0} (name : List ℕ) (es : List (String Global × V)) → position (λ k. bytes_eq name (string_bytes k)) (keys_of es) ≡ place_in name (map (λ e. e.0) (by_bytes es))
place_in-by_bytes name [] = refl
place_in-by_bytes name (e ∷ es) =
    first_step (bytes_eq name (string_bytes e.0)) (position_or_len (λ k. bytes_eq name (string_bytes k)) (keys_of es)) (length (keys_of es))
    ∙ ap (λ o. cond (bytes_eq name (string_bytes e.0)) (Some 0) (option_map (λ i. i + 1) o)) (place_in-by_bytes name es)

-- a name that is absent from a list is not its head, and is absent from the rest
absent_parts : (b : Bool) (o : Option ℕ) → cond b (Some 0) (option_map (λ i. i + 1) o) ≡ None → (b ≡ false) × (o ≡ None)
absent_parts true o h = cc
absent_parts false None h = (refl, refl)
absent_parts false (Some i) h = cc

-- an absent name is inserted as the last
pub by_bytes-insert_entry : {V : Type 0} (k : String Global) (v : V) (es : List (String Global × V)) → place_in (string_bytes k) (map (λ e. e.0) (by_bytes es)) ≡ None
    → by_bytes (insert_entry string_eq es k v) ≡ by_bytes es ++ (string_bytes k, v) ∷ []
by_bytes-insert_entry k v [] h = refl
by_bytes-insert_entry k v (e ∷ es) h =
    let parts = absent_parts (bytes_eq (string_bytes k) (string_bytes e.0)) (place_in (string_bytes k) (map (λ e. e.0) (by_bytes es))) h in
    ap by_bytes (cond-false (string_eq k e.0) ((e.0, v) ∷ es) (e ∷ insert_entry string_eq es k v) parts.0)
    ∙ ap (λ l. (string_bytes e.0, e.1) ∷ l) (by_bytes-insert_entry k v es parts.1)

-- a name that is there keeps its place when more is declared
kept_step : (b : Bool) (o p : Option ℕ) → ((j : ℕ) → o ≡ Some j → p ≡ Some j) → (i : ℕ) → cond b (Some 0) (option_map (λ i. i + 1) o) ≡ Some i
    → cond b (Some 0) (option_map (λ i. i + 1) p) ≡ Some i
kept_step true o p kept i h = h
kept_step false None p kept i h = cc
kept_step false (Some j) p kept i h = ap (option_map (λ i. i + 1)) (kept j refl) ∙ h

pub place_in-kept : (name : List ℕ) (ns more : List (List ℕ)) (i : ℕ) → place_in name ns ≡ Some i → place_in name (ns ++ more) ≡ Some i
place_in-kept name [] more i h = cc
place_in-kept name (n ∷ ns) more i h =
    kept_step (bytes_eq name n) (place_in name ns) (place_in name (ns ++ more)) (λ j. place_in-kept name ns more j) i h

-- a new name stands after all others, and no other name is there
pub place_in-new : (name other : List ℕ) (ns : List (List ℕ)) → place_in name ns ≡ None
    → place_in name (ns ++ other ∷ []) ≡ cond (bytes_eq name other) (Some (length ns)) None
place_in-new name other [] h = refl
place_in-new name other (n ∷ ns) h =
    let parts = absent_parts (bytes_eq name n) (place_in name ns) h in
    cond-false (bytes_eq name n) (Some 0) (option_map (λ i. i + 1) (place_in name (ns ++ other ∷ []))) parts.0
    ∙ ap (option_map (λ i. i + 1)) (place_in-new name other ns parts.1)
    ∙ moved (bytes_eq name other) (length ns)
  where
    moved : (b : Bool) (n : ℕ) → option_map (λ i. i + 1) (cond b (Some n) None) ≡ cond b (Some (suc n)) None
    moved true n = let e : n + 1 ≡ suc n = omega arith in ap Some e
    moved false n = refl

-- an item of a list with one more item is an old one or the new one
pub slice_get-push : {X : Type 0} (xs : List X) (y z : X) (i : ℕ) → slice_get (xs ++ y ∷ []) i ≡ Some z → (slice_get xs i ≡ Some z) ⊎ ((i ≡ length xs) × (y ≡ z))
slice_get-push [] y z zero h = inr (refl, cc)
slice_get-push [] y z (suc i) h = cc
slice_get-push (x ∷ xs) y z zero h = inl h
slice_get-push (x ∷ xs) y z (suc i) h = elim (slice_get-push xs y z i h) [ inl e ↦ inl e | inr e ↦ inr (ap suc e.0, e.1) ]

-- what the place of a name says of the two lists
found_location : (o p : Option ℕ) (x : ℕ) → found o p ≡ Some (place.Location x) → o ≡ Some x
found_location None None x h = cc
found_location None (Some r) x h = cc
found_location (Some y) p x h = cc

found_scalar : (o p : Option ℕ) (r : ℕ) → found o p ≡ Some (place.Scalar r) → (o ≡ None) × (p ≡ Some r)
found_scalar None None r h = cc
found_scalar None (Some q) r h = (refl, cc)
found_scalar (Some y) p r h = cc

found_none : (o p : Option ℕ) → found o p ≡ None → (o ≡ None) × (p ≡ None)
found_none None None h = (refl, refl)
found_none None (Some q) h = cc
found_none (Some y) p h = cc

same_bytes : (a b : List ℕ) → bytes_eq a b ≡ true → a ≡ b
same_bytes a b h = (bytes_eq-Decides a b).0 h

bytes_eq-same : (a b : List ℕ) → a ≡ b → bytes_eq a b ≡ true
bytes_eq-same a b h = (bytes_eq-Decides a b).1 h

-- a declared name is no absent one
apart : (t : NameTable) (name other : List ℕ) (at : NameRef) → find name t ≡ None → find other t ≡ Some at → bytes_eq other name ≡ false
apart t name other at none some = by (bytes_eq other name) refl
  where
    by : (b : Bool) → bytes_eq other name ≡ b → b ≡ false
    by true e = let same : find other t ≡ find name t = ap (λ n. find n t) (same_bytes other name e) in cc
    by false e = refl

-- ---- lines

-- how many lines have begun after these, where n had before
abbrev pub lines_begun : ℕ → List ℕ → ℕ
lines_begun n [] = n
lines_begun n (k ∷ ks) = lines_begun (k + 1) ks

grouped_count : (n : ℕ) (ks : List ℕ) → AreGrouped n ks → max n (line_count ks) ≡ lines_begun n ks
grouped_count n [] are = let q : max n 0 ≡ n = omega arith in q
grouped_count n (k ∷ ks) are =
    let low = are.1 in
    let q : max n (max (k + 1) (line_count ks)) ≡ max (k + 1) (line_count ks) = omega (arith, low) in
    q ∙ grouped_count (k + 1) ks are.2

grouped_more : (n : ℕ) (ks : List ℕ) (k : ℕ) → AreGrouped n ks → k ≤ lines_begun n ks → lines_begun n ks ≤ k + 1 → AreGrouped n (ks ++ k ∷ [])
grouped_more n [] k are low high = (low, high, tt)
grouped_more n (j ∷ ks) k are low high = (are.0, are.1, grouped_more (j + 1) ks k are.2 low high)

grouped_few : (n : ℕ) (ks : List ℕ) → AreGrouped n ks → lines_begun n ks ≤ n + length ks
grouped_few n [] are = let q : n ≤ n + 0 = omega arith in q
grouped_few n (k ∷ ks) are =
    let rest = grouped_few (k + 1) ks are.2 in
    let high = are.0 in
    let q : lines_begun (k + 1) ks ≤ n + suc (length ks) = omega (arith, rest, high) in q

count_begun : (ks : List ℕ) → AreGrouped 0 ks → line_count ks ≡ lines_begun 0 ks
count_begun ks are = let q : line_count ks ≡ max 0 (line_count ks) = omega arith in q ∙ grouped_count 0 ks are

-- one more line of a location: it stands on the last line or begins the next one
pub count_more : (ks : List ℕ) (k : ℕ) → line_count (ks ++ k ∷ []) ≡ max (line_count ks) (k + 1)
count_more [] k = let q : max (k + 1) 0 ≡ max 0 (k + 1) = omega arith in q
count_more (j ∷ ks) k =
    let rest = count_more ks k in
    let q : max (j + 1) (line_count (ks ++ k ∷ [])) ≡ max (max (j + 1) (line_count ks)) (k + 1) = omega (arith, rest) in q

-- there are no more lines than locations
pub count_few : (t : NameTable) → IsNameTable t → line_count (lines t) ≤ length t.locations
count_few t is =
    let few = grouped_few 0 (lines t) is.grouped in
    let begun = count_begun (lines t) is.grouped in
    let long : length (lines t) ≡ length t.locations = length-map t.locations (λ (l : Location). l.line) in
    omega (arith, few, begun, long)

-- each location stands on one of the lines
pub line_within : (ks : List ℕ) (x k : ℕ) → slice_get ks x ≡ Some k → k < line_count ks
line_within [] x k h = cc
line_within (j ∷ ks) zero k h = let same : j ≡ k = cc in let q : k < max (j + 1) (line_count ks) = omega (arith, same) in q
line_within (j ∷ ks) (suc x) k h = let rest = line_within ks x k h in let q : k < max (j + 1) (line_count ks) = omega (arith, rest) in q

-- and where there is a location there is a line
some_in : (ls : List Location) → 1 ≤ length ls → 1 ≤ line_count (map (λ l. l.line) ls)
some_in [] some = absurd (omega (arith, some))
some_in (l ∷ ls) some = let q : 1 ≤ max (l.line + 1) (line_count (map (λ m. m.line) ls)) = omega arith in q

pub some_lines : (t : NameTable) → 1 ≤ length t.locations → 1 ≤ line_count (lines t)
some_lines t = some_in t.locations

-- where each location has a line of its own, there are as many lines as locations
own_count : (n : ℕ) (ls : List Location) → ((x : ℕ) (l : Location) → slice_get ls x ≡ Some l → l.line ≡ n + x) → max n (line_count (map (λ l. l.line) ls)) ≡ n + length ls
own_count n [] own = let q : max n 0 ≡ n + 0 = omega arith in q
own_count n (l ∷ ls) own =
    let first : l.line ≡ n + 0 = own 0 l refl in
    let rest = own_count (n + 1) ls (λ x m h. own (suc x) m h ∙ (let q : n + suc x ≡ n + 1 + x = omega arith in q)) in
    let q : max n (max (l.line + 1) (line_count (map (λ m. m.line) ls))) ≡ n + suc (length ls) = omega (arith, first, rest) in q

pub own_lines : (t : NameTable) → IsNameTable t → t.version ≡ 1 → line_count (lines t) ≡ length t.locations
own_lines t is one =
    let all = own_count 0 t.locations (λ x l h. is.apart one x l h ∙ (let q : x ≡ 0 + x = omega arith in q)) in
    let q : line_count (lines t) ≡ length t.locations = omega (arith, all) in q

-- ---- the limits

most-few : (version : ℕ) (b : Bool) → cond b most_locations_1 most_locations_2 ≤ most_locations_2
most-few version true = omega arith
most-few version false = omega arith

pub locations_few : (t : NameTable) → IsNameTable t → length t.locations ≤ most_locations_2
locations_few t is = let few = is.few_locations in let most = most-few t.version (t.version == 1) in omega (arith, few, most)

-- ---- the view of the entries

pub names_of-located : (es : List (List ℕ × Placed)) → map (λ l. l.name) (map location_of es) ≡ map (λ e. e.0) es
names_of-located [] = refl
names_of-located (e ∷ es) = ap (λ (ns : List (List ℕ)). e.0 ∷ ns) (names_of-located es)

pub located-more : (es : List (List ℕ × Placed)) (e : List ℕ × Placed) → map location_of (es ++ e ∷ []) ≡ map location_of es ++ location_of e ∷ []
located-more [] e = refl
located-more (f ∷ es) e = ap (λ (ls : List Location). location_of f ∷ ls) (located-more es e)

pub names-more : {X : Type 0} (f : X → List ℕ) (xs : List X) (x : X) → map f (xs ++ x ∷ []) ≡ map f xs ++ f x ∷ []
names-more f [] x = refl
names-more f (y ∷ xs) x = ap (λ (ns : List (List ℕ)). f y ∷ ns) (names-more f xs x)

pub lines-more : (ls : List Location) (l : Location) → map (λ m. m.line) (ls ++ l ∷ []) ≡ map (λ m. m.line) ls ++ l.line ∷ []
lines-more [] l = refl
lines-more (m ∷ ls) l = ap (λ (ks : List ℕ). m.line ∷ ks) (lines-more ls l)

-- an absent name is none of the locations
pub absent_location : (t : NameTable) (name : List ℕ) → find name t ≡ None → place_in name (location_names t) ≡ None
absent_location t name absent = (found_none (place_in name (location_names t)) (place_in name (scalar_names t)) absent).0

-- the location of an entry
pub located : (es : List (String Global × Placed)) (i : ℕ) (e : String Global × Placed) → slice_get es i ≡ Some e
    → slice_get (map location_of (by_bytes es)) i ≡ Some (location_of (string_bytes e.0, e.1))
located [] i e h = cc
located (d ∷ es) zero e h = let same : d ≡ e = cc in ap (λ (p : String Global × Placed). Some (location_of (string_bytes p.0, p.1))) same
located (d ∷ es) (suc i) e h = located es i e h

-- ---- one more name

module _ (t : NameTable) (name : List ℕ) (well : IsNameTable t) (absent : find name t ≡ None) where
  none : (place_in name (location_names t) ≡ None) × (place_in name (scalar_names t) ≡ None)
  none = found_none (place_in name (location_names t)) (place_in name (scalar_names t)) absent

  -- a location more, and the table is still one
  pub IsNameTable-location : (l : Location) → l.name ≡ name → length t.locations < most_locations t.version
      → l.line ≤ line_count (lines t) → line_count (lines t) ≤ l.line + 1 → (t.version ≡ 1 → l.line ≡ length t.locations) → IsNameTable (with_location l t)
  IsNameTable-location l called room low high apart_ = record {
    version = well.version;
    few_locations = rw (length-append t.locations (l ∷ [])) (omega (arith, room));
    few_scalars = well.few_scalars;
    own_location = λ x m h. elim (slice_get-push t.locations l m x h) [
      | inl e ↦ ap (λ o. found o (place_in m.name (scalar_names t)))
          (ap (place_in m.name) (names-more (λ (k : Location). k.name) t.locations l)
          ∙ place_in-kept m.name (location_names t) (l.name ∷ []) x (found_location (place_in m.name (location_names t)) (place_in m.name (scalar_names t)) x (well.own_location x m e)))
      | inr e ↦ let same : name ≡ m.name = sym called ∙ ap (λ (k : Location). k.name) e.1 in
          ap (λ o. found o (place_in m.name (scalar_names t)))
          (ap (place_in m.name) (names-more (λ (k : Location). k.name) t.locations l)
          ∙ place_in-new m.name l.name (location_names t) (subst (λ n. place_in n (location_names t) ≡ None) same none.0)
          ∙ cond-true (bytes_eq m.name l.name) (Some (length (location_names t))) None (bytes_eq-same m.name l.name (sym same ∙ sym called))
          ∙ ap Some (length-map t.locations (λ (k : Location). k.name) ∙ sym e.0))
    ];
    own_scalar = λ r is n h.
        let old = found_scalar (place_in n (location_names t)) (place_in n (scalar_names t)) r (well.own_scalar r is n h) in
        ap (λ o. found o (place_in n (scalar_names t)))
        (ap (place_in n) (names-more (λ (k : Location). k.name) t.locations l)
        ∙ place_in-new n l.name (location_names t) old.0
        ∙ cond-false (bytes_eq n l.name) (Some (length (location_names t))) None (ap (bytes_eq n) called ∙ apart t name n (place.Scalar r) absent (well.own_scalar r is n h)))
        ∙ ap (option_map place.Scalar) old.1;
    grouped = let begun = count_begun (lines t) well.grouped in
        subst (AreGrouped 0) (sym (lines-more t.locations l)) (grouped_more 0 (lines t) l.line well.grouped (omega (arith, low, begun)) (omega (arith, high, begun)));
    apart = λ one x m h. elim (slice_get-push t.locations l m x h) [
      | inl e ↦ well.apart one x m e
      | inr e ↦ sym (ap (λ (k : Location). k.line) e.1) ∙ apart_ one ∙ sym e.0
    ];
  }

  -- a scalar more, and the table is still one
  pub IsNameTable-scalar : (is : ScalarKind) → length t.scalars < most_scalars → IsNameTable (record t { scalars = t.scalars ++ (name, is) ∷ [] })
  IsNameTable-scalar is room = record {
    version = well.version;
    few_locations = well.few_locations;
    few_scalars = rw (length-append t.scalars ((name, is) ∷ [])) (omega (arith, room));
    own_location = λ x m h.
        ap (λ o. found o (place_in m.name (map (λ e. e.0) (t.scalars ++ (name, is) ∷ [])))) (found_location (place_in m.name (location_names t)) (place_in m.name (scalar_names t)) x (well.own_location x m h));
    own_scalar = λ r k n h. elim (slice_get-push t.scalars (name, is) (n, k) r h) [
      | inl e ↦ let old = found_scalar (place_in n (location_names t)) (place_in n (scalar_names t)) r (well.own_scalar r k n e) in
          ap (λ o. found o (place_in n (map (λ e. e.0) (t.scalars ++ (name, is) ∷ [])))) old.0
          ∙ ap (option_map place.Scalar) (ap (place_in n) (names-more (λ (e : List ℕ × ScalarKind). e.0) t.scalars (name, is)) ∙ place_in-kept n (scalar_names t) (name ∷ []) r old.1)
      | inr e ↦ let same : name ≡ n = ap (λ p. p.0) e.1 in
          ap (λ o. found o (place_in n (map (λ e. e.0) (t.scalars ++ (name, is) ∷ [])))) (subst (λ m. place_in m (location_names t) ≡ None) same none.0)
          ∙ ap (option_map place.Scalar) (ap (place_in n) (names-more (λ (e : List ℕ × ScalarKind). e.0) t.scalars (name, is))
          ∙ place_in-new n name (scalar_names t) (subst (λ m. place_in m (scalar_names t) ≡ None) same none.1)
          ∙ cond-true (bytes_eq n name) (Some (length (scalar_names t))) None (bytes_eq-same n name (sym same)) ∙ ap Some (length-map t.scalars (λ (e : List ℕ × ScalarKind). e.0) ∙ sym e.0))
    ];
    grouped = well.grouped;
    apart = well.apart;
  }

-- a list that a call extended, or left as it was
pub extended_or_left : {X E : Type 0} (P : List X → Type 0) (r : Result (Unit {0}) E) (old new : List X) (x : X)
    → OnOk r (new ≡ old ++ x ∷ []) → OnErr r (new ≡ old) → P old → P (old ++ x ∷ []) → P new
extended_or_left P (Ok u) old new x ok err left more = subst P (sym ok) more
extended_or_left P (Err e) old new x ok err left more = subst P (sym err) left
