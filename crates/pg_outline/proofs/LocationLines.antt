-- The lines of the locations: a location is declared again on the line that it stood on.
use Rattle.std.proofs.Common.{◌≡◌, ◌≢◌, ℕ, zero, suc, ◌+◌, ◌-◌, ◌<◌, ◌≤◌, max, false, nat_le, List, [], ◌∷◌, ◌++◌, length, take, get_or, Option, Some, None, option_map, slice_get, refl, sym, ap, ◌∙◌, inl, inr, arith}
use Rattle.std.proofs.lemmas.Bool.{lt-leb, cases_lt}
use Rattle.std.proofs.lemmas.List.{take-map, take_more, length-take-le}
use Rattle.std.proofs.lemmas.Option.{slice_get-map, slice_get_within, slice_get-get_or, unwrap_or-slice_get}
use Rattle.std.specs.Option.{unwrap_or}
use Rattle.pg_program.specs.declared.name_table.NameKind.TheVariants as kind
use Rattle.pg_program.specs.Limits.{most_locations}
use Rattle.pg_program.specs.NameTable.{NameTable, Location, IsNameTable, AreGrouped, lines, line_count, with_location}
use Rattle.pg_outline.specs.Erasure.{first_locations, DeclaresAgain}

-- what a part of an item says that there is one
pub owned : {X Y : Type 0} (part : X → Y) (o : Option X) (y : Y) → option_map part o ≡ Some y → (x : X) × (o ≡ Some x) × (part x ≡ y)
owned part None y h = cc
owned part (Some x) y h = let same : part x ≡ y = cc in (x, refl, same)

one_more : {X : Type 0} (xs : List X) (i : ℕ) (x : X) → slice_get xs i ≡ Some x → take (i + 1) xs ≡ take i xs ++ x ∷ []
one_more {X} xs i x h =
    take_more xs i x (slice_get_within xs i x h)
    ∙ ap (λ (y : X). take i xs ++ y ∷ []) (sym (unwrap_or-slice_get xs i x) ∙ ap (λ (o : Option X). unwrap_or o x) h)

-- ---- lines

-- Where n lines have begun before these, a location begins the next line or stands on the last one.
line_here : (n : ℕ) (ks : List ℕ) (x k : ℕ) → AreGrouped n ks → slice_get ks x ≡ Some k
    → (k ≤ max n (line_count (take x ks))) × (max n (line_count (take x ks)) ≤ k + 1)
line_here n [] x k are at = cc
line_here n (j ∷ ks) zero k are at =
    let same : j ≡ k = cc in
    let low = are.0 in
    let high = are.1 in
    let q : (k ≤ max n 0) × (max n 0 ≤ k + 1) = (omega (arith, same, low), omega (arith, same, high)) in q
line_here n (j ∷ ks) (suc x) k are at =
    let rest = line_here (j + 1) ks x k are.2 at in
    let low = rest.0 in
    let high = rest.1 in
    let begun = are.1 in
    let q : (k ≤ max n (max (j + 1) (line_count (take x ks)))) × (max n (max (j + 1) (line_count (take x ks))) ≤ k + 1) = (omega (arith, low, begun), omega (arith, high, begun)) in q

-- and with it its line is the last one
line_last : (n : ℕ) (ks : List ℕ) (x k : ℕ) → AreGrouped n ks → slice_get ks x ≡ Some k → max n (line_count (take (suc x) ks)) ≡ k + 1
line_last n [] x k are at = cc
line_last n (j ∷ ks) zero k are at =
    let same : j ≡ k = cc in
    let high = are.1 in
    let q : max n (max (j + 1) 0) ≡ k + 1 = omega (arith, same, high) in q
line_last n (j ∷ ks) (suc x) k are at =
    let rest = line_last (j + 1) ks x k are.2 at in
    let begun = are.1 in
    let q : max n (max (j + 1) (line_count (take (suc x) ks))) ≡ k + 1 = omega (arith, rest, begun) in q

-- ---- a location behind those before it

module _ (names : NameTable) (well : IsNameTable names) (x : ℕ) (here : x < length names.locations) where
  -- how many lines have begun
  abbrev begun : ℕ
  begun = line_count (lines (first_locations x names))

  begun_is : line_count (take x (lines names)) ≡ begun
  begun_is = ap line_count (take-map (λ (l : Location). l.line) x names.locations)

  line_at : (y k : ℕ) → option_map (λ l. l.line) (slice_get names.locations y) ≡ Some k → slice_get (lines names) y ≡ Some k
  line_at y k h = slice_get-map (λ (l : Location). l.line) names.locations y ∙ h

  room : nat_le (most_locations names.version) (length (take x names.locations)) ≡ false
  room =
      let few = well.few_locations in
      let long = length-take-le x names.locations (omega (arith, here)) in
      lt-leb (most_locations names.version) (length (take x names.locations)) (omega (arith, here, few, long))

  -- its name, its initial value and its line are what they were
  same : (init line : ℕ) (l : Location) → slice_get names.locations x ≡ Some l → l.init ≡ init → l.line ≡ line
      → with_location (record { name = l.name; init = init; line = line }) (first_locations x names) ≡ first_locations (x + 1) names
  same init line l at value on =
      ap (λ (i : ℕ). with_location (record { name = l.name; init = i; line = line }) (first_locations x names)) (sym value)
      ∙ ap (λ (k : ℕ). with_location (record { name = l.name; init = l.init; line = k }) (first_locations x names)) (sym on)
      ∙ ap (λ (ls : List Location). let t : NameTable = record names { locations = ls; scalars = [] } in t) (sym (one_more names.locations x l at))

  part_is : {Y : Type 0} (part : Location → Y) (l : Location) (y : Y) → slice_get names.locations x ≡ Some l → option_map part (slice_get names.locations x) ≡ Some y → part l ≡ y
  part_is part l y at h = let q : option_map part (Some l) ≡ Some y = sym (ap (option_map part) at) ∙ h in cc

  begins : (init line : ℕ) → option_map (λ l. l.init) (slice_get names.locations x) ≡ Some init → option_map (λ l. l.line) (slice_get names.locations x) ≡ Some line
      → line ≡ begun → DeclaresAgain names x (kind.Location init)
  begins init line value on is = record {
    room = room;
    joins = tt;
    same = λ l at. same init begun l at (part_is (λ (m : Location). m.init) l init at value) (part_is (λ (m : Location). m.line) l line at on ∙ is);
  }

  -- the first location begins a line
  pub first_begins : (init : ℕ) → option_map (λ l. l.init) (slice_get names.locations x) ≡ Some init → x ≡ 0 → DeclaresAgain names x (kind.Location init)
  first_begins init value first =
      let own = owned (λ (l : Location). l.init) (slice_get names.locations x) init value in
      let on : option_map (λ l. l.line) (slice_get names.locations x) ≡ Some own.0.line = ap (option_map (λ (l : Location). l.line)) own.1 in
      let low = (line_here 0 (lines names) x own.0.line well.grouped (line_at x own.0.line on)).0 in
      let none : line_count (take x (lines names)) ≡ 0 = ap (λ (n : ℕ). line_count (take n (lines names))) first in
      let is = begun_is in
      begins init own.0.line value on (omega (arith, low, none, is))

  -- the line of the one before it is the last that has begun
  last_is : (j : ℕ) → 1 ≤ x → option_map (λ l. l.line) (slice_get names.locations (x - 1)) ≡ Some j → begun ≡ j + 1
  last_is j some on =
      let last = line_last 0 (lines names) (x - 1) j well.grouped (line_at (x - 1) j on) in
      let next : suc (x - 1) ≡ x = omega (arith, some) in
      let same : line_count (take (suc (x - 1)) (lines names)) ≡ line_count (take x (lines names)) = ap (λ (n : ℕ). line_count (take n (lines names))) next in
      let is = begun_is in
      omega (arith, last, same, is)

  -- a location that does not stand on the line of the one before it begins a line
  pub other_begins : (init k j : ℕ) → option_map (λ l. l.init) (slice_get names.locations x) ≡ Some init → 1 ≤ x
      → option_map (λ l. l.line) (slice_get names.locations x) ≡ Some k → option_map (λ l. l.line) (slice_get names.locations (x - 1)) ≡ Some j → k ≢ j → DeclaresAgain names x (kind.Location init)
  other_begins init k j value some on before differs =
      let low = line_here 0 (lines names) x k well.grouped (line_at x k on) in
      let least = low.0 in
      let most = low.1 in
      let last = last_is j some before in
      let is = begun_is in
      begins init k value on (omega (arith, least, most, last, is, differs))

  -- in version 1 each location does
  pub own_begins : names.version ≡ 1 → (l : Location) → slice_get names.locations x ≡ Some l → DeclaresAgain names x (kind.Location l.init)
  own_begins one l at = elim (cases_lt 0 x) [
    | inl some ↦
        let before = get_or names.locations (x - 1) l in
        let there : slice_get names.locations (x - 1) ≡ Some before = slice_get-get_or names.locations (x - 1) l (omega (arith, here, some)) in
        let last = last_is before.line (omega (arith, some)) (ap (option_map (λ (m : Location). m.line)) there) in
        let a = well.apart one x l at in
        let b = well.apart one (x - 1) before there in
        begins l.init l.line value (ap (option_map (λ (m : Location). m.line)) at) (omega (arith, a, b, last, some))
    | inr none ↦ first_begins l.init value (omega (arith, none))
  ]
    where
      value : option_map (λ m. m.init) (slice_get names.locations x) ≡ Some l.init
      value = ap (option_map (λ (m : Location). m.init)) at

  -- and one that stands on the line of the one before it is declared so, in version 2
  pub stands_with : (init k j : ℕ) → option_map (λ l. l.init) (slice_get names.locations x) ≡ Some init → 1 ≤ x
      → option_map (λ l. l.line) (slice_get names.locations x) ≡ Some k → option_map (λ l. l.line) (slice_get names.locations (x - 1)) ≡ Some j → k ≡ j → DeclaresAgain names x (kind.LocationWith init)
  stands_with init k j value some on before is = record {
    room = room;
    joins = (second, let long = length-take-le x names.locations (omega (arith, here)) in omega (arith, long, some));
    same = λ l at. same init (begun - 1) l at (part_is (λ (m : Location). m.init) l init at value)
        (part_is (λ (m : Location). m.line) l k at on ∙ (let last = last_is j some before in omega (arith, last, is)));
  }
    where
      second : names.version ≡ 2
      second = elim well.version [
        | inl one ↦
            let here = owned (λ (l : Location). l.line) (slice_get names.locations x) k on in
            let there = owned (λ (l : Location). l.line) (slice_get names.locations (x - 1)) j before in
            let a = sym here.2 ∙ well.apart one x here.0 here.1 in
            let b = sym there.2 ∙ well.apart one (x - 1) there.0 there.1 in
            absurd (omega (arith, a, b, is, some))
        | inr two ↦ two
      ]
