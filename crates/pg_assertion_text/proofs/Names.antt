-- What stands in a text can be written: a name that was found stands in the table, and a number is small.
use Rattle.std.proofs.Common.{◌≡◌, ℕ, ◌+◌, ◌<◌, ◌^◌, Bool, true, false, Some, None, List, [], ◌∷◌, length, refl, subst, arith, cond}
use Rattle.std.specs.Prelude.{Option, option_map}
use Rattle.std.specs.Str.{bytes_eq}
use Rattle.pg_lex.specs.declared.token.TokenKind.{TokenKind}
use Rattle.pg_lex.specs.Lex.{Cursor, after}
use Rattle.pg_lex.specs.Grammar.{IsToken}
use Rattle.pg_lex.proofs.Cursors.{munches_most}
use Rattle.std.proofs.lemmas.List.{length-map}
use Rattle.pg_program.specs.declared.name_table.ScalarKind.{ScalarKind}
use Rattle.pg_program.specs.NameTable.{NameTable, Location, location_names, scalar_names, place_in, found, find}
use Rattle.pg_program.specs.declared.name_table.NameRef.TheVariants as place
use Rattle.pg_assertion_text.specs.Words.{Item, sign, letter, number, word, location, scalar, Stands, Stand}

-- ---- names

pub place_within : (w : List ℕ) (ns : List (List ℕ)) (i : ℕ) → place_in w ns ≡ Some i → i < length ns
place_within w [] i h = cc
place_within w (n ∷ ns) i h = by (bytes_eq w n) (place_in w ns) (place_within w ns) i h
  where
    by : (b : Bool) (o : Option ℕ) → ((j : ℕ) → o ≡ Some j → j < length ns) → (i : ℕ) → cond b (Some 0) (option_map (λ i. i + 1) o) ≡ Some i → i < length (n ∷ ns)
    by true o rest i h = let z : 0 ≡ i = cc in omega arith
    by false None rest i h = cc
    by false (Some j) rest i h = let z : j + 1 ≡ i = cc in let q = rest j refl in omega arith

found_scalar : (l s : Option ℕ) (r : ℕ) → found l s ≡ Some (place.Scalar r) → s ≡ Some r
found_scalar (Some x) s r h = cc
found_scalar None None r h = cc
found_scalar None (Some q) r h = cc

found_location : (l s : Option ℕ) (x : ℕ) → found l s ≡ Some (place.Location x) → l ≡ Some x
found_location (Some y) s x h = cc
found_location None None x h = cc
found_location None (Some q) x h = cc

-- a name that was found is one of the table
pub scalar_within : (names : NameTable) (w : List ℕ) (r : ℕ) → find w names ≡ Some (place.Scalar r) → r < length names.scalars
scalar_within names w r h =
    let low = place_within w (scalar_names names) r (found_scalar (place_in w (location_names names)) (place_in w (scalar_names names)) r h) in
    let long : length (scalar_names names) ≡ length names.scalars = length-map names.scalars (λ (e : List ℕ × ScalarKind). e.0) in
    omega (arith, low, long)

location_within : (names : NameTable) (w : List ℕ) (x : ℕ) → find w names ≡ Some (place.Location x) → x < length names.locations
location_within names w x h =
    let low = place_within w (location_names names) x (found_location (place_in w (location_names names)) (place_in w (scalar_names names)) x h) in
    let long : length (location_names names) ≡ length names.locations = length-map names.locations (λ (l : Location). l.name) in
    omega (arith, low, long)

-- ---- items

-- an item of a phrase can be written
abbrev pub ItemFits : NameTable → Item → Type 0
ItemFits names (sign s) = Unit {0}
ItemFits names (letter b) = Unit {0}
ItemFits names (number n) = n < 2 ^ 32
ItemFits names (word w) = Unit {0}
ItemFits names (location x) = x < length names.locations
ItemFits names (scalar r) = r < length names.scalars

pub item_fits : (names : NameTable) (i : Item) (from to : Cursor) → Stands names i from to → ItemFits names i
item_fits names (sign s) from to st = tt
item_fits names (letter b) from to st = tt
item_fits names (number n) from to st =
    let text = st.lexeme.text in
    (subst (λ (k : TokenKind). IsToken k text (after from).rest) st.matches (munches_most from st.lexeme st.read)).3
item_fits names (word w) from to st = tt
item_fits names (location x) from to st = location_within names st.lexeme.text x st.matches.2
item_fits names (scalar r) from to st = scalar_within names st.lexeme.text r st.matches.2

-- each item of a phrase
abbrev pub ItemsFit : NameTable → List Item → Type 0
ItemsFit names [] = Unit {0}
ItemsFit names (i ∷ is) = ItemFits names i × ItemsFit names is

pub items_fit : (names : NameTable) (is : List Item) (from to : Cursor) → Stand names is from to → ItemsFit names is
items_fit names [] from to st = tt
items_fit names (i ∷ is) from to st = (item_fits names i from st.0 st.1, items_fit names is st.0 to st.2)
