-- What an atom is spelled with stands for it: its numbers, its names, and the atom.
use Rattle.std.proofs.Common.{◌≡◌, ℕ, Bool, true, false, ◌+◌, ◌*◌, ◌-◌, ◌<◌, ◌≤◌, ◌%◌, ◌^◌, ◌||◌, inl, inr, List, [], ◌∷◌, ◌++◌, length, refl, sym, ap, subst, ◌∙◌, arith, le-leb}
use Rattle.std.specs.Prelude.{All, Option, Some, ◌==◌, decimal, option_map, slice_get, unwrap_or}
use Rattle.std.proofs.lemmas.Bool.Decides.{eqb_tells}
use Rattle.std.proofs.lemmas.Fmt.{decimal_by_steps}
use Rattle.std.proofs.lemmas.Option.{slice_get_cases}
use Rattle.std.proofs.Math.Nat.{div-add-mod}
use Rattle.pg_lex.specs.declared.token.Sign.TheVariants as s
use Rattle.pg_lex.specs.Piece.{is_lower, is_digit, is_letter, value, value_from}
use Rattle.pg_lex.specs.Lex.{Cursor}
use Rattle.pg_lex.specs.Grammar.{AllIn, Begins, Stops}
use Rattle.pg_program.specs.declared.name_table.ScalarKind.{ScalarKind}
use Rattle.pg_program.specs.NameTable.{NameTable, Location, IsNameTable}
use Rattle.pg_assertion.specs.declared.atom.ViewAtom.{ViewAtom}
use Rattle.pg_assertion.specs.declared.atom.ViewAtom.TheVariants as view
use Rattle.pg_assertion.specs.declared.atom.CrashAtom.{CrashAtom}
use Rattle.pg_assertion.specs.declared.atom.CrashAtom.TheVariants as crash
use Rattle.pg_assertion_text.specs.Words.{Item, Stands, Stand, sign, number, location, scalar}
use Rattle.pg_assertion_text.specs.Atoms.{listed, applied, IsRaw, IsCrash}
use Rattle.pg_assertion_text.specs.Spelling.{Ends, IsName, AreNames, name_in, location_name, scalar_name, equation, arguments, spell_atom, spell_crash}
use Rattle.pg_assertion.specs.Atom.{raw_of}
use Rattle.pg_assertion_text.specs.SpellingLaws.{IsWritable, IsWritableCrash}
use Rattle.pg_assertion_text.proofs.SpellingTokens.{Spells, Anything, joined, blank, mapped, widened, is_equal, letter_stands, open_stands, close_stands, comma_stands, equal_stands, word_stands, number_stands}

-- ---- numbers

value_from-append : (n : ℕ) (ds : List ℕ) (d : ℕ) → value_from n (ds ++ d ∷ []) ≡ 10 * value_from n ds + (d - 48)
value_from-append n [] d = refl
value_from-append n (e ∷ ds) d = value_from-append (10 * n + (e - 48)) ds d

begins_append : (class : ℕ → Bool) (ds es : List ℕ) → Begins class ds → Begins class (ds ++ es)
begins_append class [] es h = absurd h
begins_append class (d ∷ ds) es h = h

all_append : (class : ℕ → Bool) (ds es : List ℕ) → AllIn class ds → AllIn class es → AllIn class (ds ++ es)
all_append class [] es h k = k
all_append class (d ∷ ds) es h k = (h.0, all_append class ds es h.1 k)

digit_is : (d : ℕ) → d < 10 → is_digit (48 + d) ≡ true
digit_is d h =
    let low : 48 ≤ 48 + d = omega arith in
    let high : 48 + d ≤ 57 = omega arith in
    rw (le-leb 48 (48 + d) low, le-leb (48 + d) 57 high) refl

-- digits that spell the number
record AreDigits (n : ℕ) (ds : List ℕ) : Type 0 where
  begins : Begins is_digit ds
  all_in : AllIn is_digit ds
  value_is : value ds ≡ n

decimal_is : (n : ℕ) → n < 2 ^ 64 → AreDigits n (decimal n)
decimal_is n small =
    decimal_by_steps AreDigits
    (λ d h. let first : 10 * 0 + (48 + d - 48) ≡ d = omega arith in record { begins = digit_is d h; all_in = (digit_is d h, tt); value_is = first })
    (λ m ds above before.
    let d = m % 10 in
    let last : d < 10 = omega arith in
    let whole : 10 * value ds + (48 + d - 48) ≡ m = omega (arith, before.value_is, div-add-mod m 10) in
    record {
      begins = begins_append is_digit ds ((48 + d) ∷ []) before.begins;
      all_in = all_append is_digit ds ((48 + d) ∷ []) before.all_in (digit_is d last, tt);
      value_is = value_from-append 0 ds (48 + d) ∙ whole;
    })
    n small

no_digit : (x y z : Bool) → (x || y || z) ≡ false → y ≡ false
no_digit true y z h = absurd (cc)
no_digit false true z h = absurd (cc)
no_digit false false z h = refl

ends_digits : (more : List ℕ) → Ends more → Stops is_digit more
ends_digits [] h = tt
ends_digits (b ∷ bs) h = no_digit (is_lower b) (is_digit b) (b == 95) h

pub number_spells : (names : NameTable) (n : ℕ) → n < 2 ^ 32 → Spells Ends (Stands names (number n)) (decimal n)
number_spells names n small =
    let digits : AreDigits n (decimal n) = decimal_is n (omega arith) in
    number_stands names n (decimal n) (λ more ok. (digits.begins, (digits.all_in, ends_digits more ok), sym digits.value_is, small))

-- ---- names

-- what a place of a table has
record HasName {E : Type 0} (name : E → List ℕ) (entries : List E) (i : ℕ) : Type 0 where
  entry : E
  stands : slice_get entries i ≡ Some entry
  is_name : IsName (name entry)

has_name : {E : Type 0} (name : E → List ℕ) (entries : List E) (i : ℕ) → All (λ e. IsName (name e)) entries → i < length entries → HasName name entries i
has_name name entries i are within =
    elim (slice_get_cases entries i).1 [
      | inl e ↦ record { entry = e.0; stands = e.2; is_name = subst (λ x. IsName (name x)) e.3 (are i e.0 e.1) }
      | inr e ↦ absurd (omega (arith, e.0, within))
    ]

name_is : {E : Type 0} (name : E → List ℕ) (entries : List E) (i : ℕ) (h : HasName name entries i) → name h.entry ≡ name_in name entries i
name_is {E} name entries i h = sym (ap (λ (o : Option E). unwrap_or (option_map name o) []) h.stands)

pub location_spells : (names : NameTable) (x : ℕ) → IsNameTable names → AreNames names → x < length names.locations
    → Spells Ends (Stands names (location x)) (location_name names x)
location_spells names x table are within =
    let h = has_name (λ (l : Location). l.name) names.locations x are.locations within in
    subst (Spells Ends (Stands names (location x))) (name_is (λ (l : Location). l.name) names.locations x h)
    (word_stands names (location x) h.entry.name (λ place. (refl, h.is_name.free, table.own_location x h.entry h.stands)) h.is_name.begins h.is_name.word h.is_name.short)

pub scalar_spells : (names : NameTable) (r : ℕ) → IsNameTable names → AreNames names → r < length names.scalars
    → Spells Ends (Stands names (scalar r)) (scalar_name names r)
scalar_spells names r table are within =
    let h = has_name (λ (e : List ℕ × ScalarKind). e.0) names.scalars r are.scalars within in
    subst (Spells Ends (Stands names (scalar r))) (name_is (λ (e : List ℕ × ScalarKind). e.0) names.scalars r h)
    (word_stands names (scalar r) h.entry.0 (λ place. (refl, h.is_name.free, table.own_scalar r h.entry.1 h.entry.0 h.stands)) h.is_name.begins h.is_name.word h.is_name.short)

name_begins : {E : Type 0} (name : E → List ℕ) (entries : List E) (i : ℕ) → All (λ e. IsName (name e)) entries → i < length entries → Begins is_lower (name_in name entries i)
name_begins name entries i are within =
    let h = has_name name entries i are within in subst (Begins is_lower) (name_is name entries i h) h.is_name.begins

pub location_begins : (names : NameTable) (x : ℕ) → AreNames names → x < length names.locations → Begins is_lower (location_name names x)
location_begins names x are within = name_begins (λ (l : Location). l.name) names.locations x are.locations within

pub scalar_begins : (names : NameTable) (r : ℕ) → AreNames names → r < length names.scalars → Begins is_lower (scalar_name names r)
scalar_begins names r are within = name_begins (λ (e : List ℕ × ScalarKind). e.0) names.scalars r are.scalars within

-- ---- items

pub last : {P : List ℕ → Type 0} {names : NameTable} {i : Item} {w : List ℕ} → Spells P (Stands names i) w → Spells P (Stand names (i ∷ [])) w
last a = mapped a (λ from to stands. (to, stands, refl))

abbrev EachSpells : NameTable → List Item → List (List ℕ) → Type 0
EachSpells names [] [] = Unit {0}
EachSpells names [] (w ∷ ws) = ⊥
EachSpells names (i ∷ is) [] = ⊥
EachSpells names (i ∷ is) (w ∷ ws) = Spells Ends (Stands names i) w × EachSpells names is ws

listed_spells : (names : NameTable) (is : List Item) (ws : List (List ℕ)) → EachSpells names is ws → Spells Anything (Stand names (listed is)) (arguments ws)
listed_spells names [] [] h = last (close_stands names)
listed_spells names [] (w ∷ ws) h = absurd h
listed_spells names (i ∷ is) [] h = absurd h
listed_spells names (i ∷ []) (w ∷ []) h = joined h.0 (last (close_stands names)) (λ more ok. refl)
listed_spells names (i ∷ []) (w ∷ v ∷ ws) h = absurd h.1
listed_spells names (i ∷ j ∷ is) (w ∷ []) h = absurd h.1
listed_spells names (i ∷ j ∷ is) (w ∷ v ∷ ws) h =
    joined h.0 (joined (comma_stands names) (listed_spells names (j ∷ is) (v ∷ ws) h.1) (λ more ok. tt)) (λ more ok. refl)

applied_spells : (names : NameTable) (b : ℕ) (is : List Item) (ws : List (List ℕ)) → is_letter b ≡ true → EachSpells names is ws
    → Spells Ends (Stand names (applied b is)) (b ∷ 40 ∷ arguments ws)
applied_spells names b is ws is_one h =
    widened (joined (letter_stands names b is_one) (joined (open_stands names) (listed_spells names is ws h) (λ more ok. tt)) (λ more ok. tt))

equation_spells : (names : NameTable) (i : Item) (name : List ℕ) (k : ℕ) → Spells Ends (Stands names i) name → k < 2 ^ 32
    → Spells Ends (Stand names (i ∷ sign s.Equal ∷ number k ∷ [])) (equation name k)
equation_spells names i name k h small =
    joined h (blank (joined (equal_stands names) (blank (last (number_spells names k small))) (λ more ok. tt))) (λ more ok. refl)

-- ---- atoms

-- the spelling stands for the atom, and does not begin with `=`
pub record IsSpelled {T U : Type 0} (IsAtom : Cursor → U → Cursor → Type 0) (image : T → U) (of_atom : T → List ℕ) (a : T) : Type 0 where
  pub spells : Spells Ends (λ from to. IsAtom from (image a) to) (of_atom a)
  pub begins : (more : List ℕ) → Stops is_equal (of_atom a ++ more)

no_equal : (b : ℕ) → is_lower b ≡ true → is_equal b ≡ false
no_equal b h =
    elim (eqb_tells 61 b)
    [ inl e ↦ absurd (let wrong : false ≡ true = subst (λ (k : ℕ). is_lower k ≡ true) (sym e.1) h in cc) | inr e ↦ e.0 ]

equation_begins : (name rest more : List ℕ) → Begins is_lower name → Stops is_equal ((name ++ rest) ++ more)
equation_begins [] rest more h = absurd h
equation_begins (b ∷ bs) rest more h = no_equal b h

pub raw_spelled : (names : NameTable) (a : ViewAtom) → IsNameTable names → AreNames names → IsWritable names a
    → IsSpelled (IsRaw names) raw_of (spell_atom names) a
raw_spelled names (view.Scalar r k) table are h = record {
  spells = equation_spells names (scalar r) (scalar_name names r) k (scalar_spells names r table are h.0) h.1;
  begins = λ more. equation_begins (scalar_name names r) _ more (scalar_begins names r are h.0);
}
raw_spelled names (view.Last x v) table are h = record {
  spells = applied_spells names 76 (location x ∷ number v ∷ []) (location_name names x ∷ decimal v ∷ []) refl (location_spells names x table are h.0, (number_spells names v h.1, tt));
  begins = λ more. refl;
}
raw_spelled names (view.Read t x v) table are h = record {
  spells = applied_spells names 82 (number t ∷ location x ∷ number v ∷ []) (decimal t ∷ location_name names x ∷ decimal v ∷ []) refl (number_spells names t h.1.0, (location_spells names x table are h.0, (number_spells names v h.1.1, tt)));
  begins = λ more. refl;
}
raw_spelled names (view.Persist x v) table are h = record {
  spells = applied_spells names 80 (location x ∷ number v ∷ []) (location_name names x ∷ decimal v ∷ []) refl (location_spells names x table are h.0, (number_spells names v h.1, tt));
  begins = λ more. refl;
}
raw_spelled names (view.Async t x v) table are h = record {
  spells = applied_spells names 65 (number t ∷ location x ∷ number v ∷ []) (decimal t ∷ location_name names x ∷ decimal v ∷ []) refl (number_spells names t h.1.0, (location_spells names x table are h.0, (number_spells names v h.1.1, tt)));
  begins = λ more. refl;
}
raw_spelled names (view.Then t x v y w) table are h = record {
  spells =
      applied_spells names 67 (number t ∷ location x ∷ number v ∷ location y ∷ number w ∷ []) (decimal t ∷ location_name names x ∷ decimal v ∷ location_name names y ∷ decimal w ∷ []) refl (number_spells names t h.1.0, (location_spells names x table are h.0.0, (number_spells names v h.1.1, (location_spells names y table are h.0.1, (number_spells names w h.1.2, tt)))));
  begins = λ more. refl;
}
raw_spelled names (view.Newest t x) table are h = record {
  spells = applied_spells names 78 (number t ∷ location x ∷ []) (decimal t ∷ location_name names x ∷ []) refl (number_spells names t h.1, (location_spells names x table are h.0, tt));
  begins = λ more. refl;
}
raw_spelled names (view.Ordered t x) table are h = record {
  spells = applied_spells names 79 (number t ∷ location x ∷ []) (decimal t ∷ location_name names x ∷ []) refl (number_spells names t h.1, (location_spells names x table are h.0, tt));
  begins = λ more. refl;
}
raw_spelled names (view.Fenced t x) table are h = record {
  spells = applied_spells names 70 (number t ∷ location x ∷ []) (decimal t ∷ location_name names x ∷ []) refl (number_spells names t h.1, (location_spells names x table are h.0, tt));
  begins = λ more. refl;
}

pub crash_spelled : (names : NameTable) (a : CrashAtom) → IsNameTable names → AreNames names → IsWritableCrash names a
    → IsSpelled (IsCrash names) (λ b. b) (spell_crash names) a
crash_spelled names (crash.Scalar r k) table are h = record {
  spells = equation_spells names (scalar r) (scalar_name names r) k (scalar_spells names r table are h.0) h.1;
  begins = λ more. equation_begins (scalar_name names r) _ more (scalar_begins names r are h.0);
}
crash_spelled names (crash.Location x v) table are h = record {
  spells = equation_spells names (location x) (location_name names x) v (location_spells names x table are h.0) h.1;
  begins = λ more. equation_begins (location_name names x) _ more (location_begins names x are h.0);
}
