-- Digits are read one by one.
use Rattle.std.proofs.Common.{◌≡◌, ℕ, suc, ◌+◌, ◌-◌, ◌*◌, ◌<◌, ◌≤◌, ◌^◌, Bool, true, false, ◌&&◌, cond, nat_lt, List, [], ◌∷◌, length, get_or, drop, Option, Some, None, ◌==◌, refl, sym, ap, ◌∙◌, arith, drop-cons}
use Rattle.std.proofs.lemmas.Bool.{and_parts}
use Rattle.pg_derivation.specs.Fault.{is_digit, all_digits, value_from, value_after, meant, number_in, literal_in}
use Rattle.pg_derivation.specs.Derivation.{IsNumber}
use Rattle.pg_region.specs.Literal.{Literal}

pub value_from_grows : (n : ℕ) (ds : List ℕ) → n ≤ value_from n ds
value_from_grows n [] = omega arith
value_from_grows n (d ∷ ds) = omega (arith, value_from_grows (n * 10 + (d - 48)) ds)

and_false : (b : Bool) → (b && false) ≡ false
and_false true = refl
and_false false = refl

too_great : (n : ℕ) (ds : List ℕ) → 2 ^ 31 ≤ n → value_after n ds ≡ None
too_great n ds h =
    let least : nat_lt (value_from n ds) (2 ^ 31) ≡ false = grind (arith, value_from_grows n ds) in
    rw (least, and_false (all_digits ds)) refl

-- a digit, and what is behind it
after : (n d : ℕ) (ds : List ℕ) → is_digit d ≡ true → value_after n (d ∷ ds) ≡ value_after (n * 10 + (d - 48)) ds
after n d ds h = rw h refl

none_after : (n d : ℕ) (ds : List ℕ) → is_digit d ≡ false → value_after n (d ∷ ds) ≡ None
none_after n d ds h = rw h refl

pub one_more : (ds : List ℕ) (i n : ℕ) (whole : Option ℕ) → i < length ds → is_digit (get_or ds i 0) ≡ true → value_after n (drop i ds) ≡ whole
    → value_after (n * 10 + (get_or ds i 0 - 48)) (drop (suc i) ds) ≡ whole
one_more ds i n whole lt h so_far =
    sym (after n (get_or ds i 0) (drop (suc i) ds) h) ∙ (ap (value_after n) (sym (drop-cons ds i 0 lt)) ∙ so_far)

pub above : (ds : List ℕ) (i n : ℕ) (whole : Option ℕ) → i < length ds → is_digit (get_or ds i 0) ≡ true → 2 ^ 31 ≤ n * 10 + (get_or ds i 0 - 48) → value_after n (drop i ds) ≡ whole → whole ≡ None
above ds i n whole lt h big so_far =
    sym (one_more ds i n whole lt h so_far) ∙ too_great (n * 10 + (get_or ds i 0 - 48)) (drop (suc i) ds) big

-- ---- which numbers are read

one_at_least : (b : ℕ) (bs : List ℕ) → is_digit b ≡ true → (b == 48) ≡ false → 1 ≤ value_from 0 (b ∷ bs)
one_at_least b bs digit other =
    let first : 1 ≤ 0 * 10 + (b - 48) = grind arith in
    omega (arith, first, value_from_grows (0 * 10 + (b - 48)) bs)

chosen : (t : Bool) (v n : ℕ) → cond t (Some v) None ≡ Some n → (t ≡ true) × (v ≡ n)
chosen true v n h = (refl, cc)
chosen false v n h = absurd cc

after_fits : (b : ℕ) (bs : List ℕ) (n : ℕ) → (b == 48) ≡ false → value_after 0 (b ∷ bs) ≡ Some n → IsNumber n
after_fits b bs n other h =
    let v = value_from 0 (b ∷ bs) in
    let is = chosen (all_digits (b ∷ bs) && nat_lt v (2 ^ 31)) v n h in
    let parts = and_parts (all_digits (b ∷ bs)) (nat_lt v (2 ^ 31)) is.0 in
    let digit = and_parts (is_digit b) (all_digits bs) parts.0 in
    let some = one_at_least b bs digit.0 other in
    let few : v < 2 ^ 31 = grind (arith, parts.1) in
    (omega (arith, some, is.1), omega (arith, few, is.1))

-- by whether the first digit is 0
by_first : (t : Bool) (o : Option ℕ) (n : ℕ) → Some n ≡ cond t None o → (t ≡ false) × (o ≡ Some n)
by_first true o n h = absurd cc
by_first false o n h = (refl, sym h)

pub number_fits : (w : List ℕ) (n : ℕ) → Some n ≡ number_in w → IsNumber n
unfolding number_in
number_fits [] n h = absurd cc
number_fits (b ∷ bs) n h =
    let is = by_first (b == 48) (value_after 0 (b ∷ bs)) n h in
    after_fits b bs n is.0 is.1

abbrev atom_or : Option Literal → ℕ
atom_or None = 0
atom_or (Some l) = l.atom

meant_fits : (positive : Bool) (w : List ℕ) (o : Option ℕ) (l : Literal) → o ≡ number_in w → Some l ≡ meant positive o → IsNumber l.atom
meant_fits positive w None l is h = absurd cc
meant_fits positive w (Some n) l is h =
    let atom : l.atom ≡ n = ap atom_or h in
    let fits = number_fits w n is in
    (omega (arith, fits.0, atom), omega (arith, fits.1, atom))

by_sign : (t : Bool) (v w : List ℕ) (l : Literal) → Some l ≡ cond t (meant false (number_in v)) (meant true (number_in w)) → IsNumber l.atom
by_sign true v w l h = meant_fits false v (number_in v) l refl h
by_sign false v w l h = meant_fits true w (number_in w) l refl h

pub literal_fits : (w : List ℕ) (l : Literal) → Some l ≡ literal_in w → IsNumber l.atom
unfolding literal_in
literal_fits [] l h = absurd cc
literal_fits (b ∷ bs) l h = by_sign (b == 45) bs (b ∷ bs) l h
