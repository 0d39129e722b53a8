-- Numbers and literals, and the words that spell them.
use Rattle.std.proofs.Common.{◌≡◌, ℕ, ◌<◌, ◌^◌, Bool, true, false, ◌&&◌, ◌==◌, cond, nat_le, nat_lt, List, [], ◌∷◌, ◌++◌, length, get_or, Option, Some, None, refl, sym, ap, subst, ◌∙◌, arith}
use Rattle.std.specs.Prelude.{decimal}
use Rattle.std.specs.Int.{IsInRange}
use Rattle.std.specs.List.{AllByRecursion}
use Rattle.std.proofs.lemmas.Bool.{and_parts, and_from}
use Rattle.std.proofs.lemmas.Fmt.{digits_decimal, digits_value-decimal, first_decimal, decimal-digits_value}
use Rattle.std.proofs.lemmas.Str.Parse.{IsDigitsTest, FoldsDigits, IsNumeralModel, numerals_by_fold}
use Rattle.pg_region.specs.Literal.{Literal}
use Rattle.pg_derivation.specs.Derivation.{IsNumber}
use Rattle.pg_derivation.specs.Fault.{is_digit, all_digits, value_from, value_after, number_in, meant, literal_in, in_word}
use Rattle.pg_derivation.specs.Text.{sign_text, literal_text}
use Rattle.pg_derivation.proofs.Numbers.{number_fits}

-- ---- digits

in_range : (c : ℕ) → is_digit c ≡ true → IsInRange 48 57 c
in_range c h = let p = and_parts (nat_le 48 c) (nat_le c 57) h in (grind (arith, p.0), grind (arith, p.1))

digit : (c : ℕ) → IsInRange 48 57 c → is_digit c ≡ true
digit c h = let a : nat_le 48 c ≡ true = grind (arith, h.0) in let b : nat_le c 57 ≡ true = grind (arith, h.1) in and_from (nat_le 48 c) (nat_le c 57) a b

abbrev AreDigits : List ℕ → Type 0
AreDigits ds = all_digits ds ≡ true

tells : IsDigitsTest AreDigits
tells = record {
  empty = refl;
  parts = λ c cs h. let p = and_parts (is_digit c) (all_digits cs) h in (in_range c p.0, p.1);
  more = λ c cs r h. and_from (is_digit c) (all_digits cs) (digit c r) h;
}

folds : FoldsDigits value_from
folds = record { empty = λ n. refl; more = λ n c cs r. refl }

own : IsNumeralModel AreDigits (value_from 0)
own = numerals_by_fold AreDigits tells value_from folds

-- ---- numbers

number_is : (w : List ℕ) (n : ℕ) → all_digits w ≡ true → value_from 0 w ≡ n → 48 < get_or w 0 0 → n < 2 ^ 31 → number_in w ≡ Some n
unfolding number_in
number_is [] n d v f lt = absurd (omega arith)
number_is (b ∷ bs) n d v f lt =
    let other : (b == 48) ≡ false = grind arith in
    let few : nat_lt n (2 ^ 31) ≡ true = grind arith in
    let both : (all_digits (b ∷ bs) && nat_lt (value_from 0 (b ∷ bs)) (2 ^ 31)) ≡ true = and_from _ _ d (rw v few) in
    rw (other, both, v) refl

pub number_in-decimal : (n : ℕ) → IsNumber n → number_in (decimal n) ≡ Some n
number_in-decimal n h =
    let small : n < 2 ^ 64 = omega (arith, h.1) in
    number_is (decimal n) n (digits_decimal own n small) (digits_value-decimal own n small) (first_decimal n (omega (arith, h.0)) small) h.1

by_first : (t : Bool) (o : Option ℕ) (n : ℕ) → cond t None o ≡ Some n → (t ≡ false) × (o ≡ Some n)
by_first true o n h = absurd cc
by_first false o n h = (refl, h)

chosen : (t : Bool) (v n : ℕ) → cond t (Some v) None ≡ Some n → (t ≡ true) × (v ≡ n)
chosen true v n h = (refl, cc)
chosen false v n h = absurd cc

spelled : (b : ℕ) (bs : List ℕ) (n : ℕ) → all_digits (b ∷ bs) ≡ true → (b == 48) ≡ false → value_from 0 (b ∷ bs) ≡ n → n < 2 ^ 64 → b ∷ bs ≡ decimal n
spelled b bs n d other v small =
    let none : (get_or (b ∷ bs) 0 0 ≡ 48 → length (b ∷ bs) ≡ 1) = λ e. absurd (grind (arith, other, e)) in
    sym (decimal-digits_value own (b ∷ bs) d (omega arith) none (omega (arith, v))) ∙ ap decimal v

pub decimal-number_in : (w : List ℕ) (n : ℕ) → number_in w ≡ Some n → (w ≡ decimal n) × IsNumber n
unfolding number_in
decimal-number_in [] n h = absurd cc
decimal-number_in (b ∷ bs) n h =
    let first = by_first (b == 48) (value_after 0 (b ∷ bs)) n h in
    let is = chosen (all_digits (b ∷ bs) && nat_lt (value_from 0 (b ∷ bs)) (2 ^ 31)) (value_from 0 (b ∷ bs)) n first.1 in
    let d = and_parts (all_digits (b ∷ bs)) (nat_lt (value_from 0 (b ∷ bs)) (2 ^ 31)) is.0 in
    let fits = number_fits (b ∷ bs) n (sym h) in
    (spelled b bs n d.0 first.0 is.1 (omega (arith, fits.1)), fits)

-- ---- literals

abbrev literal_of : Bool → ℕ → Literal
literal_of positive n = record { atom = n; positive = positive }

positive_in : (w : List ℕ) (n : ℕ) → number_in w ≡ Some n → 48 < get_or w 0 0 → literal_in w ≡ Some (literal_of true n)
unfolding literal_in
positive_in [] n h f = absurd (omega arith)
positive_in (b ∷ bs) n h f =
    let other : (b == 45) ≡ false = grind arith in
    rw (other, h) refl

negative_in : (w : List ℕ) (n : ℕ) → number_in w ≡ Some n → literal_in (45 ∷ w) ≡ Some (literal_of false n)
unfolding literal_in
negative_in w n h = rw h refl

literal_in-sign : (positive : Bool) (n : ℕ) → IsNumber n → literal_in (sign_text positive ++ decimal n) ≡ Some (literal_of positive n)
literal_in-sign true n h = positive_in (decimal n) n (number_in-decimal n h) (first_decimal n (omega (arith, h.0)) (omega (arith, h.1)))
literal_in-sign false n h = negative_in (decimal n) n (number_in-decimal n h)

pub literal_in-text : (l : Literal) → IsNumber l.atom → literal_in (literal_text l) ≡ Some l
literal_in-text l h = literal_in-sign l.positive l.atom h

abbrev some : Literal → Option Literal
some l = Some l

some_is : (x y : Literal) → some x ≡ some y → x ≡ y
some_is x y h = cc

from_meant : (positive : Bool) (w : List ℕ) (o : Option ℕ) (l : Literal) → number_in w ≡ o → meant positive o ≡ Some l → (sign_text positive ++ w ≡ literal_text l) × IsNumber l.atom
from_meant positive w None l is h = absurd cc
from_meant positive w (Some n) l is h =
    let e : literal_of positive n ≡ l = some_is (literal_of positive n) l h in
    let r = decimal-number_in w n is in
    (ap (λ (x : List ℕ). sign_text positive ++ x) r.0 ∙ ap literal_text e, subst (λ (x : Literal). IsNumber x.atom) e r.1)

by_sign : (t : Bool) (b : ℕ) (bs : List ℕ) (l : Literal) → (b == 45) ≡ t → cond t (meant false (number_in bs)) (meant true (number_in (b ∷ bs))) ≡ Some l → (b ∷ bs ≡ literal_text l) × IsNumber l.atom
by_sign true b bs l t h =
    let r = from_meant false bs (number_in bs) l refl h in
    let e : b ≡ 45 = grind (arith, t) in
    (ap (λ (x : ℕ). x ∷ bs) e ∙ r.0, r.1)
by_sign false b bs l t h = from_meant true (b ∷ bs) (number_in (b ∷ bs)) l refl h

pub text-literal_in : (w : List ℕ) (l : Literal) → literal_in w ≡ Some l → (w ≡ literal_text l) × IsNumber l.atom
unfolding literal_in
text-literal_in [] l h = absurd cc
text-literal_in (b ∷ bs) l h = by_sign (b == 45) b bs l refl h

-- ---- words

abbrev pub IsWord : List ℕ → Type 0
IsWord w = AllByRecursion (λ b. in_word b ≡ true) w

digit_in_word : (b : ℕ) → is_digit b ≡ true → in_word b ≡ true
digit_in_word b h = let r = in_range b h in let x : (b == 32) ≡ false = grind (arith, r.0) in let y : (b == 10) ≡ false = grind (arith, r.0) in rw (x, y) refl

digits_in_word : (ds : List ℕ) → all_digits ds ≡ true → IsWord ds
digits_in_word [] h = tt
digits_in_word (b ∷ bs) h = let p = and_parts (is_digit b) (all_digits bs) h in (digit_in_word b p.0, digits_in_word bs p.1)

pub decimal_is_word : (n : ℕ) → IsNumber n → IsWord (decimal n)
decimal_is_word n h = digits_in_word (decimal n) (digits_decimal own n (omega (arith, h.1)))

signed_is_word : (positive : Bool) (n : ℕ) → IsNumber n → IsWord (sign_text positive ++ decimal n)
signed_is_word true n h = decimal_is_word n h
signed_is_word false n h = (refl, decimal_is_word n h)

pub literal_is_word : (l : Literal) → IsNumber l.atom → IsWord (literal_text l)
literal_is_word l h = signed_is_word l.positive l.atom h
