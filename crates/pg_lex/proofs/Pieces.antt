-- A piece is a token of its kind, and a refusal is a fault.
use Rattle.std.proofs.Common.{◌≡◌, ℕ, ◌≤◌, Bool, true, false, cond, List, [], ◌∷◌, ◌++◌, length, take, drop, slice_index, arith, refl, sym, ap, lit≤, ◌∙◌, length-append}
use Rattle.std.specs.Prelude.{Option, Some, None, Result, Ok, Err, nat_le, nat_lt, take_while}
use Rattle.std.specs.List.{prefix_len}
use Rattle.std.proofs.lemmas.List.{take-append-drop}
use Rattle.std.proofs.lemmas.List.Folds.{length-prefix_len}
use Rattle.std.proofs.lemmas.List.Sums.{prefix_len-le-length}
use Rattle.std.proofs.Math.Seq.{take-append_seam}
use Rattle.std.proofs.lemmas.Bool.{leb-true, leb-false, ltb-true, ltb-false, lt-ltb}
use Rattle.pg_lex.specs.declared.token.Sign.{Sign}
use Rattle.pg_lex.specs.declared.token.TokenKind.TheVariants as kind
use Rattle.pg_lex.specs.declared.fault.TextKind.{TextKind}
use Rattle.pg_lex.specs.declared.fault.TextKind.TheVariants.{NumberTooLarge, NameTooLong}
use Rattle.pg_lex.specs.declared.scan.Piece.{Piece}
use Rattle.pg_lex.specs.Piece.{is_lower, is_digit, is_word, is_letter, value, spelling, word, number, sign, sign_of, piece}
use Rattle.pg_lex.specs.Grammar.{Begins, IsRun, IsToken, IsFault, HasRun, begins_no_name}
use Rattle.pg_lex.proofs.Runs.{run_is_run, run_begins}
use Rattle.pg_lex.proofs.Signs.{sign_in_front, sign_is_longest, no_sign_in_front}

-- a piece of the bytes, and what stands after it
abbrev pub IsPiece : List ℕ → Piece → Type 0
IsPiece bs p = IsToken p.kind (take p.len bs) (drop p.len bs) × (p.len ≤ length bs)

-- what `piece` answers is a piece or a fault
abbrev pub Describes : List ℕ → Result Piece TextKind → Type 0
Describes bs (Ok p) = IsPiece bs p
Describes bs (Err k) = IsFault k bs

lower_is_word : (b : ℕ) → is_lower b ≡ true → is_word b ≡ true
lower_is_word b h = rw h refl

run_at : (class : ℕ → Bool) (Claim : List ℕ → Type 0) (n : ℕ) (bs : List ℕ) → IsRun class (take n bs) (drop n bs)
    → Claim (take n bs) → HasRun class Claim bs
run_at class Claim n bs is_run claim = record {
  text = take n bs;
  rest = drop n bs;
  split = sym (take-append-drop n bs);
  is_run = is_run;
  claim = claim;
}

word_describes : (n : ℕ) (bs : List ℕ) → Begins is_lower bs → Begins is_lower (take n bs) → IsRun is_word (take n bs) (drop n bs)
    → length (take n bs) ≡ n → n ≤ length bs → Describes bs (word n)
word_describes n bs first begins is_run long within =
    elim (nat_le n 32) as (λ v. nat_le n 32 ≡ v → Describes bs (cond v (Ok (record { kind = kind.Word; len = n })) (Err NameTooLong))) [
      | true ↦ λ e. let short = leb-true n 32 e in ((begins, is_run, omega (arith, long, short)), within)
      | false ↦ λ e. let too_long = leb-false n 32 e in (first, run_at is_word _ n bs is_run (omega (arith, long, too_long)))
    ] refl

number_describes : (n : ℕ) (bs : List ℕ) → Begins is_digit bs → Begins is_digit (take n bs) → IsRun is_digit (take n bs) (drop n bs)
    → length (take n bs) ≡ n → n ≤ length bs → Describes bs (number (take n bs))
number_describes n bs first begins is_run long within =
    elim (nat_lt (value (take n bs)) 4294967296) as (λ v. nat_lt (value (take n bs)) 4294967296 ≡ v
    → Describes bs (cond v (Ok (record { kind = kind.Number (value (take n bs)); len = length (take n bs) })) (Err NumberTooLarge))) [
      | true ↦ λ e. let small = ltb-true (value (take n bs)) 4294967296 e in rw long ((begins, is_run, refl, small), within)
      | false ↦ λ e. let large = ltb-false (value (take n bs)) 4294967296 e in (first, run_at is_digit _ n bs is_run large)
    ] refl

prefix_take : (text bs more : List ℕ) → bs ≡ text ++ more → take (length text) bs ≡ text
prefix_take text bs more split = rw split (take-append_seam text more)

prefix_within : (text bs more : List ℕ) → bs ≡ text ++ more → length text ≤ length bs
prefix_within text bs more split = omega (arith, ap length split, length-append text more)

sign_describes : (b : ℕ) (bs : List ℕ) → begins_no_name b ≡ true → (o : Option Sign) → sign_of b (slice_index bs 0) ≡ o
    → Describes (b ∷ bs) (sign o)
sign_describes b bs no_name None found = (no_name, λ s more. no_sign_in_front b bs s more found)
sign_describes b bs no_name (Some s) found =
    let front = sign_in_front b bs s found in
    let same : take (length (spelling s)) (b ∷ bs) ≡ spelling s = prefix_take (spelling s) (b ∷ bs) front.0 front.1 in (
      (same, λ t more split. rw same (sign_is_longest b bs s t more found (sym (take-append-drop (length (spelling s)) (b ∷ bs)) ∙ split))),
      prefix_within (spelling s) (b ∷ bs) front.0 front.1,
    )

choose : (bs : List ℕ) (v : Bool) (x y : Result Piece TextKind) → (v ≡ true → Describes bs x) → (v ≡ false → Describes bs y)
    → Describes bs (cond v x y)
choose bs true x y at_true at_false = at_true refl
choose bs false x y at_true at_false = at_false refl

word_at_front : (b : ℕ) (bs : List ℕ) → is_lower b ≡ true → Describes (b ∷ bs) (word (prefix_len is_word (b ∷ bs)))
word_at_front b bs first =
    word_describes (prefix_len is_word (b ∷ bs)) (b ∷ bs) first (run_begins is_lower is_word b bs first (lower_is_word b first))
    (run_is_run is_word (b ∷ bs)) (length-prefix_len is_word (b ∷ bs)) (prefix_len-le-length is_word (b ∷ bs))

number_at_front : (b : ℕ) (bs : List ℕ) → is_digit b ≡ true → Describes (b ∷ bs) (number (take_while is_digit (b ∷ bs)))
number_at_front b bs first =
    number_describes (prefix_len is_digit (b ∷ bs)) (b ∷ bs) first (run_begins is_digit is_digit b bs first first)
    (run_is_run is_digit (b ∷ bs)) (length-prefix_len is_digit (b ∷ bs)) (prefix_len-le-length is_digit (b ∷ bs))

is_no_name : (b : ℕ) → is_lower b ≡ false → is_digit b ≡ false → is_letter b ≡ false → nat_le 128 b ≡ false → begins_no_name b ≡ true
is_no_name b no_lower no_digit no_letter no_high =
    let ascii : nat_lt b 128 ≡ true = lt-ltb b 128 (leb-false 128 b no_high) in
    rw (ascii, no_lower, no_digit, no_letter) refl

pub piece_describes : (bs : List ℕ) → Describes bs (piece bs)
unfolding piece
piece_describes [] = ((refl, refl), lit≤ tt)
piece_describes (b ∷ bs) =
    choose (b ∷ bs) (is_lower b) _ _ (λ first. word_at_front b bs first)
    (λ no_lower. choose (b ∷ bs) (is_digit b) _ _ (λ first. number_at_front b bs first)
    (λ no_digit. choose (b ∷ bs) (is_letter b) _ _ (λ is_one. ((refl, is_one), omega arith))
    (λ no_letter. choose (b ∷ bs) (nat_le 128 b) _ _ (λ high. high)
    (λ no_high. sign_describes b bs (is_no_name b no_lower no_digit no_letter no_high) _ refl))))
