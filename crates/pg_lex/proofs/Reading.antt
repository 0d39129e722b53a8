-- What the grammar has in front is what is read there.
use Rattle.std.proofs.Common.{◌≡◌, ℕ, ◌+◌, ◌≤◌, ◌⊎◌, inl, inr, Bool, true, false, cond, List, [], ◌∷◌, ◌++◌, ◌==◌, length, take, drop, slice_index, arith, refl, sym, ap, subst, ◌∙◌, length-append}
use Rattle.std.specs.Prelude.{◌||◌, ◌&&◌, Some, Ok, nat_le, nat_lt, take_while}
use Rattle.std.specs.List.{prefix_len}
use Rattle.std.proofs.lemmas.Bool.{eqb-true, leb-true, le-leb, lt-ltb}
use Rattle.std.proofs.lemmas.Bool.Decides.{eqb_tells}
use Rattle.std.proofs.Math.Seq.{take-append_seam, drop-append_seam}
use Rattle.pg_lex.specs.declared.token.Sign.{Sign}
use Rattle.pg_lex.specs.declared.token.Sign.TheVariants.{Assign, Arrow, NotEqual, Not, Minus}
use Rattle.pg_lex.specs.declared.token.TokenKind.{TokenKind}
use Rattle.pg_lex.specs.declared.token.TokenKind.TheVariants as kind
use Rattle.pg_lex.specs.Piece.{is_blank, is_lower, is_digit, is_word, is_letter, gap_len, value, spelling, word, number, sign, sign_of, piece, piece_len}
use Rattle.pg_lex.specs.Lex.{Cursor, token, after, advance, behind_gap, lexeme_at}
use Rattle.pg_lex.specs.Grammar.{AllIn, Begins, Stops, IsRun, IsGap, nothing, blank, comment, last_comment, in_line, begins_gap, IsToken}
use Rattle.pg_lex.specs.Laws.{GrammarIsRead}
use Rattle.pg_lex.proofs.Cursors.{cursor_is}

clash : (v : Bool) → v ≡ true → v ≡ false → ⊥
clash v passes fails = cc

-- ---- the gap

-- a comment's line, up to its newline or to the end
line_passed : (line gap rest : List ℕ) → AllIn in_line line
    → gap_len true ((line ++ 10 ∷ gap) ++ rest) ≡ length line + (1 + gap_len false (gap ++ rest))
line_passed [] gap rest all_in = omega arith
line_passed (b ∷ line) gap rest all_in = rw all_in.0 (omega (arith, line_passed line gap rest all_in.1))

last_line_passed : (line : List ℕ) → AllIn in_line line → gap_len true (line ++ []) ≡ length line
last_line_passed [] all_in = refl
last_line_passed (b ∷ line) all_in = rw all_in.0 (omega (arith, last_line_passed line all_in.1))

no_gap : (behind : List ℕ) → Stops begins_gap behind → gap_len false behind ≡ 0
no_gap [] stops = refl
no_gap (b ∷ bs) stops =
    elim (is_blank b) as (λ v. (v || b == 35) ≡ false → cond v (1 + gap_len false bs) (cond (b == 35) (1 + gap_len true bs) 0) ≡ 0)
    [ true ↦ λ h. absurd (clash true refl h) | false ↦ λ h. rw h refl ] stops

pub gap_passed : (gap behind : List ℕ) → IsGap gap behind → Stops begins_gap behind → gap_len false (gap ++ behind) ≡ length gap
gap_passed _ _ (nothing rest) stops = no_gap rest stops
gap_passed _ _ (blank b gap rest is_one is_gap) stops = rw is_one (omega (arith, gap_passed gap rest is_gap stops))
gap_passed _ _ (comment line gap rest all_in is_gap) stops =
    omega (arith, line_passed line gap rest all_in, gap_passed gap rest is_gap stops, length-append line (10 ∷ gap))
gap_passed _ _ (last_comment line all_in) stops = omega (arith, last_line_passed line all_in)

-- ---- the first byte of a token is no blank and no `#`

differs : (class : ℕ → Bool) (b k : ℕ) → class b ≡ true → class k ≡ false → b == k ≡ false
differs class b k passes fails =
    elim (eqb_tells b k)
    [ inl e ↦ absurd (clash (class k) (rw (← e.1) passes) fails) | inr e ↦ e.0 ]

begins_none : (class : ℕ → Bool) → class 32 ≡ false → class 9 ≡ false → class 13 ≡ false → class 10 ≡ false → class 35 ≡ false
    → (b : ℕ) → class b ≡ true → begins_gap b ≡ false
begins_none class space tab return newline hash b passes =
    rw (
      differs class b 32 passes space,
      differs class b 9 passes tab,
      differs class b 13 passes return,
      differs class b 10 passes newline,
      differs class b 35 passes hash,
    ) refl

class_stops : (class : ℕ → Bool) → class 32 ≡ false → class 9 ≡ false → class 13 ≡ false → class 10 ≡ false → class 35 ≡ false
    → (text rest : List ℕ) → Begins class text → Stops begins_gap (text ++ rest)
class_stops class space tab return newline hash [] rest begins = absurd begins
class_stops class space tab return newline hash (b ∷ bs) rest begins = begins_none class space tab return newline hash b begins

sign_stops : (s : Sign) (rest : List ℕ) → Stops begins_gap (spelling s ++ rest)
sign_stops Assign rest = refl
sign_stops _ rest = refl

token_stops : (k : TokenKind) (text rest : List ℕ) → IsToken k text rest → Stops begins_gap (text ++ rest)
token_stops kind.Word text rest t = class_stops is_lower refl refl refl refl refl text rest t.0
token_stops (kind.Number n) text rest t = class_stops is_digit refl refl refl refl refl text rest t.0
token_stops (kind.Letter b) text rest t = rw t.0 (begins_none is_letter refl refl refl refl refl b t.1)
token_stops (kind.Sign s) text rest t = rw t.0 (sign_stops s rest)
token_stops kind.End text rest t = rw (t.0, t.1) tt

-- ---- the piece

run_passed : (class : ℕ → Bool) (text rest : List ℕ) → IsRun class text rest → prefix_len class (text ++ rest) ≡ length text
run_passed class [] [] run = refl
run_passed class [] (b ∷ rest) run = rw run.1 refl
run_passed class (b ∷ text) rest run = rw run.0.0 (omega (arith, run_passed class text rest (run.0.1, run.1)))

pub and_first : (x y : Bool) → (x && y) ≡ true → x ≡ true
and_first true y h = refl
and_first false y h = h

pub and_second : (x y : Bool) → (x && y) ≡ true → y ≡ true
and_second true y h = h
and_second false y h = absurd (clash false h refl)

digit_no_lower : (b : ℕ) → is_digit b ≡ true → is_lower b ≡ false
digit_no_lower b h =
    elim (is_lower b) as (λ v. is_lower b ≡ v → v ≡ false) [
      | true ↦ λ e. absurd (omega (arith, leb-true 97 b (and_first (nat_le 97 b) (nat_le b 122) e), leb-true b 57 (and_second (nat_le 48 b) (nat_le b 57) h)))
      | false ↦ λ _. refl
    ] refl

if_true : {A : Type 0} (v : Bool) (x y : A) → v ≡ true → cond v x y ≡ x
if_true true x y h = refl
if_true false x y h = absurd (clash false h refl)

if_false : {A : Type 0} (v : Bool) (x y : A) → v ≡ false → cond v x y ≡ y
if_false true x y h = absurd (clash true refl h)
if_false false x y h = refl

piece_of_word : (b : ℕ) (bs : List ℕ) → is_lower b ≡ true → piece (b ∷ bs) ≡ word (prefix_len is_word (b ∷ bs))
unfolding piece
piece_of_word b bs first = if_true (is_lower b) _ _ first

piece_of_number : (b : ℕ) (bs : List ℕ) → is_digit b ≡ true → piece (b ∷ bs) ≡ number (take_while is_digit (b ∷ bs))
unfolding piece
piece_of_number b bs first = if_false (is_lower b) _ _ (digit_no_lower b first) ∙ if_true (is_digit b) _ _ first

word_read : (text rest : List ℕ) → IsToken kind.Word text rest → piece (text ++ rest) ≡ Ok (record { kind = kind.Word; len = length text })
word_read [] rest t = absurd t.0
word_read (b ∷ bs) rest t =
    let passed = run_passed is_word (b ∷ bs) rest t.1 in
    let short = le-leb (length (b ∷ bs)) 32 t.2 in
    piece_of_word b (bs ++ rest) t.0 ∙ ap word passed ∙ if_true (nat_le (length (b ∷ bs)) 32) _ _ short

number_read : (n : ℕ) (text rest : List ℕ) → IsToken (kind.Number n) text rest
    → piece (text ++ rest) ≡ Ok (record { kind = kind.Number n; len = length text })
number_read n [] rest t = absurd t.0
number_read n (b ∷ bs) rest t =
    let passed = run_passed is_digit (b ∷ bs) rest t.1 in
    let digits : take_while is_digit ((b ∷ bs) ++ rest) ≡ b ∷ bs =
    ap (λ (k : ℕ). take k ((b ∷ bs) ++ rest)) passed ∙ take-append_seam (b ∷ bs) rest in
    let small : nat_lt (value (b ∷ bs)) 4294967296 ≡ true = lt-ltb (value (b ∷ bs)) 4294967296 (rw (← t.2) t.3) in
    let named = ap (λ (v : ℕ). Ok (record { kind = kind.Number v; len = length (b ∷ bs) })) (sym t.2) in
    piece_of_number b (bs ++ rest) t.0 ∙ ap number digits ∙ if_true (nat_lt (value (b ∷ bs)) 4294967296) _ _ small ∙ named

pub or_cases : (x y : Bool) → (x || y) ≡ true → (x ≡ true) ⊎ (y ≡ true)
or_cases true y h = inl refl
or_cases false y h = inr h

at_byte : (P : ℕ → Type 0) (b k : ℕ) → P k → b == k ≡ true → P b
at_byte P b k here same = subst P (sym (eqb-true b k same)) here

-- what holds of each letter holds of a byte that is one
pub letter_cases : (P : ℕ → Type 0) → P 65 → P 67 → P 70 → P 76 → P 78 → P 79 → P 80 → P 82 → (b : ℕ) → is_letter b ≡ true → P b
letter_cases P a c f l n o p r b h =
    elim (or_cases _ (b == 82) h) [
      | inr e ↦ at_byte P b 82 r e
      | inl h ↦
          elim (or_cases _ (b == 80) h) [
            | inr e ↦ at_byte P b 80 p e
            | inl h ↦
                elim (or_cases _ (b == 79) h) [
                  | inr e ↦ at_byte P b 79 o e
                  | inl h ↦
                      elim (or_cases _ (b == 78) h) [
                        | inr e ↦ at_byte P b 78 n e
                        | inl h ↦
                            elim (or_cases _ (b == 76) h) [
                              | inr e ↦ at_byte P b 76 l e
                              | inl h ↦
                                  elim (or_cases _ (b == 70) h) [
                                    | inr e ↦ at_byte P b 70 f e
                                    | inl h ↦
                                        elim (or_cases (b == 65) (b == 67) h) [ inr e ↦ at_byte P b 67 c e | inl e ↦ at_byte P b 65 a e ]
                                  ]
                            ]
                      ]
                ]
          ]
    ]

letter_read : (b : ℕ) (rest : List ℕ) → is_letter b ≡ true → piece (b ∷ rest) ≡ Ok (record { kind = kind.Letter b; len = 1 })
unfolding piece
letter_read b rest h =
    let P : ℕ → Type 0 = λ k. piece (k ∷ rest) ≡ Ok (record { kind = kind.Letter k; len = 1 }) in
    letter_cases P refl refl refl refl refl refl refl refl b h

sign_found : (s : Sign) (rest : List ℕ)
    → ((t : Sign) (more : List ℕ) → spelling s ++ rest ≡ spelling t ++ more → length (spelling t) ≤ length (spelling s))
    → sign_of (slice_index (spelling s ++ rest) 0) (slice_index (spelling s ++ rest) 1) ≡ Some s
unfolding sign_of
sign_found Not [] longest = refl
sign_found Not (b ∷ bs) longest =
    elim (eqb_tells 61 b)
    [ inl e ↦ absurd (omega (arith, longest NotEqual bs (rw (← e.1) refl))) | inr e ↦ rw e.0 refl ]
sign_found Minus [] longest = refl
sign_found Minus (b ∷ bs) longest =
    elim (eqb_tells 62 b)
    [ inl e ↦ absurd (omega (arith, longest Arrow bs (rw (← e.1) refl))) | inr e ↦ rw e.0 refl ]
sign_found _ rest longest = refl

sign_piece : (s : Sign) (rest : List ℕ)
    → piece (spelling s ++ rest) ≡ sign (sign_of (slice_index (spelling s ++ rest) 0) (slice_index (spelling s ++ rest) 1))
unfolding piece
sign_piece Assign rest = refl
sign_piece _ rest = refl

sign_read : (s : Sign) (text rest : List ℕ) → IsToken (kind.Sign s) text rest
    → piece (text ++ rest) ≡ Ok (record { kind = kind.Sign s; len = length text })
sign_read s text rest t =
    let longest = rw t.0 at t.1 in rw t.0 (sign_piece s rest ∙ ap sign (sign_found s rest longest))

end_read : (text rest : List ℕ) → IsToken kind.End text rest → piece (text ++ rest) ≡ Ok (record { kind = kind.End; len = length text })
unfolding piece
end_read text rest t = rw (t.0, t.1) refl

pub token_read : (k : TokenKind) (text rest : List ℕ) → IsToken k text rest
    → piece (text ++ rest) ≡ Ok (record { kind = k; len = length text })
token_read kind.Word text rest t = word_read text rest t
token_read (kind.Number n) text rest t = number_read n text rest t
token_read (kind.Letter b) text rest t = rw t.0 (letter_read b rest t.1)
token_read (kind.Sign s) text rest t = sign_read s text rest t
token_read kind.End text rest t = end_read text rest t

-- ---- the cursor

front_is : (c : Cursor) (gap behind : List ℕ) → c.rest ≡ gap ++ behind → gap_len false (gap ++ behind) ≡ length gap
    → behind_gap c ≡ record { at = c.at + length gap; rest = behind }
front_is c gap behind split long =
    let n : gap_len false c.rest ≡ length gap = ap (gap_len false) split ∙ long in
    let rest_is : drop (gap_len false c.rest) c.rest ≡ behind = rw (n, split) (drop-append_seam gap behind) in
    cursor_is (behind_gap c) (c.at + length gap) behind (ap (λ (k : ℕ). c.at + k) n) rest_is

read_at : (g : Cursor) (n : ℕ) (k : TokenKind) (text rest : List ℕ) → g ≡ record { at = n; rest = text ++ rest }
    → piece (text ++ rest) ≡ Ok (record { kind = k; len = length text })
    → (lexeme_at g (piece g.rest) ≡ Ok (record { kind = k; place = n; text = text }))
    × (advance (piece_len (piece g.rest)) g ≡ record { at = n + length text; rest = rest })
read_at g n k text rest g_is found = rw (g_is, found, take-append_seam text rest, drop-append_seam text rest) (refl, refl)

pub grammar_is_read : GrammarIsRead
unfolding token after
grammar_is_read c k gap text rest split is_gap is_token =
    let long = gap_passed gap (text ++ rest) is_gap (token_stops k text rest is_token) in
    read_at (behind_gap c) (c.at + length gap) k text rest (front_is c gap (text ++ rest) split long) (token_read k text rest is_token)
