-- Where the next line and the next word of a text end.
use Rattle.std.proofs.Common.{◌≡◌, inl, inr, ◌≢◌, ℕ, suc, ◌+◌, ◌-◌, ◌^◌, ◌<◌, ◌≤◌, min, Bool, true, false, not, cond, List, [], ◌∷◌, take, drop, length, length-drop, refl, ap, sym, arith}
use Rattle.std.specs.Prelude.{filter, ◌==◌}
use Rattle.std.specs.List.{prefix_len}
use Rattle.std.proofs.lemmas.Bool.{cases_lt}
use Rattle.std.proofs.lemmas.List.{drop_all, take_all}
use Rattle.pg_schedule.specs.Words.{Piece, piece, in_front, pieces, is_blank, is_newline, has_bytes, words, lines_from}

-- ---- the piece in front

one_more : (n : ℕ) → 1 + n ≡ suc n
one_more n = omega arith

cut_within :
    (ends : ℕ → Bool) (at b c : ℕ) (cs : List ℕ) (n : ℕ)
    → pieces ends (at + 1) (c ∷ cs) ≡ piece (at + 1) (take n (c ∷ cs)) ∷ pieces ends (at + 1 + suc n) (drop (suc n) (c ∷ cs))
    → in_front at b (pieces ends (at + 1) (c ∷ cs)) ≡ piece at (take (1 + n) (b ∷ c ∷ cs)) ∷ pieces ends (at + suc (1 + n)) (drop (suc (1 + n)) (b ∷ c ∷ cs))
cut_within ends at b c cs n h =
    let places : at + suc (suc n) ≡ at + 1 + suc n = omega arith in
    rw (h, one_more n, places) refl

pub piece_in_front :
    (ends : ℕ → Bool) (at b : ℕ) (bs : List ℕ)
    → pieces ends at (b ∷ bs) ≡ piece at (take (prefix_len (λ x. not (ends x)) (b ∷ bs)) (b ∷ bs)) ∷ pieces ends (at + suc (prefix_len (λ x. not (ends x)) (b ∷ bs))) (drop (suc (prefix_len (λ x. not (ends x)) (b ∷ bs))) (b ∷ bs))
piece_in_front ends at b [] = elim (ends b) as (λ v. cond v (piece at [] ∷ []) (piece at (b ∷ []) ∷ []) ≡ piece at (take (cond (not v) (1 + 0) 0) (b ∷ [])) ∷ pieces ends (at + suc (cond (not v) (1 + 0) 0)) (drop (suc (cond (not v) (1 + 0) 0)) (b ∷ []))) [ true ↦ refl | false ↦ refl ]
piece_in_front ends at b (c ∷ cs) =
    let n = prefix_len (λ x. not (ends x)) (c ∷ cs) in
    elim (ends b) as (λ v. cond v (piece at [] ∷ pieces ends (at + 1) (c ∷ cs)) (in_front at b (pieces ends (at + 1) (c ∷ cs))) ≡ piece at (take (cond (not v) (1 + n) 0) (b ∷ c ∷ cs)) ∷ pieces ends (at + suc (cond (not v) (1 + n) 0)) (drop (suc (cond (not v) (1 + n) 0)) (b ∷ c ∷ cs)))
    [ true ↦ refl | false ↦ cut_within ends at b c cs n (piece_in_front ends (at + 1) c cs) ]

-- ---- lines

-- what is left behind a line, and its newline if it has one
behind_line :
    (ends : ℕ → Bool) (at n : ℕ) (xs : List ℕ)
    → pieces ends (at + suc n) (drop (suc n) xs) ≡ pieces ends (at + min (length xs) (n + 1)) (drop (min (length xs) (n + 1)) xs)
behind_line ends at n xs = elim (cases_lt n (length xs)) [
  | inl h ↦ let e : min (length xs) (n + 1) ≡ suc n = omega arith in rw e refl
  | inr h ↦
      let past : drop (suc n) xs ≡ [] = drop_all (suc n) xs (omega arith) in
      let end : drop (min (length xs) (n + 1)) xs ≡ [] = drop_all (min (length xs) (n + 1)) xs (omega arith) in
      rw (past, end) refl
]

pub line_in_front :
    (ends : ℕ → Bool) (number at b : ℕ) (bs : List ℕ) (n k : ℕ) → n ≡ prefix_len (λ x. not (ends x)) (b ∷ bs) → k ≡ min (length (b ∷ bs)) (n + 1)
    → lines_from number (pieces ends at (b ∷ bs)) ≡ record { number = number; words = words at (take n (b ∷ bs)) } ∷ lines_from (number + 1) (pieces ends (at + k) (drop k (b ∷ bs)))
line_in_front ends number at b bs n k is_len is_behind =
    rw (is_behind, is_len, piece_in_front ends at b bs, behind_line ends at (prefix_len (λ x. not (ends x)) (b ∷ bs)) (b ∷ bs)) refl

-- ---- words

abbrev solid : ℕ → Bool
solid b = not (is_blank b)

-- the words that are left of a line
abbrev pub left_at : ℕ → List ℕ → List Piece
left_at at bs = filter has_bytes (pieces is_blank at bs)

-- after a blank, and after the end
blank_passes : (at : ℕ) (bs : List ℕ) → left_at (at + suc (prefix_len solid bs)) (drop (suc (prefix_len solid bs)) bs) ≡ left_at (at + prefix_len solid bs) (drop (prefix_len solid bs) bs)
blank_passes at [] = refl
blank_passes at (b ∷ bs) =
    elim (is_blank b) as (λ v. is_blank b ≡ v → left_at (at + suc (cond (not v) (1 + prefix_len solid bs) 0)) (drop (suc (cond (not v) (1 + prefix_len solid bs) 0)) (b ∷ bs)) ≡ left_at (at + cond (not v) (1 + prefix_len solid bs) 0) (drop (cond (not v) (1 + prefix_len solid bs) 0) (b ∷ bs))) [
      | true ↦ λ e. let here : at + 0 ≡ at = omega arith in rw (here, e) refl
      | false ↦ λ e.
          let n = prefix_len solid bs in
          let one : at + suc (suc n) ≡ at + 1 + suc n = omega arith in
          let two : at + suc n ≡ at + 1 + n = omega arith in
          rw (one_more n, one, two) (blank_passes (at + 1) bs)
    ] refl

solid_in_front : (at b : ℕ) (bs : List ℕ) → is_blank b ≡ false → left_at at (b ∷ bs) ≡ piece at (take (prefix_len solid (b ∷ bs)) (b ∷ bs)) ∷ left_at (at + prefix_len solid (b ∷ bs)) (drop (prefix_len solid (b ∷ bs)) (b ∷ bs))
solid_in_front at b bs is_solid =
    let n = prefix_len solid bs in
    let cut = piece_in_front is_blank at b bs in
    let passes = blank_passes (at + 1) bs in
    let one : at + suc (suc n) ≡ at + 1 + suc n = omega arith in
    let two : at + suc n ≡ at + 1 + n = omega arith in
    rw cut (rw (is_solid, one_more n, one, two, passes) refl)

-- behind k blanks a word stands in front
Shows : ℕ → List ℕ → ℕ → Type 0
Shows at bs k =
    drop k bs ≢ []
    → left_at at bs ≡ piece (at + k) (take (prefix_len solid (drop k bs)) (drop k bs)) ∷ left_at (at + k + prefix_len solid (drop k bs)) (drop (prefix_len solid (drop k bs)) (drop k bs))

word_in_front : (at : ℕ) (bs : List ℕ) → Shows at bs (prefix_len is_blank bs)
unfolding Shows
word_in_front at [] = λ some. absurd (some refl)
word_in_front at (b ∷ bs) =
    elim (is_blank b) as (λ v. is_blank b ≡ v → Shows at (b ∷ bs) (cond v (1 + prefix_len is_blank bs) 0)) [
      | true ↦ λ e.
          let n = prefix_len is_blank bs in
          let place : at + suc n ≡ at + 1 + n = omega arith in
          rw (one_more n, place, e) (word_in_front (at + 1) bs)
      | false ↦ λ e some. let here : at + 0 ≡ at = omega arith in rw here (solid_in_front at b bs e)
    ] refl

ShowsNone : ℕ → List ℕ → ℕ → Type 0
ShowsNone at bs k = drop k bs ≡ [] → left_at at bs ≡ []

none_in_front : (at : ℕ) (bs : List ℕ) → ShowsNone at bs (prefix_len is_blank bs)
unfolding ShowsNone
none_in_front at [] = λ none. refl
none_in_front at (b ∷ bs) =
    elim (is_blank b) as (λ v. is_blank b ≡ v → ShowsNone at (b ∷ bs) (cond v (1 + prefix_len is_blank bs) 0)) [
      | true ↦ λ e. rw (one_more (prefix_len is_blank bs), e) (none_in_front (at + 1) bs)
      | false ↦ λ e none. let count = ap (length {A = ℕ}) none in absurd (omega (arith, count))
    ] refl

-- ---- as the code goes

pub the_rest : (k : ℕ) (xs : List ℕ) → take (length xs - k) (drop k xs) ≡ drop k xs
the_rest k xs = take_all (length xs - k) (drop k xs) (omega (arith, length-drop k xs))

pub is_nothing : (xs : List ℕ) → (length xs == 0) ≡ true → xs ≡ []
is_nothing [] h = refl
is_nothing (x ∷ xs) h = absurd (grind (arith, h))

pub is_something : (xs : List ℕ) → (length xs == 0) ≡ false → xs ≢ []
is_something [] h = absurd (grind (arith, h))
is_something (x ∷ xs) h = λ none. let count = ap (length {A = ℕ}) none in absurd (omega (arith, count))

pub word_taken :
    (at : ℕ) (bs : List ℕ) (k n : ℕ) (rest text more : List ℕ) → k ≡ prefix_len is_blank bs → rest ≡ drop k bs → n ≡ prefix_len (λ b. not (is_blank b)) rest
    → text ≡ take n rest → more ≡ drop n rest → rest ≢ [] → left_at at bs ≡ piece (at + k) text ∷ left_at (at + k + n) more
unfolding Shows
word_taken at bs k n rest text more blanks is_rest len is_text is_more some =
    let some_there : drop (prefix_len is_blank bs) bs ≢ [] = rw (sym blanks, sym is_rest) some in
    rw (is_text, is_more, len, is_rest, blanks) (word_in_front at bs some_there)

pub none_left :
    (at : ℕ) (bs : List ℕ) (k : ℕ) → k ≡ prefix_len is_blank bs → drop k bs ≡ [] → left_at at bs ≡ []
unfolding ShowsNone
none_left at bs k blanks none = let none_there : drop (prefix_len is_blank bs) bs ≡ [] = rw (sym blanks) none in none_in_front at bs none_there

pub line_taken :
    (number at : ℕ) (xs : List ℕ) (n k : ℕ) (text more : List ℕ) → n ≡ prefix_len (λ b. not (is_newline b)) xs → k ≡ min (length xs) (n + 1)
    → text ≡ take n xs → more ≡ drop k xs → xs ≢ []
    → lines_from number (pieces is_newline at xs) ≡ record { number = number; words = words at text } ∷ lines_from (number + 1) (pieces is_newline (at + k) more)
line_taken number at [] n k text more len behind is_text is_more some = absurd (some refl)
line_taken number at (b ∷ bs) n k text more len behind is_text is_more some =
    rw (is_text, is_more) (line_in_front is_newline number at b bs n k len behind)

-- ---- counts

few_more : (at b : ℕ) (ps : List Piece) → length (in_front at b ps) ≤ 1 + length ps
few_more at b [] = omega arith
few_more at b (p ∷ ps) = omega arith

pub pieces_few : (ends : ℕ → Bool) (at : ℕ) (bs : List ℕ) → length (pieces ends at bs) ≤ length bs
pieces_few ends at [] = omega arith
pieces_few ends at (b ∷ bs) =
    let rest = pieces_few ends (at + 1) bs in
    elim (ends b) as (λ v. length (cond v (piece at [] ∷ pieces ends (at + 1) bs) (in_front at b (pieces ends (at + 1) bs))) ≤ length (b ∷ bs))
    [ true ↦ omega (arith, rest) | false ↦ omega (arith, rest, few_more at b (pieces ends (at + 1) bs)) ]

pub lines_few : (n : ℕ) (ps : List Piece) → length (lines_from n ps) ≡ length ps
lines_few n [] = refl
lines_few n (p ∷ ps) = omega (arith, lines_few (n + 1) ps)

filter_few : {A : Type 0} (p : A → Bool) (xs : List A) → length (filter p xs) ≤ length xs
filter_few p [] = omega arith
filter_few p (x ∷ xs) =
    let rest = filter_few p xs in
    elim (p x) as (λ v. length (cond v (x ∷ filter p xs) (filter p xs)) ≤ length (x ∷ xs)) [ true ↦ omega (arith, rest) | false ↦ omega (arith, rest) ]

pub left_few : (at : ℕ) (bs : List ℕ) → length (left_at at bs) ≤ length bs
left_few at bs = omega (arith, filter_few has_bytes (pieces is_blank at bs), pieces_few is_blank at bs)

-- the end stays where it is
pub taken_end :
    (at : ℕ) (xs : List ℕ) (k n : ℕ) → k ≤ length xs → n ≤ length (take (length xs - k) (drop k xs))
    → at + k + n + length (take (length (take (length xs - k) (drop k xs)) - n) (drop n (take (length xs - k) (drop k xs)))) ≡ at + length xs
taken_end at xs k n blanks len =
    let e = the_rest k xs in
    let within : n ≤ length (drop k xs) = rw (sym e) len in
    rw (e, the_rest n (drop k xs)) (omega (arith, length-drop k xs, length-drop n (drop k xs), within, blanks))

pub taken_few :
    (at : ℕ) (xs : List ℕ) (k n : ℕ) → k ≤ length xs → n ≤ length (take (length xs - k) (drop k xs)) → at + length xs < 2 ^ 32
    → length (left_at (at + k + n) (take (length (take (length xs - k) (drop k xs)) - n) (drop n (take (length xs - k) (drop k xs))))) < 2 ^ 32
taken_few at xs k n blanks len fits =
    let rest = take (length (take (length xs - k) (drop k xs)) - n) (drop n (take (length xs - k) (drop k xs))) in
    omega (arith, left_few (at + k + n) rest, taken_end at xs k n blanks len, fits)
