-- What `gap_len` passes over is blanks and comments alone, and as long as can be.
use Rattle.std.proofs.Common.{◌≡◌, ℕ, suc, ◌+◌, Bool, true, false, not, cond, List, [], ◌∷◌, ◌++◌, ◌==◌, take, drop, refl, ap, arith, lit≤, length, ◌≤◌}
use Rattle.std.proofs.lemmas.Bool.{eqb-true}
use Rattle.pg_lex.specs.Piece.{is_blank, gap_len}
use Rattle.pg_lex.specs.Grammar.{AllIn, Stops, IsGap, nothing, blank, comment, last_comment, in_line, begins_gap}
use Rattle.pg_lex.proofs.Runs.{one_more}

-- what is left of a gap inside a comment
data IsLeft : List ℕ → List ℕ → Type 0 where
  ended : (line gap rest : List ℕ) → AllIn in_line line → IsGap gap rest → IsLeft (line ++ 10 ∷ gap) rest
  unended : (line : List ℕ) → AllIn in_line line → IsLeft line []

abbrev Left : Bool → List ℕ → List ℕ → Type 0
Left true = IsLeft
Left false = IsGap

comment_of : (left rest : List ℕ) → IsLeft left rest → IsGap (35 ∷ left) rest
comment_of _ _ (ended line gap rest all_in gap_is) = comment line gap rest all_in gap_is
comment_of _ _ (unended line all_in) = last_comment line all_in

longer : (b : ℕ) (left rest : List ℕ) → in_line b ≡ true → IsLeft left rest → IsLeft (b ∷ left) rest
longer b _ _ is_in (ended line gap rest all_in gap_is) = ended (b ∷ line) gap rest (is_in, all_in) gap_is
longer b _ _ is_in (unended line all_in) = unended (b ∷ line) (is_in, all_in)

front : (inside : Bool) (bs : List ℕ) → Left inside (take (gap_len inside bs) bs) (drop (gap_len inside bs) bs)
front true [] = unended [] tt
front false [] = nothing []
front true (b ∷ bs) =
    rw one_more (elim (b == 10) as (λ v. b == 10 ≡ v → IsLeft (b ∷ take (gap_len (not v) bs) bs) (drop (gap_len (not v) bs) bs))
    [ true ↦ λ e. rw (eqb-true b 10 e) (ended [] _ _ tt (front false bs)) | false ↦ λ e. longer b _ _ (ap not e) (front true bs) ] refl)
front false (b ∷ bs) =
    elim (is_blank b) as (λ v. is_blank b ≡ v
    → IsGap (take (cond v (1 + gap_len false bs) (cond (b == 35) (1 + gap_len true bs) 0)) (b ∷ bs))
    (drop (cond v (1 + gap_len false bs) (cond (b == 35) (1 + gap_len true bs) 0)) (b ∷ bs))) [
      | true ↦ λ e. rw one_more (blank b _ _ e (front false bs))
      | false ↦ λ _. elim (b == 35) as (λ v. b == 35 ≡ v
          → IsGap (take (cond v (1 + gap_len true bs) 0) (b ∷ bs)) (drop (cond v (1 + gap_len true bs) 0) (b ∷ bs)))
          [ true ↦ λ e. rw one_more (rw (eqb-true b 35 e) (comment_of _ _ (front true bs))) | false ↦ λ _. nothing (b ∷ bs) ] refl
    ] refl

pub gap_is_longest : (inside : Bool) (bs : List ℕ) → Stops begins_gap (drop (gap_len inside bs) bs)
gap_is_longest true [] = tt
gap_is_longest false [] = tt
gap_is_longest true (b ∷ bs) = rw one_more (gap_is_longest (not (b == 10)) bs)
gap_is_longest false (b ∷ bs) =
    elim (is_blank b) as (λ v. is_blank b ≡ v
    → Stops begins_gap (drop (cond v (1 + gap_len false bs) (cond (b == 35) (1 + gap_len true bs) 0)) (b ∷ bs))) [
      | true ↦ λ _. rw one_more (gap_is_longest false bs)
      | false ↦ λ is_no_blank. elim (b == 35) as (λ v. b == 35 ≡ v → Stops begins_gap (drop (cond v (1 + gap_len true bs) 0) (b ∷ bs)))
          [ true ↦ λ _. rw one_more (gap_is_longest true bs) | false ↦ λ e. rw (is_no_blank, e) refl ] refl
    ] refl

pub gap_within : (inside : Bool) (bs : List ℕ) → gap_len inside bs ≤ length bs
gap_within inside [] = lit≤ tt
gap_within true (b ∷ bs) = omega (arith, gap_within (not (b == 10)) bs)
gap_within false (b ∷ bs) =
    elim (is_blank b) as (λ v. cond v (1 + gap_len false bs) (cond (b == 35) (1 + gap_len true bs) 0) ≤ suc (length bs)) [
      | true ↦ omega (arith, gap_within false bs)
      | false ↦ elim (b == 35) as (λ v. cond v (1 + gap_len true bs) 0 ≤ suc (length bs)) [ true ↦ omega (arith, gap_within true bs) | false ↦ omega arith ]
    ]

pub gap_is_gap : (bs : List ℕ) → IsGap (take (gap_len false bs) bs) (drop (gap_len false bs) bs)
gap_is_gap bs = front false bs
