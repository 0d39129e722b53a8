-- Other bytes behind the first tokens of a text: the tokens in front stay the same.
use Rattle.std.proofs.Common.{◌≡◌, ℕ, zero, suc, ◌<◌, ◌≤◌, Bool, false, List, [], ◌∷◌, ◌++◌, length, refl, ap, sym, ◌∙◌, subst, arith, inl, inr, length-append}
use Rattle.std.proofs.lemmas.Bool.Decides.{eqb_tells}
use Rattle.std.specs.Prelude.{◌≢◌, ◌⊎◌, slice_index, Some, Ok}
use Rattle.pg_lex.specs.declared.token.Sign.{Sign}
use Rattle.pg_lex.specs.declared.token.Sign.TheVariants.{Assign, Arrow, NotEqual, Equal, Not, And, Or, Plus, Minus, Times, Open, Close, OpenSquare, CloseSquare, OpenBrace, CloseBrace, Less, Greater, Semicolon, Comma}
use Rattle.pg_lex.specs.declared.token.TokenKind.{TokenKind}
use Rattle.pg_lex.specs.declared.token.TokenKind.TheVariants as kind
use Rattle.pg_lex.specs.Piece.{is_word, is_digit, spelling, sign_of}
use Rattle.pg_lex.specs.Lex.{Cursor, Lexeme, token, after}
use Rattle.pg_lex.specs.Grammar.{Stops, IsGap, nothing, blank, comment, last_comment, IsToken}
use Rattle.pg_lex.specs.Laws.{SplitsText}
use Rattle.pg_lex.proofs.Signs.{sign_is_longest}
use Rattle.pg_lex.proofs.Cursors.{munches_most, tokens_split_text}
use Rattle.pg_lex.proofs.Reading.{grammar_is_read}
use Rattle.pg_assertion_text.specs.Agreement.{ahead, Alike}
use Rattle.pg_assertion_text.proofs.Reaches.{Solid}
use Rattle.pg_assertion_text.proofs.Blames.{token_is_long}

-- the second begins with a blank, or as the first does
abbrev pub Like : List ℕ → List ℕ → Type 0
Like r [] = ⊥
Like [] (b ∷ bs) = b ≡ 32
Like (a ∷ rs) (b ∷ bs) = (b ≡ 32) ⊎ (b ≡ a)

stops_like : (class : ℕ → Bool) (r s : List ℕ) → class 32 ≡ false → Like r s → Stops class r → Stops class s
stops_like class r [] at_blank like stops = absurd like
stops_like class [] (b ∷ bs) at_blank like stops = ap class like ∙ at_blank
stops_like class (a ∷ rs) (b ∷ bs) at_blank (inl like) stops = ap class like ∙ at_blank
stops_like class (a ∷ rs) (b ∷ bs) at_blank (inr like) stops = ap class like ∙ stops

-- no byte stands there that does not stand in the first
not_there : (n : ℕ) (r : List ℕ) (b : ℕ) (bs : List ℕ) → n ≡ b → n ≢ 32 → Like r (b ∷ bs) → (more : List ℕ) × (r ≡ n ∷ more)
not_there n [] b bs is other like = absurd (other (is ∙ like))
not_there n (a ∷ rs) b bs is other (inl like) = absurd (other (is ∙ like))
not_there n (a ∷ rs) b bs is other (inr like) = (rs, ap (λ x. x ∷ rs) (sym like ∙ sym is))

not_two : 2 ≤ 1 → ⊥
not_two h = omega (arith, h)

abbrev IsLongest : Sign → List ℕ → Type 0
IsLongest z r = (t : Sign) (more : List ℕ) → spelling z ++ r ≡ spelling t ++ more → length (spelling t) ≤ length (spelling z)

no_equal : (r more : List ℕ) → r ≡ 61 ∷ more → IsLongest Not r → ⊥
no_equal r more is longest = absurd (omega (arith, longest NotEqual more (rw is refl)))

no_greater : (r more : List ℕ) → r ≡ 62 ∷ more → IsLongest Minus r → ⊥
no_greater r more is longest = absurd (omega (arith, longest Arrow more (rw is refl)))

behind_not : (r : List ℕ) (b : ℕ) (bs : List ℕ) → Like r (b ∷ bs) → IsLongest Not r → 61 ≡ b → ⊥
behind_not r b bs like longest e = let p = not_there 61 r b bs e (λ z. omega (arith, z)) like in no_equal r p.0 p.1 longest

behind_minus : (r : List ℕ) (b : ℕ) (bs : List ℕ) → Like r (b ∷ bs) → IsLongest Minus r → 62 ≡ b → ⊥
behind_minus r b bs like longest e = let p = not_there 62 r b bs e (λ z. omega (arith, z)) like in no_greater r p.0 p.1 longest

sign_found : (z : Sign) (r s : List ℕ) → Like r s → IsLongest z r
    → sign_of (slice_index (spelling z ++ s) 0) (slice_index (spelling z ++ s) 1) ≡ Some z
unfolding sign_of
sign_found Not r [] like longest = refl
sign_found Not r (b ∷ bs) like longest =
    elim (eqb_tells 61 b) [
      | inl e ↦ absurd (behind_not r b bs like longest e.1)
      | inr e ↦ rw e.0 refl
    ]
sign_found Minus r [] like longest = refl
sign_found Minus r (b ∷ bs) like longest =
    elim (eqb_tells 62 b) [
      | inl e ↦ absurd (behind_minus r b bs like longest e.1)
      | inr e ↦ rw e.0 refl
    ]
sign_found _ r s like longest = refl

sign_is_long : (z : Sign) (s : List ℕ) → sign_of (slice_index (spelling z ++ s) 0) (slice_index (spelling z ++ s) 1) ≡ Some z
    → (t : Sign) (more : List ℕ) → spelling z ++ s ≡ spelling t ++ more → length (spelling t) ≤ length (spelling z)
sign_is_long Assign s found t more split = sign_is_longest 58 (61 ∷ s) Assign t more found split
sign_is_long Arrow s found t more split = sign_is_longest 45 (62 ∷ s) Arrow t more found split
sign_is_long NotEqual s found t more split = sign_is_longest 33 (61 ∷ s) NotEqual t more found split
sign_is_long Equal s found t more split = sign_is_longest 61 s Equal t more found split
sign_is_long Not s found t more split = sign_is_longest 33 s Not t more found split
sign_is_long And s found t more split = sign_is_longest 38 s And t more found split
sign_is_long Or s found t more split = sign_is_longest 124 s Or t more found split
sign_is_long Plus s found t more split = sign_is_longest 43 s Plus t more found split
sign_is_long Minus s found t more split = sign_is_longest 45 s Minus t more found split
sign_is_long Times s found t more split = sign_is_longest 42 s Times t more found split
sign_is_long Open s found t more split = sign_is_longest 40 s Open t more found split
sign_is_long Close s found t more split = sign_is_longest 41 s Close t more found split
sign_is_long OpenSquare s found t more split = sign_is_longest 91 s OpenSquare t more found split
sign_is_long CloseSquare s found t more split = sign_is_longest 93 s CloseSquare t more found split
sign_is_long OpenBrace s found t more split = sign_is_longest 123 s OpenBrace t more found split
sign_is_long CloseBrace s found t more split = sign_is_longest 125 s CloseBrace t more found split
sign_is_long Less s found t more split = sign_is_longest 60 s Less t more found split
sign_is_long Greater s found t more split = sign_is_longest 62 s Greater t more found split
sign_is_long Semicolon s found t more split = sign_is_longest 59 s Semicolon t more found split
sign_is_long Comma s found t more split = sign_is_longest 44 s Comma t more found split

token_like : (k : TokenKind) (text r s : List ℕ) → k ≢ kind.End → Like r s → IsToken k text r → IsToken k text s
token_like kind.Word text r s no_end like t = (t.0, (t.1.0, stops_like is_word r s refl like t.1.1), t.2)
token_like (kind.Number n) text r s no_end like t = (t.0, (t.1.0, stops_like is_digit r s refl like t.1.1), t.2, t.3)
token_like (kind.Letter b) text r s no_end like t = t
token_like (kind.Sign z) text r s no_end like t =
    let longest = rw t.0 at t.1 in
    (t.0, rw t.0 (sign_is_long z s (sign_found z r s like longest)))
token_like kind.End text r s no_end like t = absurd (no_end refl)

gap_like : (gap r s : List ℕ) → 0 < length r → IsGap gap r → IsGap gap s
gap_like _ r s some (nothing _) = nothing s
gap_like _ r s some (blank b gap _ is rest) = blank b gap s is (gap_like gap r s some rest)
gap_like _ r s some (comment line gap _ all_in rest) = comment line gap s all_in (gap_like gap r s some rest)
gap_like _ r s some (last_comment line all_in) = absurd (omega arith)

-- ---- a text whose first tokens stay

-- another text with the same next m tokens, and with a blank and such bytes behind them
pub record Swapped (m : ℕ) (c : Cursor) (bytes : List ℕ) : Type 0 where
  pub rest : List ℕ
  pub like : Like c.rest rest
  pub alike : Alike m (record { at = c.at; rest = rest }) c
  pub behind : ahead m (record { at = c.at; rest = rest }) ≡ record { at = (ahead m c).at; rest = 32 ∷ bytes }

like_front : (gap text r s : List ℕ) → 0 < length text → Like (gap ++ (text ++ r)) (gap ++ (text ++ s))
like_front [] [] r s some = absurd (omega arith)
like_front [] (b ∷ bs) r s some = inr refl
like_front (a ∷ rs) text r s some = inr refl

pub swapped : (m : ℕ) (c : Cursor) (bytes : List ℕ) → ((j : ℕ) → j < m → Solid (ahead j c)) → Swapped m c bytes
swapped zero c bytes solid = record {
  rest = 32 ∷ bytes;
  like = by c.rest;
  alike = tt;
  behind = refl;
}
  where
    by : (r : List ℕ) → Like r (32 ∷ bytes)
    by [] = refl
    by (a ∷ rs) = inl refl
swapped (suc m) c bytes solid =
    let inner = swapped m (after c) bytes (λ j less. solid (suc j) (omega arith)) in
    let here = solid 0 (omega arith) in
    let l = here.0 in
    let split = tokens_split_text c l here.1 in
    let is_token = munches_most c l here.1 in
    let long = token_is_long l.kind l.text (after c).rest is_token here.2 in
    by inner l here.1 split long (token_like l.kind l.text (after c).rest inner.rest here.2 inner.like is_token)
  where
    by : (inner : Swapped m (after c) bytes) (l : Lexeme) → token c ≡ Ok l → (split : SplitsText c l) → 0 < length l.text → IsToken l.kind l.text inner.rest → Swapped (suc m) c bytes
    by inner l is split long is_token =
        let d : Cursor = record { at = c.at; rest = split.gap ++ (l.text ++ inner.rest) } in
        let some : 0 < length (l.text ++ (after c).rest) = let la = length-append l.text (after c).rest in omega (arith, la, long) in
        let read = grammar_is_read d l.kind split.gap l.text inner.rest refl (gap_like split.gap (l.text ++ (after c).rest) (l.text ++ inner.rest) some split.is_gap) is_token in
        let place = split.place in
        let ends = split.behind in
        let behind : after d ≡ record { at = (after c).at; rest = inner.rest } = read.1 ∙ ap (λ n. record { at = n; rest = inner.rest }) (omega (arith, place, ends)) in
        record {
          rest = split.gap ++ (l.text ++ inner.rest);
          like = subst (λ r. Like r (split.gap ++ (l.text ++ inner.rest))) (sym split.text) (like_front split.gap l.text (after c).rest inner.rest long);
          alike = (read.0 ∙ ap (λ n. Ok (record { kind = l.kind; place = n; text = l.text })) (sym place) ∙ sym is, subst (λ x. Alike m x (after c)) (sym behind) inner.alike);
          behind = ap (ahead m) behind ∙ inner.behind;
        }
