-- The laws of `token` and `after`.
use Rattle.std.proofs.Common.{◌≡◌, ◌≢◌, ℕ, ◌+◌, ◌<◌, false, List, [], ◌∷◌, ◌++◌, length, take, drop, arith, refl, sym, ap, subst, length-append, length-take, add-zero, lit<, Bool}
use Rattle.std.specs.Prelude.{Result, Ok, Err}
use Rattle.std.proofs.lemmas.List.{take-append-drop}
use Rattle.pg_lex.specs.declared.token.TokenKind.{TokenKind}
use Rattle.pg_lex.specs.declared.token.TokenKind.TheVariants as kind
use Rattle.pg_lex.specs.declared.fault.TextFault.{TextFault}
use Rattle.pg_lex.specs.declared.fault.TextFault.TheVariants.{At}
use Rattle.pg_lex.specs.declared.fault.TextKind.{TextKind}
use Rattle.pg_lex.specs.declared.scan.Piece.{Piece}
use Rattle.pg_lex.specs.Piece.{gap_len, piece, piece_len}
use Rattle.pg_lex.specs.Lex.{Cursor, Lexeme, token, after, behind_gap, lexeme_at, advance}
use Rattle.pg_lex.specs.Grammar.{IsToken, Begins}
use Rattle.pg_lex.proofs.Signs.{one_le-spelling}
use Rattle.pg_lex.specs.Laws.{MunchesMost, SplitsText, TokensSplitText, RefusesText, Refuses, FaultsAreExact, TokensShortenRest, EndStays}
use Rattle.pg_lex.proofs.Gaps.{gap_within, gap_is_gap, gap_is_longest}
use Rattle.pg_lex.proofs.Pieces.{IsPiece, Describes, piece_describes}

-- where `token` is Ok, the piece that it comes from
record Comes (g : Cursor) (outcome : Result Piece TextKind) (l : Lexeme) : Type 0 where
  cut : Piece
  outcome_is : outcome ≡ Ok cut
  kind_is : l.kind ≡ cut.kind
  place_is : l.place ≡ g.at
  text_is : l.text ≡ take cut.len g.rest

comes : (g : Cursor) (outcome : Result Piece TextKind) (l : Lexeme) → lexeme_at g outcome ≡ Ok l → Comes g outcome l
comes g (Ok p) l h = record { cut = p; outcome_is = refl; kind_is = cc; place_is = cc; text_is = cc }
comes g (Err k) l h = absurd (cc)

-- a token's parts, by the piece that is cut off after the gap
pub record IsCut (c : Cursor) (l : Lexeme) : Type 0 where
  pub cut : Piece
  pub kind_is : l.kind ≡ cut.kind
  pub place_is : l.place ≡ c.at + gap_len false c.rest
  pub text_is : l.text ≡ take cut.len (drop (gap_len false c.rest) c.rest)
  pub after_is : after c ≡ advance cut.len (behind_gap c)
  pub is_piece : IsPiece (drop (gap_len false c.rest) c.rest) cut

pub token_is_cut : (c : Cursor) (l : Lexeme) → token c ≡ Ok l → IsCut c l
unfolding token after
token_is_cut c l h =
    let p = comes (behind_gap c) (piece (behind_gap c).rest) l h in
    record {
      cut = p.cut;
      kind_is = p.kind_is;
      place_is = p.place_is;
      text_is = p.text_is;
      after_is = ap (λ o. advance (piece_len o) (behind_gap c)) p.outcome_is;
      is_piece = subst (Describes (behind_gap c).rest) p.outcome_is (piece_describes (behind_gap c).rest);
    }

cut_munches : (c : Cursor) (l : Lexeme) → IsCut c l → IsToken l.kind l.text (after c).rest
cut_munches c l p = rw (p.kind_is, p.text_is, p.after_is) p.is_piece.0

pub munches_most : MunchesMost
munches_most c l h = cut_munches c l (token_is_cut c l h)

cut_splits : (c : Cursor) (l : Lexeme) → IsCut c l → SplitsText c l
cut_splits c l p =
    let n = gap_len false c.rest in
    let behind : l.text ++ (after c).rest ≡ drop n c.rest = rw (p.text_is, p.after_is) (take-append-drop p.cut.len (drop n c.rest)) in
    let gap_long : length (take n c.rest) ≡ n = omega (arith, length-take n c.rest, gap_within false c.rest) in
    let text_long : length l.text ≡ p.cut.len = rw p.text_is (omega (arith, length-take p.cut.len (drop n c.rest), p.is_piece.1)) in
    let at_is : (after c).at ≡ (c.at + n) + p.cut.len = ap (λ (d : Cursor). d.at) p.after_is in
    record {
      gap = take n c.rest;
      text = rw behind (sym (take-append-drop n c.rest));
      is_gap = rw behind (gap_is_gap c.rest);
      is_longest = rw behind (gap_is_longest false c.rest);
      place = omega (arith, gap_long, p.place_is);
      behind = omega (arith, at_is, text_long, p.place_is);
    }

pub tokens_split_text : TokensSplitText
tokens_split_text c l h = cut_splits c l (token_is_cut c l h)

-- where `token` is Err, the cause that it comes from
refused : (g : Cursor) (outcome : Result Piece TextKind) (e : TextFault) → lexeme_at g outcome ≡ Err e
    → (k : TextKind) × (outcome ≡ Err k) × (e ≡ At g.at k)
refused g (Ok p) e h = absurd (cc)
refused g (Err k) e h = (k, refl, cc)

gap_refuses : (c : Cursor) (k : TextKind) → piece (drop (gap_len false c.rest) c.rest) ≡ Err k
    → RefusesText c (c.at + gap_len false c.rest) k
gap_refuses c k outcome_is =
    let n = gap_len false c.rest in
    record {
      gap = take n c.rest;
      behind = drop n c.rest;
      text = sym (take-append-drop n c.rest);
      is_gap = gap_is_gap c.rest;
      is_longest = gap_is_longest false c.rest;
      place_is = omega (arith, length-take n c.rest, gap_within false c.rest);
      is_fault = subst (Describes (drop n c.rest)) outcome_is (piece_describes (drop n c.rest));
    }

pub faults_are_exact : FaultsAreExact
unfolding token
faults_are_exact c e h =
    let r = refused (behind_gap c) (piece (behind_gap c).rest) e h in
    subst (Refuses c) (sym r.2) (gap_refuses c r.0 r.1)

begins_long : (class : ℕ → Bool) (text : List ℕ) → Begins class text → 0 < length text
begins_long class [] h = absurd h
begins_long class (b ∷ bs) h = omega arith

token_is_long : (k : TokenKind) (text rest : List ℕ) → IsToken k text rest → k ≢ kind.End → 0 < length text
token_is_long kind.Word text rest is_token no_end = begins_long _ text is_token.0
token_is_long (kind.Number n) text rest is_token no_end = begins_long _ text is_token.0
token_is_long (kind.Letter b) text rest is_token no_end = rw is_token.0 (lit< tt)
token_is_long (kind.Sign s) text rest is_token no_end = rw is_token.0 (one_le-spelling s)
token_is_long kind.End text rest is_token no_end = absurd (no_end refl)

split_shortens : (c : Cursor) (l : Lexeme) → SplitsText c l → 0 < length l.text → length (after c).rest < length c.rest
split_shortens c l split long =
    let whole = ap length split.text in
    let outer = length-append split.gap (l.text ++ (after c).rest) in
    let inner = length-append l.text (after c).rest in
    omega (arith, whole, outer, inner, long)

pub tokens_shorten_rest : TokensShortenRest
tokens_shorten_rest c l h no_end =
    split_shortens c l (tokens_split_text c l h) (token_is_long l.kind l.text (after c).rest (munches_most c l h) no_end)

pub token_at_end : (n : ℕ) → token (record { at = n; rest = [] }) ≡ Ok (record { kind = kind.End; place = n; text = [] })
unfolding token piece
token_at_end n = simp add-zero

pub after_at_end : (n : ℕ) → after (record { at = n; rest = [] }) ≡ record { at = n; rest = [] }
unfolding after piece
after_at_end n = simp add-zero

lexeme_is : (l : Lexeme) (k : TokenKind) (n : ℕ) (bs : List ℕ) → l.kind ≡ k → l.place ≡ n → l.text ≡ bs
    → l ≡ record { kind = k; place = n; text = bs }
lexeme_is l k n bs kind_is place_is text_is = rw (← kind_is, ← place_is, ← text_is) refl

pub cursor_is : (c : Cursor) (n : ℕ) (bs : List ℕ) → c.at ≡ n → c.rest ≡ bs → c ≡ record { at = n; rest = bs }
cursor_is c n bs at_is rest_is = rw (← at_is, ← rest_is) refl

-- what is empty after the gap leaves the gap alone
all_gap : (rest gap text more : List ℕ) → rest ≡ gap ++ (text ++ more) → text ≡ [] → more ≡ [] → length rest ≡ length gap
all_gap rest gap text more split no_text no_more =
    omega (arith, ap length split, length-append gap (text ++ more), length-append text more, ap length no_text, ap length no_more)

-- a cursor at the end, and the token there
stays : (c d : Cursor) (l : Lexeme) (n : ℕ) → l ≡ record { kind = kind.End; place = n; text = [] } → d ≡ record { at = n; rest = [] }
    → (token d ≡ Ok l) × (after d ≡ d)
stays c d l n l_is d_is = rw (l_is, d_is) (token_at_end n, after_at_end n)

pub end_stays : EndStays
end_stays c l h is_end =
    let split = tokens_split_text c l h in
    let is_token = subst (λ (k : TokenKind). IsToken k l.text (after c).rest) is_end (munches_most c l h) in
    let long = all_gap c.rest split.gap l.text (after c).rest split.text is_token.0 is_token.1 in
    let place_is : l.place ≡ c.at + length c.rest = omega (arith, split.place, long) in
    let at_is : (after c).at ≡ c.at + length c.rest = omega (arith, split.behind, place_is, ap length is_token.0) in
    let l_is = lexeme_is l kind.End (c.at + length c.rest) [] is_end place_is is_token.0 in
    let after_is = cursor_is (after c) (c.at + length c.rest) [] at_is is_token.1 in
    let again = stays c (after c) l (c.at + length c.rest) l_is after_is in
    (l_is, after_is, again.0, again.1)
