-- What a text spells stands where the text leads, whatever follows it; blanks in front are passed over.
use Rattle.std.proofs.Common.{◌≡◌, ℕ, Bool, ◌==◌, ◌+◌, ◌≤◌, false, true, List, [], ◌∷◌, ◌++◌, length, drop, refl, sym, ap, ap₂, subst, ◌∙◌, arith, append_assoc, length-append, lit≤}
use Rattle.std.specs.Prelude.{codes, slice_index, Some}
use Rattle.pg_lex.specs.declared.token.Sign.{Sign}
use Rattle.pg_lex.specs.declared.token.Sign.TheVariants as s
use Rattle.pg_lex.specs.declared.token.TokenKind.{TokenKind}
use Rattle.pg_lex.specs.declared.token.TokenKind.TheVariants as kind
use Rattle.pg_lex.specs.Piece.{is_lower, is_word, is_letter, spelling, sign_of, gap_len, piece, piece_len}
use Rattle.pg_lex.specs.Lex.{Cursor, token, after, behind_gap, lexeme_at, advance}
use Rattle.pg_lex.specs.Grammar.{AllIn, Begins, Stops, IsToken, nothing}
use Rattle.pg_lex.proofs.Runs.{one_more}
use Rattle.pg_lex.proofs.Signs.{sign_is_longest}
use Rattle.pg_lex.proofs.Reading.{grammar_is_read}
use Rattle.pg_program.specs.NameTable.{NameTable}
use Rattle.pg_assertion_text.specs.Words.{Item, Matches, Stands, sign, letter, number, word}
use Rattle.pg_assertion_text.specs.Spelling.{Ends}
use Rattle.pg_assertion_text.specs.SpellingLaws.{cursor}

-- ---- places of a text with the same token in front

-- after the blanks and comments both are at one place
pub record Leads (from c : Cursor) : Type 0 where
  pub same : behind_gap from ≡ behind_gap c

pub here : (c : Cursor) → Leads c c
here c = record { same = refl }

token_of : (from c : Cursor) → Leads from c → token from ≡ token c
unfolding token
token_of from c leads = ap (λ (g : Cursor). lexeme_at g (piece g.rest)) leads.same

after_of : (from c : Cursor) → Leads from c → after from ≡ after c
unfolding after
after_of from c leads = ap (λ (g : Cursor). advance (piece_len (piece g.rest)) g) leads.same

pub past_blank : (at : ℕ) (rest : List ℕ) → behind_gap (cursor at (32 ∷ rest)) ≡ behind_gap (cursor (at + 1) rest)
past_blank at rest =
    let g = gap_len false rest in
    let further : at + (1 + g) ≡ at + 1 + g = omega arith in
    ap₂ cursor further (ap (λ (k : ℕ). drop k (32 ∷ rest)) (one_more g))

-- ---- spelling

-- the text, with such a text after it, leads from one place to another in this way
pub record Spells (Before : List ℕ → Type 0) (X : Cursor → Cursor → Type 0) (w : List ℕ) : Type 0 where
  pub stands : (from : Cursor) (at : ℕ) (more : List ℕ) → Before more → Leads from (cursor at (w ++ more)) → X from (cursor (at + length w) more)

abbrev pub Anything : List ℕ → Type 0
Anything more = Unit {0}

-- one way, and then another
abbrev pub Then : (Cursor → Cursor → Type 0) → (Cursor → Cursor → Type 0) → Cursor → Cursor → Type 0
Then X Y from to = (mid : Cursor) × X from mid × Y mid to

pub joined : {P Q : List ℕ → Type 0} {X Y : Cursor → Cursor → Type 0} {w v : List ℕ}
    → Spells P X w → Spells Q Y v → ((more : List ℕ) → Q more → P (v ++ more)) → Spells Q (Then X Y) (w ++ v)
joined {P} {Q} {X} {Y} {w} {v} a b may = record {
  stands = λ from at more ok leads.
      let mid = cursor (at + length w) (v ++ more) in
      let behind : at + length w + length v ≡ at + length (w ++ v) = omega (arith, length-append w v) in
      let first = a.stands from at (v ++ more) (may more ok) (subst (λ (t : List ℕ). Leads from (cursor at t)) (append_assoc w v more) leads) in
      let second = b.stands mid (at + length w) more ok (here mid) in
      (mid, first, subst (λ (n : ℕ). Y mid (cursor n more)) behind second);
}

pub blank : {P : List ℕ → Type 0} {X : Cursor → Cursor → Type 0} {w : List ℕ} → Spells P X w → Spells P X (32 ∷ w)
blank {P} {X} {w} a = record {
  stands = λ from at more ok leads.
      let behind : at + 1 + length w ≡ at + length (32 ∷ w) = omega arith in
      let further : Leads from (cursor (at + 1) (w ++ more)) = record { same = leads.same ∙ past_blank at (w ++ more) } in
      subst (λ (n : ℕ). X from (cursor n more)) behind (a.stands from (at + 1) more ok further);
}

pub mapped : {P : List ℕ → Type 0} {X Y : Cursor → Cursor → Type 0} {w : List ℕ}
    → Spells P X w → ((from to : Cursor) → X from to → Y from to) → Spells P Y w
mapped {P} {X} {Y} {w} a f = record { stands = λ from at more ok leads. f from (cursor (at + length w) more) (a.stands from at more ok leads) }

-- where anything may follow, so may what is asked for
pub widened : {P : List ℕ → Type 0} {X : Cursor → Cursor → Type 0} {w : List ℕ} → Spells Anything X w → Spells P X w
widened a = record { stands = λ from at more ok leads. a.stands from at more tt leads }

-- ---- tokens

pub token_stands : {P : List ℕ → Type 0} (names : NameTable) (item : Item) (k : TokenKind) (w : List ℕ)
    → ((place : ℕ) → Matches names item (record { kind = k; place = place; text = w })) → ((more : List ℕ) → P more → IsToken k w more)
    → Spells P (Stands names item) w
token_stands {P} names item k w matches is_token = record {
  stands = λ from at more ok leads.
      let c = cursor at (w ++ more) in
      let read = grammar_is_read c k [] w more refl (nothing (w ++ more)) (is_token more ok) in
      let behind : at + length {A = ℕ} [] + length w ≡ at + length w = omega arith in
      record {
        lexeme = record { kind = k; place = at + length {A = ℕ} []; text = w };
        read = token_of from c leads ∙ read.0;
        matches = matches (at + length {A = ℕ} []);
        behind = sym (after_of from c leads ∙ read.1 ∙ ap (λ (n : ℕ). cursor n more) behind);
      };
}

pub sign_is_token : (z : Sign) (b : ℕ) (bs more : List ℕ) → spelling z ≡ b ∷ bs → sign_of b (slice_index (bs ++ more) 0) ≡ Some z
    → IsToken (kind.Sign z) (b ∷ bs) more
sign_is_token z b bs more is found =
    (sym is, λ t rest split. subst (λ (w : List ℕ). length (spelling t) ≤ length w) is (sign_is_longest b (bs ++ more) z t rest found split))

pub sign_stands : (names : NameTable) (z : Sign) (b : ℕ) (bs : List ℕ) → spelling z ≡ b ∷ bs
    → ((more : List ℕ) → sign_of b (slice_index (bs ++ more) 0) ≡ Some z) → Spells Anything (Stands names (sign z)) (b ∷ bs)
sign_stands names z b bs is found =
    token_stands names (sign z) (kind.Sign z) (b ∷ bs) (λ place. refl) (λ more ok. sign_is_token z b bs more is (found more))

pub and_stands : (names : NameTable) → Spells Anything (Stands names (sign s.And)) (codes "&")
unfolding sign_of
and_stands names = sign_stands names s.And 38 [] refl (λ more. refl)

pub or_stands : (names : NameTable) → Spells Anything (Stands names (sign s.Or)) (codes "|")
unfolding sign_of
or_stands names = sign_stands names s.Or 124 [] refl (λ more. refl)

pub arrow_stands : (names : NameTable) → Spells Anything (Stands names (sign s.Arrow)) (codes "->")
unfolding sign_of
arrow_stands names = sign_stands names s.Arrow 45 (62 ∷ []) refl (λ more. refl)

pub open_stands : (names : NameTable) → Spells Anything (Stands names (sign s.Open)) (codes "(")
unfolding sign_of
open_stands names = sign_stands names s.Open 40 [] refl (λ more. refl)

pub close_stands : (names : NameTable) → Spells Anything (Stands names (sign s.Close)) (codes ")")
unfolding sign_of
close_stands names = sign_stands names s.Close 41 [] refl (λ more. refl)

pub comma_stands : (names : NameTable) → Spells Anything (Stands names (sign s.Comma)) (codes ",")
unfolding sign_of
comma_stands names = sign_stands names s.Comma 44 [] refl (λ more. refl)

pub equal_stands : (names : NameTable) → Spells Anything (Stands names (sign s.Equal)) (codes "=")
unfolding sign_of
equal_stands names = sign_stands names s.Equal 61 [] refl (λ more. refl)

-- `!` is not followed by `=`
abbrev pub is_equal : ℕ → Bool
is_equal b = 61 == b

found_not : (more : List ℕ) → Stops is_equal more → sign_of 33 (slice_index more 0) ≡ Some s.Not
unfolding sign_of
found_not [] stops = refl
found_not (b ∷ bs) stops = rw stops refl

pub not_stands : (names : NameTable) → Spells (Stops is_equal) (Stands names (sign s.Not)) (codes "!")
not_stands names =
    token_stands names (sign s.Not) (kind.Sign s.Not) (codes "!") (λ place. refl) (λ more ok. sign_is_token s.Not 33 [] more refl (found_not more ok))

pub letter_stands : (names : NameTable) (b : ℕ) → is_letter b ≡ true → Spells Anything (Stands names (letter b)) (b ∷ [])
letter_stands names b is = token_stands names (letter b) (kind.Letter b) (b ∷ []) (λ place. refl) (λ more ok. (refl, is))

pub word_stands : (names : NameTable) (item : Item) (w : List ℕ)
    → ((place : ℕ) → Matches names item (record { kind = kind.Word; place = place; text = w }))
    → Begins is_lower w → AllIn is_word w → length w ≤ 32 → Spells Ends (Stands names item) w
word_stands names item w matches begins all_in short =
    token_stands names item kind.Word w matches (λ more ok. (begins, (all_in, ok), short))

pub true_stands : (names : NameTable) → Spells Ends (Stands names (word (codes "true"))) (codes "true")
true_stands names = word_stands names (word (codes "true")) (codes "true") (λ place. (refl, refl)) refl (refl, (refl, (refl, (refl, tt)))) (lit≤ tt)

pub false_stands : (names : NameTable) → Spells Ends (Stands names (word (codes "false"))) (codes "false")
false_stands names = word_stands names (word (codes "false")) (codes "false") (λ place. (refl, refl)) refl (refl, (refl, (refl, (refl, (refl, tt))))) (lit≤ tt)

pub number_stands : (names : NameTable) (n : ℕ) (w : List ℕ) → ((more : List ℕ) → Ends more → IsToken (kind.Number n) w more)
    → Spells Ends (Stands names (number n)) w
number_stands names n w is_token = token_stands names (number n) (kind.Number n) w (λ place. refl) is_token
