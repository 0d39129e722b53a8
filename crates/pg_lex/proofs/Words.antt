-- A word is ASCII, and so it is text.
use Rattle.std.proofs.Common.{◌≡◌, ℕ, zero, suc, ◌<◌, inl, inr, true, List, [], ◌∷◌, arith, subst, lit<}
use Rattle.std.specs.Prelude.{nat_le, Ok, ◌==◌, ◌||◌}
use Rattle.std.specs.Str.{IsAscii, IsUtf8}
use Rattle.std.proofs.lemmas.Bool.{eqb-true, leb-true}
use Rattle.std.proofs.lemmas.Str.{IsUtf8-from_ascii}
use Rattle.pg_lex.specs.declared.token.TokenKind.{TokenKind}
use Rattle.pg_lex.specs.declared.token.TokenKind.TheVariants as kind
use Rattle.pg_lex.specs.Piece.{is_lower, is_digit, is_word}
use Rattle.pg_lex.specs.Lex.{Cursor, Lexeme, token, after}
use Rattle.pg_lex.specs.Grammar.{AllIn, IsToken}
use Rattle.pg_lex.proofs.Reading.{or_cases, and_second}
use Rattle.pg_lex.proofs.Cursors.{munches_most}

byte_is_ascii : (b : ℕ) → is_word b ≡ true → b < 128
byte_is_ascii b h =
    elim (or_cases (is_lower b || is_digit b) (b == 95) h) [
      | inl e ↦ elim (or_cases (is_lower b) (is_digit b) e) [
        | inl lower ↦ omega (arith, leb-true b 122 (and_second (nat_le 97 b) (nat_le b 122) lower))
        | inr digit ↦ omega (arith, leb-true b 57 (and_second (nat_le 48 b) (nat_le b 57) digit))
      ]
      | inr e ↦ omega (arith, eqb-true b 95 e)
    ]

pub word_is_ascii : (text : List ℕ) → AllIn is_word text → IsAscii text
word_is_ascii [] all_in i = lit< tt
word_is_ascii (b ∷ bs) all_in zero = byte_is_ascii b all_in.0
word_is_ascii (b ∷ bs) all_in (suc i) = word_is_ascii bs all_in.1 i

-- a word's text, as a parser reads it
pub word_is_utf8 : (c : Cursor) (l : Lexeme) → token c ≡ Ok l → l.kind ≡ kind.Word → IsUtf8 l.text
word_is_utf8 c l h is_word_token =
    let is_token = subst (λ (k : TokenKind). IsToken k l.text (after c).rest) is_word_token (munches_most c l h) in
    IsUtf8-from_ascii l.text (word_is_ascii l.text is_token.1.0)
