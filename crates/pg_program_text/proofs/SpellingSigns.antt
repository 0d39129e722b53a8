-- The signs and keywords of threads at the bytes that they are spelled with.
use Rattle.std.proofs.Common.{◌≡◌, ℕ, Bool, ◌==◌, Some, List, [], ◌∷◌, refl, lit≤}
use Rattle.std.specs.Prelude.{codes, slice_index}
use Rattle.pg_lex.specs.declared.token.Sign.TheVariants as s
use Rattle.pg_lex.specs.declared.token.TokenKind.TheVariants as kind
use Rattle.pg_lex.specs.Piece.{sign_of}
use Rattle.pg_lex.specs.Grammar.{Stops}
use Rattle.pg_program.specs.NameTable.{NameTable}
use Rattle.pg_assertion_text.specs.Words.{Stands, sign, word}
use Rattle.pg_assertion_text.specs.Spelling.{Ends}
use Rattle.pg_assertion_text.proofs.SpellingTokens.{Spells, Anything, token_stands, sign_is_token, sign_stands, word_stands}
use Rattle.pg_program_text.specs.Keywords.{spelling}
use Rattle.pg_program_text.specs.declared.keyword.Keyword.TheVariants as k

pub plus_stands : (names : NameTable) → Spells Anything (Stands names (sign s.Plus)) (codes "+")
unfolding sign_of
plus_stands names = sign_stands names s.Plus 43 [] refl (λ more. refl)

pub times_stands : (names : NameTable) → Spells Anything (Stands names (sign s.Times)) (codes "*")
unfolding sign_of
times_stands names = sign_stands names s.Times 42 [] refl (λ more. refl)

-- `-` is not followed by `>`
abbrev pub is_greater : ℕ → Bool
is_greater b = 62 == b

found_minus : (more : List ℕ) → Stops is_greater more → sign_of 45 (slice_index more 0) ≡ Some s.Minus
unfolding sign_of
found_minus [] stops = refl
found_minus (b ∷ bs) stops = rw stops refl

pub minus_stands : (names : NameTable) → Spells (Stops is_greater) (Stands names (sign s.Minus)) (codes "-")
minus_stands names =
    token_stands names (sign s.Minus) (kind.Sign s.Minus) (codes "-") (λ place. refl) (λ more ok. sign_is_token s.Minus 45 [] more refl (found_minus more ok))

pub assign_stands : (names : NameTable) → Spells Anything (Stands names (sign s.Assign)) (codes ":=")
unfolding sign_of
assign_stands names = sign_stands names s.Assign 58 (61 ∷ []) refl (λ more. refl)

pub not_equal_stands : (names : NameTable) → Spells Anything (Stands names (sign s.NotEqual)) (codes "!=")
unfolding sign_of
not_equal_stands names = sign_stands names s.NotEqual 33 (61 ∷ []) refl (λ more. refl)

pub less_stands : (names : NameTable) → Spells Anything (Stands names (sign s.Less)) (codes "<")
unfolding sign_of
less_stands names = sign_stands names s.Less 60 [] refl (λ more. refl)

pub greater_stands : (names : NameTable) → Spells Anything (Stands names (sign s.Greater)) (codes ">")
unfolding sign_of
greater_stands names = sign_stands names s.Greater 62 [] refl (λ more. refl)

pub semicolon_stands : (names : NameTable) → Spells Anything (Stands names (sign s.Semicolon)) (codes ";")
unfolding sign_of
semicolon_stands names = sign_stands names s.Semicolon 59 [] refl (λ more. refl)

pub open_square_stands : (names : NameTable) → Spells Anything (Stands names (sign s.OpenSquare)) (codes "[")
unfolding sign_of
open_square_stands names = sign_stands names s.OpenSquare 91 [] refl (λ more. refl)

pub close_square_stands : (names : NameTable) → Spells Anything (Stands names (sign s.CloseSquare)) (codes "]")
unfolding sign_of
close_square_stands names = sign_stands names s.CloseSquare 93 [] refl (λ more. refl)

pub open_brace_stands : (names : NameTable) → Spells Anything (Stands names (sign s.OpenBrace)) (codes "{")
unfolding sign_of
open_brace_stands names = sign_stands names s.OpenBrace 123 [] refl (λ more. refl)

pub close_brace_stands : (names : NameTable) → Spells Anything (Stands names (sign s.CloseBrace)) (codes "}")
unfolding sign_of
close_brace_stands names = sign_stands names s.CloseBrace 125 [] refl (λ more. refl)

-- ---- keywords

pub mfence_stands : (names : NameTable) → Spells Ends (Stands names (word (spelling k.Mfence))) (codes "mfence")
mfence_stands names = word_stands names (word (codes "mfence")) (codes "mfence") (λ place. (refl, refl)) refl (refl, (refl, (refl, (refl, (refl, (refl, tt)))))) (lit≤ tt)

pub sfence_stands : (names : NameTable) → Spells Ends (Stands names (word (spelling k.Sfence))) (codes "sfence")
sfence_stands names = word_stands names (word (codes "sfence")) (codes "sfence") (λ place. (refl, refl)) refl (refl, (refl, (refl, (refl, (refl, (refl, tt)))))) (lit≤ tt)

pub flush_stands : (names : NameTable) → Spells Ends (Stands names (word (spelling k.Flush))) (codes "flush")
flush_stands names = word_stands names (word (codes "flush")) (codes "flush") (λ place. (refl, refl)) refl (refl, (refl, (refl, (refl, (refl, tt))))) (lit≤ tt)

pub flushopt_stands : (names : NameTable) → Spells Ends (Stands names (word (spelling k.Flushopt))) (codes "flushopt")
flushopt_stands names = word_stands names (word (codes "flushopt")) (codes "flushopt") (λ place. (refl, refl)) refl (refl, (refl, (refl, (refl, (refl, (refl, (refl, (refl, tt)))))))) (lit≤ tt)

pub cas_stands : (names : NameTable) → Spells Ends (Stands names (word (spelling k.Cas))) (codes "cas")
cas_stands names = word_stands names (word (codes "cas")) (codes "cas") (λ place. (refl, refl)) refl (refl, (refl, (refl, tt))) (lit≤ tt)

pub if_stands : (names : NameTable) → Spells Ends (Stands names (word (spelling k.If))) (codes "if")
if_stands names = word_stands names (word (codes "if")) (codes "if") (λ place. (refl, refl)) refl (refl, (refl, tt)) (lit≤ tt)

pub else_stands : (names : NameTable) → Spells Ends (Stands names (word (spelling k.Else))) (codes "else")
else_stands names = word_stands names (word (codes "else")) (codes "else") (λ place. (refl, refl)) refl (refl, (refl, (refl, (refl, tt)))) (lit≤ tt)

pub while_stands : (names : NameTable) → Spells Ends (Stands names (word (spelling k.While))) (codes "while")
while_stands names = word_stands names (word (codes "while")) (codes "while") (λ place. (refl, refl)) refl (refl, (refl, (refl, (refl, (refl, tt))))) (lit≤ tt)
