-- What an operand begins with, by its first token.
use Rattle.std.proofs.Common.{◌≡◌, ℕ, Bool, true, false, List, refl, ap, ◌∙◌, subst}
use Rattle.std.specs.Prelude.{codes, if◌then◌else◌}
use Rattle.std.specs.Str.{bytes_eq}
use Rattle.std.proofs.lemmas.Slice.Eq.{bytes_eq-Decides}
use Rattle.pg_lex.specs.declared.token.Sign.{Sign}
use Rattle.pg_lex.specs.declared.token.Sign.TheVariants as s
use Rattle.pg_lex.specs.declared.token.TokenKind.{TokenKind}
use Rattle.pg_lex.specs.declared.token.TokenKind.TheVariants as kind
use Rattle.pg_lex.specs.Lex.{Lexeme}
use Rattle.pg_assertion_text.specs.declared.formula.Opening.{Opening}
use Rattle.pg_assertion_text.specs.declared.formula.Opening.TheVariants.{Negation, Bracket, Constant, Atom}
use Rattle.pg_assertion_text.specs.Input.{is_sign}
use Rattle.pg_assertion_text.specs.Reading.{start, start_by, start_word}
use Rattle.pg_assertion_text.proofs.Steps.{is_sign_found}

pub word_of : Bool → List ℕ
word_of true = codes "true"
word_of false = codes "false"

-- what each opening says of the token
abbrev pub Opens : Opening → TokenKind → List ℕ → Type 0
Opens Negation k text = k ≡ kind.Sign s.Not
Opens Bracket k text = k ≡ kind.Sign s.Open
Opens (Constant true) k text = (k ≡ kind.Word) × (text ≡ codes "true")
Opens (Constant false) k text = (k ≡ kind.Word) × (text ≡ codes "false")
Opens Atom k text = Unit {0}

sign_opens : (z : Sign) (text : List ℕ) → Opens (start_by (kind.Sign z) text) (kind.Sign z) text
sign_opens z text = by (is_sign s.Not (kind.Sign z)) refl
  where
    second : (b : Bool) → is_sign s.Open (kind.Sign z) ≡ b → Opens (if b then Bracket else Atom) (kind.Sign z) text
    second true e = is_sign_found s.Open (kind.Sign z) e
    second false e = tt

    by : (b : Bool) → is_sign s.Not (kind.Sign z) ≡ b → Opens (if b then Negation else (if is_sign s.Open (kind.Sign z) then Bracket else Atom)) (kind.Sign z) text
    by true e = is_sign_found s.Not (kind.Sign z) e
    by false e = second (is_sign s.Open (kind.Sign z)) refl

word_opens : (text : List ℕ) → Opens (start_word text) kind.Word text
word_opens text = by (bytes_eq text (codes "true")) refl
  where
    second : (b : Bool) → bytes_eq text (codes "false") ≡ b → Opens (if b then Constant false else Atom) kind.Word text
    second true e = (refl, (bytes_eq-Decides text (codes "false")).0 e)
    second false e = tt

    by : (b : Bool) → bytes_eq text (codes "true") ≡ b → Opens (if b then Constant true else (if bytes_eq text (codes "false") then Constant false else Atom)) kind.Word text
    by true e = (refl, (bytes_eq-Decides text (codes "true")).0 e)
    by false e = second (bytes_eq text (codes "false")) refl

opens_by : (k : TokenKind) (text : List ℕ) → Opens (start_by k text) k text
opens_by (kind.Sign z) text = sign_opens z text
opens_by kind.Word text = word_opens text
opens_by (kind.Number n) text = tt
opens_by (kind.Letter b) text = tt
opens_by kind.End text = tt

-- a token is what it opens
pub opens : (t : Lexeme) (o : Opening) → start t ≡ o → Opens o t.kind t.text
unfolding start
opens t o h = subst (λ (o : Opening). Opens o t.kind t.text) h (opens_by t.kind t.text)

-- ---- and the other way round

pub negation_begins : (t : Lexeme) → t.kind ≡ kind.Sign s.Not → start t ≡ Negation
unfolding start
negation_begins t h = ap (λ k. start_by k t.text) h

pub bracket_begins : (t : Lexeme) → t.kind ≡ kind.Sign s.Open → start t ≡ Bracket
unfolding start
bracket_begins t h = ap (λ k. start_by k t.text) h

pub true_begins : (t : Lexeme) → t.kind ≡ kind.Word → t.text ≡ codes "true" → start t ≡ Constant true
unfolding start
true_begins t h e = ap (λ k. start_by k t.text) h ∙ ap start_word e

pub false_begins : (t : Lexeme) → t.kind ≡ kind.Word → t.text ≡ codes "false" → start t ≡ Constant false
unfolding start
false_begins t h e = ap (λ k. start_by k t.text) h ∙ ap start_word e
