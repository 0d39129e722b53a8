-- The words that an outline is laid out by, as they are read: what is taken stands there, and what stands there is taken.
use Rattle.std.proofs.Common.{◌≡◌, Bool, true, false, Ok, List, [], ◌∷◌, refl, ap, sym, ◌∙◌}
use Rattle.std.specs.Prelude.{ℕ, if◌then◌else◌}
use Rattle.std.specs.Str.{bytes_eq}
use Rattle.std.proofs.lemmas.Slice.Eq.{bytes_eq-Decides}
use Rattle.pg_lex.specs.declared.token.TokenKind.{TokenKind}
use Rattle.pg_lex.specs.declared.token.TokenKind.TheVariants as kind
use Rattle.pg_lex.specs.declared.fault.TextKind.TheVariants.{Unexpected}
use Rattle.pg_lex.specs.Lex.{Cursor, Lexeme, token, after}
use Rattle.pg_program.specs.NameTable.{NameTable}
use Rattle.pg_assertion_text.specs.Words.{Stands}
use Rattle.pg_assertion_text.specs.Input.{Input, Outcome, pure, refuse, next}
use Rattle.pg_assertion_text.proofs.Steps.{ok_same, bind_then, bind_value, next_found, stands_token, Takes, takes_one}
use Rattle.pg_outline_text.specs.declared.word.Keyword.{Keyword}
use Rattle.pg_outline_text.specs.Word.{spelling, is_word_by, is_keyword, expect_word}
use Rattle.pg_outline_text.specs.Grammar.{keyword}

-- the input further on
abbrev pub to_ : Input → Cursor → Input
to_ i c = record i { cursor = c }

-- ---- one word

keyword_by_found : (w : List ℕ) (k : TokenKind) (text : List ℕ) → is_word_by w k text ≡ true → (k ≡ kind.Word) × (text ≡ w)
keyword_by_found w kind.Word text h = (refl, (bytes_eq-Decides text w).0 h)
keyword_by_found w (kind.Number n) text h = cc
keyword_by_found w (kind.Letter b) text h = cc
keyword_by_found w (kind.Sign z) text h = cc
keyword_by_found w kind.End text h = cc

pub keyword_found : (k : Keyword) (t : Lexeme) → is_keyword k t ≡ true → (t.kind ≡ kind.Word) × (t.text ≡ spelling k)
unfolding is_keyword
keyword_found k t h = keyword_by_found (spelling k) t.kind t.text h

-- a token that is a word, tested for another or the same one
pub keyword_told : (k : Keyword) (t : Lexeme) (w : List ℕ) (b : Bool) → (t.kind ≡ kind.Word) × (t.text ≡ w) → bytes_eq w (spelling k) ≡ b → is_keyword k t ≡ b
unfolding is_keyword
keyword_told k t w b is h = ap (λ z. is_word_by (spelling k) z t.text) is.0 ∙ ap (λ x. bytes_eq x (spelling k)) is.1 ∙ h

pub keyword_is : (k : Keyword) (t : Lexeme) → (t.kind ≡ kind.Word) × (t.text ≡ spelling k) → is_keyword k t ≡ true
keyword_is k t is = keyword_told k t (spelling k) true is ((bytes_eq-Decides (spelling k) (spelling k)).1 refl)

-- ---- a word that has to come

pub expect_word_found : (names : NameTable) (k : Keyword) (i j : Input) (u : Unit {0}) → expect_word k i ≡ Ok (u, j) → Takes names (keyword k ∷ []) 0 i j
unfolding expect_word
expect_word_found names k i j u h =
    bind_then (next i) _ (u, j) h (λ t l read rest. let found = next_found i l t read in by t l found.0 found.1 (is_keyword k t) refl rest)
  where
    by : (t : Lexeme) (l : Input) → token i.cursor ≡ Ok t → l ≡ record i { cursor = after i.cursor } → (b : Bool) → is_keyword k t ≡ b
        → ◌≡◌ {A = Outcome (Unit {0})} ((if b then pure tt else refuse t.place Unexpected) l) (Ok (u, j)) → Takes names (keyword k ∷ []) 0 i j
    by t l read at true e g = takes_one names (keyword k) i j t read (keyword_found k t e) (sym (ap (λ (q : Unit {0} × Input). q.1) (ok_same (tt, l) (u, j) g)) ∙ at)
    by t l read at false e g = cc

pub expect_word_reads : (names : NameTable) (k : Keyword) (i : Input) (to : Cursor) → Stands names (keyword k) i.cursor to → expect_word k i ≡ Ok (tt, to_ i to)
unfolding expect_word
expect_word_reads names k i to st =
    bind_value (next i) _ st.lexeme (to_ i to) (stands_token names (keyword k) i to st)
    ∙ ap (λ b. (if b then pure tt else refuse st.lexeme.place Unexpected) (to_ i to)) (keyword_is k st.lexeme st.matches)
