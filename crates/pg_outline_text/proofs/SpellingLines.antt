-- The words and signs of outlines at the bytes that they are spelled with, and the ends of lines.
use Rattle.std.proofs.Common.{◌≡◌, ℕ, ◌+◌, List, ◌++◌, length, refl, subst, arith, append_assoc, length-append, lit≤, lit<}
use Rattle.std.specs.Prelude.{codes}
use Rattle.std.specs.Fmt as fmt
use Rattle.pg_lex.specs.declared.token.Sign.TheVariants as s
use Rattle.pg_lex.specs.Lex.{Cursor}
use Rattle.pg_program.specs.NameTable.{NameTable}
use Rattle.pg_assertion_text.specs.Words.{Stands, sign, number}
use Rattle.pg_assertion_text.specs.Spelling.{Ends}
use Rattle.pg_assertion_text.specs.SpellingLaws.{cursor}
use Rattle.pg_assertion_text.proofs.SpellingTokens.{Spells, Then, Leads, here, word_stands}
use Rattle.pg_assertion_text.proofs.SpellingAtoms.{number_spells}
use Rattle.pg_program_text.proofs.SpellingLines.{Written, ended, moved_to}
use Rattle.pg_program_text.proofs.SpellingSigns.{semicolon_stands, open_brace_stands, close_brace_stands}
use Rattle.pg_outline_text.specs.declared.word.Keyword.{Keyword}
use Rattle.pg_outline_text.specs.declared.word.Keyword.TheVariants as w
use Rattle.pg_outline_text.specs.Word.{spelling}
use Rattle.pg_outline_text.specs.Grammar.{keyword}

-- a token, and lines behind it
pub before : {P : List ℕ → Type 0} {X Y : Cursor → Cursor → Type 0} {w v : List ℕ}
    → Spells P X w → Written Y v → ((more : List ℕ) → P (v ++ more)) → Written (Then X Y) (w ++ v)
before {P} {X} {Y} {w} {v} a b may = record {
  stands = λ from at more leads.
      let mid = cursor (at + length w) (v ++ more) in
      let first = a.stands from at (v ++ more) (may more) (subst (λ (t : List ℕ). Leads from (cursor at t)) (append_assoc w v more) leads) in
      let second = b.stands mid (at + length w) more (here mid) in
      let behind : at + length w + length v ≡ at + length (w ++ v) = omega (arith, length-append w v) in
      (second.0, (mid, first, second.1), moved_to second.0 (at + length w + length v) (at + length (w ++ v)) more behind second.2);
}

pub keyword_stands : (names : NameTable) (k : Keyword) → Spells Ends (Stands names (keyword k)) (spelling k)
keyword_stands names w.Pierogi = word_stands names (keyword w.Pierogi) (codes "pierogi") (λ place. (refl, refl)) refl (refl, (refl, (refl, (refl, (refl, (refl, (refl, tt))))))) (lit≤ tt)
keyword_stands names w.Values = word_stands names (keyword w.Values) (codes "values") (λ place. (refl, refl)) refl (refl, (refl, (refl, (refl, (refl, (refl, tt)))))) (lit≤ tt)
keyword_stands names w.Location = word_stands names (keyword w.Location) (codes "location") (λ place. (refl, refl)) refl (refl, (refl, (refl, (refl, (refl, (refl, (refl, (refl, tt)))))))) (lit≤ tt)
keyword_stands names w.Register = word_stands names (keyword w.Register) (codes "register") (λ place. (refl, refl)) refl (refl, (refl, (refl, (refl, (refl, (refl, (refl, (refl, tt)))))))) (lit≤ tt)
keyword_stands names w.Of = word_stands names (keyword w.Of) (codes "of") (λ place. (refl, refl)) refl (refl, (refl, tt)) (lit≤ tt)
keyword_stands names w.Auxiliary = word_stands names (keyword w.Auxiliary) (codes "auxiliary") (λ place. (refl, refl)) refl (refl, (refl, (refl, (refl, (refl, (refl, (refl, (refl, (refl, tt))))))))) (lit≤ tt)
keyword_stands names w.Pre = word_stands names (keyword w.Pre) (codes "pre") (λ place. (refl, refl)) refl (refl, (refl, (refl, tt))) (lit≤ tt)
keyword_stands names w.Crash = word_stands names (keyword w.Crash) (codes "crash") (λ place. (refl, refl)) refl (refl, (refl, (refl, (refl, (refl, tt))))) (lit≤ tt)
keyword_stands names w.Thread = word_stands names (keyword w.Thread) (codes "thread") (λ place. (refl, refl)) refl (refl, (refl, (refl, (refl, (refl, (refl, tt)))))) (lit≤ tt)

-- the number 1, as the version is printed
pub one_stands : (names : NameTable) → Spells Ends (Stands names (number 1)) (codes "1")
unfolding fmt.digits
one_stands names = number_spells names 1 (lit< tt)

pub semicolon_line : (names : NameTable) → Written (Stands names (sign s.Semicolon)) (codes ";\n")
semicolon_line names = ended (semicolon_stands names) (λ more. tt)

pub open_line : (names : NameTable) → Written (Stands names (sign s.OpenBrace)) (codes "{\n")
open_line names = ended (open_brace_stands names) (λ more. tt)

pub close_line : (names : NameTable) → Written (Stands names (sign s.CloseBrace)) (codes "}\n")
close_line names = ended (close_brace_stands names) (λ more. tt)
