-- Lines of a text: the newline after one is passed over by the next, as the blanks in front of it are.
use Rattle.std.proofs.Common.{◌≡◌, ℕ, zero, suc, ◌+◌, false, List, [], ◌∷◌, ◌++◌, length, drop, ap, ap₂, subst, ◌∙◌, arith, append_assoc, length-append}
use Rattle.std.specs.Prelude.{codes}
use Rattle.pg_lex.specs.Piece.{gap_len}
use Rattle.pg_lex.specs.Lex.{Cursor, behind_gap}
use Rattle.pg_lex.proofs.Runs.{one_more}
use Rattle.pg_assertion_text.specs.SpellingLaws.{cursor}
use Rattle.pg_assertion_text.proofs.SpellingTokens.{Spells, Leads, Then, past_blank}
use Rattle.pg_program_text.specs.Spelling.{indent, line}

past_newline : (at : ℕ) (rest : List ℕ) → behind_gap (cursor at (10 ∷ rest)) ≡ behind_gap (cursor (at + 1) rest)
past_newline at rest =
    let g = gap_len false rest in
    let further : at + (1 + g) ≡ at + 1 + g = omega arith in
    ap₂ cursor further (ap (λ (k : ℕ). drop k (10 ∷ rest)) (one_more g))

-- the text leads from one place to another in this way, and only blanks are left of it there
pub record Written (X : Cursor → Cursor → Type 0) (w : List ℕ) : Type 0 where
  pub stands : (from : Cursor) (at : ℕ) (more : List ℕ) → Leads from (cursor at (w ++ more)) → (to : Cursor) × X from to × Leads to (cursor (at + length w) more)

pub moved_to : (c : Cursor) (n m : ℕ) (more : List ℕ) → n ≡ m → Leads c (cursor n more) → Leads c (cursor m more)
moved_to c n m more is leads = subst (λ (k : ℕ). Leads c (cursor k more)) is leads

pub empty : {X : Cursor → Cursor → Type 0} → ((from : Cursor) → X from from) → Written X []
empty {X} x = record { stands = λ from at more leads. (from, x from, moved_to from at (at + length {A = ℕ} []) more (omega arith) leads) }

pub followed : {X Y : Cursor → Cursor → Type 0} {w v : List ℕ} → Written X w → Written Y v → Written (Then X Y) (w ++ v)
followed {X} {Y} {w} {v} a b = record {
  stands = λ from at more leads.
      let first = a.stands from at (v ++ more) (subst (λ (t : List ℕ). Leads from (cursor at t)) (append_assoc w v more) leads) in
      let second = b.stands first.0 (at + length w) more first.2 in
      let behind : at + length w + length v ≡ at + length (w ++ v) = omega (arith, length-append w v) in
      (second.0, (first.0, first.1, second.1), moved_to second.0 (at + length w + length v) (at + length (w ++ v)) more behind second.2);
}

pub changed : {X Y : Cursor → Cursor → Type 0} {w : List ℕ} → Written X w → ((from to : Cursor) → X from to → Y from to) → Written Y w
changed a f = record { stands = λ from at more leads. let got = a.stands from at more leads in (got.0, f from got.0 got.1, got.2) }

pub blank_in_front : {X : Cursor → Cursor → Type 0} {w : List ℕ} → Written X w → Written X (32 ∷ w)
blank_in_front {X} {w} a = record {
  stands = λ from at more leads.
      let further : Leads from (cursor (at + 1) (w ++ more)) = record { same = leads.same ∙ past_blank at (w ++ more) } in
      let got = a.stands from (at + 1) more further in
      let behind : at + 1 + length w ≡ at + length (32 ∷ w) = omega arith in
      (got.0, got.1, moved_to got.0 (at + 1 + length w) (at + length (32 ∷ w)) more behind got.2);
}

indented : {X : Cursor → Cursor → Type 0} {w : List ℕ} (depth : ℕ) → Written X w → Written X (indent depth ++ w)
indented zero a = a
indented (suc depth) a = blank_in_front (blank_in_front (indented depth a))

pub ended : {P : List ℕ → Type 0} {X : Cursor → Cursor → Type 0} {w : List ℕ} → Spells P X w → ((more : List ℕ) → P (10 ∷ more)) → Written X (w ++ codes "\n")
ended {P} {X} {w} a may = record {
  stands = λ from at more leads.
      let to = cursor (at + length w) (10 ∷ more) in
      let is = a.stands from at (10 ∷ more) (may more) (subst (λ (t : List ℕ). Leads from (cursor at t)) (append_assoc w (codes "\n") more) leads) in
      let behind : at + length w + 1 ≡ at + length (w ++ codes "\n") = omega (arith, length-append w (codes "\n")) in
      let past : Leads to (cursor (at + length w + 1) more) = record { same = past_newline (at + length w) more } in
      (to, is, moved_to to (at + length w + 1) (at + length (w ++ codes "\n")) more behind past);
}

-- a line of such a text
pub lined : {P : List ℕ → Type 0} {X : Cursor → Cursor → Type 0} {w : List ℕ} (depth : ℕ) → Spells P X w → ((more : List ℕ) → P (10 ∷ more)) → Written X (line depth w)
lined depth a may = indented depth (ended a may)
