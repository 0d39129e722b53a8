-- One text put behind another.
use Rattle.std.proofs.Common.{◌≡◌, ℕ, zero, suc, ◌≤◌, ◌⊎◌, inl, inr, List, [], ◌∷◌, ◌++◌, take, Option, None, Some, refl, sym, ap, ◌∙◌, arith, append_assoc}
use Rattle.std.proofs.lemmas.List.{append-nil}
use Rattle.pg_io.specs.Written.{appended, AppendsPart}
use Rattle.pg_app.specs.Put.{IsPart, Puts}
use Rattle.pg_app.proofs.Puts.{whole_is_part}

appended_twice : (o : Option (List ℕ)) (a b : List ℕ) → appended (appended o a) b ≡ appended o (a ++ b)
appended_twice None a b = refl
appended_twice (Some xs) a b = ap Some (append_assoc xs a b)

pub appended_nothing : (o : Option (List ℕ)) → appended o [] ≡ o
appended_nothing None = refl
appended_nothing (Some xs) = ap Some (append-nil xs)

take_front : (k : ℕ) (xs ys : List ℕ) → (j : ℕ) × (take j (xs ++ ys) ≡ take k xs)
take_front zero xs ys = (0, refl)
take_front (suc k) [] ys = (0, refl)
take_front (suc k) (x ∷ xs) ys = let h = take_front k xs ys in (suc h.0, ap (λ (l : List ℕ). x ∷ l) h.1)

take_behind : (k : ℕ) (xs ys : List ℕ) → (j : ℕ) × (take j (xs ++ ys) ≡ xs ++ take k ys)
take_behind k [] ys = (k, refl)
take_behind k (x ∷ xs) ys = let h = take_behind k xs ys in (suc h.0, ap (λ (l : List ℕ). x ∷ l) h.1)

-- a part of the first text is a part of both
pub part_front : (old new : Option (List ℕ)) (text rest : List ℕ) → AppendsPart old new text → AppendsPart old new (text ++ rest)
part_front old new text rest part = let h = take_front part.0 text rest in (h.0, part.1 ∙ ap (appended old) (sym h.1))

-- and so is the first text with a part of the second
part_behind : (old mid new : Option (List ℕ)) (text rest : List ℕ) → mid ≡ appended old text → AppendsPart mid new rest → AppendsPart old new (text ++ rest)
part_behind old mid new text rest before part =
    let h = take_behind part.0 text rest in (
      h.0,
      part.1
          ∙ (ap (λ (o : Option (List ℕ)). appended o (take part.0 rest)) before
          ∙ (appended_twice old text (take part.0 rest)
          ∙ ap (appended old) (sym h.1))),
    )

-- A text that is whole, and the text that is put behind it.
module _ {Due : ℕ → List ℕ → Type 0} {old mid new : Option (List ℕ)} (front rest : List ℕ) (status : ℕ) (due : Due status (front ++ rest)) (put : mid ≡ appended old front) where
  behind_part : (new ≡ mid) ⊎ IsPart (λ s text. (s ≡ status) × (text ≡ rest)) mid new → IsPart Due old new
  behind_part (inl kept) = record { status = status; text = front ++ rest; due = due; written = part_front old new front rest (whole_is_part old new front (kept ∙ put)) }
  behind_part (inr part) = record {
    status = status;
    text = front ++ rest;
    due = due;
    written = part_behind old mid new front rest put (rw part.due.1 at part.written);
  }

  pub behind_puts : {before between now : ℕ} (s : ℕ) → before ≤ between → Puts (λ s text. (s ≡ status) × (text ≡ rest)) s mid new between now → Puts Due s old new before now
  behind_puts s le (inl full) = inl (record {
    text = front ++ rest;
    due = rw full.due.0 due;
    written = full.written
        ∙ (ap (λ (w : Option (List ℕ)). appended w full.text) put
        ∙ (appended_twice old front full.text
        ∙ ap (λ (l : List ℕ). appended old (front ++ l)) full.due.1));
  })
  behind_puts s le (inr (inl cut)) = inr (inl (record {
    status_is = cut.status_is;
    rose = let rose = cut.rose in omega (arith, le, rose);
    part = behind_part (inr cut.part);
  }))
  behind_puts s le (inr (inr short)) = inr (inr (record { status_is = short.status_is; part = inr (behind_part short.part) }))
