-- Texts that are put one behind the other, and what a fault leaves of them.
use Rattle.std.proofs.Common.{◌≡◌, ℕ, zero, suc, ◌≤◌, List, [], ◌∷◌, ◌++◌, length, take, Option, None, Some, refl, sym, ap, subst, ◌∙◌, arith, append_assoc}
use Rattle.std.specs.Prelude.{Result, Ok, Err}
use Rattle.std.proofs.lemmas.List.{append-nil, take_all}
use Rattle.pg_io.specs.Written.{appended, AppendsPart}
use Rattle.pg_derive.specs.declared.fault.DeriveFault.{DeriveFault}
use Rattle.pg_derive.specs.declared.fault.DeriveFault.TheVariants.{Write, NoMemory}
use Rattle.pg_derive.specs.Puts.{Puts, PutsPart}

pub appended-nothing : (o : Option (List ℕ)) → appended o [] ≡ o
appended-nothing None = refl
appended-nothing (Some xs) = ap Some (append-nil xs)

pub appended-twice : (o : Option (List ℕ)) (a b : List ℕ) → appended (appended o a) b ≡ appended o (a ++ b)
appended-twice None a b = refl
appended-twice (Some xs) a b = ap Some (append_assoc xs a b)

-- ---- parts of texts

take-part : (k : ℕ) (xs ys : List ℕ) → (j : ℕ) × (take j (xs ++ ys) ≡ take k xs)
take-part zero xs ys = (0, refl)
take-part (suc k) [] ys = (0, refl)
take-part (suc k) (x ∷ xs) ys = let h = take-part k xs ys in (suc h.0, ap (λ (l : List ℕ). x ∷ l) h.1)

take-behind : (j : ℕ) (xs ys : List ℕ) → (i : ℕ) × (take i (xs ++ ys) ≡ xs ++ take j ys)
take-behind j [] ys = (j, refl)
take-behind j (x ∷ xs) ys = let h = take-behind j xs ys in (suc h.0, ap (λ (l : List ℕ). x ∷ l) h.1)

pub part-behind : (old mid new : Option (List ℕ)) (done text : List ℕ) → mid ≡ appended old done → AppendsPart mid new text → AppendsPart old new (done ++ text)
part-behind old mid new done text before part =
    let behind = take-behind part.0 done text in (
      behind.0,
      part.1
          ∙ (ap (λ (o : Option (List ℕ)). appended o (take part.0 text)) before
          ∙ (appended-twice old done (take part.0 text)
          ∙ ap (appended old) (sym behind.1))),
    )

pub part-longer : (old new : Option (List ℕ)) (text rest : List ℕ) → AppendsPart old new text → AppendsPart old new (text ++ rest)
part-longer old new text rest part = let h = take-part part.0 text rest in (h.0, part.1 ∙ ap (appended old) (sym h.1))

pub text-behind : (old mid new : Option (List ℕ)) (done text : List ℕ) → mid ≡ appended old done → new ≡ appended mid text → new ≡ appended old (done ++ text)
text-behind old mid new done text before after = after ∙ (ap (λ (o : Option (List ℕ)). appended o text) before ∙ appended-twice old done text)

-- all of a text is a part of it
pub whole-part : (old new : Option (List ℕ)) (text : List ℕ) → new ≡ appended old text → AppendsPart old new text
whole-part old new text is = (length text, is ∙ ap (appended old) (sym (take_all (length text) text (omega arith))))

-- ---- one call after another

module _ {T U : Type 0} (W : T → List ℕ → Type 0) (V : U → List ℕ → Type 0) (P Q : List ℕ → Type 0) (old mid new : Option (List ℕ)) (before between now : ℕ) (done : List ℕ) where
  pub part-more : mid ≡ appended old done → ((text : List ℕ) → P text → Q (done ++ text)) → PutsPart P mid new → PutsPart Q old new
  part-more is more h = record { text = done ++ h.text; is = more h.text h.is; part = part-behind old mid new done h.text is h.part }

  -- a fault behind a text
  pub fault-behind : (e : DeriveFault) → mid ≡ appended old done → before ≤ between → ((text : List ℕ) → P text → Q (done ++ text))
      → Puts W P (Err e) mid new between now → Puts V Q (Err e) old new before now
  fault-behind Write is le more h = (part-more is more h.0, omega (arith, le, h.1))
  fault-behind NoMemory is le more h = part-more is more h

module _ {T : Type 0} (W V : T → List ℕ → Type 0) (P Q : List ℕ → Type 0) (old mid new : Option (List ℕ)) (before between now : ℕ) (done : List ℕ) where
  -- what is put behind a text
  pub puts-behind : (r : Result T DeriveFault) → mid ≡ appended old done → before ≤ between → ((v : T) (text : List ℕ) → W v text → V v (done ++ text))
      → ((text : List ℕ) → P text → Q (done ++ text)) → Puts W P r mid new between now → Puts V Q r old new before now
  puts-behind (Ok v) is le whole more h = record { text = done ++ h.text; is = whole v h.text h.is; written = text-behind old mid new done h.text is h.written }
  puts-behind (Err e) is le whole more h = fault-behind W V P Q old mid new before between now done e is le more h

-- a fault before anything is put
pub no-memory : {U : Type 0} (V : U → List ℕ → Type 0) (Q : List ℕ → Type 0) (old : Option (List ℕ)) (before now : ℕ) (text : List ℕ) → Q text → Puts V Q (Err NoMemory) old old before now
no-memory V Q old before now text is = record { text = text; is = is; part = (0, sym (appended-nothing old)) }

-- the same of a line that is the same
pub puts-same : {T : Type 0} (r : Result T DeriveFault) (a b : List ℕ) (old new : Option (List ℕ)) (before now : ℕ) → a ≡ b
    → Puts (λ (_ : T) text. text ≡ a) (λ text. text ≡ a) r old new before now → Puts (λ (_ : T) text. text ≡ b) (λ text. text ≡ b) r old new before now
puts-same {T} r a b old new before now e h = subst (λ (l : List ℕ). Puts (λ (_ : T) text. text ≡ l) (λ text. text ≡ l) r old new before now) e h
