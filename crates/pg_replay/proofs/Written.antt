-- Texts that are put line by line: each is a part of the whole.
use Rattle.std.proofs.Common.{◌≡◌, ℕ, zero, suc, List, [], ◌∷◌, ◌++◌, take, Option, None, Some, refl, sym, ap, ◌∙◌, append_assoc}
use Rattle.std.proofs.lemmas.List.{append-nil}
use Rattle.pg_io.specs.Written.{appended, AppendsPart}

pub appended-nothing : (o : Option (List ℕ)) → appended o [] ≡ o
appended-nothing None = refl
appended-nothing (Some xs) = ap Some (append-nil xs)

pub appended-twice : (o : Option (List ℕ)) (a b : List ℕ) → appended (appended o a) b ≡ appended o (a ++ b)
appended-twice None a b = refl
appended-twice (Some xs) a b = ap Some (append_assoc xs a b)

take-part : (k : ℕ) (xs ys : List ℕ) → (j : ℕ) × (take j (xs ++ ys) ≡ take k xs)
take-part zero xs ys = (0, refl)
take-part (suc k) [] ys = (0, refl)
take-part (suc k) (x ∷ xs) ys = let h = take-part k xs ys in (suc h.0, ap (λ (l : List ℕ). x ∷ l) h.1)

take-behind : (j : ℕ) (xs ys : List ℕ) → (i : ℕ) × (take i (xs ++ ys) ≡ xs ++ take j ys)
take-behind j [] ys = (j, refl)
take-behind j (x ∷ xs) ys = let h = take-behind j xs ys in (suc h.0, ap (λ (l : List ℕ). x ∷ l) h.1)

-- behind what was put a part of the next line is
pub part_behind : (old mid new : Option (List ℕ)) (done line rest : List ℕ) → mid ≡ appended old done → AppendsPart mid new line → AppendsPart old new (done ++ (line ++ rest))
part_behind old mid new done line rest before part =
    let within = take-part part.0 line rest in
    let behind = take-behind within.0 done (line ++ rest) in (
      behind.0,
      part.1
          ∙ ap (λ (o : Option (List ℕ)). appended o (take part.0 line)) before
          ∙ appended-twice old done (take part.0 line)
          ∙ ap (λ (l : List ℕ). appended old (done ++ l)) (sym within.1)
          ∙ ap (appended old) (sym behind.1),
    )

-- and so is what was put
pub done_is_part : (old new : Option (List ℕ)) (done rest : List ℕ) → new ≡ appended old done → AppendsPart old new (done ++ rest)
done_is_part old new done rest is =
    let behind = take-behind 0 done rest in (
      behind.0,
      is ∙ (ap (appended old) (sym (append-nil done)) ∙ ap (appended old) (sym behind.1)),
    )
