-- A list that is made number by number, from 1 on.
use Rattle.std.proofs.Common.{◌≡◌, ℕ, ◌+◌, ◌-◌, ◌≤◌, List, [], ◌∷◌, ◌++◌, map, refl, sym, ap, ◌∙◌, arith}
use Rattle.std.specs.List.{range_with_len}
use Rattle.std.proofs.lemmas.List.FromFn.{map-range_with_len_more}

pub one_more : {A : Type 0} (f : ℕ → A) (j : ℕ) (old new : List A) → 1 ≤ j → old ≡ map f (range_with_len 1 (j - 1)) → new ≡ old ++ f j ∷ []
    → new ≡ map f (range_with_len 1 (j + 1 - 1))
one_more f j old new low is at =
    let n = j - 1 in
    let next : n + 1 ≡ j + 1 - 1 = omega (arith, low) in
    at ∙ ap (λ l. l ++ f j ∷ []) is ∙ sym (map-range_with_len_more f 1 n j (omega (arith, low))) ∙ ap (λ k. map f (range_with_len 1 k)) next

-- made of what the numbers give, and then of that
pub twice : {A B : Type 0} (g : A → B) (f : ℕ → A) (js : List ℕ) → map g (map f js) ≡ map (λ j. g (f j)) js
twice g f [] = refl
twice g f (j ∷ js) = ap (λ l. g (f j) ∷ l) (twice g f js)
