-- The vectors over some locations are all choices of values for them.
use Rattle.std.proofs.Common.{◌≡◌, ◌∙◌, ap, subst, refl, ℕ, zero, suc, ◌+◌, ◌<◌, ◌≤◌, inl, inr, List, [], ◌∷◌, map, length, arith}
use Rattle.std.specs.Prelude.{All, Contains}
use Rattle.std.specs.List.{flat_map, range_with_len}
use Rattle.std.proofs.lemmas.Bool.{cases_eq}
use Rattle.std.proofs.lemmas.List.{length-map, get_or-map}
use Rattle.std.proofs.lemmas.List.Elements.{All-nil, All-cons, All-head, All-tail, All-append, All-map, All-weaker, All-contains, Contains-append_left, Contains-append_right}
use Rattle.pg_assertion.specs.Expansion.{vectors, IsChoice, VectorsAreTheChoices}

-- ---- each vector is a choice

chosen_more : (d x v : ℕ) (xs : List ℕ) → v < d → (w : List (ℕ × ℕ)) → IsChoice d xs w → IsChoice d (x ∷ xs) ((x, v) ∷ w)
chosen_more d x v xs low w h =
    record {
      locations = ap (λ (l : List ℕ). x ∷ l) h.locations;
      values = All-cons (λ (e : ℕ × ℕ). e.1 < d) (x, v) w low h.values;
    }

put_chosen : (d x : ℕ) (xs : List ℕ) (ws : List (List (ℕ × ℕ))) → All (IsChoice d xs) ws → (a n : ℕ) → a + n ≤ d → All (IsChoice d (x ∷ xs)) (flat_map (λ v. map (λ w. (x, v) ∷ w) ws) (range_with_len a n))
put_chosen d x xs ws h a zero low = All-nil (IsChoice d (x ∷ xs))
put_chosen d x xs ws h a (suc n) low =
    let here : a < d = omega arith in
    let rest : a + 1 + n ≤ d = omega arith in
    All-append (IsChoice d (x ∷ xs)) (map (λ w. (x, a) ∷ w) ws) (flat_map (λ v. map (λ w. (x, v) ∷ w) ws) (range_with_len (a + 1) n))
    (All-map (IsChoice d (x ∷ xs)) (λ w. (x, a) ∷ w) ws (All-weaker (IsChoice d xs) (λ w. IsChoice d (x ∷ xs) ((x, a) ∷ w)) (chosen_more d x a xs here) ws h))
    (put_chosen d x xs ws h (a + 1) n rest)

vectors_chosen : (d : ℕ) (xs : List ℕ) → All (IsChoice d xs) (vectors d xs)
vectors_chosen d [] = All-cons (IsChoice d []) [] [] (record { locations = refl; values = All-nil (λ (e : ℕ × ℕ). e.1 < d) }) (All-nil (IsChoice d []))
vectors_chosen d (x ∷ xs) = put_chosen d x xs (vectors d xs) (vectors_chosen d xs) 0 d (omega arith)

-- ---- each choice is a vector

contains-map : {A B : Type 0} (f : A → B) (xs : List A) (x : A) → Contains xs x → Contains (map f xs) (f x)
contains-map f xs x h =
    let inside : h.0 < length (map f xs) = omega (arith, h.1, length-map xs f) in
    (h.0, inside, get_or-map f xs h.0 x (f x) h.1 ∙ ap f h.2)

contains-put : (x v : ℕ) (w : List (ℕ × ℕ)) (ws : List (List (ℕ × ℕ))) → Contains ws w → (a n : ℕ) → a ≤ v → v < a + n → Contains (flat_map (λ u. map (λ t. (x, u) ∷ t) ws) (range_with_len a n)) ((x, v) ∷ w)
contains-put x v w ws h a zero low high = absurd (omega arith)
contains-put x v w ws h a (suc n) low high =
    let first : List (List (ℕ × ℕ)) = map (λ t. (x, a) ∷ t) ws in
    let others : List (List (ℕ × ℕ)) = flat_map (λ u. map (λ t. (x, u) ∷ t) ws) (range_with_len (a + 1) n) in
    elim (cases_eq a v) [
      | inl e ↦ Contains-append_left first others ((x, v) ∷ w)
          (let P : ℕ → Type 0 = λ u. Contains (map (λ t. (x, a) ∷ t) ws) ((x, u) ∷ w) in
          subst P e (contains-map (λ (t : List (ℕ × ℕ)). (x, a) ∷ t) ws w h))
      | inr other ↦
          let above : a + 1 ≤ v = omega arith in
          let below : v < a + 1 + n = omega arith in
          Contains-append_right first others ((x, v) ∷ w) (contains-put x v w ws h (a + 1) n above below)
    ]

choices_found : (d : ℕ) (xs : List ℕ) (w : List (ℕ × ℕ)) → IsChoice d xs w → Contains (vectors d xs) w
choices_found d [] [] h = (0, omega arith, refl)
choices_found d [] (e ∷ w) h = absurd (let no : e.0 ∷ map (λ u. u.0) w ≡ [] = h.locations in cc)
choices_found d (x ∷ xs) [] h = absurd (let no : [] ≡ x ∷ xs = h.locations in cc)
choices_found d (x ∷ xs) (e ∷ w) h =
    let all : e.0 ∷ map (λ u. u.0) w ≡ x ∷ xs = h.locations in
    let first : x ≡ e.0 = cc in
    let others : map (λ u. u.0) w ≡ xs = cc in
    let P : ℕ × ℕ → Type 0 = λ u. u.1 < d in
    let low : e.1 < d = All-head P e w h.values in
    let found : Contains (vectors d xs) w = choices_found d xs w (record { locations = others; values = All-tail P e w h.values }) in
    let Q : ℕ → Type 0 = λ u. Contains (vectors d (x ∷ xs)) ((u, e.1) ∷ w) in
    subst Q first (contains-put x e.1 w (vectors d xs) found 0 d (omega arith) (omega arith))

pub vectors_are_the_choices : VectorsAreTheChoices
vectors_are_the_choices d xs w = (All-contains (IsChoice d xs) (vectors d xs) w (vectors_chosen d xs), choices_found d xs w)
