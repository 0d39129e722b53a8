use Rattle.std.proofs.Common.{◌≡◌, ℕ, zero, suc, ◌+◌, ◌<◌, ◌≤◌, Bool, cond, List, [], ◌∷◌, ◌++◌, take, length, get_or, set, refl, ap, ◌∙◌, arith, replicate}
use Rattle.std.proofs.lemmas.Bool.{eq-eqb, ne_eqb}
use Rattle.std.proofs.lemmas.List.{take_more_set}
use Rattle.pg_decider.specs.Weigh.{weigh, occurs}

pub weigh-set : {A : Type 0} (w : A → ℕ) (xs : List A) (i : ℕ) (y d : A) → i < length xs → weigh w (set xs i y) + w (get_or xs i d) ≡ weigh w xs + w y
weigh-set w [] i y d h = absurd (omega arith)
weigh-set w (x ∷ xs) zero y d h = omega arith
weigh-set w (x ∷ xs) (suc i) y d h = omega (arith, weigh-set w xs i y d (omega arith))

pub weigh-at : {A : Type 0} (w : A → ℕ) (xs : List A) (i : ℕ) (d : A) → i < length xs → w (get_or xs i d) ≤ weigh w xs
weigh-at w [] i d h = absurd (omega arith)
weigh-at w (x ∷ xs) zero d h = omega arith
weigh-at w (x ∷ xs) (suc i) d h = omega (arith, weigh-at w xs i d (omega arith))

pub weigh-none : {A : Type 0} (w : A → ℕ) (n : ℕ) (y : A) → w y ≡ 0 → weigh w (replicate n y) ≡ 0
weigh-none w zero y h = refl
weigh-none w (suc n) y h = omega (arith, h, weigh-none w n y h)

pub occurs-here : (x : ℕ) (ys : List ℕ) → occurs x (x ∷ ys) ≡ 1 + occurs x ys
occurs-here x ys = ap (λ (b : Bool). cond b 1 0 + occurs x ys) (eq-eqb x x refl)

pub occurs-other : (x y : ℕ) (ys : List ℕ) → (y ≡ x → ⊥) → occurs x (y ∷ ys) ≡ occurs x ys
occurs-other x y ys h = ap (λ (b : Bool). cond b 1 0 + occurs x ys) (ne_eqb y x h) ∙ omega arith

pub occurs-le : (x y : ℕ) (ys : List ℕ) → occurs x ys ≤ occurs x (y ∷ ys)
occurs-le x y ys = omega arith

pub weigh-push : {A : Type 0} (w : A → ℕ) (xs : List A) (y : A) → weigh w (xs ++ y ∷ []) ≡ weigh w xs + w y
weigh-push w [] y = omega arith
weigh-push w (x ∷ xs) y = omega (arith, weigh-push w xs y)

pub weigh-more_set : {A : Type 0} (w : A → ℕ) (xs : List A) (i : ℕ) (y : A) → i < length xs → w y ≡ 0 → weigh w (take i xs) ≡ 0 → weigh w (take (i + 1) (set xs i y)) ≡ 0
weigh-more_set w xs i y lt z h = ap (weigh w) (take_more_set xs i y lt) ∙ omega (arith, weigh-push w (take i xs) y)
