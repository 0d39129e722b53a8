-- Numbers that are read on from digit to digit.
use Rattle.std.proofs.Common.{◌≡◌, ℕ, ◌+◌, ◌-◌, ◌*◌, ◌<◌, ◌≤◌, List, [], ◌∷◌, Option, None, Some, IfSome, refl, arith}
use Rattle.pg_app.specs.Number.{read_on, up_to, number_up_to}

-- one that is above the greatest stays so, whatever digits are behind it
pub above : (most n : ℕ) (cs : List ℕ) → most < n → up_to most (read_on n cs) ≡ None
above most n [] lt = grind (arith, lt)
above most n (c ∷ cs) lt =
    let further = above most (n * 10 + (c - 48)) cs (omega (arith, lt)) in
    grind (arith, further)

-- none becomes smaller
no_smaller : (most n m : ℕ) (cs : List ℕ) → up_to most (read_on n cs) ≡ Some m → (n ≤ m) × (m ≤ most)
no_smaller most n m [] e = grind (arith, e)
no_smaller most n m (c ∷ cs) e =
    let further = no_smaller most (n * 10 + (c - 48)) m cs in
    grind (arith, e, further)

if_some : (o : Option ℕ) (P : ℕ → Type 0) → ((m : ℕ) → o ≡ Some m → P m) → IfSome o P
if_some None P f = tt
if_some (Some m) P f = f m refl

within : (most m : ℕ) (word : List ℕ) → number_up_to most word ≡ Some m → (1 ≤ m) × (m ≤ most)
within most m [] e = cc
within most m (c ∷ cs) e =
    let further = no_smaller most (0 * 10 + (c - 48)) m cs in
    grind (arith, e, further)

-- and a number among the words is from 1 to the greatest
pub number_within : (most : ℕ) (word : List ℕ) → IfSome (number_up_to most word) (λ n. (1 ≤ n) × (n ≤ most))
number_within most word = if_some (number_up_to most word) (λ n. (1 ≤ n) × (n ≤ most)) (λ m e. within most m word e)
