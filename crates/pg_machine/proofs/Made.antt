-- What a list that is made item by item has.
use Rattle.std.proofs.Common.{◌≡◌, ℕ, zero, suc, ◌+◌, ◌<◌, List, [], ◌∷◌, ◌++◌, length, map, take, get_or, Some, option_map, slice_get, sym, ap, ◌∙◌, arith}
use Rattle.std.proofs.Math.Seq.{take-suc}

-- v is the number of the item at place i
pub record IsNumberAt {X : Type 0} (f : X → ℕ) (es : List X) (i v : ℕ) : Type 0 where
  pub inside : i < length (map f es)
  pub is : v ≡ get_or (map f es) i 0

pub number_at : {X : Type 0} (f : X → ℕ) (es : List X) (i v : ℕ) → option_map f (slice_get es i) ≡ Some v → IsNumberAt f es i v
number_at f [] i v h = cc
number_at f (e ∷ es) zero v h = record { inside = omega arith; is = let same : f e ≡ v = cc in cc }
number_at f (e ∷ es) (suc i) v h =
    let rest = number_at f es i v h in
    let inside = rest.inside in
    record { inside = omega (arith, inside); is = rest.is }

pub take-next : (xs : List ℕ) (i : ℕ) → i < length xs → take (i + 1) xs ≡ take i xs ++ get_or xs i 0 ∷ []
take-next xs i lt = let e : i + 1 ≡ suc i = omega arith in ap (λ (n : ℕ). take n xs) e ∙ take-suc xs i 0 lt

-- so where the numbers up to place i were taken, it is the next
pub next_number : {X : Type 0} (f : X → ℕ) (es : List X) (made : List ℕ) (i v : ℕ) → made ≡ take i (map f es) → option_map f (slice_get es i) ≡ Some v
    → made ++ v ∷ [] ≡ take (i + 1) (map f es)
next_number f es made i v so at =
    let found = number_at f es i v at in
    ap (λ (l : List ℕ). l ++ v ∷ []) so ∙ (ap (λ (n : ℕ). take i (map f es) ++ n ∷ []) found.is ∙ sym (take-next (map f es) i found.inside))

-- a list is what stands before its last item, and that
pub last_at : {X : Type 0} (xs : List X) (i : ℕ) (a : X) → suc i ≡ length xs → a ≡ get_or xs i a → take i xs ++ a ∷ [] ≡ xs
last_at [] i a e h = absurd (omega arith)
last_at {X} (x ∷ []) zero a e h = ap (λ (b : X). b ∷ []) h
last_at (x ∷ y ∷ ys) zero a e h = absurd (omega arith)
last_at {X} (x ∷ xs) (suc i) a e h = ap (λ (l : List X). x ∷ l) (last_at xs i a (omega arith) h)
