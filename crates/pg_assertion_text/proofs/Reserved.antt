-- A word is looked for among others from either side.
use Rattle.std.proofs.Common.{◌≡◌, ℕ, Bool, true, false, List, [], ◌∷◌, refl, ap₂, sym}
use Rattle.std.specs.Prelude.{◌||◌}
use Rattle.std.specs.List.{list_any}
use Rattle.std.specs.Str.{bytes_eq}
use Rattle.std.proofs.lemmas.Slice.Eq.{bytes_eq-Decides}

same_either_way : (v w : List ℕ) → bytes_eq v w ≡ bytes_eq w v
same_either_way v w = by (bytes_eq v w) (bytes_eq w v) refl refl
  where
    by : (a b : Bool) → bytes_eq v w ≡ a → bytes_eq w v ≡ b → a ≡ b
    by true true p q = refl
    by false false p q = refl
    by true false p q = let r = (bytes_eq-Decides w v).1 (sym ((bytes_eq-Decides v w).0 p)) in cc
    by false true p q = let r = (bytes_eq-Decides v w).1 (sym ((bytes_eq-Decides w v).0 q)) in cc

pub any_turned : (w : List ℕ) (vs : List (List ℕ)) → list_any (λ v. bytes_eq v w) vs ≡ list_any (bytes_eq w) vs
any_turned w [] = refl
any_turned w (v ∷ vs) = ap₂ (λ a b. a || b) (same_either_way v w) (any_turned w vs)
