-- What is found first in lists that stand one after another.
use Rattle.std.proofs.Common.{◌≡◌, ◌∙◌, refl, ap, sym, ℕ, ◌<◌, Bool, true, false, cond, nat_le, List, [], ◌∷◌, ◌++◌, length, Option, Some, arith}
use Rattle.std.specs.List.{find}
use Rattle.std.specs.Option.{option_or}
use Rattle.std.proofs.lemmas.List.Folds.{find-append}
use Rattle.pg_program.specs.Fault.{first_outside}

pub found_both : {X : Type 0} (p : X → Bool) (a b : Option X) (xs ys zs : List X) → a ≡ find p xs → b ≡ find p ys → zs ≡ xs ++ ys → option_or a b ≡ find p zs
found_both p a b xs ys zs first second is =
    ap (λ o. option_or o b) first ∙ (ap (option_or (find p xs)) second ∙ sym (ap (find p) is ∙ find-append p xs ys))

-- what is found is what was sought
pub found_holds : {X : Type 0} (p : X → Bool) (xs : List X) (x : X) → find p xs ≡ Some x → p x ≡ true
found_holds p [] x e = cc
found_holds p (y ∷ ys) x e = by (found_holds p ys x) (p y) refl e
  where
    by : (find p ys ≡ Some x → p x ≡ true) → (b : Bool) → p y ≡ b → cond b (Some y) (find p ys) ≡ Some x → p x ≡ true
    by rest true h found = let same : y ≡ x = cc in ap p (sym same) ∙ h
    by rest false h found = rest found

outside-append : (d : ℕ) (xs ys : List ℕ) → first_outside d (xs ++ ys) ≡ option_or (first_outside d xs) (first_outside d ys)
outside-append d [] ys = refl
outside-append d (x ∷ xs) ys = by (outside-append d xs ys) (nat_le d x)
  where
    by : first_outside d (xs ++ ys) ≡ option_or (first_outside d xs) (first_outside d ys) → (b : Bool) → cond b (Some x) (first_outside d (xs ++ ys)) ≡ option_or (cond b (Some x) (first_outside d xs)) (first_outside d ys)
    by rest true = refl
    by rest false = rest

pub outside_both : (d : ℕ) (a b : Option ℕ) (xs ys zs : List ℕ) → a ≡ first_outside d xs → b ≡ first_outside d ys → zs ≡ xs ++ ys → option_or a b ≡ first_outside d zs
outside_both d a b xs ys zs first second is =
    ap (λ o. option_or o b) first ∙ (ap (option_or (first_outside d xs)) second ∙ sym (ap (first_outside d) is ∙ outside-append d xs ys))

-- what stands behind the first item is shorter
pub rest_shorter : {X : Type 0} (xs rest : List X) (x : X) (n : ℕ) → xs ≡ x ∷ rest → length xs ≡ n → length rest < n
rest_shorter xs rest x n is long = omega (arith, ap length is, long)
