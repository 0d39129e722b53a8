-- The longest prefix of a class.
use Rattle.std.proofs.Common.{◌≡◌, ℕ, suc, ◌+◌, ◌⊎◌, inl, inr, Bool, true, false, cond, List, [], ◌∷◌, take, drop, arith, refl}
use Rattle.std.specs.List.{prefix_len}
use Rattle.pg_lex.specs.Grammar.{Begins, IsRun}

pub one_more : (n : ℕ) → 1 + n ≡ suc n
one_more n = omega arith

-- which branch gave the result
pub cond_gives :
    {A : Type 0} (v : Bool) (x y r : A) → cond v x y ≡ r → ((v ≡ true) × (x ≡ r)) ⊎ ((v ≡ false) × (y ≡ r))
cond_gives true x y r h = inl (refl, h)
cond_gives false x y r h = inr (refl, h)

pub run_is_run :
    (class : ℕ → Bool) (bs : List ℕ) → IsRun class (take (prefix_len class bs) bs) (drop (prefix_len class bs) bs)
run_is_run class [] = (tt, tt)
run_is_run class (b ∷ bs) =
    elim (class b) as (λ v. class b ≡ v → IsRun class (take (cond v (1 + prefix_len class bs) 0) (b ∷ bs)) (drop (cond v (1 + prefix_len class bs) 0) (b ∷ bs)))
    [ true ↦ λ e. rw one_more (let rest = run_is_run class bs in ((e, rest.0), rest.1)) | false ↦ λ e. (tt, e) ] refl

pub run_begins :
    (first class : ℕ → Bool) (b : ℕ) (bs : List ℕ) → first b ≡ true → class b ≡ true
    → Begins first (take (prefix_len class (b ∷ bs)) (b ∷ bs))
run_begins first class b bs is_first is_in = rw (is_in, one_more) is_first
