-- Tests of some number below a bound, two of them side by side.
use Rattle.std.proofs.Common.{◌≡◌, ℕ, zero, suc, ◌<◌, Bool, true, false, ◌&&◌, ◌||◌, refl, ap, ap₂, ◌∙◌, arith}
use Rattle.pg_views.specs.Atom.{some_below}

pub or-swap : (a b : Bool) → (a || b) ≡ (b || a)
or-swap true true = refl
or-swap true false = refl
or-swap false true = refl
or-swap false false = refl

pub and-self : (b : Bool) → (b && b) ≡ b
and-self true = refl
and-self false = refl

-- tests that agree below n
pub some_below-alike : (f g : ℕ → Bool) (n : ℕ) → ((p : ℕ) → p < n → f p ≡ g p) → some_below f n ≡ some_below g n
some_below-alike f g zero h = refl
some_below-alike f g (suc n) h = ap₂ (λ (a b : Bool). a || b) (h n (omega arith)) (some_below-alike f g n (λ p lt. h p (omega arith)))

pub and-where : (a b c : Bool) → (a ≡ true → b ≡ c) → (a && b) ≡ (a && c)
and-where true b c h = h refl
and-where false b c h = refl

-- a part that is the same for all
pub some_below-and : (f : ℕ → Bool) (b : Bool) (n : ℕ) → some_below (λ p. f p && b) n ≡ (some_below f n && b)
some_below-and f b zero = refl
some_below-and f b (suc n) = ap (λ (c : Bool). (f n && b) || c) (some_below-and f b n) ∙ table (f n) b (some_below f n)
  where
    table : (a b c : Bool) → ((a && b) || (c && b)) ≡ ((a || c) && b)
    table true true c = refl
    table true false true = refl
    table true false false = refl
    table false b c = refl

-- or that is another way for all
pub some_below-or : (f g : ℕ → Bool) (b : Bool) (n : ℕ) → some_below (λ p. f p && (g p || b)) n ≡ (some_below (λ p. f p && g p) n || (some_below f n && b))
some_below-or f g b zero = refl
some_below-or f g b (suc n) =
    ap (λ (c : Bool). (f n && (g n || b)) || c) (some_below-or f g b n) ∙ table (f n) (g n) b (some_below (λ p. f p && g p) n) (some_below f n)
  where
    table : (f g b c d : Bool) → ((f && (g || b)) || (c || (d && b))) ≡ (((f && g) || c) || ((f || d) && b))
    table true true b c d = refl
    table true false true true d = refl
    table true false true false d = refl
    table true false false true d = refl
    table true false false false true = refl
    table true false false false false = refl
    table false g b c d = refl
