-- The greatest of some numbers, found one after the other.
use Rattle.std.proofs.Common.{◌≡◌, ◌⊎◌, inl, inr, ℕ, zero, suc, ◌+◌, ◌<◌, ◌≤◌, List, [], ◌∷◌, map, length, get_or, Some, refl, sym, ap, ◌∙◌, subst, arith}
use Rattle.std.specs.List.{Contains, slice_get}
use Rattle.std.proofs.lemmas.Bool.{cases_lt}
use Rattle.std.proofs.lemmas.List.Elements.{All-from_get_or}
use Rattle.pg_layers.specs.Needs.{IsGreatest}

-- n is the greatest of the first k, and 0 of none
pub record IsSoFar (ns : List ℕ) (k n : ℕ) : Type 0 where
  pub each : (j : ℕ) → j < k → get_or ns j 0 ≤ n
  pub one : ((k ≡ 0) × (n ≡ 0)) ⊎ Contains ns n

pub none_yet : (ns : List ℕ) → IsSoFar ns 0 0
none_yet ns = record { each = λ j h. absurd (omega (arith, h)); one = inl (refl, refl) }

next_each : (ns : List ℕ) (k m n : ℕ) → get_or ns k 0 ≤ n → m ≤ n → ((j : ℕ) → j < k → get_or ns j 0 ≤ m) → (j : ℕ) → j < k + 1 → get_or ns j 0 ≤ n
next_each ns k m n here le h j lt = elim (cases_lt j k) [
  | inl low ↦ let q = h j low in omega (arith, q, le)
  | inr high ↦ let same : j ≡ k = omega (arith, lt, high) in subst (λ (i : ℕ). get_or ns i 0 ≤ n) (sym same) here
]

-- a place of a list has the same number, whatever is given for places behind it
any_default : (ns : List ℕ) (k a b : ℕ) → k < length ns → get_or ns k a ≡ get_or ns k b
any_default [] k a b h = absurd (omega (arith, h))
any_default (m ∷ ns) zero a b h = refl
any_default (m ∷ ns) (suc k) a b h = any_default ns k a b (omega (arith, h))

pub greater : (ns : List ℕ) (k m n : ℕ) → k < length ns → get_or ns k 0 ≡ n → m < n → IsSoFar ns k m → IsSoFar ns (k + 1) n
greater ns k m n lt is more h = record { each = next_each ns k m n (omega (arith, is)) (omega (arith, more)) h.each; one = inr (k, lt, any_default ns k n 0 lt ∙ is) }

pub not_greater : (ns : List ℕ) (k m n : ℕ) → k < length ns → get_or ns k 0 ≡ n → n ≤ m → IsSoFar ns k m → IsSoFar ns (k + 1) m
not_greater ns k m n lt is less h = record { each = next_each ns k m m (omega (arith, is, less)) (omega arith) h.each; one = by h.one }
  where
    by : ((k ≡ 0) × (m ≡ 0)) ⊎ Contains ns m → ((k + 1 ≡ 0) × (m ≡ 0)) ⊎ Contains ns m
    by (inl z) = let none = z.1 in let same : get_or ns k 0 ≡ m = omega (arith, is, less, none) in inr (k, lt, any_default ns k m 0 lt ∙ same)
    by (inr c) = inr c

pub in_the_end : (ns : List ℕ) (k n : ℕ) → k ≡ length ns → 0 < length ns → IsSoFar ns k n → IsGreatest ns n
in_the_end ns k n e some h = record { each = All-from_get_or (λ m. m ≤ n) ns 0 (λ j lt. h.each j (omega (arith, lt, e))); one = by h.one }
  where
    by : ((k ≡ 0) × (n ≡ 0)) ⊎ Contains ns n → Contains ns n
    by (inl z) = let none = z.0 in absurd (omega (arith, none, e, some))
    by (inr c) = c

-- what stands at a place of a mapped list
pub at_place : {A : Type 0} (f : A → ℕ) (xs : List A) (k : ℕ) (x : A) → slice_get xs k ≡ Some x → (k < length (map f xs)) × (get_or (map f xs) k 0 ≡ f x)
at_place f [] k x e = cc
at_place f (y ∷ xs) zero x e = let same : y ≡ x = cc in (omega arith, ap f same)
at_place f (y ∷ xs) (suc k) x e = let r = at_place f xs k x e in let a = r.0 in (omega (arith, a), r.1)

-- one more number of a mapped list
pub one_more : {A : Type 0} (f : A → ℕ) (xs : List A) (i k m n next : ℕ) (x : A) → slice_get xs i ≡ Some x → i ≡ k → n ≡ f x → IsSoFar (map f xs) k m
    → ((m < n) × (next ≡ n)) ⊎ ((n ≤ m) × (next ≡ m)) → IsSoFar (map f xs) (k + 1) next
one_more f xs i k m n next x at same is h (inl p) =
    let a = at_place f xs k x (ap (slice_get xs) (sym same) ∙ at) in
    subst (λ (j : ℕ). IsSoFar (map f xs) (k + 1) j) (sym p.1) (greater (map f xs) k m n a.0 (a.1 ∙ sym is) p.0 h)
one_more f xs i k m n next x at same is h (inr p) =
    let a = at_place f xs k x (ap (slice_get xs) (sym same) ∙ at) in
    subst (λ (j : ℕ). IsSoFar (map f xs) (k + 1) j) (sym p.1) (not_greater (map f xs) k m n a.0 (a.1 ∙ sym is) p.0 h)
