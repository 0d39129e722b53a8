-- The scalars that are read, and the clauses for the tuples of their values.
use Rattle.std.proofs.Common.{◌≡◌, ℕ, suc, zero, ◌+◌, ◌<◌, ◌≤◌, Bool, true, false, cond, List, [], ◌∷◌, ◌++◌, length, take, refl, sym, ap, ap₂, ◌∙◌, arith}
use Rattle.std.specs.Prelude.{slice_set, replicate}
use Rattle.std.specs.List.{flat_map, filter, range_with_len, All}
use Rattle.std.proofs.lemmas.List.{take_more_set, append-nil}
use Rattle.std.proofs.lemmas.List.Elements.{All-nil, All-cons, All-push, All-head, All-tail, All-same, All-filter, filter-append}
use Rattle.pg_assertion.specs.declared.atom.ViewAtom.TheVariants.{Scalar}
use Rattle.pg_assertion.specs.declared.layout.Side.{Side}
use Rattle.pg_assertion.specs.declared.step_atom.StepAtom.{StepAtom}
use Rattle.pg_assertion.specs.declared.step_atom.StepAtom.TheVariants.{On}
use Rattle.pg_assertion.specs.Layout.{Sizes}
use Rattle.pg_tables.specs.declared.clause.StepLiteral.{StepLiteral}
use Rattle.pg_assertion.specs.StepAtom.{IsStepAtom}
use Rattle.pg_tables.specs.Clause.{implies, AreStepAtoms}
use Rattle.pg_tables.specs.Table.{per_value}
use Rattle.pg_tables.proofs.Lists.{range-split}
use Rattle.pg_program.specs.Words.{is_in}
use Rattle.pg_rules_access.specs.Values.{per_tuple, in_order}

-- ---- the scalars that are read

module _ (p : ℕ → Bool) where
  range_more : (r : ℕ) → filter p (range_with_len 0 (r + 1)) ≡ filter p (range_with_len 0 r) ++ filter p (r ∷ [])
  range_more r =
      let e : 0 + r ≡ r = omega arith in
      ap (filter p) (range-split 0 r 1 ∙ ap (λ k. range_with_len 0 r ++ range_with_len k 1) e) ∙ filter-append p (range_with_len 0 r) (r ∷ [])

  pub more_read : (xs ys : List ℕ) (n m r : ℕ) → n < length xs → take n xs ≡ filter p (range_with_len 0 r) → p r ≡ true → ys ≡ slice_set xs n r → m ≡ n + 1
      → take m ys ≡ filter p (range_with_len 0 (r + 1))
  more_read xs ys n m r low is h e f =
      ap₂ take f e ∙ take_more_set xs n r low ∙ ap₂ (λ (a b : List ℕ). a ++ b) is (sym (ap (λ b. cond b (r ∷ []) []) h)) ∙ sym (range_more r)

  pub more_unread : (xs ys : List ℕ) (n m r : ℕ) → take n xs ≡ filter p (range_with_len 0 r) → p r ≡ false → ys ≡ xs → m ≡ n
      → take m ys ≡ filter p (range_with_len 0 (r + 1))
  more_unread xs ys n m r is h e f =
      ap₂ take f e ∙ sym (append-nil (take n xs)) ∙ ap₂ (λ (a b : List ℕ). a ++ b) is (sym (ap (λ b. cond b (r ∷ []) []) h)) ∙ sym (range_more r)

-- ---- tuples

module _ (l : Sizes) (side : ℕ → Side) (says : List ℕ → StepLiteral) where
  abbrev pub row : ℕ → List ℕ → List StepAtom → List ℕ → ℕ → List (List StepLiteral)
  row r rest given values k = per_tuple l side says rest (given ++ (On (Scalar r k) (side r) ∷ [])) (slice_set values r k)

  pub at_none : (names : List ℕ) (given : List StepAtom) (values : List ℕ) → length names ≡ 0
      → per_tuple l side says names given values ≡ (implies given [] ++ (says values ∷ [])) ∷ []
  at_none [] given values h = refl
  at_none (r ∷ rs) given values h = absurd (omega arith)

  pub at_cons : (names : List ℕ) (r : ℕ) (rest : List ℕ) (given : List StepAtom) (values : List ℕ) → names ≡ r ∷ rest
      → per_tuple l side says names given values ≡ flat_map (row r rest given values) (range_with_len 0 l.domain)
  unfolding per_value
  at_cons names r rest given values h = ap (λ n. per_tuple l side says n given values) h

  pub row_same : (r q : ℕ) (rest : List ℕ) (given : List StepAtom) (n : ℕ) (s : Side) (values : List ℕ) (k : ℕ) → n < length given → s ≡ side r → q ≡ r
      → per_tuple l side says rest (take (n + 1) (slice_set given n (On (Scalar r k) s))) (slice_set values q k) ≡ row r rest (take n given) values k
  row_same r q rest given n s values k low h t =
      ap₂ (λ (m : List StepAtom) (j : ℕ). per_tuple l side says rest m (slice_set values j k))
      (take_more_set given n (On (Scalar r k) s) low ∙ ap (λ (u : Side). take n given ++ (On (Scalar r k) u ∷ [])) h) t

pub tail_of : (P : ℕ → Type 0) (names : List ℕ) (r : ℕ) (rest : List ℕ) → names ≡ r ∷ rest → All P names → All P rest
tail_of P names r rest h a = All-tail P r rest (All-same P (r ∷ rest) names (sym h) a)

pub head_of : (P : ℕ → Type 0) (names : List ℕ) (r : ℕ) (rest : List ℕ) → names ≡ r ∷ rest → All P names → P r
head_of P names r rest h a = All-head P r rest (All-same P (r ∷ rest) names (sym h) a)

-- what is said has atoms of the layout
given_atoms : (l : Sizes) (given : List StepAtom) → All (IsStepAtom l) given → AreStepAtoms l (implies given [])
given_atoms l [] h = All-nil (λ (x : StepLiteral). IsStepAtom l x.atom)
given_atoms l (a ∷ given) h =
    All-cons (λ (x : StepLiteral). IsStepAtom l x.atom) (record { atom = a; positive = false }) (implies given []) (All-head (IsStepAtom l) a given h) (given_atoms l given (All-tail (IsStepAtom l) a given h))

pub said_atoms : (l : Sizes) (given : List StepAtom) (c : List StepLiteral) (a : StepAtom) (b : Bool) → c ≡ implies given [] → All (IsStepAtom l) given → IsStepAtom l a
    → AreStepAtoms l (c ++ (record { atom = a; positive = b } ∷ []))
said_atoms l given c a b e h k =
    All-push (λ (x : StepLiteral). IsStepAtom l x.atom) c (record { atom = a; positive = b }) (All-same (λ (x : StepLiteral). IsStepAtom l x.atom) c (implies given []) e (given_atoms l given h)) k

-- the scalars in order are those of the layout, and values that are all 0 are in a domain
range_below : (a n m : ℕ) → a + n ≤ m → All (λ r. r < m) (range_with_len a n)
range_below a zero m h = All-nil (λ (r : ℕ). r < m)
range_below a (suc n) m h = All-cons (λ (r : ℕ). r < m) a (range_with_len (a + 1) n) (omega arith) (range_below (a + 1) n m (omega arith))

pub in_order_known : (l : Sizes) (rs : List ℕ) → All (λ r. r < l.scalars) (in_order l rs)
in_order_known l rs = All-filter (λ r. is_in r rs) (λ r. r < l.scalars) (range_with_len 0 l.scalars) (range_below 0 l.scalars l.scalars (omega arith))

pub zeros_below : (d n : ℕ) → 0 < d → All (λ v. v < d) (replicate n 0)
zeros_below d zero h = All-nil (λ (v : ℕ). v < d)
zeros_below d (suc n) h = All-cons (λ (v : ℕ). v < d) 0 (replicate n 0) h (zeros_below d n h)
