-- How many clauses the row of an atom has at most, at each act. A clause of n literals weighs g n.
use Rattle.std.proofs.Common.{◌≡◌, ℕ, suc, ◌+◌, ◌*◌, ◌≤◌, Bool, true, false, ◌==◌, ◌&&◌, ◌||◌, List, [], ◌∷◌, length, sym, subst, ap₂, arith}
use Rattle.pg_assertion.specs.declared.atom.ViewAtom.{ViewAtom}
use Rattle.pg_assertion.specs.declared.atom.ViewAtom.TheVariants.{Scalar, Last, Read, Then, Newest, Ordered, Fenced}
use Rattle.pg_assertion.specs.Layout.{Sizes}
use Rattle.pg_program.specs.NameTable.{NameTable}
use Rattle.pg_tables.specs.declared.clause.Case.TheVariants.{Succeeds, Fails}
use Rattle.pg_tables.specs.declared.clause.StepLiteral.{StepLiteral}
use Rattle.pg_tables.specs.Shapes.{frame}
use Rattle.pg_tables.specs.Steps.{same_line}
use Rattle.pg_tables.specs.Bound.{AreWithin}
use Rattle.pg_tables.proofs.Bounds.{IsAtMost, most-none, most-cons, most-append, most-under, most-values, most-becomes}
use Rattle.pg_rules_access.specs.Store.{store, store_last, store_read, store_then, store_newest, store_ordered, store_fenced}
use Rattle.pg_rules_access.specs.Load.{assign_scalar, load_scalar, load_read, load_then, load_view}
use Rattle.pg_rules_access.specs.Fence.{fence_loses, fence_view}
use Rattle.pg_rules_access.specs.Cas.{if_stored, cas_scalar, own_read, cas_read, own_then, cas_then, cas_view, own_fenced, cas_fenced, cas}

-- what holds of known answers to tests holds of the tests
pub by2 : (P : Bool → Bool → Type 0) {a b c d : Bool} → a ≡ c → b ≡ d → P c d → P a b
by2 P {a} {b} {c} {d} e f h = subst (λ (k : Bool). P k b) (sym e) (subst (λ (k : Bool). P c k) (sym f) h)

pub by4 : (P : Bool → Bool → Bool → Bool → Type 0) {a b c d p q r s : Bool} → a ≡ p → b ≡ q → c ≡ r → d ≡ s → P p q r s → P a b c d
by4 P {a} {b} {c} {d} {p} {q} {r} {s} e f g h i = by2 (λ (j k : Bool). P j k c d) e f (by2 (λ (j k : Bool). P p q j k) g h i)

module _ (g : ℕ → ℕ) where
  pub most-frame : (a : ViewAtom) → IsAtMost g (frame a) (2 * g 2)
  most-frame a = record { bound = omega arith }

  pub more : {cs : List (List StepLiteral)} {m n : ℕ} → m ≤ n → IsAtMost g cs m → IsAtMost g cs n
  more le h = record { bound = omega (arith, le, h.bound) }

  one : (c : List StepLiteral) → IsAtMost g (c ∷ []) (g (length c))
  one c = let t = most-cons g c [] 0 (most-none g) in record { bound = omega (arith, t.bound) }

  -- ---- a store

  pub most-store_last : (here : Bool) (z v : ℕ) → IsAtMost g (store_last here z v) (2 * g 2)
  most-store_last true z v = record { bound = omega arith }
  most-store_last false z v = record { bound = omega arith }

  pub most-store_read : (own here : Bool) (t z v : ℕ) → IsAtMost g (store_read own here t z v) (2 * g 2 + g 3)
  most-store_read true true t z v = record { bound = omega arith }
  most-store_read false true t z v = record { bound = omega arith }
  most-store_read true false t z v = record { bound = omega arith }
  most-store_read false false t z v = record { bound = omega arith }

  -- of another thread, whether each location is that of the store, and whether the values are the same
  abbrev pub then_most : Bool → Bool → Bool → ℕ
  then_most true true true = 2 * g 2 + (2 * g 3 + g 4)
  then_most true true false = g 2 + (3 * g 3 + g 4)
  then_most true false same = g 2 + 3 * g 3
  then_most false true same = g 2 + 3 * g 3
  then_most false false same = 2 * g 2

  pub most-store_then : (here there same : Bool) (t z v u w : ℕ) → IsAtMost g (store_then false here there same t z v u w) (then_most here there same)
  most-store_then true true true t z v u w = record { bound = omega arith }
  most-store_then true true false t z v u w = record { bound = omega arith }
  most-store_then true false same t z v u w = record { bound = omega arith }
  most-store_then false true same t z v u w = record { bound = omega arith }
  most-store_then false false same t z v u w = record { bound = omega arith }

  -- of any thread
  abbrev pub store_then_most : Bool → Bool → ℕ
  store_then_most true true = g 2 + (3 * g 3 + g 4)
  store_then_most true false = g 2 + 3 * g 3
  store_then_most false true = g 2 + 3 * g 3
  store_then_most false false = 2 * g 2

  module _ (up : (m n : ℕ) → m ≤ n → g m ≤ g n) where
    low : g 2 ≤ g 3
    low = up 2 3 (omega arith)

    pub most-any_then : (own here there same : Bool) (t z v u w : ℕ) → IsAtMost g (store_then own here there same t z v u w) (store_then_most here there)
    most-any_then false true true true t z v u w = record { bound = omega (arith, low) }
    most-any_then false true true false t z v u w = record { bound = omega arith }
    most-any_then false true false same t z v u w = record { bound = omega arith }
    most-any_then false false true same t z v u w = record { bound = omega arith }
    most-any_then false false false same t z v u w = record { bound = omega arith }
    most-any_then true true true true t z v u w = record { bound = omega (arith, low) }
    most-any_then true true true false t z v u w = record { bound = omega (arith, low) }
    most-any_then true true false same t z v u w = record { bound = omega (arith, low) }
    most-any_then true false true same t z v u w = record { bound = omega (arith, low) }
    most-any_then true false false same t z v u w = record { bound = omega arith }

    one_is_less : g 1 ≤ g 2
    one_is_less = up 1 2 (omega arith)

    pub most-store_newest : (own here : Bool) (t z : ℕ) → IsAtMost g (store_newest own here t z) (g 2 + g 3)
    most-store_newest true true t z = record { bound = omega (arith, one_is_less) }
    most-store_newest false true t z = record { bound = omega (arith, one_is_less) }
    most-store_newest true false t z = record { bound = omega (arith, low) }
    most-store_newest false false t z = record { bound = omega (arith, low) }

    pub most-store_ordered : (own here near : Bool) (t z : ℕ) → IsAtMost g (store_ordered own here near t z) (g 2 + g 3)
    most-store_ordered true here true t z = record { bound = omega (arith, one_is_less) }
    most-store_ordered true here false t z = record { bound = omega (arith, low) }
    most-store_ordered false true near t z = record { bound = omega (arith, one_is_less) }
    most-store_ordered false false near t z = record { bound = omega (arith, low) }

    pub most-store_fenced : (own here : Bool) (t z : ℕ) → IsAtMost g (store_fenced own here t z) (g 2 + g 3)
    most-store_fenced true here t z = record { bound = omega (arith, one_is_less) }
    most-store_fenced false true t z = record { bound = omega (arith, one_is_less) }
    most-store_fenced false false t z = record { bound = omega (arith, low) }

    -- ---- an assignment, a load and the fences

    pub most-frame_more : (a : ViewAtom) → IsAtMost g (frame a) (g 2 + g 3)
    most-frame_more a = record { bound = omega (arith, low) }

    pub most-assign : (here : Bool) (q k : ℕ) → IsAtMost g (assign_scalar here q k) (2 * g 2)
    most-assign true q k = record { bound = omega arith }
    most-assign false q k = record { bound = omega arith }

    pub most-load_scalar : (here : Bool) (s x q k : ℕ) → IsAtMost g (load_scalar here s x q k) (2 * g 2)
    most-load_scalar true s x q k = record { bound = omega arith }
    most-load_scalar false s x q k = record { bound = omega arith }

    pub most-load_then : (own : Bool) (s x : ℕ) (a : ViewAtom) → IsAtMost g (load_then own s x a) (g 2 + g 3)
    most-load_then true s x a = record { bound = omega arith }
    most-load_then false s x a = record { bound = omega (arith, low) }

    pub most-load_view : (own : Bool) (s x : ℕ) (a : ViewAtom) → IsAtMost g (load_view own s x a) (g 2 + g 3)
    most-load_view true s x a = record { bound = omega arith }
    most-load_view false s x a = record { bound = omega (arith, low) }

    pub most-fence_loses : (own : Bool) (a : ViewAtom) → IsAtMost g (fence_loses own a) (2 * g 2)
    most-fence_loses true a = record { bound = omega arith }
    most-fence_loses false a = record { bound = omega arith }

    pub most-fence_view : (own : Bool) (t z : ℕ) (a : ViewAtom) → IsAtMost g (fence_view own t z a) (2 * g 2)
    most-fence_view true t z a = record { bound = omega arith }
    most-fence_view false t z a = record { bound = omega arith }

  module _ {l m : Sizes} (w : AreWithin l m) where
    pub most-load_read : (own : Bool) (s r x t z k : ℕ) → IsAtMost g (load_read l own s r x t z k) (2 * g 2 + (m.domain * g 3 + g 3))
    most-load_read true s r x t z k =
        more (omega arith) (most-append g _ _ (g 2) (m.domain * g 3 + g 3) (one _) (most-append g _ _ (m.domain * g 3) (g 3) (most-values g w (λ v. one _)) (one _)))
    most-load_read false s r x t z k = record { bound = omega arith }

-- ---- a cas

-- The most of each kind of row: by whether the scalar is the one that is read into, and the location that of the cas; and for
-- what threads see first by whether the thread is the acting one.
module _ (g : ℕ → ℕ) where
  abbrev pub under_case : ℕ → ℕ
  under_case n = g (suc n)

  abbrev pub scalar_most : Bool → ℕ
  scalar_most true = 4 * g 3 + g 4
  scalar_most false = 2 * g 2

  abbrev pub last_most : Bool → ℕ
  last_most true = 2 * g 3 + 2 * g 3
  last_most false = 2 * g 2

  abbrev pub read_most : ℕ → Bool → Bool → ℕ
  read_most d true here = 2 * g 3 + (g 3 + d * g 4)
  read_most d false true = 2 * g 3 + g 4 + 2 * g 3
  read_most d false false = 2 * g 2

  -- pairs of the acting thread, by whether both reads are the same
  abbrev pub own_most : Bool → ℕ
  own_most true = 3 * g 3
  own_most false = 3 * g 3 + g 4

  -- pairs of another thread, by whether each location is that of the cas, and whether the values are the same
  abbrev pub other_most : Bool → Bool → Bool → ℕ
  other_most true there same = then_most under_case true there same + 2 * g 3
  other_most false true same = then_most under_case false true same + 2 * g 3
  other_most false false same = 2 * g 2

  -- what is newest and ordered, and what is fenced
  abbrev pub view_most : Bool → Bool → ℕ
  view_most true here = g 2 + 2 * g 3
  view_most false true = g 2 + 2 * g 3
  view_most false false = 2 * g 2

  abbrev pub fenced_most : Bool → Bool → ℕ
  fenced_most true true = g 2 + g 3
  fenced_most true false = g 2 + (g 3 + g 4)
  fenced_most false true = g 2 + 2 * g 3
  fenced_most false false = 2 * g 2

module _ (g : ℕ → ℕ) {l m : Sizes} (w : AreWithin l m) (names : NameTable) (s r x : ℕ) where
  abbrev inside : ℕ → ℕ
  inside = under_case g

  -- an atom that a store changes, and one that it leaves
  kept : (a : ViewAtom) (here : Bool) (n : ℕ) → here ≡ true → IsAtMost inside (store names s x a) n → IsAtMost g (if_stored here names s x a) (n + 2 * g 3)
  kept a here n e h =
      subst (λ (b : Bool). IsAtMost g (if_stored b names s x a) (n + 2 * g 3)) (sym e)
      (most-append g _ _ n (2 * g 3) (most-under g Succeeds (store names s x a) n h) (most-under g Fails (frame a) (2 * g 3) (most-frame inside a)))

  left : (a : ViewAtom) (here : Bool) → here ≡ false → IsAtMost g (if_stored here names s x a) (2 * g 2)
  left a here e = subst (λ (b : Bool). IsAtMost g (if_stored b names s x a) (2 * g 2)) (sym e) (most-frame g a)

  pub most-cas_scalar : (q k : ℕ) (here : Bool) → (q == r) ≡ here → IsAtMost g (cas l names s r x (Scalar q k)) (scalar_most g here)
  most-cas_scalar q k here e = subst (λ (b : Bool). IsAtMost g (cas_scalar b s x q k) (scalar_most g here)) (sym e) (by here)
    where
      by : (b : Bool) → IsAtMost g (cas_scalar b s x q k) (scalar_most g b)
      by true = record { bound = omega arith }
      by false = record { bound = omega arith }

  pub most-cas_last : (z v : ℕ) (here : Bool) → (z == x) ≡ here → IsAtMost g (cas l names s r x (Last z v)) (last_most g here)
  most-cas_last z v true e = kept (Last z v) (z == x) (2 * g 3) e (most-store_last inside (z == x) z v)
  most-cas_last z v false e = left (Last z v) (z == x) e

  most-own_read : (z v : ℕ) → IsAtMost g (own_read l s r x z v) (2 * g 3 + (g 3 + m.domain * g 4))
  most-own_read z v =
      most-append g _ _ (2 * g 3) (g 3 + m.domain * g 4) (most-under g Succeeds _ (2 * g 3) (most-becomes inside _ _))
      (most-under g Fails _ (g 3 + m.domain * g 4)
      (most-append inside _ _ (g 3) (m.domain * g 4) (one inside _) (most-values inside w (λ k. one inside _))))

  pub most-cas_read : (t z v : ℕ) (own here : Bool) → (t == s) ≡ own → (z == x) ≡ here → IsAtMost g (cas l names s r x (Read t z v)) (read_most g m.domain own here)
  most-cas_read t z v true here e h = subst (λ (b : Bool). IsAtMost g (cas_read l b (z == x) names s r x t z v) (read_most g m.domain true here)) (sym e) (most-own_read z v)
  most-cas_read t z v false true e h =
      subst (λ (b : Bool). IsAtMost g (cas_read l b (z == x) names s r x t z v) (read_most g m.domain false true)) (sym e)
      (kept (Read t z v) (z == x) (2 * g 3 + g 4) h (most-store_read inside (t == s) (z == x) t z v))
  most-cas_read t z v false false e h =
      subst (λ (b : Bool). IsAtMost g (cas_read l b (z == x) names s r x t z v) (read_most g m.domain false false)) (sym e) (left (Read t z v) (z == x) h)

  most-own_then : (same : Bool) (t z v u k : ℕ) → IsAtMost g (own_then same t z v u k) (own_most g same)
  most-own_then true t z v u k = record { bound = omega arith }
  most-own_then false t z v u k = record { bound = omega arith }

  pub most-cas_own_then : (t z v u k : ℕ) → (t == s) ≡ true → (same : Bool) → (z == u && v == k) ≡ same → IsAtMost g (cas l names s r x (Then t z v u k)) (own_most g same)
  most-cas_own_then t z v u k e same h =
      by2 (λ (b c : Bool). IsAtMost g (cas_then b (z == x || u == x) c names s x t z v u k) (own_most g same)) e h (most-own_then same t z v u k)

  store_pairs : (t z v u k : ℕ) → (t == s) ≡ false → (here there same : Bool) → (z == x) ≡ here → (u == x) ≡ there → (v == k) ≡ same
      → IsAtMost inside (store names s x (Then t z v u k)) (then_most inside here there same)
  store_pairs t z v u k e here there same f h i =
      by4 (λ (a b c d : Bool). IsAtMost inside (store_then a b c d t z v u k) (then_most inside here there same)) e f h i
      (most-store_then inside here there same t z v u k)

  pub most-cas_other_then : (t z v u k : ℕ) → (t == s) ≡ false → (here there same : Bool) → (z == x) ≡ here → (u == x) ≡ there → (v == k) ≡ same
      → IsAtMost g (cas l names s r x (Then t z v u k)) (other_most g here there same)
  most-cas_other_then t z v u k e here there same f h i =
      subst (λ (b : Bool). IsAtMost g (cas_then b (z == x || u == x) (z == u && v == k) names s x t z v u k) (other_most g here there same)) (sym e)
      (by here there f h (store_pairs t z v u k e here there same f h i))
    where
      by : (here there : Bool) → (z == x) ≡ here → (u == x) ≡ there → IsAtMost inside (store names s x (Then t z v u k)) (then_most inside here there same)
          → IsAtMost g (if_stored (z == x || u == x) names s x (Then t z v u k)) (other_most g here there same)
      by true there f h i = kept (Then t z v u k) (z == x || u == x) (then_most inside true there same) (ap₂ (λ (a b : Bool). a || b) f h) i
      by false true f h i = kept (Then t z v u k) (z == x || u == x) (then_most inside false true same) (ap₂ (λ (a b : Bool). a || b) f h) i
      by false false f h i = left (Then t z v u k) (z == x || u == x) (ap₂ (λ (a b : Bool). a || b) f h)

  view_row : (a : ViewAtom) (t z : ℕ) (own here : Bool) → (t == s) ≡ own → (z == x) ≡ here → ((t == s) ≡ false → (z == x) ≡ true → IsAtMost inside (store names s x a) (g 2))
      → IsAtMost g (cas_view (t == s) (z == x) names s x t z a) (view_most g own here)
  view_row a t z true here e h st = subst (λ (b : Bool). IsAtMost g (cas_view b (z == x) names s x t z a) (view_most g true here)) (sym e) (record { bound = omega arith })
  view_row a t z false true e h st =
      subst (λ (b : Bool). IsAtMost g (cas_view b (z == x) names s x t z a) (view_most g false true)) (sym e) (kept a (z == x) (g 2) h (st e h))
  view_row a t z false false e h st = subst (λ (b : Bool). IsAtMost g (cas_view b (z == x) names s x t z a) (view_most g false false)) (sym e) (left a (z == x) h)

  pub most-cas_newest : (t z : ℕ) (own here : Bool) → (t == s) ≡ own → (z == x) ≡ here → IsAtMost g (cas l names s r x (Newest t z)) (view_most g own here)
  most-cas_newest t z own here e h =
      view_row (Newest t z) t z own here e h (λ f i. by2 (λ (b c : Bool). IsAtMost inside (store_newest b c t z) (g 2)) f i (record { bound = omega arith }))

  pub most-cas_ordered : (t z : ℕ) (own here : Bool) → (t == s) ≡ own → (z == x) ≡ here → IsAtMost g (cas l names s r x (Ordered t z)) (view_most g own here)
  most-cas_ordered t z own here e h =
      view_row (Ordered t z) t z own here e h
      (λ f i. by2 (λ (b c : Bool). IsAtMost inside (store_ordered b c (same_line names x z) t z) (g 2)) f i (record { bound = omega arith }))

  own_fenced-few : (here : Bool) (z : ℕ) → IsAtMost g (own_fenced here s x z) (fenced_most g true here)
  own_fenced-few true z = record { bound = omega arith }
  own_fenced-few false z = record { bound = omega arith }

  pub most-cas_fenced : (t z : ℕ) (own here : Bool) → (t == s) ≡ own → (z == x) ≡ here → IsAtMost g (cas l names s r x (Fenced t z)) (fenced_most g own here)
  most-cas_fenced t z true here e h = by2 (λ (b c : Bool). IsAtMost g (cas_fenced b c names s x t z) (fenced_most g true here)) e h (own_fenced-few here z)
  most-cas_fenced t z false true e h =
      subst (λ (b : Bool). IsAtMost g (cas_fenced b (z == x) names s x t z) (fenced_most g false true)) (sym e)
      (kept (Fenced t z) (z == x) (g 2) h (by2 (λ (b c : Bool). IsAtMost inside (store_fenced b c t z) (g 2)) e h (record { bound = omega arith })))
  most-cas_fenced t z false false e h =
      subst (λ (b : Bool). IsAtMost g (cas_fenced b (z == x) names s x t z) (fenced_most g false false)) (sym e) (left (Fenced t z) (z == x) h)
