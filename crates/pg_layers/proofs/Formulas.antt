-- Formulas over other atoms, and the new atoms and clauses that they take.
use Rattle.std.proofs.Common.{◌≡◌, ℕ, ◌+◌, ◌*◌, ◌<◌, ◌≤◌, ◌^◌, List, [], ◌∷◌, ◌++◌, length, refl, sym, ap, ap₂, ◌∙◌, arith, length-append}
use Rattle.pg_assertion.specs.declared.atom.ViewAtom.{ViewAtom}
use Rattle.pg_assertion.specs.declared.layout.Side.{Side}
use Rattle.pg_assertion.specs.declared.step_atom.StepAtom.TheVariants.{On}
use Rattle.pg_assertion.specs.Formula.{Plain, top, bottom, atom, neg, both, either, implies, with_atoms, nodes, AllAtoms}
use Rattle.pg_assertion.specs.Layout.{Sizes, IsAtom, number_on}
use Rattle.pg_assertion.specs.Limits.{most_expansion_nodes}
use Rattle.pg_assertion.specs.StepAtom.{step_number, step_atoms}
use Rattle.pg_assertion.proofs.LayoutOrder.{number_on_within}
use Rattle.pg_region.specs.Literal.{Literal}
use Rattle.pg_region.specs.Pieces.{total}
use Rattle.pg_obligations.specs.Follow.{on}
use Rattle.pg_clauses.specs.Definitional.{after, literal, clauses, both_node, either_node, implies_node}
use Rattle.pg_clauses.specs.Made.{AreBelow}
use Rattle.pg_layers.specs.Clauses.{by_number}
use Rattle.pg_layers.specs.Top.{placed, taken, IsPart}

-- ---- other atoms

module _ {T U V : Type 0} (f : U → V) (g : T → U) where
  pub with_both : (h : Plain T) → with_atoms f (with_atoms g h) ≡ with_atoms (λ a. f (g a)) h
  unfolding with_atoms
  with_both top = refl
  with_both bottom = refl
  with_both (atom a) = refl
  with_both (neg h) = ap neg (with_both h)
  with_both (both h k) = ap₂ both (with_both h) (with_both k)
  with_both (either h k) = ap₂ either (with_both h) (with_both k)
  with_both (implies h k) = ap₂ implies (with_both h) (with_both k)

-- a formula on a side of a step has the numbers of its atoms there
pub placed-on : (l : Sizes) (side : Side) (f : Plain ViewAtom) → placed l side f ≡ by_number l (on side f)
placed-on l side f = sym (with_both (step_number l) (λ (a : ViewAtom). On a side) f)

module _ {T U : Type 0} (g : T → U) where
  pub nodes-with : (f : Plain T) → nodes (with_atoms g f) ≡ nodes f
  unfolding with_atoms
  nodes-with top = refl
  nodes-with bottom = refl
  nodes-with (atom a) = refl
  nodes-with (neg f) = ap (λ n. 1 + n) (nodes-with f)
  nodes-with (both f h) = ap₂ (λ (n m : ℕ). 1 + (n + m)) (nodes-with f) (nodes-with h)
  nodes-with (either f h) = ap₂ (λ (n m : ℕ). 1 + (n + m)) (nodes-with f) (nodes-with h)
  nodes-with (implies f h) = ap₂ (λ (n m : ℕ). 1 + (n + m)) (nodes-with f) (nodes-with h)

  pub taken-with : (f : Plain T) → taken (with_atoms g f) ≡ taken f
  unfolding with_atoms
  taken-with top = refl
  taken-with bottom = refl
  taken-with (atom a) = refl
  taken-with (neg f) = taken-with f
  taken-with (both f h) = ap₂ (λ (n m : ℕ). 1 + (n + m)) (taken-with f) (taken-with h)
  taken-with (either f h) = ap₂ (λ (n m : ℕ). 1 + (n + m)) (taken-with f) (taken-with h)
  taken-with (implies f h) = ap₂ (λ (n m : ℕ). 1 + (n + m)) (taken-with f) (taken-with h)

  pub all-with : (P : U → Type 0) (f : Plain T) → AllAtoms (λ a. P (g a)) f → AllAtoms P (with_atoms g f)
  unfolding with_atoms
  all-with P top h = tt
  all-with P bottom h = tt
  all-with P (atom a) h = h
  all-with P (neg f) h = all-with P f h
  all-with P (both f k) h = (all-with P f h.0, all-with P k h.1)
  all-with P (either f k) h = (all-with P f h.0, all-with P k h.1)
  all-with P (implies f k) h = (all-with P f h.0, all-with P k h.1)

pub all-weaker : {T : Type 0} (P Q : T → Type 0) → ((a : T) → P a → Q a) → (f : Plain T) → AllAtoms P f → AllAtoms Q f
all-weaker P Q i top h = tt
all-weaker P Q i bottom h = tt
all-weaker P Q i (atom a) h = i a h
all-weaker P Q i (neg f) h = all-weaker P Q i f h
all-weaker P Q i (both f g) h = (all-weaker P Q i f h.0, all-weaker P Q i g h.1)
all-weaker P Q i (either f g) h = (all-weaker P Q i f h.0, all-weaker P Q i g h.1)
all-weaker P Q i (implies f g) h = (all-weaker P Q i f h.0, all-weaker P Q i g h.1)

-- ---- new atoms

pub after-taken : (n : ℕ) (f : Plain ℕ) → after n f ≡ n + taken f
after-taken n top = refl
after-taken n bottom = refl
after-taken n (atom a) = omega arith
after-taken n (neg f) = after-taken n f
after-taken n (both f g) = omega (arith, after-taken n f, after-taken (after n f) g)
after-taken n (either f g) = omega (arith, after-taken n f, after-taken (after n f) g)
after-taken n (implies f g) = omega (arith, after-taken n f, after-taken (after n f) g)

pub taken-few : {T : Type 0} (f : Plain T) → taken f ≤ nodes f
taken-few top = omega arith
taken-few bottom = omega arith
taken-few (atom a) = omega arith
taken-few (neg f) = omega (arith, taken-few f)
taken-few (both f g) = omega (arith, taken-few f, taken-few g)
taken-few (either f g) = omega (arith, taken-few f, taken-few g)
taken-few (implies f g) = omega (arith, taken-few f, taken-few g)

pub after-few : (l : Sizes) (side : Side) (n : ℕ) (f : Plain ViewAtom) → IsPart l f → after n (placed l side f) ≤ n + most_expansion_nodes
after-few l side n f part =
    let g = placed l side f in
    let t = taken-with (λ (a : ViewAtom). number_on l a side) f in
    omega (arith, after-taken n g, t, taken-few f, part.few)

-- the numbers of a side are below those of new atoms
pub placed-below : (l : Sizes) (side : Side) (n : ℕ) (f : Plain ViewAtom) → AllAtoms (IsAtom l) f → step_atoms l < n → AreBelow n (placed l side f)
placed-below l side n f over new =
    all-with (λ (a : ViewAtom). number_on l a side) (λ k. (1 ≤ k) × (k < n)) f
    (all-weaker (IsAtom l) (λ a. (1 ≤ number_on l a side) × (number_on l a side < n)) (λ a h. let w = number_on_within l a side h in (w.0, omega (arith, w.1, new))) f over)

-- ---- clauses: a formula of n nodes has fewer than 2 n, and at most 4 n - 3 literals in them

pub total-append : (xs ys : List (List Literal)) → total (xs ++ ys) ≡ total xs + total ys
total-append [] ys = omega arith
total-append (x ∷ xs) ys = ap (λ (n : ℕ). length x + n) (total-append xs ys) ∙ omega arith

pub clauses-few : (n : ℕ) (f : Plain ℕ) → length (clauses n f) < 2 * nodes f
clauses-few n top = omega arith
clauses-few n bottom = omega arith
clauses-few n (atom a) = omega arith
clauses-few n (neg f) = omega (arith, clauses-few n f)
clauses-few n (both f g) =
    let node = both_node (after (after n f) g) (literal n f) (literal (after n f) g) in
    omega (arith, clauses-few n f, clauses-few (after n f) g, length-append (clauses n f) (clauses (after n f) g ++ node), length-append (clauses (after n f) g) node)
clauses-few n (either f g) =
    let node = either_node (after (after n f) g) (literal n f) (literal (after n f) g) in
    omega (arith, clauses-few n f, clauses-few (after n f) g, length-append (clauses n f) (clauses (after n f) g ++ node), length-append (clauses (after n f) g) node)
clauses-few n (implies f g) =
    let node = implies_node (after (after n f) g) (literal n f) (literal (after n f) g) in
    omega (arith, clauses-few n f, clauses-few (after n f) g, length-append (clauses n f) (clauses (after n f) g ++ node), length-append (clauses (after n f) g) node)

pub literals-few : (n : ℕ) (f : Plain ℕ) → total (clauses n f) + 3 ≤ 4 * nodes f
literals-few n top = omega arith
literals-few n bottom = omega arith
literals-few n (atom a) = omega arith
literals-few n (neg f) = omega (arith, literals-few n f)
literals-few n (both f g) =
    let node = both_node (after (after n f) g) (literal n f) (literal (after n f) g) in
    omega (arith, literals-few n f, literals-few (after n f) g, total-append (clauses n f) (clauses (after n f) g ++ node), total-append (clauses (after n f) g) node)
literals-few n (either f g) =
    let node = either_node (after (after n f) g) (literal n f) (literal (after n f) g) in
    omega (arith, literals-few n f, literals-few (after n f) g, total-append (clauses n f) (clauses (after n f) g ++ node), total-append (clauses (after n f) g) node)
literals-few n (implies f g) =
    let node = implies_node (after (after n f) g) (literal n f) (literal (after n f) g) in
    omega (arith, literals-few n f, literals-few (after n f) g, total-append (clauses n f) (clauses (after n f) g ++ node), total-append (clauses (after n f) g) node)

pub after-small : (l : Sizes) (side : Side) (n : ℕ) (f : Plain ViewAtom) → IsPart l f → n + most_expansion_nodes ≤ 2 ^ 31 → after n (placed l side f) ≤ 2 ^ 31
after-small l side n f part few = let t = after-few l side n f part in omega (arith, t, few)
