-- When conjunctions are true, and formulas with values put in.
use Rattle.std.proofs.Common.{◌≡◌, ℕ, zero, suc, ◌+◌, ◌<◌, ◌≤◌, ◌==◌, Bool, true, false, cond, not, ◌&&◌, ◌||◌, List, [], ◌∷◌, map, length, get_or, refl, sym, ap, ap₂, ◌∙◌, inl, inr, arith}
use Rattle.std.specs.List.{All, filter, fold, range_with_len}
use Rattle.std.proofs.lemmas.Bool.{and_parts, and_from, and_left, or_left, or_right, or_parts, or_from, eq-eqb, ne_eqb, eqb-true, true≢false, cases_lt}
use Rattle.std.proofs.lemmas.List.{get_or_past}
use Rattle.std.proofs.lemmas.List.Elements.{All-nil, All-cons, All-head, All-tail, All-map}
use Rattle.pg_assertion.specs.declared.atom.ViewAtom.{ViewAtom}
use Rattle.pg_assertion.specs.declared.atom.CrashAtom.{CrashAtom}
use Rattle.pg_assertion.specs.declared.atom.CrashAtom.TheVariants.{Scalar, Location}
use Rattle.pg_assertion.specs.Formula.{Plain, top, bottom, atom, neg, both, either, implies}
use Rattle.pg_assertion.specs.Expansion.{mentions, named, value_in, constant, fill, conjunction, can_persist}
use Rattle.pg_machine.specs.State.{State}
use Rattle.pg_views.specs.Atom.{atom_holds, may_persist}
use Rattle.pg_views.specs.Formula.{true_in, holds, holds_crash}

-- ---- conjunctions

abbrev pub Is : (ViewAtom → Bool) → Plain ViewAtom → Type 0
Is val g = true_in val g ≡ true

fold-parts : (val : ViewAtom → Bool) (f : Plain ViewAtom) (fs : List (Plain ViewAtom)) → Is val (fold both f fs) → Is val f × All (Is val) fs
fold-parts val f [] h = (h, All-nil (Is val))
fold-parts val f (g ∷ fs) h =
    let parts = fold-parts val (both f g) fs h in
    let two = and_parts (true_in val f) (true_in val g) parts.0 in
    (two.0, All-cons (Is val) g fs two.1 parts.1)

pub conjunction-parts : (val : ViewAtom → Bool) (fs : List (Plain ViewAtom)) → Is val (conjunction fs) → All (Is val) fs
conjunction-parts val [] h = All-nil (Is val)
conjunction-parts val (f ∷ fs) h = let parts = fold-parts val f fs h in All-cons (Is val) f fs parts.0 parts.1

fold-whole : (val : ViewAtom → Bool) (f : Plain ViewAtom) (fs : List (Plain ViewAtom)) → Is val f → All (Is val) fs → Is val (fold both f fs)
fold-whole val f [] h k = h
fold-whole val f (g ∷ fs) h k =
    fold-whole val (both f g) fs (and_from (true_in val f) (true_in val g) h (All-head (Is val) g fs k)) (All-tail (Is val) g fs k)

pub conjunction-whole : (val : ViewAtom → Bool) (fs : List (Plain ViewAtom)) → All (Is val) fs → Is val (conjunction fs)
conjunction-whole val [] h = refl
conjunction-whole val (f ∷ fs) h = fold-whole val f fs (All-head (Is val) f fs h) (All-tail (Is val) f fs h)

-- ---- implications

pub implied : (a b : Bool) → (a ≡ true → b ≡ true) → (not a || b) ≡ true
implied true b h = h refl
implied false b h = refl

pub implies-then : (a b : Bool) → (not a || b) ≡ true → a ≡ true → b ≡ true
implies-then true b h k = h
implies-then false b h k = absurd (true≢false (sym k))

-- ---- values put in

constant-is : (val : ViewAtom → Bool) (b : Bool) → true_in val (constant b) ≡ b
constant-is val true = refl
constant-is val false = refl

-- a formula with values put in is true where the formula is, in a memory that has these values
pub fill-is : (s : State) (w : List (ℕ × ℕ)) (memory : List ℕ) (f : Plain CrashAtom) → ((x : ℕ) → mentions x f ≡ true → value_in w x ≡ get_or memory x 0)
    → holds s (fill w f) ≡ holds_crash memory s.scalars f
fill-is s w memory top h = refl
fill-is s w memory bottom h = refl
fill-is s w memory (atom (Scalar r k)) h = refl
fill-is s w memory (atom (Location x v)) h =
    constant-is (atom_holds s) (value_in w x == v) ∙ ap (λ (n : ℕ). n == v) (h x (eq-eqb x x refl))
fill-is s w memory (neg f) h = ap not (fill-is s w memory f h)
fill-is s w memory (both f g) h =
    ap₂ (λ (a b : Bool). a && b)
    (fill-is s w memory f (λ x m. h x (or_left (mentions x f) (mentions x g) m)))
    (fill-is s w memory g (λ x m. h x (or_right (mentions x f) (mentions x g) m)))
fill-is s w memory (either f g) h =
    ap₂ (λ (a b : Bool). a || b)
    (fill-is s w memory f (λ x m. h x (or_left (mentions x f) (mentions x g) m)))
    (fill-is s w memory g (λ x m. h x (or_right (mentions x f) (mentions x g) m)))
fill-is s w memory (implies f g) h =
    ap₂ (λ (a b : Bool). not a || b)
    (fill-is s w memory f (λ x m. h x (or_left (mentions x f) (mentions x g) m)))
    (fill-is s w memory g (λ x m. h x (or_right (mentions x f) (mentions x g) m)))

-- ---- the locations of a list

abbrev pub among : List ℕ → ℕ → Bool
among [] x = false
among (y ∷ ys) x = (y == x) || among ys x

among-step : (b : Bool) (y : ℕ) (l : List ℕ) (x : ℕ) → among (cond b (y ∷ l) l) x ≡ ((b && (y == x)) || among l x)
among-step true y l x = refl
among-step false y l x = refl

step-table : (b c r q : Bool) → (c ≡ true → b ≡ q) → ((b && c) || (r && q)) ≡ ((c || r) && q)
step-table true true r q h = h refl
step-table false true r true h = absurd (true≢false (sym (h refl)))
step-table false true true false h = refl
step-table false true false false h = refl
step-table true false r q h = refl
step-table false false r q h = refl

pub among-filter : (p : ℕ → Bool) (xs : List ℕ) (x : ℕ) → among (filter p xs) x ≡ (among xs x && p x)
among-filter p [] x = refl
among-filter p (y ∷ xs) x =
    among-step (p y) y (filter p xs) x
    ∙ (ap (λ (b : Bool). (p y && (y == x)) || b) (among-filter p xs x)
    ∙ step-table (p y) (y == x) (among xs x) (p x) (λ e. ap p (eqb-true y x e)))

among-range : (a n x : ℕ) → a ≤ x → x < a + n → among (range_with_len a n) x ≡ true
among-range a zero x low high = absurd (omega arith)
among-range a (suc n) x low high = elim (cases_lt a x) [
  | inl less ↦ or_right (a == x) (among (range_with_len (a + 1) n) x) (among-range (a + 1) n x (omega (arith, less)) (omega arith))
  | inr le ↦ or_left (a == x) (among (range_with_len (a + 1) n) x) (eq-eqb a x (omega (arith, le)))
]

among-past : (a n x : ℕ) → a + n ≤ x → among (range_with_len a n) x ≡ false
among-past a zero x past = refl
among-past a (suc n) x past =
    or_from (a == x) (among (range_with_len (a + 1) n) x) (ne_eqb a x (λ e. omega (arith, e))) (among-past (a + 1) n x (omega arith))

-- of the first n locations those that the formula names
pub named-inside : (n : ℕ) (f : Plain CrashAtom) (x : ℕ) → mentions x f ≡ true → x < n → among (named n f) x ≡ true
named-inside n f x m lt =
    among-filter (λ y. mentions y f) (range_with_len 0 n) x
    ∙ and_from (among (range_with_len 0 n) x) (mentions x f) (among-range 0 n x (omega arith) (omega (arith, lt))) m

pub named-past : (n : ℕ) (f : Plain CrashAtom) (x : ℕ) → n ≤ x → among (named n f) x ≡ false
named-past n f x le =
    among-filter (λ y. mentions y f) (range_with_len 0 n) x
    ∙ and_left (among (range_with_len 0 n) x) (mentions x f) (among-past 0 n x (omega (arith, le)))

-- ---- the values that a memory has there

abbrev pub graph : List ℕ → List ℕ → List (ℕ × ℕ)
graph memory xs = map (λ x. (x, get_or memory x 0)) xs

pub graph-keys : (memory xs : List ℕ) → map (λ e. e.0) (graph memory xs) ≡ xs
graph-keys memory [] = refl
graph-keys memory (x ∷ xs) = ap (λ (l : List ℕ). x ∷ l) (graph-keys memory xs)

graph-value : (memory xs : List ℕ) (x : ℕ) → value_in (graph memory xs) x ≡ cond (among xs x) (get_or memory x 0) 0
graph-value memory [] x = refl
graph-value memory (y ∷ ys) x = by (y == x) refl (graph-value memory ys x)
  where
    by : (b : Bool) → (y == x) ≡ b → value_in (graph memory ys) x ≡ cond (among ys x) (get_or memory x 0) 0
        → cond b (get_or memory y 0) (value_in (graph memory ys) x) ≡ cond (b || among ys x) (get_or memory x 0) 0
    by true e rest = ap (λ (z : ℕ). get_or memory z 0) (eqb-true y x e)
    by false e rest = rest

pub graph-agrees : (memory : List ℕ) (n : ℕ) (f : Plain CrashAtom) → length memory ≤ n → (x : ℕ) → mentions x f ≡ true → value_in (graph memory (named n f)) x ≡ get_or memory x 0
graph-agrees memory n f short x m = graph-value memory (named n f) x ∙ elim (cases_lt x n) [
  | inl inside ↦ ap (λ (b : Bool). cond b (get_or memory x 0) 0) (named-inside n f x m inside)
  | inr past ↦
      ap (λ (b : Bool). cond b (get_or memory x 0) 0) (named-past n f x past) ∙ sym (get_or_past memory x 0 (omega (arith, short, past)))
]

-- ---- the values of a choice

-- it has 0 where it has none
pub choice-none : (w : List (ℕ × ℕ)) (x : ℕ) → among (map (λ e. e.0) w) x ≡ false → value_in w x ≡ 0
choice-none [] x h = refl
choice-none (e ∷ w) x h =
    let two = or_parts (e.0 == x) (among (map (λ u. u.0) w) x) h in
    ap (λ (b : Bool). cond b e.1 (value_in w x)) two.0 ∙ choice-none w x two.1

-- a crash may leave each of its values
abbrev pub Persists : State → ℕ × ℕ → Type 0
Persists s e = may_persist s e.0 e.1 ≡ true

pub choice-persists : (s : State) (w : List (ℕ × ℕ)) (x : ℕ) → All (Persists s) w → among (map (λ e. e.0) w) x ≡ true → may_persist s x (value_in w x) ≡ true
choice-persists s [] x h k = absurd (true≢false (sym k))
choice-persists s (e ∷ w) x h k = by (e.0 == x) refl k (choice-persists s w x (All-tail (Persists s) e w h))
  where
    by : (b : Bool) → (e.0 == x) ≡ b → (b || among (map (λ u. u.0) w) x) ≡ true
        → (among (map (λ u. u.0) w) x ≡ true → may_persist s x (value_in w x) ≡ true)
        → may_persist s x (cond b e.1 (value_in w x)) ≡ true
    by true is there rest = ap (λ (z : ℕ). may_persist s z e.1) (sym (eqb-true e.0 x is)) ∙ All-head (Persists s) e w h
    by false is there rest = rest there

-- so says the premise of its term
pub All-unmap : {X Y : Type 0} (P : Y → Type 0) (f : X → Y) (xs : List X) → All P (map f xs) → All (λ x. P (f x)) xs
All-unmap P f [] h = All-nil (λ x. P (f x))
All-unmap P f (x ∷ xs) h = All-cons (λ y. P (f y)) x xs (All-head P (f x) (map f xs) h) (All-unmap P f xs (All-tail P (f x) (map f xs) h))

pub term-premise : (s : State) (w : List (ℕ × ℕ)) → holds s (conjunction (map can_persist w)) ≡ true → All (Persists s) w
term-premise s w h = All-unmap (Is (atom_holds s)) can_persist w (conjunction-parts (atom_holds s) (map can_persist w) h)

pub premise-holds : (s : State) (w : List (ℕ × ℕ)) → All (Persists s) w → holds s (conjunction (map can_persist w)) ≡ true
premise-holds s w h = conjunction-whole (atom_holds s) (map can_persist w) (All-map (Is (atom_holds s)) can_persist w h)
