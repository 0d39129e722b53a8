-- The numbers of the atoms of clauses, and truth under valuations that agree on them.
use Rattle.std.proofs.Common.{◌≡◌, ℕ, ◌+◌, ◌<◌, ◌≤◌, Bool, not, ◌||◌, ◌&&◌, cond, List, [], ◌∷◌, map, refl, ap, ap₂, arith}
use Rattle.std.specs.List.{All}
use Rattle.std.proofs.lemmas.List.Elements.{All-nil, All-cons, All-head, All-tail, All-append, All-weaker}
use Rattle.pg_assertion.specs.Formula.{Plain, top, bottom, atom, neg, both, either, implies, AllAtoms}
use Rattle.pg_assertion.specs.Layout.{Sizes}
use Rattle.pg_assertion.specs.StepAtom.{IsStepAtom, step_atoms}
use Rattle.pg_assertion.proofs.StepNumbers.{step_numbers_have_no_gap}
use Rattle.pg_region.specs.Literal.{Literal, negated}
use Rattle.pg_views.specs.Formula.{true_in}
use Rattle.pg_tables.specs.declared.clause.StepLiteral.{StepLiteral}
use Rattle.pg_tables.specs.Clause.{AreStepAtoms, numbered}
use Rattle.pg_clauses.specs.Definitional.{after, literal, clauses}
use Rattle.pg_clauses.specs.Truth.{literal_true, clause_true, all_true}
use Rattle.pg_clauses.proofs.Numbers.{later}
use Rattle.pg_layers.specs.Clauses.{top_part, after_top, by_numbers}
use Rattle.pg_layers.proofs.Over.{IsOver}

-- each atom of the clauses is below m
abbrev pub Below : ℕ → List Literal → Type 0
Below m c = All (λ x. x.atom < m) c

abbrev pub AllBelow : ℕ → List (List Literal) → Type 0
AllBelow m cs = All (Below m) cs

pub one_literal : (m : ℕ) (a : Literal) → a.atom < m → Below m (a ∷ [])
one_literal m a h = All-cons (λ (x : Literal). x.atom < m) a [] h (All-nil (λ (x : Literal). x.atom < m))

two_literals : (m : ℕ) (a b : Literal) → a.atom < m → b.atom < m → Below m (a ∷ b ∷ [])
two_literals m a b h k = All-cons (λ (x : Literal). x.atom < m) a (b ∷ []) h (one_literal m b k)

three_literals : (m : ℕ) (a b c : Literal) → a.atom < m → b.atom < m → c.atom < m → Below m (a ∷ b ∷ c ∷ [])
three_literals m a b c h k n = All-cons (λ (x : Literal). x.atom < m) a (b ∷ c ∷ []) h (two_literals m b c k n)

pub one_clause : (m : ℕ) (c : List Literal) → Below m c → AllBelow m (c ∷ [])
one_clause m c h = All-cons (Below m) c [] h (All-nil (Below m))

three_clauses : (m : ℕ) (c d e : List Literal) → Below m c → Below m d → Below m e → AllBelow m (c ∷ d ∷ e ∷ [])
three_clauses m c d e h k n = All-cons (Below m) c (d ∷ e ∷ []) h (All-cons (Below m) d (e ∷ []) k (one_clause m e n))

pub wider : (m n : ℕ) (cs : List (List Literal)) → m ≤ n → AllBelow m cs → AllBelow n cs
wider m n cs le h = All-weaker (Below m) (Below n) (λ c. All-weaker (λ (x : Literal). x.atom < m) (λ (x : Literal). x.atom < n) (λ x lt. omega (arith, lt, le)) c) cs h

-- ---- definitional clauses

all_below : (n m : ℕ) (f : Plain ℕ) → n ≤ m → AllAtoms (λ a. a < n) f → AllAtoms (λ a. a < m) f
all_below n m top le h = tt
all_below n m bottom le h = tt
all_below n m (atom a) le h = omega (arith, le, h)
all_below n m (neg f) le h = all_below n m f le h
all_below n m (both f g) le h = (all_below n m f le h.0, all_below n m g le h.1)
all_below n m (either f g) le h = (all_below n m f le h.0, all_below n m g le h.1)
all_below n m (implies f g) le h = (all_below n m f le h.0, all_below n m g le h.1)

pub atoms-later : (n : ℕ) (f g : Plain ℕ) → AllAtoms (λ a. a < n) g → AllAtoms (λ a. a < after n f) g
atoms-later n f g h = all_below n (after n f) g (later n f) h

pub literal-below : (n : ℕ) (f : Plain ℕ) → AllAtoms (λ a. a < n) f → (literal n f).atom < after n f
literal-below n top h = omega arith
literal-below n bottom h = omega arith
literal-below n (atom a) h = h
literal-below n (neg f) h = literal-below n f h
literal-below n (both f g) h = omega arith
literal-below n (either f g) h = omega arith
literal-below n (implies f g) h = omega arith

-- three clauses over the atom of a node and the literals of its parts
node_below : (m : ℕ) (a b c d e f g : Literal) → a.atom < m → b.atom < m → c.atom < m → d.atom < m → e.atom < m → f.atom < m → g.atom < m → AllBelow m ((a ∷ b ∷ []) ∷ (c ∷ d ∷ []) ∷ (e ∷ f ∷ g ∷ []) ∷ [])
node_below m a b c d e f g p q r s t u v = three_clauses m (a ∷ b ∷ []) (c ∷ d ∷ []) (e ∷ f ∷ g ∷ []) (two_literals m a b p q) (two_literals m c d r s) (three_literals m e f g t u v)

pub clauses-below : (n : ℕ) (f : Plain ℕ) → AllAtoms (λ a. a < n) f → AllBelow (after n f) (clauses n f)
clauses-below n top h = one_clause (n + 1) _ (one_literal (n + 1) _ (omega arith))
clauses-below n bottom h = one_clause (n + 1) _ (one_literal (n + 1) _ (omega arith))
clauses-below n (atom a) h = All-nil (Below n)
clauses-below n (neg f) h = clauses-below n f h
clauses-below n (both f g) h =
    let k = after n f in
    let d = after k g in
    let right = atoms-later n f g h.1 in
    let a : (literal n f).atom < d + 1 = omega (arith, literal-below n f h.0, later k g) in
    let b : (literal k g).atom < d + 1 = omega (arith, literal-below k g right) in
    let own : d < d + 1 = omega arith in
    All-append (Below (d + 1)) (clauses n f) _ (wider k (d + 1) (clauses n f) (omega (arith, later k g)) (clauses-below n f h.0))
    (All-append (Below (d + 1)) (clauses k g) _ (wider d (d + 1) (clauses k g) (omega arith) (clauses-below k g right))
    (three_clauses (d + 1) _ _ _ (two_literals (d + 1) _ _ own a) (two_literals (d + 1) _ _ own b) (three_literals (d + 1) _ _ _ own a b)))
clauses-below n (either f g) h =
    let k = after n f in
    let d = after k g in
    let right = atoms-later n f g h.1 in
    let a : (literal n f).atom < d + 1 = omega (arith, literal-below n f h.0, later k g) in
    let b : (literal k g).atom < d + 1 = omega (arith, literal-below k g right) in
    let own : d < d + 1 = omega arith in
    All-append (Below (d + 1)) (clauses n f) _ (wider k (d + 1) (clauses n f) (omega (arith, later k g)) (clauses-below n f h.0))
    (All-append (Below (d + 1)) (clauses k g) _ (wider d (d + 1) (clauses k g) (omega arith) (clauses-below k g right))
    (three_clauses (d + 1) _ _ _ (three_literals (d + 1) _ _ _ own a b) (two_literals (d + 1) _ _ own a) (two_literals (d + 1) _ _ own b)))
clauses-below n (implies f g) h =
    let k = after n f in
    let d = after k g in
    let right = atoms-later n f g h.1 in
    let a : (literal n f).atom < d + 1 = omega (arith, literal-below n f h.0, later k g) in
    let b : (literal k g).atom < d + 1 = omega (arith, literal-below k g right) in
    let own : d < d + 1 = omega arith in
    All-append (Below (d + 1)) (clauses n f) _ (wider k (d + 1) (clauses n f) (omega (arith, later k g)) (clauses-below n f h.0))
    (All-append (Below (d + 1)) (clauses k g) _ (wider d (d + 1) (clauses k g) (omega arith) (clauses-below k g right))
    (three_clauses (d + 1) _ _ _ (three_literals (d + 1) _ _ _ own a b) (two_literals (d + 1) _ _ own a) (two_literals (d + 1) _ _ own b)))

-- ---- the top part

pub after_top-later : (n : ℕ) (fs : List (Plain ℕ)) (g : Plain ℕ) → n ≤ after_top n fs g
after_top-later n [] g = later n g
after_top-later n (f ∷ fs) g = omega (arith, later n f, after_top-later (after n f) fs g)

pub given-later : (n : ℕ) (f : Plain ℕ) (fs : List (Plain ℕ)) → All (AllAtoms (λ a. a < n)) fs → All (AllAtoms (λ a. a < after n f)) fs
given-later n f fs h = All-weaker (AllAtoms (λ a. a < n)) (AllAtoms (λ a. a < after n f)) (λ g. atoms-later n f g) fs h

pub top-below : (n : ℕ) (fs : List (Plain ℕ)) (g : Plain ℕ) → All (AllAtoms (λ a. a < n)) fs → AllAtoms (λ a. a < n) g → AllBelow (after_top n fs g) (top_part n fs g)
top-below n [] g h k =
    All-append (Below (after n g)) (clauses n g) _ (clauses-below n g k) (one_clause (after n g) _ (one_literal (after n g) (negated (literal n g)) (literal-below n g k)))
top-below n (f ∷ fs) g h k =
    let first = All-head (AllAtoms (λ (a : ℕ). a < n)) f fs h in
    let m = after_top (after n f) fs g in
    let le = after_top-later (after n f) fs g in
    let low : (literal n f).atom < m = omega (arith, le, literal-below n f first) in
    All-append (Below m) (clauses n f) _ (wider (after n f) m (clauses n f) le (clauses-below n f first))
    (All-cons (Below m) (literal n f ∷ []) (top_part (after n f) fs g) (one_literal m (literal n f) low)
    (top-below (after n f) fs g (given-later n f fs (All-tail (AllAtoms (λ (a : ℕ). a < n)) f fs h)) (atoms-later n f g k)))

-- ---- tables

table_clause : (l : Sizes) (c : List StepLiteral) → AreStepAtoms l c → Below (step_atoms l + 1) (map (numbered l) c)
table_clause l [] h = All-nil (λ (x : Literal). x.atom < step_atoms l + 1)
table_clause l (x ∷ c) h =
    let low = step_numbers_have_no_gap.0 l x.atom (All-head (λ (y : StepLiteral). IsStepAtom l y.atom) x c h) in
    All-cons (λ (y : Literal). y.atom < step_atoms l + 1) (numbered l x) (map (numbered l) c) (omega (arith, low.1))
    (table_clause l c (All-tail (λ (y : StepLiteral). IsStepAtom l y.atom) x c h))

table_clauses : (l : Sizes) (cs : List (List StepLiteral)) → All (AreStepAtoms l) cs → AllBelow (step_atoms l + 1) (by_numbers l cs)
table_clauses l [] h = All-nil (Below (step_atoms l + 1))
table_clauses l (c ∷ cs) h =
    All-cons (Below (step_atoms l + 1)) (map (numbered l) c) (by_numbers l cs) (table_clause l c (All-head (AreStepAtoms l) c cs h)) (table_clauses l cs (All-tail (AreStepAtoms l) c cs h))

pub table-below : (l : Sizes) (cs : List (List StepLiteral)) → IsOver l cs → AllBelow (step_atoms l + 1) (by_numbers l cs)
table-below l cs h = table_clauses l cs h.are

-- ---- valuations that agree below m

module _ (v w : ℕ → Bool) (m : ℕ) (same : (k : ℕ) → k < m → v k ≡ w k) where
  pub same_literal : (x : Literal) → x.atom < m → literal_true v x ≡ literal_true w x
  same_literal x h = ap (λ (b : Bool). cond x.positive b (not b)) (same x.atom h)

  same_clause : (c : List Literal) → Below m c → clause_true v c ≡ clause_true w c
  same_clause [] h = refl
  same_clause (x ∷ c) h = ap₂ ◌||◌ (same_literal x (All-head (λ (y : Literal). y.atom < m) x c h)) (same_clause c (All-tail (λ (y : Literal). y.atom < m) x c h))

  pub same_truth : (cs : List (List Literal)) → AllBelow m cs → all_true v cs ≡ all_true w cs
  same_truth [] h = refl
  same_truth (c ∷ cs) h = ap₂ ◌&&◌ (same_clause c (All-head (Below m) c cs h)) (same_truth cs (All-tail (Below m) c cs h))

  pub same_formula : (f : Plain ℕ) → AllAtoms (λ a. a < m) f → true_in v f ≡ true_in w f
  same_formula top h = refl
  same_formula bottom h = refl
  same_formula (atom a) h = same a h
  same_formula (neg f) h = ap not (same_formula f h)
  same_formula (both f g) h = ap₂ ◌&&◌ (same_formula f h.0) (same_formula g h.1)
  same_formula (either f g) h = ap₂ ◌||◌ (same_formula f h.0) (same_formula g h.1)
  same_formula (implies f g) h = ap₂ ◌||◌ (ap not (same_formula f h.0)) (same_formula g h.1)
