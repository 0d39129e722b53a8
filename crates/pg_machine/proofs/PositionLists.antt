-- Lists of positions: the greatest of some, the greater of two place by place, and a position that is set.
use Rattle.std.proofs.Common.{◌≡◌, ◌≢◌, ℕ, zero, suc, ◌<◌, ◌≤◌, ◌==◌, max, ◌⊎◌, Bool, true, false, cond, List, [], ◌∷◌, length, get_or, set, inl, inr, refl, sym, ap, ◌∙◌, arith}
use Rattle.std.specs.List.{All}
use Rattle.std.proofs.lemmas.Bool.{eq-eqb, ne_eqb}
use Rattle.std.proofs.lemmas.List.Elements.{All-nil, All-cons, All-head, All-tail}
use Rattle.pg_program.specs.NameTable.{line_count}
use Rattle.pg_machine.specs.State.{greatest, greatest_on}
use Rattle.pg_machine.specs.Moves.{greater}

-- ---- the greatest of some positions

-- each position is the greatest at most; one that is missing reads 0
pub greatest-above : (ps : List ℕ) (i : ℕ) → get_or ps i 0 ≤ greatest ps
greatest-above [] i = omega arith
greatest-above (p ∷ ps) zero = omega arith
greatest-above (p ∷ ps) (suc i) = let rest = greatest-above ps i in omega (arith, rest)

pub greatest-least : (ps : List ℕ) (m : ℕ) → ((i : ℕ) → i < length ps → get_or ps i 0 ≤ m) → greatest ps ≤ m
greatest-least [] m h = omega arith
greatest-least (p ∷ ps) m h =
    let first = h 0 (omega arith) in
    let rest = greatest-least ps m (λ i lt. h (suc i) (omega (arith, lt))) in
    omega (arith, first, rest)

-- where a position grows, the greatest one becomes its maximum with it
pub greatest-raised : (ps : List ℕ) (x p : ℕ) → x < length ps → get_or ps x 0 ≤ p → greatest (set ps x p) ≡ max (greatest ps) p
greatest-raised [] x p lt le = absurd (omega arith)
greatest-raised (q ∷ ps) zero p lt le = omega arith
greatest-raised (q ∷ ps) (suc x) p lt le = let rest = greatest-raised ps x p (omega arith) le in omega (arith, rest)

-- ---- lines

-- the line of each location is one of the lines
pub line-within : (ks : List ℕ) (x : ℕ) → x < length ks → get_or ks x 0 < line_count ks
line-within [] x lt = absurd (omega arith)
line-within (k ∷ ks) zero lt = omega arith
line-within (k ∷ ks) (suc x) lt = let rest = line-within ks x (omega arith) in omega (arith, rest)

-- the greatest of the positions on a line
pub greatest_on-within : (ks ps : List ℕ) (l : ℕ) → greatest_on ks ps l ≤ greatest ps
greatest_on-within [] ps l = omega arith
greatest_on-within (k ∷ ks) [] l = omega arith
greatest_on-within (k ∷ ks) (p ∷ ps) l = let rest = greatest_on-within ks ps l in by (k == l) rest
  where
    by : (b : Bool) → greatest_on ks ps l ≤ greatest ps → max (cond b p 0) (greatest_on ks ps l) ≤ max p (greatest ps)
    by true rest = omega (arith, rest)
    by false rest = omega (arith, rest)

-- each position of the line is the greatest at most
pub greatest_on-above : (ks ps : List ℕ) (l x : ℕ) → x < length ks → get_or ks x 0 ≡ l → get_or ps x 0 ≤ greatest_on ks ps l
greatest_on-above [] ps l x lt on = absurd (omega arith)
greatest_on-above (k ∷ ks) [] l x lt on = omega arith
greatest_on-above (k ∷ ks) (p ∷ ps) l zero lt on =
    let here : cond (k == l) p 0 ≡ p = ap (λ (b : Bool). cond b p 0) (eq-eqb k l on) in
    omega (arith, here)
greatest_on-above (k ∷ ks) (p ∷ ps) l (suc x) lt on = let rest = greatest_on-above ks ps l x (omega arith) on in omega (arith, rest)

-- where a position of the line grows, the greatest one becomes its maximum with it
pub greatest_on-raised : (ks ps : List ℕ) (l x p : ℕ) → x < length ks → x < length ps → get_or ks x 0 ≡ l → get_or ps x 0 ≤ p → greatest_on ks (set ps x p) l ≡ max (greatest_on ks ps l) p
greatest_on-raised [] ps l x p lt size on le = absurd (omega arith)
greatest_on-raised (k ∷ ks) [] l x p lt size on le = absurd (omega arith)
greatest_on-raised (k ∷ ks) (q ∷ ps) l zero p lt size on le =
    let new : cond (k == l) p 0 ≡ p = ap (λ (b : Bool). cond b p 0) (eq-eqb k l on) in
    let old : cond (k == l) q 0 ≡ q = ap (λ (b : Bool). cond b q 0) (eq-eqb k l on) in
    omega (arith, new, old, le)
greatest_on-raised (k ∷ ks) (q ∷ ps) l (suc x) p lt size on le =
    let rest = greatest_on-raised ks ps l x p (omega arith) (omega arith) on le in
    omega (arith, rest)

-- and where one of another line changes, it stays
pub greatest_on-other : (ks ps : List ℕ) (l x p : ℕ) → get_or ks x 0 ≢ l → greatest_on ks (set ps x p) l ≡ greatest_on ks ps l
greatest_on-other [] ps l x p off = refl
greatest_on-other (k ∷ ks) [] l x p off = refl
greatest_on-other (k ∷ ks) (q ∷ ps) l zero p off = ap (λ (b : Bool). max (cond b p 0) (greatest_on ks ps l)) (ne_eqb k l off) ∙ sym (ap (λ (b : Bool). max (cond b q 0) (greatest_on ks ps l)) (ne_eqb k l off))
greatest_on-other (k ∷ ks) (q ∷ ps) l (suc x) p off = ap (λ (n : ℕ). max (cond (k == l) q 0) n) (greatest_on-other ks ps l x p off)

-- ---- a position that is set

-- a position that grows leaves none less
pub set-grows : (coh : List ℕ) (x p y : ℕ) → get_or coh x 0 ≤ p → get_or coh y 0 ≤ get_or (set coh x p) y 0
set-grows [] x p y le = omega arith
set-grows (c ∷ coh) zero p zero le = le
set-grows (c ∷ coh) zero p (suc y) le = omega arith
set-grows (c ∷ coh) (suc x) p zero le = omega arith
set-grows (c ∷ coh) (suc x) p (suc y) le = set-grows coh x p y le

-- each place keeps what it has, or is the one that is set
pub set-either : (coh : List ℕ) (x p y : ℕ) → (get_or (set coh x p) y 0 ≡ get_or coh y 0) ⊎ ((y ≡ x) × (get_or (set coh x p) y 0 ≡ p))
set-either [] x p y = inl refl
set-either (c ∷ coh) zero p zero = inr (refl, refl)
set-either (c ∷ coh) zero p (suc y) = inl refl
set-either (c ∷ coh) (suc x) p zero = inl refl
set-either (c ∷ coh) (suc x) p (suc y) = elim (set-either coh x p y) [
  | inl same ↦ inl same
  | inr here ↦ inr (ap suc here.0, here.1)
]

-- ---- bounds

-- what bounds all positions of a list bounds that at each place
pub at-bounded : (ps : List ℕ) (m x : ℕ) → All (λ p. p ≤ m) ps → get_or ps x 0 ≤ m
at-bounded [] m x h = omega arith
at-bounded (p ∷ ps) m zero h = All-head (λ (q : ℕ). q ≤ m) p ps h
at-bounded (p ∷ ps) m (suc x) h = at-bounded ps m x (All-tail (λ (q : ℕ). q ≤ m) p ps h)

pub greater-bounded : (ps qs : List ℕ) (m : ℕ) → All (λ p. p ≤ m) ps → All (λ p. p ≤ m) qs → All (λ p. p ≤ m) (greater ps qs)
greater-bounded [] qs m h k = All-nil (λ (p : ℕ). p ≤ m)
greater-bounded (p ∷ ps) [] m h k = h
greater-bounded (p ∷ ps) (q ∷ qs) m h k =
    let P : ℕ → Type 0 = λ (n : ℕ). n ≤ m in
    let a = All-head P p ps h in
    let b = All-head P q qs k in
    All-cons P (max p q) (greater ps qs) (omega (arith, a, b)) (greater-bounded ps qs m (All-tail P p ps h) (All-tail P q qs k))

-- ---- the greater of two positions, place by place

pub greater-length : (ps qs : List ℕ) → length (greater ps qs) ≡ length ps
greater-length [] qs = refl
greater-length (p ∷ ps) [] = refl
greater-length (p ∷ ps) (q ∷ qs) = ap suc (greater-length ps qs)

-- what is missing reads 0
pub greater-at : (ps qs : List ℕ) (x : ℕ) → length ps ≡ length qs → get_or (greater ps qs) x 0 ≡ max (get_or ps x 0) (get_or qs x 0)
greater-at [] [] x e = refl
greater-at [] (q ∷ qs) x e = absurd (omega arith)
greater-at (p ∷ ps) [] x e = absurd (omega arith)
greater-at (p ∷ ps) (q ∷ qs) zero e = refl
greater-at (p ∷ ps) (q ∷ qs) (suc x) e = greater-at ps qs x (omega arith)
