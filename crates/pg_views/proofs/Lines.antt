-- The positions on a cache line: the greatest of them, and the scan that finds it.
use Rattle.std.proofs.Common.{◌≡◌, ◌≢◌, ℕ, zero, suc, ◌+◌, ◌<◌, ◌≤◌, ◌==◌, max, Bool, true, false, cond, List, [], ◌∷◌, length, get_or, drop, refl, sym, ap, ◌∙◌, arith}
use Rattle.std.proofs.lemmas.Bool.{eq-eqb, ne_eqb, eqb-true}
use Rattle.pg_machine.specs.State.{greatest_on}
use Rattle.pg_machine.proofs.PositionLists.{greatest_on-above}

-- what bounds each position on a line bounds the greatest of them
pub greatest_on-least : (ks ps : List ℕ) (l m : ℕ) → ((i : ℕ) → i < length ks → i < length ps → get_or ks i 0 ≡ l → get_or ps i 0 ≤ m) → greatest_on ks ps l ≤ m
greatest_on-least [] ps l m h = omega arith
greatest_on-least (k ∷ ks) [] l m h = omega arith
greatest_on-least (k ∷ ks) (p ∷ ps) l m h =
    let first = by (k == l) refl in
    let rest = greatest_on-least ks ps l m (λ i lt long on. h (suc i) (omega (arith, lt)) (omega (arith, long)) on) in
    omega (arith, first, rest)
  where
    by : (b : Bool) → (k == l) ≡ b → cond b p 0 ≤ m
    by true e = h 0 (omega arith) (omega arith) (eqb-true k l e)
    by false e = omega arith

-- where each location has a line of its own, it is the one position there
pub greatest_on-own : (ks ps : List ℕ) (x : ℕ) → ((i : ℕ) → i < length ks → get_or ks i 0 ≡ i) → x < length ks → greatest_on ks ps x ≡ get_or ps x 0
greatest_on-own ks ps x own lt =
    let above = greatest_on-above ks ps x x lt (own x lt) in
    let least = greatest_on-least ks ps x (get_or ps x 0) (λ i inside long on.
    let e : i ≡ x = sym (own i inside) ∙ on in
    let same = ap (λ (j : ℕ). get_or ps j 0) e in
    omega (arith, same)) in
    omega (arith, above, least)

-- location by location: one on the line, and one of another line
pub greatest_on-here : (ks ps : List ℕ) (l m i : ℕ) → i < length ks → i < length ps → get_or ks i 0 ≡ l
    → max (max m (get_or ps i 0)) (greatest_on (drop (i + 1) ks) (drop (i + 1) ps) l) ≡ max m (greatest_on (drop i ks) (drop i ps) l)
greatest_on-here ks ps l m i lt long on =
    let e : i + 1 ≡ suc i = omega arith in
    ap (λ (n : ℕ). max (max m (get_or ps i 0)) (greatest_on (drop n ks) (drop n ps) l)) e ∙ by ks ps i lt long on
  where
    by : (ks ps : List ℕ) (i : ℕ) → i < length ks → i < length ps → get_or ks i 0 ≡ l
        → max (max m (get_or ps i 0)) (greatest_on (drop (suc i) ks) (drop (suc i) ps) l) ≡ max m (greatest_on (drop i ks) (drop i ps) l)
    by [] ps i lt long on = absurd (omega arith)
    by (k ∷ ks) [] i lt long on = absurd (omega arith)
    by (k ∷ ks) (p ∷ ps) zero lt long on = let here : cond (k == l) p 0 ≡ p = ap (λ (b : Bool). cond b p 0) (eq-eqb k l on) in omega (arith, here)
    by (k ∷ ks) (p ∷ ps) (suc i) lt long on = by ks ps i (omega arith) (omega arith) on

pub greatest_on-elsewhere : (ks ps : List ℕ) (l m i : ℕ) → i < length ks → i < length ps → get_or ks i 0 ≢ l
    → max m (greatest_on (drop (i + 1) ks) (drop (i + 1) ps) l) ≡ max m (greatest_on (drop i ks) (drop i ps) l)
greatest_on-elsewhere ks ps l m i lt long off =
    let e : i + 1 ≡ suc i = omega arith in
    ap (λ (n : ℕ). max m (greatest_on (drop n ks) (drop n ps) l)) e ∙ by ks ps i lt long off
  where
    by : (ks ps : List ℕ) (i : ℕ) → i < length ks → i < length ps → get_or ks i 0 ≢ l
        → max m (greatest_on (drop (suc i) ks) (drop (suc i) ps) l) ≡ max m (greatest_on (drop i ks) (drop i ps) l)
    by [] ps i lt long off = absurd (omega arith)
    by (k ∷ ks) [] i lt long off = absurd (omega arith)
    by (k ∷ ks) (p ∷ ps) zero lt long off = let none : cond (k == l) p 0 ≡ 0 = ap (λ (b : Bool). cond b p 0) (ne_eqb k l off) in omega (arith, none)
    by (k ∷ ks) (p ∷ ps) (suc i) lt long off = by ks ps i (omega arith) (omega arith) off
