-- What the scans of messages and positions find.
use Rattle.std.proofs.Common.{◌≡◌, ℕ, zero, suc, ◌+◌, ◌-◌, ◌<◌, ◌≤◌, ◌==◌, max, nat_le, nat_lt, true, false, cond, not, ◌&&◌, List, [], ◌∷◌, length, get_or, set, drop, refl, inl, inr, sym, ap, ◌∙◌, arith}
use Rattle.std.proofs.lemmas.Bool.{lt-leb, lt-ltb, le-leb, cases_lt, true≢false, and_left, and_right, and_from}
use Rattle.pg_machine.specs.Memory.{is_to, is_at, last_upto, hides, is_clear}
use Rattle.pg_machine.specs.State.{greatest, greatest_on}
use Rattle.pg_machine.specs.Moves.{greater}
use Rattle.pg_machine.proofs.EveryBelow.{every_below-all}

-- ---- messages

pub is_to-past : (ms : List (ℕ × ℕ)) (x i : ℕ) → length ms ≤ i → is_to ms x i ≡ false
is_to-past [] x i le = refl
is_to-past (n ∷ ms) x zero le = absurd (omega arith)
is_to-past (n ∷ ms) x (suc i) le = is_to-past ms x i (omega arith)

pub is_to-get : (ms : List (ℕ × ℕ)) (x i : ℕ) (d : ℕ × ℕ) → i < length ms → is_to ms x i ≡ ((get_or ms i d).0 == x)
is_to-get [] x i d lt = absurd (omega arith)
is_to-get (n ∷ ms) x zero d lt = refl
is_to-get (n ∷ ms) x (suc i) d lt = is_to-get ms x i d (omega arith)

-- a position that is not 0 is that of a message
pub is_at-message : (ms : List (ℕ × ℕ)) (x p : ℕ) → 0 < p → is_at ms x p ≡ is_to ms x (p - 1)
is_at-message ms x zero lt = absurd (omega arith)
is_at-message ms x (suc i) lt = let e : suc i - 1 ≡ i = omega arith in ap (is_to ms x) (sym e)

pub last_upto-next : (ms : List (ℕ × ℕ)) (x i : ℕ) → last_upto ms x (i + 1) ≡ cond (is_to ms x i) (i + 1) (last_upto ms x i)
last_upto-next ms x i =
    let e : i + 1 ≡ suc i = omega arith in
    ap (last_upto ms x) e ∙ ap (λ (n : ℕ). cond (is_to ms x i) n (last_upto ms x i)) (sym e)

-- there is no position after the last message
pub is_at-past : (ms : List (ℕ × ℕ)) (x p : ℕ) → length ms < p → is_at ms x p ≡ false
is_at-past ms x zero lt = absurd (omega arith)
is_at-past ms x (suc i) lt = is_to-past ms x i (omega arith)

pub is_at-within : (ms : List (ℕ × ℕ)) (x p : ℕ) → is_at ms x p ≡ true → p ≤ length ms
is_at-within ms x p h = elim (cases_lt (length ms) p) [
  | inl lt ↦ absurd (true≢false (sym h ∙ is_at-past ms x p lt))
  | inr le ↦ le
]

-- ---- what hides a position

pub hides-above : (ms : List (ℕ × ℕ)) (x p n q : ℕ) → n < q → hides ms x p n q ≡ false
hides-above ms x p n q lt = and_right (is_at ms x q) (nat_lt p q && nat_le q n) (and_right (nat_lt p q) (nat_le q n) (lt-leb q n lt))

pub hides-below : (ms : List (ℕ × ℕ)) (x p n q : ℕ) → q ≤ p → hides ms x p n q ≡ false
hides-below ms x p n q le = and_right (is_at ms x q) (nat_lt p q && nat_le q n) (and_left (nat_lt p q) (nat_le q n) (lt-leb (suc p) q (omega arith)))

pub hides-other : (ms : List (ℕ × ℕ)) (x p n q : ℕ) → is_at ms x q ≡ false → hides ms x p n q ≡ false
hides-other ms x p n q e = and_left (is_at ms x q) (nat_lt p q && nat_le q n) e

pub hides-here : (ms : List (ℕ × ℕ)) (x p n q : ℕ) → is_at ms x q ≡ true → p < q → q ≤ n → hides ms x p n q ≡ true
hides-here ms x p n q e lt le = and_from (is_at ms x q) (nat_lt p q && nat_le q n) e (and_from (nat_lt p q) (nat_le q n) (lt-ltb p q lt) (le-leb q n le))

pub is_clear-none : (ms : List (ℕ × ℕ)) (x p n : ℕ) → ((q : ℕ) → hides ms x p n q ≡ false) → is_clear ms x p n ≡ true
is_clear-none ms x p n h = every_below-all (λ q. not (hides ms x p n q)) (suc (length ms)) (λ q lt. ap not (h q))

-- ---- lists of positions

greatest-step : (ps : List ℕ) (m i : ℕ) → i < length ps → max (max m (get_or ps i 0)) (greatest (drop (suc i) ps)) ≡ max m (greatest (drop i ps))
greatest-step [] m i lt = absurd (omega arith)
greatest-step (p ∷ ps) m zero lt = omega arith
greatest-step (p ∷ ps) m (suc i) lt = greatest-step ps m i (omega arith)

pub greatest-next : (ps : List ℕ) (m i : ℕ) → i < length ps → max (max m (get_or ps i 0)) (greatest (drop (i + 1) ps)) ≡ max m (greatest (drop i ps))
greatest-next ps m i lt =
    let e : i + 1 ≡ suc i = omega arith in
    ap (λ (n : ℕ). max (max m (get_or ps i 0)) (greatest (drop n ps))) e ∙ greatest-step ps m i lt

pub greatest-past : (ps : List ℕ) (i : ℕ) → length ps ≤ i → greatest (drop i ps) ≡ 0
greatest-past [] zero le = refl
greatest-past [] (suc i) le = refl
greatest-past (p ∷ ps) zero le = absurd (omega arith)
greatest-past (p ∷ ps) (suc i) le = greatest-past ps i (omega arith)

-- the same of those on a line
greatest_on-step : (ks ps : List ℕ) (l m i : ℕ) → i < length ps → length ps ≤ length ks
    → max (max m (cond (get_or ks i 0 == l) (get_or ps i 0) 0)) (greatest_on (drop (suc i) ks) (drop (suc i) ps) l) ≡ max m (greatest_on (drop i ks) (drop i ps) l)
greatest_on-step ks [] l m i lt le = absurd (omega arith)
greatest_on-step [] (p ∷ ps) l m i lt le = absurd (omega arith)
greatest_on-step (k ∷ ks) (p ∷ ps) l m zero lt le = omega arith
greatest_on-step (k ∷ ks) (p ∷ ps) l m (suc i) lt le = greatest_on-step ks ps l m i (omega arith) (omega arith)

pub greatest_on-next : (ks ps : List ℕ) (l m n i : ℕ) → i < length ps → length ps ≤ length ks → n ≡ max m (cond (get_or ks i 0 == l) (get_or ps i 0) 0)
    → max n (greatest_on (drop (i + 1) ks) (drop (i + 1) ps) l) ≡ max m (greatest_on (drop i ks) (drop i ps) l)
greatest_on-next ks ps l m n i lt le is =
    let e : i + 1 ≡ suc i = omega arith in
    ap (λ (k : ℕ). max k (greatest_on (drop (i + 1) ks) (drop (i + 1) ps) l)) is
    ∙ (ap (λ (k : ℕ). max (max m (cond (get_or ks i 0 == l) (get_or ps i 0) 0)) (greatest_on (drop k ks) (drop k ps) l)) e ∙ greatest_on-step ks ps l m i lt le)

greatest_on-none : (ks : List ℕ) (l : ℕ) → greatest_on ks [] l ≡ 0
greatest_on-none [] l = refl
greatest_on-none (k ∷ ks) l = refl

pub greatest_on-past : (ks ps : List ℕ) (l i : ℕ) → length ps ≤ i → greatest_on (drop i ks) (drop i ps) l ≡ 0
greatest_on-past ks [] l zero le = greatest_on-none ks l
greatest_on-past ks [] l (suc i) le = greatest_on-none (drop (suc i) ks) l
greatest_on-past ks (p ∷ ps) l zero le = absurd (omega arith)
greatest_on-past [] (p ∷ ps) l (suc i) le = refl
greatest_on-past (k ∷ ks) (p ∷ ps) l (suc i) le = greatest_on-past ks ps l i (omega arith)

-- the first i positions raised
abbrev pub raised : ℕ → List ℕ → List ℕ → List ℕ
raised zero ps qs = ps
raised (suc i) [] qs = []
raised (suc i) (p ∷ ps) [] = p ∷ ps
raised (suc i) (p ∷ ps) (q ∷ qs) = max p q ∷ raised i ps qs

raised-step : (i : ℕ) (ps qs : List ℕ) → i < length ps → length ps ≡ length qs
    → set (raised i ps qs) i (max (get_or (raised i ps qs) i 0) (get_or qs i 0)) ≡ raised (suc i) ps qs
raised-step i [] qs lt e = absurd (omega arith)
raised-step i (p ∷ ps) [] lt e = absurd (omega arith)
raised-step zero (p ∷ ps) (q ∷ qs) lt e = refl
raised-step (suc i) (p ∷ ps) (q ∷ qs) lt e = ap (λ (l : List ℕ). max p q ∷ l) (raised-step i ps qs (omega arith) (omega arith))

pub raised-next : (i : ℕ) (ps qs : List ℕ) → i < length ps → length ps ≡ length qs
    → set (raised i ps qs) i (max (get_or (raised i ps qs) i 0) (get_or qs i 0)) ≡ raised (i + 1) ps qs
raised-next i ps qs lt same = let e : suc i ≡ i + 1 = omega arith in raised-step i ps qs lt same ∙ ap (λ (n : ℕ). raised n ps qs) e

pub raised-all : (i : ℕ) (ps qs : List ℕ) → length ps ≤ i → raised i ps qs ≡ greater ps qs
raised-all zero [] qs le = refl
raised-all zero (p ∷ ps) qs le = absurd (omega arith)
raised-all (suc i) [] qs le = refl
raised-all (suc i) (p ∷ ps) [] le = refl
raised-all (suc i) (p ∷ ps) (q ∷ qs) le = ap (λ (l : List ℕ). max p q ∷ l) (raised-all i ps qs (omega arith))
