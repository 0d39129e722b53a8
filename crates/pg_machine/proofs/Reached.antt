-- The positions of one location that a view reaches: those from the greater of two positions on. So of two such sets one
-- contains the other, and a load moves as little as it does.
use Rattle.std.proofs.Common.{◌≡◌, ℕ, zero, suc, ◌<◌, ◌≤◌, ◌==◌, max, nat_le, Bool, true, false, cond, ◌&&◌, ◌⊎◌, List, [], ◌∷◌, length, get_or, set, ◌++◌, inl, inr, refl, sym, ap, ap₂, ◌∙◌, arith}
use Rattle.std.proofs.lemmas.Bool.{cases_lt, and_from, leb-true, le-leb, eqb-false, ne_eqb}
use Rattle.std.proofs.lemmas.List.{set-get_or}
use Rattle.pg_machine.specs.Memory.{is_to, is_at, hides, is_clear, reaches, last_upto, last}
use Rattle.pg_machine.specs.State.{Views, coh_of, AreViews}
use Rattle.pg_machine.specs.Moves.{Seen, load_seen, loaded, can_read}
use Rattle.pg_machine.proofs.Appended.{same_number, is_to-front, is_to-new, length-appended, last_upto-front, last_upto-within}
use Rattle.pg_machine.proofs.Scan.{is_at-within, is_clear-none, hides-here, hides-other, hides-below, hides-above}
use Rattle.pg_machine.proofs.PositionLists.{set-grows, set-either}
use Rattle.pg_machine.proofs.ViewLaws.{coh-at, view-loaded}
use Rattle.pg_machine.proofs.Faults.{is_reached, hidden-not_clear}

-- ---- the last position up to n

-- it is a position
pub last_upto-at : (ms : List (ℕ × ℕ)) (x n : ℕ) → is_at ms x (last_upto ms x n) ≡ true
last_upto-at ms x zero = refl
last_upto-at ms x (suc n) = by (last_upto-at ms x n) (is_to ms x n) refl
  where
    by : is_at ms x (last_upto ms x n) ≡ true → (b : Bool) → is_to ms x n ≡ b → is_at ms x (cond b (suc n) (last_upto ms x n)) ≡ true
    by before true e = e
    by before false e = before

-- and no position up to n is greater
pub last_upto-above : (ms : List (ℕ × ℕ)) (x n q : ℕ) → is_at ms x q ≡ true → q ≤ n → q ≤ last_upto ms x n
last_upto-above ms x zero q at le = le
last_upto-above ms x (suc n) q at le = elim (cases_lt q (suc n)) [
  | inl less ↦ by (is_to ms x n) (last_upto-above ms x n q at (omega (arith, less)))
  | inr more ↦
      let e : q ≡ suc n = omega (arith, le, more) in
      let here : is_to ms x n ≡ true = ap (is_at ms x) (sym e) ∙ at in
      let top : cond (is_to ms x n) (suc n) (last_upto ms x n) ≡ suc n = ap (λ (b : Bool). cond b (suc n) (last_upto ms x n)) here in
      omega (arith, le, top)
]
  where
    by : (b : Bool) → q ≤ last_upto ms x n → q ≤ cond b (suc n) (last_upto ms x n)
    by true h = le
    by false h = h

pub last_upto-grows : (ms : List (ℕ × ℕ)) (x n k : ℕ) → n ≤ k → last_upto ms x n ≤ last_upto ms x k
last_upto-grows ms x n k le =
    let within = last_upto-within ms x n in
    last_upto-above ms x k (last_upto ms x n) (last_upto-at ms x n) (omega (arith, le, within))

-- no position is greater than the last one
pub last-above : (ms : List (ℕ × ℕ)) (x q : ℕ) → is_at ms x q ≡ true → q ≤ last ms x
last-above ms x q at = last_upto-above ms x (length ms) q at (is_at-within ms x q at)

-- ---- what is reached

-- from the last position up to n on no position is hidden up to n, and every position before it is
pub clear-from : (ms : List (ℕ × ℕ)) (x p n : ℕ) → last_upto ms x n ≤ p → is_clear ms x p n ≡ true
clear-from ms x p n le = is_clear-none ms x p n (λ q. by q (is_at ms x q) refl)
  where
    by : (q : ℕ) (b : Bool) → is_at ms x q ≡ b → hides ms x p n q ≡ false
    by q true at = elim (cases_lt n q) [
      | inl above ↦ hides-above ms x p n q above
      | inr upto ↦ let less = last_upto-above ms x n q at upto in hides-below ms x p n q (omega (arith, less, le))
    ]
    by q false at = hides-other ms x p n q at

pub clear-upto : (ms : List (ℕ × ℕ)) (x p n : ℕ) → is_clear ms x p n ≡ true → last_upto ms x n ≤ p
clear-upto ms x p n clear = elim (cases_lt p (last_upto ms x n)) [
  | inl less ↦ absurd (hidden-not_clear ms x p n (last_upto ms x n) (hides-here ms x p n (last_upto ms x n) (last_upto-at ms x n) less (last_upto-within ms x n)) clear)
  | inr le ↦ le
]

-- A position p is reached from c on, up to n, where it is one of x, and is c at least and the last position up to n at least.
pub record Reaches (ms : List (ℕ × ℕ)) (x c n p : ℕ) : Type 0 where
  pub at : is_at ms x p ≡ true
  pub from : c ≤ p
  pub last : last_upto ms x n ≤ p

pub reaches_of : (ms : List (ℕ × ℕ)) (x c n p : ℕ) → reaches ms x c n p ≡ true → Reaches ms x c n p
reaches_of ms x c n p h =
    let is = is_reached ms x c n p h in
    record { at = is.at; from = is.from; last = clear-upto ms x p n is.clear }

pub of_reaches : (ms : List (ℕ × ℕ)) (x c n p : ℕ) → Reaches ms x c n p → reaches ms x c n p ≡ true
of_reaches ms x c n p h =
    and_from (is_at ms x p) (nat_le c p && is_clear ms x p n) h.at
    (and_from (nat_le c p) (is_clear ms x p n) (le-leb c p h.from) (clear-from ms x p n h.last))

-- the least position that is reached
abbrev pub least : List (ℕ × ℕ) → ℕ → ℕ → ℕ → ℕ
least ms x c n = max c (last_upto ms x n)

-- ---- sets of reached positions

-- with a position each later one is reached
pub reaches-up : (ms : List (ℕ × ℕ)) (x c n p q : ℕ) → reaches ms x c n p ≡ true → is_at ms x q ≡ true → p ≤ q → reaches ms x c n q ≡ true
reaches-up ms x c n p q h at le =
    let r = reaches_of ms x c n p h in
    let from = r.from in
    let bare = r.last in
    of_reaches ms x c n q (record { at = at; from = omega (arith, from, le); last = omega (arith, bare, le) })

-- where the least position is less, as much is reached
pub reaches-within : (ms : List (ℕ × ℕ)) (x c n d k : ℕ) → least ms x c n ≤ least ms x d k → (p : ℕ) → reaches ms x d k p ≡ true → reaches ms x c n p ≡ true
reaches-within ms x c n d k le = λ p h.
    let r = reaches_of ms x d k p h in
    let from = r.from in
    let bare = r.last in
    of_reaches ms x c n p (record { at = r.at; from = omega (arith, from, bare, le); last = omega (arith, from, bare, le) })

-- of two sets of reached positions of one location one contains the other
pub reaches-nested : (ms : List (ℕ × ℕ)) (x c n d k : ℕ)
    → ((p : ℕ) → reaches ms x c n p ≡ true → reaches ms x d k p ≡ true) ⊎ ((p : ℕ) → reaches ms x d k p ≡ true → reaches ms x c n p ≡ true)
reaches-nested ms x c n d k = elim (cases_lt (least ms x c n) (least ms x d k)) [
  | inl less ↦ inr (reaches-within ms x c n d k (omega (arith, less)))
  | inr le ↦ inl (reaches-within ms x d k c n le)
]

-- what is reached from a later position on, or up to a later one, is reached
pub reaches-less : (ms : List (ℕ × ℕ)) (x c n d k : ℕ) → c ≤ d → n ≤ k → (p : ℕ) → reaches ms x d k p ≡ true → reaches ms x c n p ≡ true
reaches-less ms x c n d k le upto =
    let grows = last_upto-grows ms x n k upto in
    reaches-within ms x c n d k (omega (arith, le, grows))

-- the last position is reached from each position on
pub reaches-last : (ms : List (ℕ × ℕ)) (x c n : ℕ) → is_at ms x c ≡ true → reaches ms x c n (last ms x) ≡ true
reaches-last ms x c n at =
    of_reaches ms x c n (last ms x) (record {
      at = last_upto-at ms x (length ms);
      from = last-above ms x c at;
      last = last-above ms x (last_upto ms x n) (last_upto-at ms x n);
    })

-- the least position is reached, from a position on
pub reaches-least : (ms : List (ℕ × ℕ)) (x c n : ℕ) → is_at ms x c ≡ true → reaches ms x c n (least ms x c n) ≡ true
reaches-least ms x c n at =
    of_reaches ms x c n (least ms x c n) (record { at = by (cases_lt c (last_upto ms x n)); from = omega arith; last = omega arith })
  where
    by : (c < last_upto ms x n) ⊎ (last_upto ms x n ≤ c) → is_at ms x (least ms x c n) ≡ true
    by (inl less) = let e : least ms x c n ≡ last_upto ms x n = omega (arith, less) in ap (is_at ms x) e ∙ last_upto-at ms x n
    by (inr le) = let e : least ms x c n ≡ c = omega (arith, le) in ap (is_at ms x) e ∙ at

-- where one position alone is reached, it is the least one, and the last one
pub alone-least : (ms : List (ℕ × ℕ)) (x c n p : ℕ) → is_at ms x c ≡ true → ((q : ℕ) → reaches ms x c n q ≡ true → q ≡ p) → p ≡ least ms x c n
alone-least ms x c n p at alone = sym (alone (least ms x c n) (reaches-least ms x c n at))

pub alone-last : (ms : List (ℕ × ℕ)) (x c n p : ℕ) → is_at ms x c ≡ true → ((q : ℕ) → reaches ms x c n q ≡ true → q ≡ p) → p ≡ last ms x
alone-last ms x c n p at alone = sym (alone (last ms x) (reaches-last ms x c n at))

-- and where the least one is the last one, it alone is reached
pub last-alone : (ms : List (ℕ × ℕ)) (x c n : ℕ) → last ms x ≤ least ms x c n → (q : ℕ) → reaches ms x c n q ≡ true → q ≡ last ms x
last-alone ms x c n le = λ q h.
    let r = reaches_of ms x c n q h in
    let from = r.from in
    let bare = r.last in
    let top = last-above ms x q r.at in
    omega (arith, le, from, bare, top)

-- ---- loads

-- after a load no position may be read that could not be read before
pub load-less : (n : Seen) (x p y q : ℕ) → coh_of n.views x ≤ p → can_read (loaded n x p) y q ≡ true → can_read n y q ≡ true
load-less n x p y q le =
    reaches-less n.memory.messages y (coh_of n.views y) n.views.vrn (coh_of (load_seen n.views x p) y) (load_seen n.views x p).vrn (set-grows n.views.coh x p y le) (view-loaded (p == coh_of n.views x) n.views.vrn p) q

-- a load at the coherence view leaves all views
pub load-same : (w : Views) (x : ℕ) → load_seen w x (coh_of w x) ≡ w
load-same w x =
    let c = coh_of w x in
    ap (λ (b : Bool). let v : Views = record w { coh = set w.coh x c; vrn = cond b w.vrn (max w.vrn c); vpr = cond b w.vpr (max w.vpr c) } in v) (same_number c)
    ∙ ap (λ (l : List ℕ). let v : Views = record w { coh = l } in v) (set-get_or w.coh x 0)

-- a load at the least position that may be read moves the coherence view of its location alone
pub load-least : (ms : List (ℕ × ℕ)) (w : Views) (x : ℕ) → w.vrn ≤ w.vpr → load_seen w x (least ms x (coh_of w x) w.vrn) ≡ record w { coh = set w.coh x (least ms x (coh_of w x) w.vrn) }
load-least ms w x read = by (p == coh_of w x) refl
  where
    p : ℕ
    p = least ms x (coh_of w x) w.vrn

    with : ℕ → ℕ → Views
    with r s = record w { coh = set w.coh x p; vrn = r; vpr = s }

    by : (b : Bool) → (p == coh_of w x) ≡ b → with (cond b w.vrn (max w.vrn p)) (cond b w.vpr (max w.vpr p)) ≡ with w.vrn w.vpr
    by true e = refl
    by false e =
        let apart : p ≡ coh_of w x → ⊥ = eqb-false p (coh_of w x) e in
        let within = last_upto-within ms x w.vrn in
        let upto : p ≤ w.vrn = omega (arith, apart, within) in
        ap₂ with (let q : max w.vrn p ≡ w.vrn = omega (arith, upto) in q) (let q : max w.vpr p ≡ w.vpr = omega (arith, upto, read) in q)

pub same_truth : (a b : Bool) → (a ≡ true → b ≡ true) → (b ≡ true → a ≡ true) → a ≡ b
same_truth true b h k = sym (h refl)
same_truth false true h k = k refl
same_truth false false h k = refl

-- so it changes nothing of what may be read
pub load-least-reads : (n : Seen) (x p : ℕ) → n.views.vrn ≤ n.views.vpr → p ≡ least n.memory.messages x (coh_of n.views x) n.views.vrn → (y q : ℕ) → can_read (loaded n x p) y q ≡ can_read n y q
load-least-reads n x p read is y q =
    ap (λ (k : ℕ). can_read (loaded n x k) y q) is
    ∙ (ap (λ (w : Views). reaches ms y (coh_of w y) w.vrn q) (load-least ms n.views x read) ∙ by (set-either n.views.coh x top y))
  where
    ms : List (ℕ × ℕ)
    ms = n.memory.messages

    c : ℕ
    c = coh_of n.views x

    r : ℕ
    r = n.views.vrn

    top : ℕ
    top = least ms x c r

    by : (get_or (set n.views.coh x top) y 0 ≡ get_or n.views.coh y 0) ⊎ ((y ≡ x) × (get_or (set n.views.coh x top) y 0 ≡ top))
        → reaches ms y (get_or (set n.views.coh x top) y 0) r q ≡ reaches ms y (get_or n.views.coh y 0) r q
    by (inl same) = ap (λ (k : ℕ). reaches ms y k r q) same
    by (inr (e, here)) =
        ap (λ (k : ℕ). reaches ms y k r q) here
        ∙ (ap (λ (z : ℕ). reaches ms z top r q) e
        ∙ (same_truth (reaches ms x top r q) (reaches ms x c r q) (reaches-within ms x c r top r (omega arith) q) (reaches-within ms x top r c r (omega arith) q)
        ∙ ap (λ (z : ℕ). reaches ms z (coh_of n.views z) r q) (sym e)))

-- where one position of x alone may be read, to load it changes nothing of what may be read
pub load-alone : (n : Seen) (x p : ℕ) → AreViews n.memory n.views → ((q : ℕ) → can_read n x q ≡ true → q ≡ p) → (y q : ℕ) → can_read (loaded n x p) y q ≡ can_read n y q
load-alone n x p h alone =
    load-least-reads n x p h.read (alone-least n.memory.messages x (coh_of n.views x) n.views.vrn p (coh-at n.memory n.views h x) alone)

-- ---- two bounds

pub last_upto-max : (ms : List (ℕ × ℕ)) (x n k : ℕ) → last_upto ms x (max n k) ≡ max (last_upto ms x n) (last_upto ms x k)
last_upto-max ms x n k = elim (cases_lt n k) [
  | inl less ↦
      let e : max n k ≡ k = omega (arith, less) in
      let grows = last_upto-grows ms x n k (omega (arith, less)) in
      ap (last_upto ms x) e ∙ (let q : last_upto ms x k ≡ max (last_upto ms x n) (last_upto ms x k) = omega (arith, grows) in q)
  | inr le ↦
      let e : max n k ≡ n = omega (arith, le) in
      let grows = last_upto-grows ms x k n le in
      ap (last_upto ms x) e ∙ (let q : last_upto ms x n ≡ max (last_upto ms x n) (last_upto ms x k) = omega (arith, grows) in q)
]

-- what is reached up to the greater of two positions is what is reached up to both
pub reaches-both : (ms : List (ℕ × ℕ)) (x c n k p : ℕ) → reaches ms x c n p ≡ true → reaches ms x c k p ≡ true → reaches ms x c (max n k) p ≡ true
reaches-both ms x c n k p h g =
    let a = reaches_of ms x c n p h in
    let b = reaches_of ms x c k p g in
    let one = a.last in
    let two = b.last in
    let most = last_upto-max ms x n k in
    of_reaches ms x c (max n k) p (record { at = a.at; from = a.from; last = omega (arith, one, two, most) })

-- up to n, where c is n at most, the last position alone is reached just where it is n at most
pub last-within : (ms : List (ℕ × ℕ)) (x c n : ℕ) → c ≤ n → last ms x ≤ least ms x c n → last ms x ≤ n
last-within ms x c n le h = let within = last_upto-within ms x n in omega (arith, le, h, within)

pub within-last : (ms : List (ℕ × ℕ)) (x c n : ℕ) → last ms x ≤ n → last ms x ≤ least ms x c n
within-last ms x c n h =
    let above = last_upto-above ms x n (last ms x) (last_upto-at ms x (length ms)) h in
    omega (arith, above)

-- ---- a message more

pub is_at-front : (ms : List (ℕ × ℕ)) (m : ℕ × ℕ) (x p : ℕ) → p ≤ length ms → is_at (ms ++ m ∷ []) x p ≡ is_at ms x p
is_at-front ms m x zero le = refl
is_at-front ms m x (suc i) le = is_to-front ms m x i (omega arith)

-- the last position up to n bounds what is hidden up to n
pub clear-is : (ms : List (ℕ × ℕ)) (x p n : ℕ) → is_clear ms x p n ≡ nat_le (last_upto ms x n) p
clear-is ms x p n =
    same_truth (is_clear ms x p n) (nat_le (last_upto ms x n) p)
    (λ h. le-leb (last_upto ms x n) p (clear-upto ms x p n h))
    (λ h. clear-from ms x p n (leb-true (last_upto ms x n) p h))

-- up to an earlier position the same earlier positions are reached
pub reaches-front : (ms : List (ℕ × ℕ)) (m : ℕ × ℕ) (x c n p : ℕ) → n ≤ length ms → p ≤ length ms → reaches (ms ++ m ∷ []) x c n p ≡ reaches ms x c n p
reaches-front ms m x c n p upto le =
    ap₂ (λ (a b : Bool). a && (nat_le c p && b)) (is_at-front ms m x p le)
    (clear-is (ms ++ m ∷ []) x p n ∙ (ap (λ (l : ℕ). nat_le l p) (last_upto-front ms m x n upto) ∙ sym (clear-is ms x p n)))

-- the new message is reached where it is one of x, and else it is none
pub reaches-new : (ms : List (ℕ × ℕ)) (x v c n : ℕ) → c ≤ suc (length ms) → reaches (ms ++ (x, v) ∷ []) x c n (suc (length ms)) ≡ true
reaches-new ms x v c n le =
    let longer = ms ++ (x, v) ∷ [] in
    let at : is_at longer x (suc (length ms)) ≡ true = is_to-new ms (x, v) x ∙ same_number x in
    let long = length-appended ms (x, v) in
    let within = is_at-within longer x (last_upto longer x n) (last_upto-at longer x n) in
    of_reaches longer x c n (suc (length ms)) (record { at = at; from = le; last = omega (arith, long, within) })

pub reaches-other : (ms : List (ℕ × ℕ)) (m : ℕ × ℕ) (x c n : ℕ) → (m.0 ≡ x → ⊥) → reaches (ms ++ m ∷ []) x c n (suc (length ms)) ≡ false
reaches-other ms m x c n other =
    ap (λ (b : Bool). b && (nat_le c (suc (length ms)) && is_clear (ms ++ m ∷ []) x (suc (length ms)) n)) (is_to-new ms m x ∙ ne_eqb m.0 x other)
