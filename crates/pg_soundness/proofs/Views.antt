-- What a load and a fence leave of what their thread may read, and of what its fences and flushes cover.
use Rattle.std.proofs.Common.{◌≡◌, ℕ, suc, ◌<◌, ◌≤◌, ◌==◌, max, nat_le, Bool, true, false, not, ◌||◌, ◌⊎◌, length, set, inl, inr, refl, sym, ap, ◌∙◌, arith}
use Rattle.std.proofs.lemmas.Bool.{cases_eq, leb-true, le-leb}
use Rattle.pg_machine.specs.Memory.{line_of, is_at, last}
use Rattle.pg_machine.specs.State.{Views, AreViews, coh_of, maxcoh, ordered, greatest, greatest_on}
use Rattle.pg_machine.specs.Moves.{Seen, can_read, loaded, load_seen, mfence_seen, fenced, store_fenced}
use Rattle.pg_machine.proofs.Appended.{last_upto-within}
use Rattle.pg_machine.proofs.EveryBelow.{every_below-all}
use Rattle.pg_machine.proofs.PositionLists.{greatest-above, greatest-raised, greatest_on-within, greatest_on-above, greatest_on-raised, greatest_on-other}
use Rattle.pg_machine.proofs.Reached.{least, reaches_of, load-less, load-least, alone-least, last-alone, last-within, within-last, same_truth}
use Rattle.pg_machine.proofs.ViewLaws.{coh-at, view-loaded}
use Rattle.pg_views.specs.Atom.{may_read, may_read_then, reads_newest, covers_ordered, covers_fenced}
use Rattle.pg_views.proofs.Below.{newest-unread, newest-last}
use Rattle.pg_views.proofs.Readable.{newest-alone, newest_load_keeps_reads, newest_load_keeps_values, load-raised, fence-raised, raised_reads_less}

-- ---- the last position alone

newest-from : (n : Seen) (z : ℕ) → ((q : ℕ) → can_read n z q ≡ true → q ≡ last n.memory.messages z) → reads_newest n z ≡ true
newest-from n z alone =
    every_below-all (λ q. not (can_read n z q) || (q == last n.memory.messages z)) (suc (length n.memory.messages)) (λ q lt. by q (can_read n z q) refl)
  where
    by : (q : ℕ) (b : Bool) → can_read n z q ≡ b → (not (can_read n z q) || (q == last n.memory.messages z)) ≡ true
    by q true can = newest-last n z q (alone q can)
    by q false can = newest-unread n z q can

-- where no more positions may be read, the last one alone may still be
newest-less : (n : Seen) (v : Views) (z : ℕ) → ((q : ℕ) → can_read (record n { views = v }) z q ≡ true → can_read n z q ≡ true)
    → reads_newest n z ≡ true → reads_newest (record n { views = v }) z ≡ true
newest-less n v z less newest = newest-from (record n { views = v }) z (λ q can. newest-alone n z newest q (less q can))

-- it is the only one where it is the least that may be read
pub newest-is : (n : Seen) (z : ℕ) → is_at n.memory.messages z (coh_of n.views z) ≡ true
    → reads_newest n z ≡ nat_le (last n.memory.messages z) (least n.memory.messages z (coh_of n.views z) n.views.vrn)
newest-is n z at =
    let ms = n.memory.messages in
    let low = least ms z (coh_of n.views z) n.views.vrn in
    same_truth (reads_newest n z) (nat_le (last ms z) low)
    (λ h. let e = alone-least ms z (coh_of n.views z) n.views.vrn (last ms z) at (newest-alone n z h) in le-leb (last ms z) low (omega (arith, e)))
    (λ h. newest-from n z (last-alone ms z (coh_of n.views z) n.views.vrn (leb-true (last ms z) low h)))

-- ---- fences

module _ (n : Seen) (h : AreViews n.memory n.views) where
  -- after an `mfence` a thread may read the last position alone where its greatest coherence view covers it
  pub fence-newest : (z : ℕ) → reads_newest (fenced n) z ≡ covers_fenced n z
  fence-newest z =
      let ms = n.memory.messages in
      let c = coh_of n.views z in
      let top = maxcoh n.views in
      let upto : c ≤ top = greatest-above n.views.coh z in
      newest-is (fenced n) z (coh-at n.memory n.views h z)
      ∙ same_truth (nat_le (last ms z) (least ms z c top)) (nat_le (last ms z) top)
      (λ is. le-leb (last ms z) top (last-within ms z c top upto (leb-true (last ms z) (least ms z c top) is)))
      (λ is. le-leb (last ms z) (least ms z c top) (within-last ms z c top (leb-true (last ms z) top is)))

  -- and after a fence a `flushopt` is ordered after that view
  ordered-top : (l : ℕ) → max (greatest_on n.memory.lines n.views.coh l) (maxcoh n.views) ≡ maxcoh n.views
  ordered-top l = let a = greatest_on-within n.memory.lines n.views.coh l in omega (arith, a)

  pub fence-ordered : (z : ℕ) → covers_ordered (fenced n) z ≡ covers_fenced n z
  fence-ordered z = ap (nat_le (last n.memory.messages z)) (ordered-top (line_of n.memory z))

  pub store_fence-ordered : (z : ℕ) → covers_ordered (store_fenced n) z ≡ covers_fenced n z
  store_fence-ordered z = ap (nat_le (last n.memory.messages z)) (ordered-top (line_of n.memory z))

  -- an `mfence` only takes from what the thread may read
  pub fence-read : (z w : ℕ) → may_read (fenced n) z w ≡ true → may_read n z w ≡ true
  fence-read z w is = (raised_reads_less n (mfence_seen n.views) (fence-raised n.memory n.views h)).0 z w is

  pub fence-then : (z v u w : ℕ) → may_read_then (fenced n) z v u w ≡ true → may_read_then n z v u w ≡ true
  fence-then z v u w is = (raised_reads_less n (mfence_seen n.views) (fence-raised n.memory n.views h)).1 z v u w is

-- ---- loads

module _ (n : Seen) (x p : ℕ) (h : AreViews n.memory n.views) (lined : length n.memory.lines ≡ length n.memory.initial) (inside : x < length n.memory.initial) (can : can_read n x p ≡ true) where
  from : coh_of n.views x ≤ p
  from = (reaches_of n.memory.messages x (coh_of n.views x) n.views.vrn p can).from

  here : x < length n.views.coh
  here = let size = h.size.coh in omega (arith, size, inside)

  -- a load only takes from what the thread may read
  pub load-read : (z w : ℕ) → may_read (loaded n x p) z w ≡ true → may_read n z w ≡ true
  load-read z w is = (raised_reads_less n (load_seen n.views x p) (load-raised n.views x p from)).0 z w is

  pub load-then : (z v u w : ℕ) → may_read_then (loaded n x p) z v u w ≡ true → may_read_then n z v u w ≡ true
  load-then z v u w is = (raised_reads_less n (load_seen n.views x p) (load-raised n.views x p from)).1 z v u w is

  -- and what is newest, ordered or fenced stays so
  pub load-newest : (z : ℕ) → reads_newest n z ≡ true → reads_newest (loaded n x p) z ≡ true
  load-newest z = newest-less n (load_seen n.views x p) z (λ q. load-less n x p z q from)

  raised-on : (l q : ℕ) → coh_of n.views x ≤ q
      → ((greatest_on n.memory.lines (set n.views.coh x q) l ≡ max (greatest_on n.memory.lines n.views.coh l) q) × (coh_of n.views x ≤ greatest_on n.memory.lines n.views.coh l))
      ⊎ (greatest_on n.memory.lines (set n.views.coh x q) l ≡ greatest_on n.memory.lines n.views.coh l)
  raised-on l q le = elim (cases_eq (line_of n.memory x) l) [
    | inl on ↦ inl (
      greatest_on-raised n.memory.lines n.views.coh l x q (omega (arith, lined, inside)) here on le,
      greatest_on-above n.memory.lines n.views.coh l x (omega (arith, lined, inside)) on,
    )
    | inr off ↦ inr (greatest_on-other n.memory.lines n.views.coh l x q off)
  ]

  pub load-ordered : (z : ℕ) → covers_ordered n z ≡ true → covers_ordered (loaded n x p) z ≡ true
  load-ordered z is =
      let l = line_of n.memory z in
      let was = leb-true (last n.memory.messages z) (ordered n.memory.lines n.views l) is in
      let ready = view-loaded (p == coh_of n.views x) n.views.vpr p in
      le-leb (last n.memory.messages z) (ordered n.memory.lines (load_seen n.views x p) l) (elim (raised-on l p from) [
        | inl more ↦ let e = more.0 in omega (arith, was, ready, e)
        | inr same ↦ omega (arith, was, ready, same)
      ])

  pub load-fenced : (z : ℕ) → covers_fenced n z ≡ true → covers_fenced (loaded n x p) z ≡ true
  load-fenced z is =
      let was = leb-true (last n.memory.messages z) (maxcoh n.views) is in
      let top = greatest-raised n.views.coh x p here from in
      le-leb (last n.memory.messages z) (maxcoh (load_seen n.views x p)) (omega (arith, was, top))

  -- Where the thread could read the last position of x alone, the load changes nothing of it.
  module _ (newest : reads_newest n x ≡ true) where
    is-last : p ≡ last n.memory.messages x
    is-last = newest-alone n x newest p can

    is-least : p ≡ least n.memory.messages x (coh_of n.views x) n.views.vrn
    is-least = alone-least n.memory.messages x (coh_of n.views x) n.views.vrn p (coh-at n.memory n.views h x) (λ q other. newest-alone n x newest q other ∙ sym is-last)

    moves-least : load_seen n.views x p ≡ record n.views { coh = set n.views.coh x p }
    moves-least =
        let e = is-least in
        ap (load_seen n.views x) e ∙ (load-least n.memory.messages n.views x h.read ∙ ap (λ (q : ℕ). let v : Views = record n.views { coh = set n.views.coh x q } in v) (sym e))

    keeps : (z q : ℕ) → can_read (loaded n x p) z q ≡ can_read n z q
    keeps z q = ap (λ (k : ℕ). can_read (loaded n x k) z q) is-last ∙ newest_load_keeps_reads n x h inside newest z q

    pub kept-read : (z w : ℕ) → may_read (loaded n x p) z w ≡ may_read n z w
    kept-read z w = ap (λ (k : ℕ). may_read (loaded n x k) z w) is-last ∙ (newest_load_keeps_values n x h inside newest).0 z w

    pub kept-then : (z v u w : ℕ) → may_read_then (loaded n x p) z v u w ≡ may_read_then n z v u w
    kept-then z v u w = ap (λ (k : ℕ). may_read_then (loaded n x k) z v u w) is-last ∙ (newest_load_keeps_values n x h inside newest).1 z v u w

    pub kept-newest : (z : ℕ) → reads_newest (loaded n x p) z ≡ reads_newest n z
    kept-newest z =
        same_truth (reads_newest (loaded n x p) z) (reads_newest n z)
        (newest-less (loaded n x p) n.views z (λ q was. keeps z q ∙ was))
        (load-newest z)

    low : p ≤ max (coh_of n.views x) n.views.vrn
    low = let e = is-least in let within = last_upto-within n.memory.messages x n.views.vrn in omega (arith, e, within)

    pub kept-ordered : (z : ℕ) → covers_ordered (loaded n x p) z ≡ covers_ordered n z
    kept-ordered z =
        let l = line_of n.memory z in
        let upto = low in
        let ready = h.read in
        ap (λ (v : Views). nat_le (last n.memory.messages z) (ordered n.memory.lines v l)) moves-least
        ∙ ap (nat_le (last n.memory.messages z)) (elim (raised-on l p from) [
          | inl more ↦ let e = more.0 in let mine = more.1 in omega (arith, e, mine, upto, ready)
          | inr same ↦ ap (λ (c : ℕ). max c n.views.vpr) same
        ])

    pub kept-fenced : (z : ℕ) → covers_fenced (loaded n x p) z ≡ covers_fenced n z
    kept-fenced z =
        let top = greatest-raised n.views.coh x p here from in
        let mine = greatest-above n.views.coh x in
        let upto = low in
        let a = h.read in
        let b = h.ready in
        ap (nat_le (last n.memory.messages z)) (let q : greatest (set n.views.coh x p) ≡ greatest n.views.coh = omega (arith, top, mine, upto, a, b) in q)
