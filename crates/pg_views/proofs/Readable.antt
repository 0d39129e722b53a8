-- What a thread may read where its views are raised, and after a load.
use Rattle.std.proofs.Common.{◌≡◌, ◌≢◌, ℕ, zero, suc, ◌<◌, ◌≤◌, ◌==◌, max, Bool, true, false, cond, not, ◌&&◌, ◌||◌, List, [], ◌∷◌, length, get_or, set, inl, inr, refl, sym, ap, ap₂, subst, ◌∙◌, arith}
use Rattle.std.proofs.lemmas.Bool.{and_parts, and_from, eqb-true, eqb-false, ne_eqb, true≢false, cases_eq}
use Rattle.std.proofs.lemmas.List.{length-set, get_or-set_same, get_or-set_other}
use Rattle.pg_machine.specs.Memory.{Memory, reaches, last, value_at}
use Rattle.pg_machine.specs.State.{Views, AreViews, coh_of}
use Rattle.pg_machine.specs.Moves.{Seen, can_read, loaded, load_seen, mfence_seen}
use Rattle.pg_machine.proofs.Scan.{is_at-within}
use Rattle.pg_machine.proofs.Reached.{least, reaches_of, reaches-less, reaches-within, last_upto-grows, alone-least, load-least, load-same, load-alone, same_truth}
use Rattle.pg_machine.proofs.EveryBelow.{every_below-fails}
use Rattle.pg_machine.proofs.PositionLists.{set-grows, set-either}
use Rattle.pg_machine.proofs.ViewLaws.{coh-at, view-loaded}
use Rattle.pg_views.specs.Atom.{some_below, shows, reads, may_read, reads_newest}
use Rattle.pg_views.specs.Laws.{NewestLoadKeepsReads, NewestLoadKeepsValues, IsRaised, RaisedReachesLess, RaisedReadsLess, RaisesViews, LoadAtCoherenceRaisesNothing}
use Rattle.pg_views.proofs.Below.{some_below-implied, newest-other}
use Rattle.pg_views.proofs.Nested.{shown-within}

-- ---- views that are raised

set-below : (c d : List ℕ) (x p : ℕ) → length c ≡ length d → ((y : ℕ) → get_or c y 0 ≤ get_or d y 0) → (y : ℕ) → get_or (set c x p) y 0 ≤ get_or (set d x p) y 0
set-below [] [] x p e h y = omega arith
set-below [] (b ∷ d) x p e h y = absurd (omega arith)
set-below (a ∷ c) [] x p e h y = absurd (omega arith)
set-below (a ∷ c) (b ∷ d) zero p e h zero = omega arith
set-below (a ∷ c) (b ∷ d) zero p e h (suc y) = h (suc y)
set-below (a ∷ c) (b ∷ d) (suc x) p e h zero = h zero
set-below (a ∷ c) (b ∷ d) (suc x) p e h (suc y) = set-below c d x p (omega arith) (λ z. h (suc z)) y

-- the read view after a load at p, with the coherence view c and the read view n, and with d and k
read-below : (c d n k p : ℕ) → n ≤ k → (c ≢ d → d ≤ k) → cond (p == c) n (max n p) ≤ cond (p == d) k (max k p)
read-below c d n k p le moved = by (p == c) (p == d) refl refl
  where
    by : (a b : Bool) → (p == c) ≡ a → (p == d) ≡ b → cond a n (max n p) ≤ cond b k (max k p)
    by true true e f = le
    by true false e f = omega (arith, le)
    by false false e f = omega (arith, le)
    by false true e f =
        let same : p ≡ d = eqb-true p d f in
        let apart : p ≡ c → ⊥ = eqb-false p c e in
        let upto : d ≤ k = moved (λ q. apart (same ∙ sym q)) in
        omega (arith, le, same, upto)

can_read-less : (n : Seen) (v : Views) → ((y : ℕ) → coh_of n.views y ≤ coh_of v y) → n.views.vrn ≤ v.vrn → (y q : ℕ) → can_read (record n { views = v }) y q ≡ true → can_read n y q ≡ true
can_read-less n v coh read = λ y q. reaches-less n.memory.messages y (coh_of n.views y) n.views.vrn (coh_of v y) v.vrn (coh y) read q

-- and after a load at p
load-read-less : (n : Seen) (v : Views) → IsRaised n.views v → (x p y q : ℕ) → can_read (loaded (record n { views = v }) x p) y q ≡ true → can_read (loaded n x p) y q ≡ true
load-read-less n v h x p =
    can_read-less (loaded n x p) (load_seen v x p) (set-below n.views.coh v.coh x p h.size h.coh)
    (read-below (coh_of n.views x) (coh_of v x) n.views.vrn v.vrn p h.read (h.moved x))

pub raised_reaches_less : RaisedReachesLess
raised_reaches_less n v h = (can_read-less n v h.coh h.read, load-read-less n v h)

-- where fewer positions may be read, fewer values may be
may_read-less : (n : Seen) (v : Views) (y : ℕ) → ((q : ℕ) → can_read (record n { views = v }) y q ≡ true → can_read n y q ≡ true) → (k : ℕ) → may_read (record n { views = v }) y k ≡ true → may_read n y k ≡ true
may_read-less n v y less = shown-within n.memory y (coh_of v y) v.vrn (coh_of n.views y) n.views.vrn less

pub raised_reads_less : RaisedReadsLess
raised_reads_less n v h = (
  λ y. may_read-less n v y (can_read-less n v h.coh h.read y),
  λ x k y l.
      some_below-implied (λ p. reads up x k p && may_read (loaded up x p) y l) (λ p. reads n x k p && may_read (loaded n x p) y l) (suc (length n.memory.messages)) (λ p is.
      let two = and_parts (reads up x k p) (may_read (loaded up x p) y l) is in
      let here = and_parts (can_read up x p) (value_at n.memory x p == k) two.0 in
      and_from (reads n x k p) (may_read (loaded n x p) y l)
      (and_from (can_read n x p) (value_at n.memory x p == k) (can_read-less n v h.coh h.read x p here.0) here.1)
      (may_read-less (loaded n x p) (load_seen v x p) y (load-read-less n v h x p y) l two.1)),
)
  where
    up : Seen
    up = record n { views = v }

-- the read view alone is raised
pub read-raised : (w : Views) (r : ℕ) → w.vrn ≤ r → IsRaised w (record w { vrn = r })
read-raised w r le = record { size = refl; coh = λ x. omega arith; read = le; moved = λ x other. absurd (other refl) }

-- the coherence view of x is raised to p, and the read view to p at least
pub coh-raised : (w v : Views) (x p : ℕ) → v.coh ≡ set w.coh x p → coh_of w x ≤ p → w.vrn ≤ v.vrn → p ≤ v.vrn → IsRaised w v
coh-raised w v x p is le read upto = record {
  size = sym (ap length is ∙ length-set w.coh x p);
  coh = λ y. let e = at y in let grows = set-grows w.coh x p y le in omega (arith, e, grows);
  read = read;
  moved = λ y other. let e = at y in elim (set-either w.coh x p y) [
    | inl same ↦ absurd (other (sym (e ∙ same)))
    | inr here ↦ let is = here.1 in omega (arith, e, is, upto)
  ];
}
  where
    at : (y : ℕ) → coh_of v y ≡ get_or (set w.coh x p) y 0
    at y = ap (λ (l : List ℕ). get_or l y 0) is

pub raises_views : RaisesViews
raises_views = (read-raised, λ w x p r le read upto. coh-raised w (record w { coh = set w.coh x p; vrn = r }) x p refl le read upto)

-- a load from the coherence view on, and an `mfence`
pub load-raised : (w : Views) (x p : ℕ) → coh_of w x ≤ p → IsRaised w (load_seen w x p)
load-raised w x p le = elim (cases_eq p (coh_of w x)) [
  | inl e ↦ subst (λ (v : Views). IsRaised w v) (sym (ap (load_seen w x) e ∙ load-same w x)) (read-raised w w.vrn (omega arith))
  | inr other ↦
      let is : (load_seen w x p).vrn ≡ max w.vrn p = ap (λ (b : Bool). cond b w.vrn (max w.vrn p)) (ne_eqb p (coh_of w x) other) in
      coh-raised w (load_seen w x p) x p refl le (omega (arith, is)) (omega (arith, is))
]

pub fence-raised : (m : Memory) (w : Views) → AreViews m w → IsRaised w (mfence_seen w)
fence-raised m w h =
    let a = h.read in
    let b = h.ready in
    record { size = refl; coh = λ x. omega arith; read = omega (arith, a, b); moved = λ x other. absurd (other refl) }

-- ---- loads

pub load_at_coherence : LoadAtCoherenceRaisesNothing
load_at_coherence n x = ap (λ (w : Views). let k : Seen = record n { views = w } in k) (load-same n.views x)

-- where the last position alone may be read, there is no other
pub newest-alone : (n : Seen) (x : ℕ) → reads_newest n x ≡ true → (q : ℕ) → can_read n x q ≡ true → q ≡ last n.memory.messages x
newest-alone n x h q can = elim (cases_eq q (last n.memory.messages x)) [
  | inl e ↦ e
  | inr other ↦
      let within = is_at-within n.memory.messages x q (reaches_of n.memory.messages x (coh_of n.views x) n.views.vrn q can).at in
      absurd (true≢false (sym h ∙ every_below-fails (λ p. not (can_read n x p) || (p == last n.memory.messages x)) (suc (length n.memory.messages)) q (omega (arith, within)) (newest-other n x q can other)))
]

pub newest_load_keeps_reads : NewestLoadKeepsReads
newest_load_keeps_reads n x h inside newest = load-alone n x (last n.memory.messages x) h (newest-alone n x newest)

some_below-same : (f g : ℕ → Bool) (n : ℕ) → ((p : ℕ) → f p ≡ g p) → some_below f n ≡ some_below g n
some_below-same f g zero h = refl
some_below-same f g (suc n) h = ap₂ (λ (a b : Bool). a || b) (h n) (some_below-same f g n h)

pub may_read-same : (n : Seen) (v : Views) (y : ℕ) → ((q : ℕ) → can_read (record n { views = v }) y q ≡ can_read n y q) → (k : ℕ) → may_read (record n { views = v }) y k ≡ may_read n y k
may_read-same n v y h k =
    some_below-same (shows n.memory y (coh_of v y) v.vrn k) (shows n.memory y (coh_of n.views y) n.views.vrn k) (suc (length n.memory.messages)) (λ p.
    ap (λ (b : Bool). b && (value_at n.memory y p == k)) (h p))

and-same : (a b c : Bool) → (a ≡ true → b ≡ c) → (a && b) ≡ (a && c)
and-same true b c h = h refl
and-same false b c h = refl

-- what stands at z stays the same where y is set
set-alike : (c d : List ℕ) (y p z : ℕ) → length c ≡ length d → get_or c z 0 ≡ get_or d z 0 → get_or (set c y p) z 0 ≡ get_or (set d y p) z 0
set-alike [] [] y p z e h = refl
set-alike [] (b ∷ d) y p z e h = absurd (omega arith)
set-alike (a ∷ c) [] y p z e h = absurd (omega arith)
set-alike (a ∷ c) (b ∷ d) zero p zero e h = refl
set-alike (a ∷ c) (b ∷ d) zero p (suc z) e h = h
set-alike (a ∷ c) (b ∷ d) (suc y) p zero e h = h
set-alike (a ∷ c) (b ∷ d) (suc y) p (suc z) e h = set-alike c d y p z (omega arith) h

-- a load of x at its last position, which alone may be read, and then of y at p, against that of y at p alone
module _ (n : Seen) (x : ℕ) (h : AreViews n.memory n.views) (inside : x < length n.memory.initial) (newest : reads_newest n x ≡ true) where
  abbrev top : ℕ
  top = last n.memory.messages x

  abbrev seen : Views
  seen = record n.views { coh = set n.views.coh x top }

  top-least : top ≡ least n.memory.messages x (coh_of n.views x) n.views.vrn
  top-least = alone-least n.memory.messages x (coh_of n.views x) n.views.vrn top (coh-at n.memory n.views h x) (newest-alone n x newest)

  top-seen : load_seen n.views x top ≡ seen
  top-seen =
      let e = top-least in
      ap (load_seen n.views x) e ∙ (load-least n.memory.messages n.views x h.read ∙ ap (λ (p : ℕ). let v : Views = record n.views { coh = set n.views.coh x p } in v) (sym e))

  here : x < length n.views.coh
  here = let size = h.size.coh in omega (arith, size, inside)

  -- the same location is loaded there again
  top-again : load_seen (load_seen n.views x top) x top ≡ load_seen n.views x top
  top-again =
      let is : coh_of (load_seen n.views x top) x ≡ top = get_or-set_same n.views.coh x top 0 here in
      ap (load_seen (load_seen n.views x top) x) (sym is) ∙ load-same (load_seen n.views x top) x

  -- up to a later read view the same positions of x are reached from the last one on
  top-from : (r q : ℕ) → n.views.vrn ≤ r → reaches n.memory.messages x top r q ≡ reaches n.memory.messages x (coh_of n.views x) r q
  top-from r q le =
      let ms = n.memory.messages in
      let c = coh_of n.views x in
      let e = top-least in
      let grows = last_upto-grows ms x n.views.vrn r le in
      same_truth (reaches ms x top r q) (reaches ms x c r q)
      (reaches-within ms x c r top r (omega (arith, e)) q)
      (reaches-within ms x top r c r (omega (arith, e, grows)) q)

  -- another one is loaded
  other-read : (y p z q : ℕ) → (y ≡ x → ⊥) → can_read (record n { views = load_seen seen y p }) z q ≡ can_read (loaded n y p) z q
  other-read y p z q other =
      let same : get_or (set n.views.coh x top) y 0 ≡ coh_of n.views y = get_or-set_other n.views.coh x y top 0 other in
      ap (λ (c : ℕ). reaches n.memory.messages z (get_or (set (set n.views.coh x top) y p) z 0) (cond (p == c) n.views.vrn (max n.views.vrn p)) q) same
      ∙ elim (cases_eq z x) [
        | inl e ↦
            let left : get_or (set (set n.views.coh x top) y p) z 0 ≡ top =
            ap (λ (l : ℕ). get_or (set (set n.views.coh x top) y p) l 0) e
            ∙ (get_or-set_other (set n.views.coh x top) y x p 0 (λ k. other (sym k)) ∙ get_or-set_same n.views.coh x top 0 here) in
            let right : get_or (set n.views.coh y p) z 0 ≡ coh_of n.views x =
            ap (λ (l : ℕ). get_or (set n.views.coh y p) l 0) e ∙ get_or-set_other n.views.coh y x p 0 (λ k. other (sym k)) in
            ap₂ (λ (l c : ℕ). reaches n.memory.messages l c (load_seen n.views y p).vrn q) e left
            ∙ (top-from (load_seen n.views y p).vrn q (view-loaded (p == coh_of n.views y) n.views.vrn p)
            ∙ sym (ap₂ (λ (l c : ℕ). reaches n.memory.messages l c (load_seen n.views y p).vrn q) e right))
        | inr apart ↦
            ap (λ (c : ℕ). reaches n.memory.messages z c (load_seen n.views y p).vrn q)
            (set-alike (set n.views.coh x top) n.views.coh y p z (length-set n.views.coh x top) (get_or-set_other n.views.coh x z top 0 apart))
      ]

  again-read : (y p z q : ℕ) → can_read n y p ≡ true → can_read (loaded (loaded n x top) y p) z q ≡ can_read (loaded n y p) z q
  again-read y p z q can = elim (cases_eq y x) [
    | inl e ↦
        let alone : p ≡ top = newest-alone n x newest p (ap (λ (l : ℕ). can_read n l p) (sym e) ∙ can) in
        let views : load_seen (load_seen n.views x top) y p ≡ load_seen n.views y p =
        ap₂ (λ (a b : ℕ). load_seen (load_seen n.views x top) a b) e alone ∙ (top-again ∙ sym (ap₂ (λ (a b : ℕ). load_seen n.views a b) e alone)) in
        ap (λ (v : Views). can_read (record n { views = v }) z q) views
    | inr other ↦ ap (λ (v : Views). can_read (record n { views = load_seen v y p }) z q) top-seen ∙ other-read y p z q other
  ]

pub newest_load_keeps_values : NewestLoadKeepsValues
newest_load_keeps_values n x h inside newest = (
  λ y v. may_read-same n (load_seen n.views x top') y (keeps y) v,
  λ y v z w. some_below-same (λ p. reads after y v p && may_read (loaded after y p) z w) (λ p. reads n y v p && may_read (loaded n y p) z w) (suc (length n.memory.messages)) (λ p.
      ap (λ (b : Bool). (b && (value_at n.memory y p == v)) && may_read (loaded after y p) z w) (keeps y p)
      ∙ and-same (reads n y v p) (may_read (loaded after y p) z w) (may_read (loaded n y p) z w) (λ is.
      may_read-same (loaded n y p) (load_seen (load_seen n.views x top') y p) z (λ q. again-read n x h inside newest y p z q (and_parts (can_read n y p) (value_at n.memory y p == v) is).0) w)),
)
  where
    top' : ℕ
    top' = last n.memory.messages x

    after : Seen
    after = loaded n x top'

    keeps : (y q : ℕ) → can_read after y q ≡ can_read n y q
    keeps = newest_load_keeps_reads n x h inside newest
