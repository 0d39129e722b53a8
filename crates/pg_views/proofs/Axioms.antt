-- The axioms hold in every well-formed state.
use Rattle.std.proofs.Common.{◌≡◌, ℕ, suc, ◌<◌, ◌≤◌, ◌==◌, max, Bool, true, false, cond, ◌&&◌, ◌⊎◌, List, length, get_or, set, inl, inr, refl, sym, ap, ◌∙◌, arith}
use Rattle.std.proofs.lemmas.Bool.{and_parts, and_from, eqb-true, eq-eqb, leb-true, le-leb, cases_eq, cases_lt}
use Rattle.std.proofs.lemmas.List.{get_or-set_other, get_or_past}
use Rattle.std.proofs.lemmas.List.Elements.{All-get_or}
use Rattle.pg_program.specs.Program.{ProgramTable}
use Rattle.pg_machine.specs.Memory.{Memory, line_of, is_at, reaches, last, last_value, last_upto, value_at}
use Rattle.pg_machine.specs.State.{Views, State, AreViews, coh_of, maxcoh, ordered}
use Rattle.pg_machine.specs.Moves.{Seen, can_read, loaded, load_seen}
use Rattle.pg_machine.specs.Step.{views_of, seen_by}
use Rattle.pg_machine.proofs.Scan.{is_at-within}
use Rattle.pg_machine.proofs.Appended.{last_upto-within}
use Rattle.pg_machine.proofs.PositionLists.{greatest_on-within, greatest_on-above, set-either}
use Rattle.pg_machine.proofs.Reached.{Reaches, reaches_of, of_reaches, reaches-less, reaches-last, last_upto-max, load-less, load-alone, alone-least}
use Rattle.pg_machine.proofs.ViewLaws.{coh-at}
use Rattle.pg_machine.proofs.Moved.{thread-views}
use Rattle.pg_views.specs.Atom.{shows, is_shown, reads, may_read, may_read_then, committed_to, committed_next}
use Rattle.pg_views.specs.Axioms.{IsFormedWith, HasOneLastValue, HasOneScalarValue, LastIsShown, PendingMayPersist, NewestReadIsLast, NewestIsOrdered, OrderedIsFenced, ThenWasReadable, LastIsReadThen, ReadIsReadAgain, NewestLoadKeepsThen}
use Rattle.pg_views.proofs.Below.{some_below-here, shown-at}
use Rattle.pg_views.proofs.Found.{locations-count, lines-count}
use Rattle.pg_views.proofs.Nested.{shown-within}
use Rattle.pg_views.proofs.CrashLaw.{found, found-is, value-inside}
use Rattle.pg_views.proofs.Readable.{newest-alone, may_read-same}

-- the views of a thread
own : (p : ProgramTable) (s : State) (t : ℕ) → IsFormedWith p s t → AreViews s.memory (views_of s t)
own p s t h = thread-views p s t h.formed h.first h.last

-- ---- one value

pub has_one_last_value : HasOneLastValue
has_one_last_value p s x h lt =
    let count = locations-count p s h in (
      last_value s.memory x,
      record {
        inside = value-inside p s x (last s.memory.messages x) h (omega (arith, count, lt));
        holds = eq-eqb (last_value s.memory x) (last_value s.memory x) refl;
        one = λ w is. sym (eqb-true (last_value s.memory x) w is);
      },
    )

pub has_one_scalar_value : HasOneScalarValue
has_one_scalar_value p s r h lt =
    let size = h.scalars.0 in (
      get_or s.scalars r 0,
      record {
        inside = All-get_or (λ v. v < p.names.domain) s.scalars r 0 (omega (arith, size, lt)) h.scalars.1;
        holds = eq-eqb (get_or s.scalars r 0) (get_or s.scalars r 0) refl;
        one = λ w is. sym (eqb-true (get_or s.scalars r 0) w is);
      },
    )

-- ---- the last value

-- it is shown from each position on
pub last-shown : (m : Memory) (x c n v : ℕ) → is_at m.messages x c ≡ true → (last_value m x == v) ≡ true → is_shown m x c n v ≡ true
last-shown m x c n v at is =
    shown-at m x c n v (last m.messages x) (and_from (reaches m.messages x c n (last m.messages x)) (last_value m x == v) (reaches-last m.messages x c n at) is)

pub last_is_shown : LastIsShown
last_is_shown p s t x v h is = (
  last-shown s.memory x 0 (committed_to s x) v refl is,
  last-shown s.memory x (coh_of (views_of s t) x) (views_of s t).vrn v (coh-at s.memory (views_of s t) (own p s t h) x) is,
  last-shown s.memory x 0 (committed_next s t x) v refl is,
)

pub pending_may_persist : PendingMayPersist
pending_may_persist s t x v =
    shown-within s.memory x 0 (committed_next s t x) 0 (committed_to s x)
    (reaches-less s.memory.messages x 0 (committed_to s x) 0 (committed_next s t x) (omega arith) (omega arith)) v

-- ---- a position that shows a value

pub record IsShownAt (m : Memory) (x c n v p : ℕ) : Type 0 where
  pub within : p < suc (length m.messages)
  pub reached : reaches m.messages x c n p ≡ true
  pub value : (value_at m x p == v) ≡ true

pub shown_where : (m : Memory) (x c n v : ℕ) → is_shown m x c n v ≡ true → (p : ℕ) × IsShownAt m x c n v p
shown_where m x c n v h =
    let p : ℕ = found (shows m x c n v) (suc (length m.messages)) in
    let two = and_parts (reaches m.messages x c n p) (value_at m x p == v) (found-is (shows m x c n v) (suc (length m.messages)) h) in
    let within = is_at-within m.messages x p (reaches_of m.messages x c n p two.0).at in
    (p, record { within = omega (arith, within); reached = two.0; value = two.1 })

pub newest_read_is_last : NewestReadIsLast
newest_read_is_last s t x v newest is =
    let n = seen_by s t in
    let at = shown_where s.memory x (coh_of n.views x) n.views.vrn v is in
    let alone = newest-alone n x newest at.0 at.1.reached in
    ap (λ (q : ℕ). value_at s.memory x q == v) (sym alone) ∙ at.1.value

-- ---- covered positions

-- what a `flushopt` of x is ordered after lies between a thread's coherence view of x and its greatest one
coh-ordered : (m : Memory) (w : Views) (x : ℕ) → AreViews m w → length m.lines ≡ length m.initial → coh_of w x ≤ ordered m.lines w (line_of m x)
coh-ordered m w x h each = elim (cases_lt x (length m.initial)) [
  | inl inside ↦
      let above = greatest_on-above m.lines w.coh (line_of m x) x (omega (arith, each, inside)) refl in
      omega (arith, above)
  | inr past ↦
      let size = h.size.coh in
      let none : coh_of w x ≡ 0 = get_or_past w.coh x 0 (omega (arith, size, past)) in
      omega (arith, none)
]

ordered-within : (m : Memory) (w : Views) (l : ℕ) → AreViews m w → ordered m.lines w l ≤ maxcoh w
ordered-within m w l h =
    let a = greatest_on-within m.lines w.coh l in
    let b = h.ready in
    omega (arith, a, b)

pub newest_is_ordered : NewestIsOrdered
newest_is_ordered p s t x h newest =
    let n = seen_by s t in
    let views = own p s t h in
    let ms = s.memory.messages in
    let least-is = alone-least ms x (coh_of n.views x) n.views.vrn (last ms x) (coh-at s.memory n.views views x) (newest-alone n x newest) in
    let within = last_upto-within ms x n.views.vrn in
    let a = coh-ordered s.memory n.views x views (lines-count p s h.formed) in
    let b = views.read in
    le-leb (last ms x) (ordered s.memory.lines n.views (line_of s.memory x)) (omega (arith, least-is, within, a, b))

pub ordered_is_fenced : OrderedIsFenced
ordered_is_fenced p s t x h is =
    let n = seen_by s t in
    let a = leb-true (last s.memory.messages x) (ordered s.memory.lines n.views (line_of s.memory x)) is in
    let b = ordered-within s.memory n.views (line_of s.memory x) (own p s t h) in
    le-leb (last s.memory.messages x) (maxcoh n.views) (omega (arith, a, b))

-- ---- loads

-- a position at which v may be loaded from x, after which w may be read from y
pub then_where : (n : Seen) (x v y w : ℕ) → may_read_then n x v y w ≡ true
    → (p : ℕ) × IsShownAt n.memory x (coh_of n.views x) n.views.vrn v p × (may_read (loaded n x p) y w ≡ true)
then_where n x v y w h =
    let test : ℕ → Bool = λ p. reads n x v p && may_read (loaded n x p) y w in
    let p : ℕ = found test (suc (length n.memory.messages)) in
    let two = and_parts (reads n x v p) (may_read (loaded n x p) y w) (found-is test (suc (length n.memory.messages)) h) in
    let here = and_parts (can_read n x p) (value_at n.memory x p == v) two.0 in
    let within = is_at-within n.memory.messages x p (reaches_of n.memory.messages x (coh_of n.views x) n.views.vrn p here.0).at in
    (p, record { within = omega (arith, within); reached = here.0; value = here.1 }, two.1)

pub then-at : (n : Seen) (x v y w p : ℕ) → IsShownAt n.memory x (coh_of n.views x) n.views.vrn v p → may_read (loaded n x p) y w ≡ true → may_read_then n x v y w ≡ true
then-at n x v y w p at can =
    some_below-here (λ q. reads n x v q && may_read (loaded n x q) y w) (suc (length n.memory.messages)) p at.within
    (and_from (reads n x v p) (may_read (loaded n x p) y w) (and_from (can_read n x p) (value_at n.memory x p == v) at.reached at.value) can)

pub then_was_readable : ThenWasReadable
then_was_readable s t x v y w h =
    let n = seen_by s t in
    let at = then_where n x v y w h in
    let p : ℕ = at.0 in
    let from = (reaches_of s.memory.messages x (coh_of n.views x) n.views.vrn p at.1.reached).from in (
      shown-at s.memory x (coh_of n.views x) n.views.vrn v p (and_from (can_read n x p) (value_at s.memory x p == v) at.1.reached at.1.value),
      shown-within s.memory y (coh_of (load_seen n.views x p) y) (load_seen n.views x p).vrn (coh_of n.views y) n.views.vrn (λ q. load-less n x p y q from) w at.2,
    )

-- where x was loaded, the coherence views are positions still
loaded-at : (m : Memory) (w : Views) (x p y : ℕ) → AreViews m w → is_at m.messages x p ≡ true → is_at m.messages y (coh_of (load_seen w x p) y) ≡ true
loaded-at m w x p y h at = elim (cases_eq y x) [
  | inl e ↦ ap (λ (l : ℕ). is_at m.messages l (get_or (set w.coh x p) l 0)) e ∙ here (set-either w.coh x p x)
  | inr other ↦ ap (is_at m.messages y) (get_or-set_other w.coh x y p 0 other) ∙ coh-at m w h y
]
  where
    here : (get_or (set w.coh x p) x 0 ≡ coh_of w x) ⊎ ((x ≡ x) × (get_or (set w.coh x p) x 0 ≡ p)) → is_at m.messages x (get_or (set w.coh x p) x 0) ≡ true
    here (inl same) = ap (is_at m.messages x) same ∙ coh-at m w h x
    here (inr is) = ap (is_at m.messages x) is.1 ∙ at

pub last_is_read_then : LastIsReadThen
last_is_read_then p s t x v y w h is last-is =
    let n = seen_by s t in
    let at = shown_where s.memory x (coh_of n.views x) n.views.vrn v is in
    let q : ℕ = at.0 in
    let there = (reaches_of s.memory.messages x (coh_of n.views x) n.views.vrn q at.1.reached).at in
    then-at n x v y w q at.1
    (last-shown s.memory y (coh_of (load_seen n.views x q) y) (load_seen n.views x q).vrn w (loaded-at s.memory n.views x q y (own p s t h) there) last-is)

-- what was loaded may be read again
again-reached : (n : Seen) (x p : ℕ) → can_read n x p ≡ true → can_read (loaded n x p) x p ≡ true
again-reached n x p can =
    of_reaches ms x (coh_of (load_seen n.views x p) x) (load_seen n.views x p).vrn p (record {
      at = was.at;
      from = from (set-either n.views.coh x p x);
      last = last_from (p == coh_of n.views x);
    })
  where
    ms : List (ℕ × ℕ)
    ms = n.memory.messages

    was : Reaches ms x (coh_of n.views x) n.views.vrn p
    was = reaches_of ms x (coh_of n.views x) n.views.vrn p can

    from : (get_or (set n.views.coh x p) x 0 ≡ coh_of n.views x) ⊎ ((x ≡ x) × (get_or (set n.views.coh x p) x 0 ≡ p)) → get_or (set n.views.coh x p) x 0 ≤ p
    from (inl same) = let a = was.from in omega (arith, same, a)
    from (inr is) = let here = is.1 in omega (arith, here)

    last_from : (b : Bool) → last_upto ms x (cond b n.views.vrn (max n.views.vrn p)) ≤ p
    last_from true = was.last
    last_from false =
        let a = was.last in
        let most = last_upto-max ms x n.views.vrn p in
        let within = last_upto-within ms x p in
        omega (arith, a, most, within)

pub read_is_read_again : ReadIsReadAgain
read_is_read_again s t x v is =
    let n = seen_by s t in
    let at = shown_where s.memory x (coh_of n.views x) n.views.vrn v is in
    let q : ℕ = at.0 in
    then-at n x v x v q at.1
    (shown-at s.memory x (coh_of (load_seen n.views x q) x) (load_seen n.views x q).vrn v q
    (and_from (can_read (loaded n x q) x q) (value_at s.memory x q == v) (again-reached n x q at.1.reached) at.1.value))

pub newest_load_keeps_then : NewestLoadKeepsThen
newest_load_keeps_then p s t x v y w h newest is can =
    let n = seen_by s t in
    let views = own p s t h in
    let top : ℕ = last s.memory.messages x in
    let within = last_upto-within s.memory.messages x (length s.memory.messages) in
    then-at n x v y w top
    (record { within = omega (arith, within); reached = reaches-last s.memory.messages x (coh_of n.views x) n.views.vrn (coh-at s.memory n.views views x); value = is })
    (may_read-same n (load_seen n.views x top) y (load-alone n x top views (newest-alone n x newest) y) w ∙ can)
