-- What a store leaves to the thread that acts: its coherence view of the location is the new message.
use Rattle.std.proofs.Common.{◌≡◌, ◌≢◌, ℕ, suc, ◌+◌, ◌<◌, ◌≤◌, ◌==◌, max, nat_le, Bool, true, cond, ◌&&◌, ◌||◌, List, length, get_or, set, inl, inr, sym, ap, ap₂, ◌∙◌, arith}
use Rattle.std.proofs.lemmas.Bool.{and_parts, and_from, le-leb, cases_eq}
use Rattle.std.proofs.lemmas.List.{length-set, get_or-set_same, get_or-set_other}
use Rattle.pg_machine.specs.Memory.{line_of, last, value_at}
use Rattle.pg_machine.specs.State.{AreViews, coh_of, maxcoh, ordered}
use Rattle.pg_machine.specs.Moves.{Seen, can_read, loaded, load_seen, stored}
use Rattle.pg_machine.proofs.Appended.{length-appended, last_upto-front, last_upto-within}
use Rattle.pg_machine.proofs.PositionLists.{greatest_on-above, greatest_on-other}
use Rattle.pg_machine.proofs.Reached.{least, reaches-last, same_truth}
use Rattle.pg_machine.proofs.ViewLaws.{coh-at}
use Rattle.pg_machine.proofs.ViewsKept.{store_views, top_stored}
use Rattle.pg_views.specs.Atom.{some_below, is_shown, shows, is_last, reads, may_read, may_read_then, reads_newest, covers_ordered, covers_fenced}
use Rattle.pg_views.proofs.Axioms.{then_where, then-at}
use Rattle.pg_views.proofs.Readable.{newest-alone, newest_load_keeps_values}
use Rattle.pg_soundness.proofs.Tests.{some_below-alike, and-where, some_below-and}
use Rattle.pg_soundness.proofs.Views.{newest-is}
use Rattle.pg_soundness.proofs.Longer.{last-here, last-there, is_last-here, shows-front, shows-none, some-longer, shown-there, shown-last}
use Rattle.pg_soundness.proofs.StoredOther.{read-within, loaded-views}

-- where the last position alone may be read, the last value is what is loaded, and the load leaves what may be read
pub then-newest : (n : Seen) (x : ℕ) → AreViews n.memory n.views → x < length n.memory.initial → reads_newest n x ≡ true → (v y w : ℕ)
    → may_read_then n x v y w ≡ (is_last n.memory x v && may_read n y w)
then-newest n x h inside newest v y w =
    same_truth (may_read_then n x v y w) (is_last n.memory x v && may_read n y w)
    (λ is.
    let at = then_where n x v y w is in
    let e = newest-alone n x newest at.0 at.1.reached in
    and_from (is_last n.memory x v) (may_read n y w)
    (ap (λ (p : ℕ). value_at n.memory x p == v) (sym e) ∙ at.1.value)
    (sym (keeps y w) ∙ (ap (λ (p : ℕ). may_read (loaded n x p) y w) (sym e) ∙ at.2)))
    (λ is.
    let two = and_parts (is_last n.memory x v) (may_read n y w) is in
    let within = last_upto-within n.memory.messages x (length n.memory.messages) in
    then-at n x v y w (last n.memory.messages x)
    (record {
      within = omega (arith, within);
      reached = reaches-last n.memory.messages x (coh_of n.views x) n.views.vrn (coh-at n.memory n.views h x);
      value = two.0;
    })
    (keeps y w ∙ two.1))
  where
    keeps : (z u : ℕ) → may_read (loaded n x (last n.memory.messages x)) z u ≡ may_read n z u
    keeps = (newest_load_keeps_values n x h inside newest).0

-- a coherence view that is set stays where that of another location is set
set-apart : (c : List ℕ) (x p z q u : ℕ) → z < length c → u ≢ x → get_or (set (set c x p) z q) u 0 ≡ get_or (set c z q) u 0
set-apart c x p z q u lt other = elim (cases_eq u z) [
  | inl e ↦
      let size = length-set c x p in
      let left : get_or (set (set c x p) z q) z 0 ≡ q = get_or-set_same (set c x p) z q 0 (omega (arith, size, lt)) in
      ap (λ (k : ℕ). get_or (set (set c x p) z q) k 0) e ∙ (left ∙ sym (ap (λ (k : ℕ). get_or (set c z q) k 0) e ∙ get_or-set_same c z q 0 lt))
  | inr apart ↦
      get_or-set_other (set c x p) z u q 0 apart
      ∙ (get_or-set_other c x u p 0 other ∙ sym (get_or-set_other c z u q 0 apart))
]

module _ (n : Seen) (x e : ℕ) (h : AreViews n.memory n.views) (inside : x < length n.memory.initial) where
  abbrev now : Seen
  now = stored n x e

  abbrev new : ℕ
  new = suc (length n.memory.messages)

  abbrev top : ℕ
  top = length n.memory.messages + 1

  pub stored-views : AreViews now.memory now.views
  stored-views = store_views n.memory x e n.views h inside

  coh-here : coh_of now.views x ≡ top
  coh-here = let size = h.size.coh in get_or-set_same n.views.coh x top 0 (omega (arith, size, inside))

  coh-there : (y : ℕ) → y ≢ x → coh_of now.views y ≡ coh_of n.views y
  coh-there y other = get_or-set_other n.views.coh x y top 0 other

  -- the new message is the last one of its location, and the least that may be read
  last-least : (r : ℕ) → last now.memory.messages x ≤ least now.memory.messages x (coh_of now.views x) r
  last-least r =
      let is = last-here n.memory.messages x e in
      let at = coh-here in
      omega (arith, is, at)

  -- ---- reads

  pub own-read-here : (v : ℕ) → may_read now x v ≡ (e == v)
  own-read-here v =
      shown-last now.memory x (coh_of now.views x) n.views.vrn v (coh-at now.memory now.views stored-views x) (last-least n.views.vrn)
      ∙ is_last-here n.memory x e v

  pub own-read-there : (y v : ℕ) → y ≢ x → may_read now y v ≡ may_read n y v
  own-read-there y v other =
      ap (λ (c : ℕ). is_shown now.memory y c n.views.vrn v) (coh-there y other)
      ∙ shown-there n.memory x e y (coh_of n.views y) n.views.vrn v other (read-within n h)

  pub own-newest-here : reads_newest now x ≡ true
  own-newest-here =
      newest-is now x (coh-at now.memory now.views stored-views x)
      ∙ le-leb (last now.memory.messages x) (least now.memory.messages x (coh_of now.views x) n.views.vrn) (last-least n.views.vrn)

  pub own-newest-there : (y : ℕ) → y ≢ x → reads_newest now y ≡ reads_newest n y
  own-newest-there y other =
      newest-is now y (coh-at now.memory now.views stored-views y)
      ∙ (ap₂ nat_le (last-there n.memory.messages x e y other) (ap₂ max (coh-there y other) (last_upto-front n.memory.messages (x, e) y n.views.vrn (read-within n h)))
      ∙ sym (newest-is n y (coh-at n.memory n.views h y)))

  -- ---- reads after a load

  -- of the location of the store
  own-then-first : (v u w : ℕ) → may_read_then now x v u w ≡ ((e == v) && may_read now u w)
  own-then-first v u w =
      then-newest now x stored-views inside own-newest-here v u w ∙ ap (λ (b : Bool). b && may_read now u w) (is_last-here n.memory x e v)

  pub own-then-same : (v w : ℕ) → may_read_then now x v x w ≡ ((e == v) && (e == w))
  own-then-same v w = own-then-first v x w ∙ ap (λ (b : Bool). (e == v) && b) (own-read-here w)

  pub own-then-from : (v u w : ℕ) → u ≢ x → may_read_then now x v u w ≡ ((e == v) && may_read n u w)
  own-then-from v u w other = own-then-first v u w ∙ ap (λ (b : Bool). (e == v) && b) (own-read-there u w other)

  -- of another location
  abbrev both : ℕ → ℕ → ℕ → ℕ → ℕ → Bool
  both z v u w p = reads now z v p && may_read (loaded now z p) u w

  then-longer : (z v u w : ℕ) → z ≢ x → may_read_then now z v u w ≡ some_below (both z v u w) new
  then-longer z v u w other =
      some-longer n.memory (x, e) (both z v u w)
      ∙ ap (λ (b : Bool). (b && may_read (loaded now z new) u w) || some_below (both z v u w) new) (shows-none n.memory x e z (coh_of now.views z) n.views.vrn v other)

  reads-front : (z v p : ℕ) → z ≢ x → p < new → reads now z v p ≡ reads n z v p
  reads-front z v p other lt =
      ap (λ (c : ℕ). shows now.memory z c n.views.vrn v p) (coh-there z other)
      ∙ shows-front n.memory (x, e) z (coh_of n.views z) n.views.vrn v p (read-within n h) (omega arith)

  read-to : (z p w : ℕ) → z ≢ x → z < length n.memory.initial → can_read now z p ≡ true → may_read (loaded now z p) x w ≡ (e == w)
  read-to z p w other within can =
      let stays : coh_of (load_seen now.views z p) x ≡ coh_of now.views x = get_or-set_other now.views.coh z x p 0 (λ k. other (sym k)) in
      let least-is = last-least (load_seen now.views z p).vrn in
      shown-last now.memory x (coh_of (load_seen now.views z p) x) (load_seen now.views z p).vrn w
      (coh-at now.memory (load_seen now.views z p) (loaded-views now stored-views z p within can) x)
      (omega (arith, stays, least-is))
      ∙ is_last-here n.memory x e w

  read-others : (z p u w : ℕ) → z ≢ x → u ≢ x → z < length n.memory.initial → can_read n z p ≡ true → may_read (loaded now z p) u w ≡ may_read (loaded n z p) u w
  read-others z p u w other apart within can =
      let size = h.size.coh in
      ap₂ (λ (c k : ℕ). is_shown now.memory u c (cond (p == k) n.views.vrn (max n.views.vrn p)) w)
      (set-apart n.views.coh x top z p u (omega (arith, size, within)) apart) (coh-there z other)
      ∙ shown-there n.memory x e u (coh_of (load_seen n.views z p) u) (load_seen n.views z p).vrn w apart (read-within (loaded n z p) (loaded-views n h z p within can))

  pub own-then-to : (z v w : ℕ) → z < length n.memory.initial → z ≢ x → may_read_then now z v x w ≡ (may_read n z v && (e == w))
  own-then-to z v w within other =
      then-longer z v x w other
      ∙ (some_below-alike (both z v x w) (λ p. reads n z v p && (e == w)) new (λ p lt.
      and-where (reads now z v p) (may_read (loaded now z p) x w) (e == w) (λ is.
      read-to z p w other within (and_parts (can_read now z p) (value_at now.memory z p == v) is).0)
      ∙ ap (λ (b : Bool). b && (e == w)) (reads-front z v p other lt))
      ∙ some_below-and (reads n z v) (e == w) new)

  pub own-then-others : (z v u w : ℕ) → z < length n.memory.initial → z ≢ x → u ≢ x → may_read_then now z v u w ≡ may_read_then n z v u w
  own-then-others z v u w within other apart =
      then-longer z v u w other
      ∙ some_below-alike (both z v u w) (λ p. reads n z v p && may_read (loaded n z p) u w) new (λ p lt.
      ap (λ (b : Bool). b && may_read (loaded now z p) u w) (reads-front z v p other lt)
      ∙ and-where (reads n z v p) (may_read (loaded now z p) u w) (may_read (loaded n z p) u w) (λ is.
      read-others z p u w other apart within (and_parts (can_read n z p) (value_at n.memory z p == v) is).0))

  -- ---- the last position

  -- it is covered on the line of the location, and on each other line as before
  pub own-ordered-near : length n.memory.lines ≡ length n.memory.initial → (y : ℕ) → line_of n.memory y ≡ line_of n.memory x → covers_ordered now y ≡ true
  own-ordered-near each y near =
      let above = greatest_on-above n.memory.lines now.views.coh (line_of n.memory y) x (omega (arith, each, inside)) (sym near) in
      let at = coh-here in
      let long = length-appended n.memory.messages (x, e) in
      let within = last_upto-within now.memory.messages y (length now.memory.messages) in
      le-leb (last now.memory.messages y) (ordered n.memory.lines now.views (line_of n.memory y)) (omega (arith, above, at, long, within))

  pub own-ordered-far : (y : ℕ) → line_of n.memory y ≢ line_of n.memory x → covers_ordered now y ≡ covers_ordered n y
  own-ordered-far y far =
      ap₂ (λ (k g : ℕ). nat_le k (max g n.views.vpr))
      (last-there n.memory.messages x e y (λ k. far (ap (line_of n.memory) k)))
      (greatest_on-other n.memory.lines n.views.coh (line_of n.memory y) x top (λ k. far (sym k)))

  pub own-fenced : (y : ℕ) → covers_fenced now y ≡ true
  own-fenced y =
      let is = top_stored n.memory x n.views h inside in
      let long = length-appended n.memory.messages (x, e) in
      let within = last_upto-within now.memory.messages y (length now.memory.messages) in
      le-leb (last now.memory.messages y) (maxcoh now.views) (omega (arith, is, long, within))
