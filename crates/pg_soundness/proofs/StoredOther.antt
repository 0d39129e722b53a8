-- What a store leaves to another thread: its views stay, and the memory has one message more.
use Rattle.std.proofs.Common.{◌≡◌, ◌≢◌, ℕ, suc, ◌<◌, ◌≤◌, ◌==◌, max, nat_le, Bool, true, false, cond, ◌&&◌, ◌||◌, length, sym, ap, ap₂, ◌∙◌, arith}
use Rattle.std.proofs.lemmas.Bool.{and_parts, ne_eqb, lt-leb}
use Rattle.pg_machine.specs.Memory.{line_of, is_at, last, message_appended, value_at}
use Rattle.pg_machine.specs.State.{AreViews, coh_of, maxcoh, ordered}
use Rattle.pg_machine.specs.Moves.{Seen, can_read, loaded, load_seen}
use Rattle.pg_machine.proofs.Appended.{same_number, is_to-new, length-appended, last_upto-front, last_upto-within}
use Rattle.pg_machine.proofs.PositionLists.{greatest_on-within}
use Rattle.pg_machine.proofs.Reached.{least, reaches_of, within-last}
use Rattle.pg_machine.proofs.Scan.{is_at-within}
use Rattle.pg_machine.proofs.ViewLaws.{coh-at, maxcoh-within}
use Rattle.pg_machine.proofs.ViewsKept.{load_views, views_stay}
use Rattle.pg_views.specs.Atom.{some_below, is_last, reads, may_read, may_read_then, reads_newest, covers_ordered, covers_fenced}
use Rattle.pg_soundness.proofs.Tests.{or-swap, some_below-alike, and-where, some_below-or}
use Rattle.pg_soundness.proofs.Views.{newest-is}
use Rattle.pg_soundness.proofs.Longer.{last-here, last-there, is_last-here, is_last-there, shows-front, shows-new, shows-none, some-longer, shown-here, shown-there, shown-last}

-- the same views over a memory with a message more
abbrev pub longer : Seen → ℕ × ℕ → Seen
longer n st = record n { memory = message_appended n.memory st }

-- ---- bounds of views

pub coh-within : (n : Seen) → AreViews n.memory n.views → (y : ℕ) → coh_of n.views y ≤ length n.memory.messages
coh-within n h y = is_at-within n.memory.messages y (coh_of n.views y) (coh-at n.memory n.views h y)

pub read-within : (n : Seen) → AreViews n.memory n.views → n.views.vrn ≤ length n.memory.messages
read-within n h =
    let a = h.read in
    let b = h.ready in
    let c = maxcoh-within n.memory n.views h in
    omega (arith, a, b, c)

pub loaded-views : (n : Seen) → AreViews n.memory n.views → (z p : ℕ) → z < length n.memory.initial → can_read n z p ≡ true → AreViews n.memory (load_seen n.views z p)
loaded-views n h z p inside can =
    let is = reaches_of n.memory.messages z (coh_of n.views z) n.views.vrn p can in
    load_views n.memory n.views z p h inside is.at (is_at-within n.memory.messages z p is.at) is.from

-- a thread whose read view is the last position at least reads the last value alone
pub read-last : (n : Seen) → AreViews n.memory n.views → (y w : ℕ) → last n.memory.messages y ≤ n.views.vrn → may_read n y w ≡ is_last n.memory y w
read-last n h y w le =
    shown-last n.memory y (coh_of n.views y) n.views.vrn w (coh-at n.memory n.views h y) (within-last n.memory.messages y (coh_of n.views y) n.views.vrn le)

module _ (n : Seen) (x e : ℕ) (h : AreViews n.memory n.views) where
  abbrev now : Seen
  now = longer n (x, e)

  abbrev new : ℕ
  new = suc (length n.memory.messages)

  -- ---- reads

  pub other-read-here : (v : ℕ) → may_read now x v ≡ (may_read n x v || (e == v))
  other-read-here v =
      let low = coh-within n h x in
      shown-here n.memory x e (coh_of n.views x) n.views.vrn v (omega (arith, low)) (read-within n h)

  pub other-read-there : (y v : ℕ) → y ≢ x → may_read now y v ≡ may_read n y v
  other-read-there y v other = shown-there n.memory x e y (coh_of n.views y) n.views.vrn v other (read-within n h)

  -- ---- reads after a load

  -- of the new message
  new-at : is_at now.memory.messages x new ≡ true
  new-at = is_to-new n.memory.messages (x, e) x ∙ same_number x

  new-views : x < length n.memory.initial → AreViews now.memory (load_seen n.views x new)
  new-views inside =
      let low = coh-within n h x in
      load_views now.memory n.views x new (views_stay n.memory (x, e) n.views h) inside new-at (is_at-within now.memory.messages x new new-at) (omega (arith, low))

  new-read : x < length n.memory.initial → (y w : ℕ) → may_read (loaded now x new) y w ≡ is_last now.memory y w
  new-read inside y w =
      let low = coh-within n h x in
      let apart : (new == coh_of n.views x) ≡ false = ne_eqb new (coh_of n.views x) (λ q. absurd (omega (arith, low, q))) in
      let view : (load_seen n.views x new).vrn ≡ max n.views.vrn new = ap (λ (b : Bool). cond b n.views.vrn (max n.views.vrn new)) apart in
      let long = length-appended n.memory.messages (x, e) in
      let within = last_upto-within now.memory.messages y (length now.memory.messages) in
      read-last (loaded now x new) (new-views inside) y w (omega (arith, view, long, within))

  -- of an earlier one
  abbrev both : ℕ → ℕ → ℕ → ℕ → ℕ → Bool
  both z v u w p = reads now z v p && may_read (loaded now z p) u w

  old-to : (z v w : ℕ) → z < length n.memory.initial → some_below (both z v x w) new ≡ (may_read_then n z v x w || (may_read n z v && (e == w)))
  old-to z v w inside =
      some_below-alike (both z v x w) (λ p. reads n z v p && (may_read (loaded n z p) x w || (e == w))) new (λ p lt.
      ap (λ (b : Bool). b && may_read (loaded now z p) x w) (shows-front n.memory (x, e) z (coh_of n.views z) n.views.vrn v p (read-within n h) (omega arith))
      ∙ and-where (reads n z v p) (may_read (loaded now z p) x w) (may_read (loaded n z p) x w || (e == w)) (λ is.
      let can = (and_parts (can_read n z p) (value_at n.memory z p == v) is).0 in
      let views = loaded-views n h z p inside can in
      let low = coh-within (loaded n z p) views x in
      shown-here n.memory x e (coh_of (load_seen n.views z p) x) (load_seen n.views z p).vrn w (omega (arith, low)) (read-within (loaded n z p) views)))
      ∙ some_below-or (reads n z v) (λ p. may_read (loaded n z p) x w) (e == w) new

  old-others : (z v u w : ℕ) → z < length n.memory.initial → u ≢ x → some_below (both z v u w) new ≡ may_read_then n z v u w
  old-others z v u w inside other =
      some_below-alike (both z v u w) (λ p. reads n z v p && may_read (loaded n z p) u w) new (λ p lt.
      ap (λ (b : Bool). b && may_read (loaded now z p) u w) (shows-front n.memory (x, e) z (coh_of n.views z) n.views.vrn v p (read-within n h) (omega arith))
      ∙ and-where (reads n z v p) (may_read (loaded now z p) u w) (may_read (loaded n z p) u w) (λ is.
      let can = (and_parts (can_read n z p) (value_at n.memory z p == v) is).0 in
      shown-there n.memory x e u (coh_of (load_seen n.views z p) u) (load_seen n.views z p).vrn w other (read-within (loaded n z p) (loaded-views n h z p inside can))))

  -- the first load is of the new message, or of an earlier one
  then-longer : (z v u w : ℕ) → may_read_then now z v u w ≡ (both z v u w new || some_below (both z v u w) new)
  then-longer z v u w = some-longer n.memory (x, e) (both z v u w)

  both-new : x < length n.memory.initial → (v u w : ℕ) → both x v u w new ≡ ((e == v) && is_last now.memory u w)
  both-new inside v u w =
      let low = coh-within n h x in
      ap₂ (λ (a b : Bool). a && b) (shows-new n.memory x e (coh_of n.views x) n.views.vrn v (omega (arith, low))) (new-read inside u w)

  both-none : (z v u w : ℕ) → z ≢ x → both z v u w new ≡ false
  both-none z v u w other = ap (λ (b : Bool). b && may_read (loaded now z new) u w) (shows-none n.memory x e z (coh_of n.views z) n.views.vrn v other)

  pub other-then-same : x < length n.memory.initial → (v w : ℕ) → may_read_then now x v x w ≡ (((e == v) && (e == w)) || (may_read_then n x v x w || (may_read n x v && (e == w))))
  other-then-same inside v w =
      then-longer x v x w
      ∙ ap₂ (λ (a b : Bool). a || b) (both-new inside v x w ∙ ap (λ (b : Bool). (e == v) && b) (is_last-here n.memory x e w)) (old-to x v w inside)

  pub other-then-from : x < length n.memory.initial → (v u w : ℕ) → u ≢ x → may_read_then now x v u w ≡ (may_read_then n x v u w || ((e == v) && is_last n.memory u w))
  other-then-from inside v u w other =
      then-longer x v u w
      ∙ (ap₂ (λ (a b : Bool). a || b) (both-new inside v u w ∙ ap (λ (b : Bool). (e == v) && b) (is_last-there n.memory x e u w other)) (old-others x v u w inside other)
      ∙ or-swap ((e == v) && is_last n.memory u w) (may_read_then n x v u w))

  pub other-then-to : (z v w : ℕ) → z < length n.memory.initial → z ≢ x → may_read_then now z v x w ≡ (may_read_then n z v x w || (may_read n z v && (e == w)))
  other-then-to z v w inside other = then-longer z v x w ∙ ap₂ (λ (a b : Bool). a || b) (both-none z v x w other) (old-to z v w inside)

  pub other-then-others : (z v u w : ℕ) → z < length n.memory.initial → z ≢ x → u ≢ x → may_read_then now z v u w ≡ may_read_then n z v u w
  other-then-others z v u w inside other apart = then-longer z v u w ∙ ap₂ (λ (a b : Bool). a || b) (both-none z v u w other) (old-others z v u w inside apart)

  -- ---- the last position

  now-views : AreViews now.memory n.views
  now-views = views_stay n.memory (x, e) n.views h

  pub other-newest-here : reads_newest now x ≡ false
  other-newest-here =
      let top = last-here n.memory.messages x e in
      let within = last_upto-within now.memory.messages x n.views.vrn in
      let low = coh-within n h x in
      let read = read-within n h in
      newest-is now x (coh-at now.memory n.views now-views x)
      ∙ lt-leb (last now.memory.messages x) (least now.memory.messages x (coh_of n.views x) n.views.vrn) (omega (arith, top, within, low, read))

  pub other-newest-there : (y : ℕ) → y ≢ x → reads_newest now y ≡ reads_newest n y
  other-newest-there y other =
      newest-is now y (coh-at now.memory n.views now-views y)
      ∙ (ap₂ nat_le (last-there n.memory.messages x e y other) (ap (max (coh_of n.views y)) (last_upto-front n.memory.messages (x, e) y n.views.vrn (read-within n h)))
      ∙ sym (newest-is n y (coh-at n.memory n.views h y)))

  pub other-ordered-here : covers_ordered now x ≡ false
  other-ordered-here =
      let top = last-here n.memory.messages x e in
      let a = greatest_on-within n.memory.lines n.views.coh (line_of n.memory x) in
      let b = h.ready in
      let c = maxcoh-within n.memory n.views h in
      lt-leb (last now.memory.messages x) (ordered n.memory.lines n.views (line_of n.memory x)) (omega (arith, top, a, b, c))

  pub other-ordered-there : (y : ℕ) → y ≢ x → covers_ordered now y ≡ covers_ordered n y
  other-ordered-there y other = ap (λ (k : ℕ). nat_le k (ordered n.memory.lines n.views (line_of n.memory y))) (last-there n.memory.messages x e y other)

  pub other-fenced-here : covers_fenced now x ≡ false
  other-fenced-here =
      let top = last-here n.memory.messages x e in
      let c = maxcoh-within n.memory n.views h in
      lt-leb (last now.memory.messages x) (maxcoh n.views) (omega (arith, top, c))

  pub other-fenced-there : (y : ℕ) → y ≢ x → covers_fenced now y ≡ covers_fenced n y
  other-fenced-there y other = ap (λ (k : ℕ). nat_le k (maxcoh n.views)) (last-there n.memory.messages x e y other)
