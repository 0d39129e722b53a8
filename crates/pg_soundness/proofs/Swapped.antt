-- What a successful cas leaves to the thread that acts: as after a store and an `mfence`, all views are the new message, and so the
-- last position of each location is the one that may be read.
use Rattle.std.proofs.Common.{◌≡◌, ℕ, ◌<◌, ◌≤◌, Bool, true, ◌&&◌, length, sym, ap, subst, ◌∙◌, arith}
use Rattle.std.proofs.lemmas.Bool.{le-leb}
use Rattle.pg_machine.specs.Memory.{line_of, last}
use Rattle.pg_machine.specs.State.{AreViews, coh_of, maxcoh, ordered}
use Rattle.pg_machine.specs.Moves.{Seen, stored, swapped}
use Rattle.pg_machine.proofs.Appended.{length-appended, last_upto-within}
use Rattle.pg_machine.proofs.Reached.{least, within-last}
use Rattle.pg_machine.proofs.ViewLaws.{coh-at}
use Rattle.pg_machine.proofs.ViewsKept.{mfence_views}
use Rattle.pg_machine.proofs.WellFormed.{swap_is_store_then_fence}
use Rattle.pg_views.specs.Atom.{is_last, may_read, may_read_then, reads_newest, covers_ordered, covers_fenced}
use Rattle.pg_soundness.proofs.Stored.{then-newest, stored-views}
use Rattle.pg_soundness.proofs.StoredOther.{read-last}
use Rattle.pg_soundness.proofs.Views.{newest-is}

module _ (n : Seen) (x e : ℕ) (h : AreViews n.memory n.views) (inside : x < length n.memory.initial) where
  abbrev now : Seen
  now = swapped n x e

  pub swapped-views : AreViews now.memory now.views
  swapped-views =
      subst (λ (k : Seen). AreViews k.memory k.views) (sym (swap_is_store_then_fence n x e h inside))
      (mfence_views (stored n x e).memory (stored n x e).views (stored-views n x e h inside))

  -- no position is greater than the read view
  last-read : (y : ℕ) → last now.memory.messages y ≤ now.views.vrn
  last-read y =
      let long = length-appended n.memory.messages (x, e) in
      let within = last_upto-within now.memory.messages y (length now.memory.messages) in
      omega (arith, long, within)

  pub swapped-newest : (y : ℕ) → reads_newest now y ≡ true
  swapped-newest y =
      newest-is now y (coh-at now.memory now.views swapped-views y)
      ∙ le-leb (last now.memory.messages y) (least now.memory.messages y (coh_of now.views y) now.views.vrn)
      (within-last now.memory.messages y (coh_of now.views y) now.views.vrn (last-read y))

  pub swapped-read : (y w : ℕ) → may_read now y w ≡ is_last now.memory y w
  swapped-read y w = read-last now swapped-views y w (last-read y)

  pub swapped-then : (y v z w : ℕ) → y < length n.memory.initial → may_read_then now y v z w ≡ (is_last now.memory y v && is_last now.memory z w)
  swapped-then y v z w within =
      then-newest now y swapped-views within (swapped-newest y) v z w
      ∙ ap (λ (b : Bool). is_last now.memory y v && b) (swapped-read z w)

  pub swapped-ordered : (y : ℕ) → covers_ordered now y ≡ true
  swapped-ordered y =
      let le = last-read y in
      le-leb (last now.memory.messages y) (ordered n.memory.lines now.views (line_of n.memory y)) (omega (arith, le))

  pub swapped-fenced : (y : ℕ) → covers_fenced now y ≡ true
  swapped-fenced y =
      let le = last-read y in
      let ready = swapped-views.ready in
      le-leb (last now.memory.messages y) (maxcoh now.views) (omega (arith, le, ready))
