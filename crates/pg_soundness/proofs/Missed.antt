-- What a failing cas leaves to the thread that acts: an `mfence`, a load at a position of the location, and an `mfence`.
use Rattle.std.proofs.Common.{◌≡◌, ℕ, ◌<◌, ◌==◌, max, true, length, sym, ap, ◌∙◌, arith}
use Rattle.std.proofs.lemmas.Bool.{and_from, le-leb, leb-true}
use Rattle.pg_machine.specs.Memory.{last, value_at}
use Rattle.pg_machine.specs.State.{AreViews, coh_of, maxcoh}
use Rattle.pg_machine.specs.Moves.{Seen, can_read, loaded, fenced, missed}
use Rattle.pg_machine.proofs.PositionLists.{greatest-raised}
use Rattle.pg_machine.proofs.Reached.{Reaches, reaches_of, within-last, last-alone}
use Rattle.pg_machine.proofs.Scan.{is_at-within}
use Rattle.pg_machine.proofs.ViewsKept.{mfence_views}
use Rattle.pg_views.specs.Atom.{is_last, may_read, may_read_then, reads_newest, covers_ordered, covers_fenced}
use Rattle.pg_views.specs.Laws.{IsRaised}
use Rattle.pg_views.proofs.Axioms.{then-at}
use Rattle.pg_views.proofs.Below.{shown-at}
use Rattle.pg_views.proofs.Readable.{raised_reaches_less, raised_reads_less, fence-raised, load-raised}
use Rattle.pg_soundness.proofs.StoredOther.{loaded-views}
use Rattle.pg_soundness.proofs.Views.{fence-newest, fence-ordered}

module _ (n : Seen) (x p : ℕ) (h : AreViews n.memory n.views) (inside : x < length n.memory.initial) (can : can_read (fenced n) x p ≡ true) where
  abbrev ahead : Seen
  ahead = fenced n

  abbrev read : Seen
  read = loaded ahead x p

  abbrev now : Seen
  now = missed n x p

  reached : Reaches n.memory.messages x (coh_of n.views x) (maxcoh n.views) p
  reached = reaches_of n.memory.messages x (coh_of n.views x) (maxcoh n.views) p can

  ahead-views : AreViews n.memory ahead.views
  ahead-views = mfence_views n.memory n.views h

  read-views : AreViews n.memory read.views
  read-views = loaded-views ahead ahead-views x p inside can

  ahead-raised : IsRaised n.views ahead.views
  ahead-raised = fence-raised n.memory n.views h

  read-raised : IsRaised ahead.views read.views
  read-raised = load-raised ahead.views x p reached.from

  now-raised : IsRaised read.views now.views
  now-raised = fence-raised n.memory read.views read-views

  -- ---- reads only shrink

  pub missed-read : (z w : ℕ) → may_read now z w ≡ true → may_read n z w ≡ true
  missed-read z w is =
      (raised_reads_less n ahead.views ahead-raised).0 z w
      ((raised_reads_less ahead read.views read-raised).0 z w ((raised_reads_less read now.views now-raised).0 z w is))

  pub missed-then : (z v u w : ℕ) → may_read_then now z v u w ≡ true → may_read_then n z v u w ≡ true
  missed-then z v u w is =
      (raised_reads_less n ahead.views ahead-raised).1 z v u w
      ((raised_reads_less ahead read.views read-raised).1 z v u w ((raised_reads_less read now.views now-raised).1 z v u w is))

  -- ---- what was loaded

  -- could be read before
  pub missed-value : (v : ℕ) → (value_at n.memory x p == v) ≡ true → may_read n x v ≡ true
  missed-value v is =
      shown-at n.memory x (coh_of n.views x) n.views.vrn v p
      (and_from (can_read n x p) (value_at n.memory x p == v) ((raised_reaches_less n ahead.views ahead-raised).0 x p can) is)

  -- and after it what may be read then
  pub missed-value-then : (v z w : ℕ) → (value_at n.memory x p == v) ≡ true → may_read now z w ≡ true → may_read_then n x v z w ≡ true
  missed-value-then v z w is reads =
      let within = is_at-within n.memory.messages x p reached.at in
      (raised_reads_less n ahead.views ahead-raised).1 x v z w
      (then-at ahead x v z w p (record { within = omega (arith, within); reached = can; value = is }) ((raised_reads_less read now.views now-raised).0 z w reads))

  -- where a `flush` covers the last position, it was loaded
  pub missed-last : covers_fenced n x ≡ true → p ≡ last n.memory.messages x
  missed-last is =
      let le = leb-true (last n.memory.messages x) (maxcoh n.views) is in
      last-alone n.memory.messages x (coh_of n.views x) (maxcoh n.views) (within-last n.memory.messages x (coh_of n.views x) (maxcoh n.views) le) p can

  pub missed-last-value : (v : ℕ) → (value_at n.memory x p == v) ≡ true → covers_fenced n x ≡ true → is_last n.memory x v ≡ true
  missed-last-value v is covered = ap (λ (q : ℕ). value_at n.memory x q == v) (sym (missed-last covered)) ∙ is

  -- ---- the last position

  pub missed-newest : (y : ℕ) → reads_newest now y ≡ covers_fenced now y
  missed-newest y = fence-newest read read-views y

  pub missed-ordered : (y : ℕ) → covers_ordered now y ≡ covers_fenced now y
  missed-ordered y = fence-ordered read read-views y

  greatest-is : maxcoh now.views ≡ max (maxcoh n.views) p
  greatest-is =
      let size = h.size.coh in
      greatest-raised n.views.coh x p (omega (arith, size, inside)) reached.from

  pub missed-fenced : (y : ℕ) → covers_fenced n y ≡ true → covers_fenced now y ≡ true
  missed-fenced y is =
      let le = leb-true (last n.memory.messages y) (maxcoh n.views) is in
      let e = greatest-is in
      le-leb (last n.memory.messages y) (maxcoh now.views) (omega (arith, le, e))

  -- a load of what is covered moves no position ahead
  pub missed-fenced-as : (y : ℕ) → covers_fenced n x ≡ true → covers_fenced now y ≡ true → covers_fenced n y ≡ true
  missed-fenced-as y covered is =
      let here = missed-last covered in
      let low = leb-true (last n.memory.messages x) (maxcoh n.views) covered in
      let le = leb-true (last n.memory.messages y) (maxcoh now.views) is in
      let e = greatest-is in
      le-leb (last n.memory.messages y) (maxcoh n.views) (omega (arith, here, low, le, e))
