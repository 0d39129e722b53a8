-- Moves: what a thread leaves in the memory and in its own views. No other thread's views change.
use Rattle.std.specs.Prelude.{◌≡◌, ℕ, ◌+◌, ◌<◌, max, ◌==◌, Bool, if◌then◌else◌, List, [], ◌∷◌, length, slice_set}
use Rattle.pg_machine.specs.Memory.{Memory, line_of, message_appended, reaches}
use Rattle.pg_machine.specs.State.{Views, AreViews, coh_of, vpa_of, vpc_of, maxcoh, ordered}

-- the memory, and the views of the thread that acts on it
pub record Seen : Type 0 where
  pub memory : Memory
  pub views : Views

-- ---- views

-- the greater of two positions, place by place
abbrev pub greater : List ℕ → List ℕ → List ℕ
greater [] qs = []
greater (p ∷ ps) [] = p ∷ ps
greater (p ∷ ps) (q ∷ qs) = max p q ∷ greater ps qs

-- the asynchronous and the committed view of the line l become their maximum with n
abbrev pub vpa_raised : Views → ℕ → ℕ → Views
vpa_raised w l n = record w { vpa = slice_set w.vpa l (max (vpa_of w l) n) }

abbrev pub vpc_raised : Views → ℕ → ℕ → Views
vpc_raised w l n = record w { vpc = slice_set w.vpc l (max (vpc_of w l) n) }

-- what is written back is committed: the committed view of each line becomes its maximum with the asynchronous one
abbrev pub written_back : Views → Views
written_back w = record w { vpc = greater w.vpc w.vpa }

-- a store to x at position p: the coherence view of x is p
abbrev pub store_seen : Views → ℕ → ℕ → Views
store_seen w x p = record w { coh = slice_set w.coh x p }

-- A load of x at position p: the coherence view of x is p. Where it is not p already, the read view and the ready view
-- become their maximum with p.
abbrev pub load_seen : Views → ℕ → ℕ → Views
load_seen w x p = record w {
  coh = slice_set w.coh x p;
  vrn = if p == coh_of w x then w.vrn else max w.vrn p;
  vpr = if p == coh_of w x then w.vpr else max w.vpr p;
}

-- an `mfence`: the read view and the ready view are the greatest coherence view, and what is written back is committed
abbrev pub mfence_seen : Views → Views
mfence_seen w = record w { vrn = maxcoh w; vpr = maxcoh w; vpc = (written_back w).vpc }

-- an `sfence`: the same but for the read view, which stays
abbrev pub sfence_seen : Views → Views
sfence_seen w = record w { vpr = maxcoh w; vpc = (written_back w).vpc }

-- a `flush` of the line l: its asynchronous and its committed view become their maximum with the greatest coherence view
abbrev pub flush_seen : Views → ℕ → Views
flush_seen w l = vpc_raised (vpa_raised w l (maxcoh w)) l (maxcoh w)

-- a `flushopt` of the line l: its asynchronous view becomes its maximum with what the flush is ordered after
abbrev pub flushopt_seen : List ℕ → Views → ℕ → Views
flushopt_seen on w l = vpa_raised w l (ordered on w l)

-- a successful cas of x, whose message is at position p: the coherence view of x, the read view and the ready view are p,
-- and what is written back is committed
abbrev pub swap_seen : Views → ℕ → ℕ → Views
swap_seen w x p = record w { coh = slice_set w.coh x p; vrn = p; vpr = p; vpc = (written_back w).vpc }

-- ---- memory and views

-- The positions at which the thread may read x: those from its coherence view of x on, without a message to x between
-- the position and the read view.
abbrev pub can_read : Seen → ℕ → ℕ → Bool
can_read n x p = reaches n.memory.messages x (coh_of n.views x) n.views.vrn p

-- the position of the next message
abbrev pub next_position : Seen → ℕ
next_position n = length n.memory.messages + 1

-- the store of v to x, the load of x at p, the fences, and the flushes of the line of x
abbrev pub stored : Seen → ℕ → ℕ → Seen
stored n x v = record { memory = message_appended n.memory (x, v); views = store_seen n.views x (next_position n) }

abbrev pub loaded : Seen → ℕ → ℕ → Seen
loaded n x p = record n { views = load_seen n.views x p }

abbrev pub fenced : Seen → Seen
fenced n = record n { views = mfence_seen n.views }

abbrev pub store_fenced : Seen → Seen
store_fenced n = record n { views = sfence_seen n.views }

abbrev pub flushed : Seen → ℕ → Seen
flushed n x = record n { views = flush_seen n.views (line_of n.memory x) }

abbrev pub flush_begun : Seen → ℕ → Seen
flush_begun n x = record n { views = flushopt_seen n.memory.lines n.views (line_of n.memory x) }

-- a successful cas that writes v to x
abbrev pub swapped : Seen → ℕ → ℕ → Seen
swapped n x v = record { memory = message_appended n.memory (x, v); views = swap_seen n.views x (next_position n) }

-- a failing cas that reads x at p: an `mfence`, a load and an `mfence`
abbrev pub missed : Seen → ℕ → ℕ → Seen
missed n x p = fenced (loaded (fenced n) x p)

-- A successful cas leaves what a store of its desired value and then an `mfence` leave.
abbrev pub SwapIsStoreThenFence : Type 0
SwapIsStoreThenFence =
    (n : Seen) (x v : ℕ) → AreViews n.memory n.views → x < length n.memory.initial → swapped n x v ≡ fenced (stored n x v)
