-- Parts of a state that the code looks at, and what it finds there.
use Rattle.std.specs.Prelude.{◌≡◌, ℕ, ◌<◌, ◌≤◌, true, false, length}
use Rattle.pg_machine.specs.Memory.{Memory}
use Rattle.pg_machine.specs.State.{State}
use Rattle.pg_machine.specs.Step.{views_of}
use Rattle.pg_views.specs.Atom.{shows}

-- t is one of the state's threads, x is one of its locations, and the thread has its coherence view of it
pub record Has (s : State) (t x : ℕ) : Type 0 where
  pub first : 1 ≤ t
  pub last : t ≤ length s.views
  pub location : x < length s.memory.initial
  pub coh : x < length (views_of s t).coh

-- p is the least position at which v is shown
pub record IsFirstShown (m : Memory) (x c n v p : ℕ) : Type 0 where
  pub shown : shows m x c n v p ≡ true
  pub least : (q : ℕ) → q < p → shows m x c n v q ≡ false
