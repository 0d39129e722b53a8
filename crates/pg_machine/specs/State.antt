-- States of the machine, and the well-formed ones.
use Rattle.std.specs.Prelude.{◌≡◌, ℕ, ◌-◌, ◌==◌, ◌<◌, ◌≤◌, max, true, if◌then◌else◌, List, [], ◌∷◌, length, map, All, replicate, slice_index}
use Rattle.pg_program.specs.NameTable.{NameTable, initial, lines, line_count}
use Rattle.pg_program.specs.Program.{ProgramTable, IsProgram, points as last_point}
use Rattle.pg_machine.specs.Memory.{Memory, is_at}

-- The views of a thread, which are positions: for each location its coherence view, the read view, the ready
-- view, and for each cache line the asynchronous view and the committed view.
pub record Views : Type 0 where
  pub coh : List ℕ
  pub vrn : ℕ
  pub vpr : ℕ
  pub vpa : List ℕ
  pub vpc : List ℕ

-- the memory, the views of each thread, the value of each scalar, and the point of each thread
pub record State : Type 0 where
  pub memory : Memory
  pub views : List Views
  pub scalars : List ℕ
  pub points : List ℕ

-- the greatest of some positions, and 0 of none
abbrev pub greatest : List ℕ → ℕ
greatest [] = 0
greatest (p ∷ ps) = max p (greatest ps)

-- a thread's coherence view of x, and its greatest one
abbrev pub coh_of : Views → ℕ → ℕ
coh_of w x = slice_index w.coh x

abbrev pub maxcoh : Views → ℕ
maxcoh w = greatest w.coh

-- a thread's asynchronous view and its committed view of the line l
abbrev pub vpa_of : Views → ℕ → ℕ
vpa_of w l = slice_index w.vpa l

abbrev pub vpc_of : Views → ℕ → ℕ
vpc_of w l = slice_index w.vpc l

-- of positions of the locations, the greatest of those on the line l, and 0 where there is none
abbrev pub greatest_on : List ℕ → List ℕ → ℕ → ℕ
greatest_on [] ps l = 0
greatest_on (k ∷ ks) [] l = 0
greatest_on (k ∷ ks) (p ∷ ps) l = max (if k == l then p else 0) (greatest_on ks ps l)

-- a thread's greatest coherence view of a location on the line l
abbrev pub lcoh : List ℕ → Views → ℕ → ℕ
lcoh on w l = greatest_on on w.coh l

-- what a `flushopt` of a location on the line l is ordered after: that view, and the thread's ready view
abbrev pub ordered : List ℕ → Views → ℕ → ℕ
ordered on w l = max (lcoh on w l) w.vpr

-- what was committed to the line l: the greatest committed view of l of all threads
abbrev pub committed : State → ℕ → ℕ
committed s l = greatest (map (λ w. vpc_of w l) s.views)

-- the point of thread t, both numbered from 1
abbrev pub point_of : State → ℕ → ℕ
point_of s t = slice_index s.points (t - 1)

-- a coherence view of x is a position of x
abbrev pub AreCoherent : Memory → List ℕ → Type 0
AreCoherent m coh =
    (x : ℕ) → x < length m.initial → (slice_index coh x ≤ length m.messages) × (is_at m.messages x (slice_index coh x) ≡ true)

-- there is a coherence view of each location, and an asynchronous and a committed view of each line
pub record AreSized (m : Memory) (w : Views) : Type 0 where
  pub coh : length w.coh ≡ length m.initial
  pub vpa : length w.vpa ≡ line_count m.lines
  pub vpc : length w.vpc ≡ line_count m.lines

-- the views of a thread over a memory
pub record AreViews (m : Memory) (w : Views) : Type 0 where
  pub size : AreSized m w
  pub coherent : AreCoherent m w.coh
  pub read : w.vrn ≤ w.vpr
  pub ready : w.vpr ≤ maxcoh w
  pub asynchronous : All (λ p. p ≤ maxcoh w) w.vpa
  pub committed : All (λ p. p ≤ maxcoh w) w.vpc

-- A memory over names: an initial value of each location, which need not be the declared one, the lines of the locations,
-- and messages to them, with values of the domain.
pub record IsMemory (names : NameTable) (m : Memory) : Type 0 where
  pub initial : length m.initial ≡ length names.locations
  pub lines : m.lines ≡ lines names
  pub values : All (λ v. v < names.domain) m.initial
  pub messages : All (λ s. (s.0 < length m.initial) × (s.1 < names.domain)) m.messages

-- a state of a program that is well formed: each part has its size, each view is a position as it should be, each
-- value is in the domain, and each thread stands at one of its points
pub record IsWellFormed (p : ProgramTable) (s : State) : Type 0 where
  pub memory : IsMemory p.names s.memory
  pub threads : length s.views ≡ length p.threads
  pub views : All (AreViews s.memory) s.views
  pub scalars : (length s.scalars ≡ length p.names.scalars) × All (λ v. v < p.names.domain) s.scalars
  pub pointed : length s.points ≡ length p.threads
  pub points : (t : ℕ) → 1 ≤ t → t ≤ length p.threads → (1 ≤ point_of s t) × (point_of s t ≤ last_point p t)

-- The fresh state: the declared initial values, no message, all positions and scalars 0, and each thread at its first point.
-- There are views of so many locations and lines.
abbrev pub fresh_views : ℕ → ℕ → Views
fresh_views locations on = record { coh = replicate locations 0; vrn = 0; vpr = 0; vpa = replicate on 0; vpc = replicate on 0 }

abbrev pub fresh : ProgramTable → State
fresh p = record {
  memory = record { initial = initial p.names; lines = lines p.names; messages = [] };
  views = map (λ t. fresh_views (length p.names.locations) (line_count (lines p.names))) p.threads;
  scalars = map (λ e. 0) p.names.scalars;
  points = map (λ t. 1) p.threads;
}

-- the fresh state of a well-formed program is well formed
abbrev pub FreshIsWellFormed : Type 0
FreshIsWellFormed = (p : ProgramTable) → IsProgram p → IsWellFormed p (fresh p)
