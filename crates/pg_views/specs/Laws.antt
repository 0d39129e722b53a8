-- Laws of positions: which of them are reached, what they show, and what a load leaves of them.
use Rattle.std.specs.Prelude.{◌≡◌, ◌≢◌, ℕ, ◌<◌, ◌≤◌, true, ◌⊎◌, List, length, slice_set}
use Rattle.pg_assertion.specs.declared.atom.ViewAtom.{ViewAtom}
use Rattle.pg_assertion.specs.declared.atom.ViewAtom.TheVariants.{Read, Persist, Async}
use Rattle.pg_machine.specs.Memory.{Memory, is_at, reaches, last}
use Rattle.pg_machine.specs.State.{Views, State, AreViews, coh_of}
use Rattle.pg_machine.specs.Moves.{Seen, can_read, loaded}
use Rattle.pg_views.specs.Atom.{is_shown, may_read, may_read_then, reads_newest, atom_holds}

-- ---- positions that are reached

-- With a position of x that is reached each later position of x is.
abbrev pub ReachedIsUpSet : Type 0
ReachedIsUpSet =
    (ms : List (ℕ × ℕ)) (x c n p q : ℕ) → reaches ms x c n p ≡ true → is_at ms x q ≡ true → p ≤ q → reaches ms x c n q ≡ true

-- So of the positions of x that are reached from c on, up to n, and from d on, up to k, the ones are among the others.
abbrev pub ReachedNests : Type 0
ReachedNests =
    (ms : List (ℕ × ℕ)) (x c n d k : ℕ)
    → ((p : ℕ) → reaches ms x c n p ≡ true → reaches ms x d k p ≡ true) ⊎ ((p : ℕ) → reaches ms x d k p ≡ true → reaches ms x c n p ≡ true)

-- And so are the values there.
abbrev pub ShownNests : Type 0
ShownNests =
    (m : Memory) (x c n d k : ℕ)
    → ((v : ℕ) → is_shown m x c n v ≡ true → is_shown m x d k v ≡ true) ⊎ ((v : ℕ) → is_shown m x d k v ≡ true → is_shown m x c n v ≡ true)

-- The sets of values of a location: what a thread may read, what may persist, and what may persist after a fence of a thread.
pub data ValueSet : Type 0 where
  readable : ℕ → ValueSet
  persistent : ValueSet
  pending : ℕ → ValueSet

-- the atom that v is in the set for x
abbrev pub is_in : ValueSet → ℕ → ℕ → ViewAtom
is_in (readable t) x v = Read t x v
is_in persistent x v = Persist x v
is_in (pending t) x v = Async t x v

-- Of any two of these sets of a location the one contains the other: v in the one and w in the other are not both apart.
abbrev pub ValueSetsNest : Type 0
ValueSetsNest =
    (s : State) (x v w : ℕ) (a b : ValueSet) → atom_holds s (is_in a x v) ≡ true → atom_holds s (is_in b x w) ≡ true
    → (atom_holds s (is_in a x w) ≡ true) ⊎ (atom_holds s (is_in b x v) ≡ true)

-- ---- loads

-- Where a thread may read x at its last position alone, to load it there changes nothing of what it may read.
abbrev pub NewestLoadKeepsReads : Type 0
NewestLoadKeepsReads =
    (n : Seen) (x : ℕ) → AreViews n.memory n.views → x < length n.memory.initial → reads_newest n x ≡ true → (y q : ℕ)
    → can_read (loaded n x (last n.memory.messages x)) y q ≡ can_read n y q

-- So which values it may read stays, and which it may read after a load.
abbrev pub NewestLoadKeepsValues : Type 0
NewestLoadKeepsValues =
    (n : Seen) (x : ℕ) → AreViews n.memory n.views → x < length n.memory.initial → reads_newest n x ≡ true
    → ((y v : ℕ) → may_read (loaded n x (last n.memory.messages x)) y v ≡ may_read n y v)
    × ((y v z w : ℕ) → may_read_then (loaded n x (last n.memory.messages x)) y v z w ≡ may_read_then n y v z w)

-- The views w are raised to v: none is moved back, and to a coherence view that is moved the read view is raised too.
pub record IsRaised (w v : Views) : Type 0 where
  pub size : length w.coh ≡ length v.coh
  pub coh : (x : ℕ) → coh_of w x ≤ coh_of v x
  pub read : w.vrn ≤ v.vrn
  pub moved : (x : ℕ) → coh_of w x ≢ coh_of v x → coh_of v x ≤ v.vrn

-- So are they where the read view is raised, and where the coherence view of x is raised to p, and the read view to p at least.
abbrev pub RaisesViews : Type 0
RaisesViews =
    ((w : Views) (r : ℕ) → w.vrn ≤ r → IsRaised w (record w { vrn = r }))
    × ((w : Views) (x p r : ℕ) → coh_of w x ≤ p → w.vrn ≤ r → p ≤ r → IsRaised w (record w { coh = slice_set w.coh x p; vrn = r }))

-- Then the positions at which the thread may read only shrink, those before and those after a load.
abbrev pub RaisedReachesLess : Type 0
RaisedReachesLess =
    (n : Seen) (v : Views) → IsRaised n.views v
    → ((y q : ℕ) → can_read (record n { views = v }) y q ≡ true → can_read n y q ≡ true)
    × ((x p y q : ℕ) → can_read (loaded (record n { views = v }) x p) y q ≡ true → can_read (loaded n x p) y q ≡ true)

-- And so do the values that it may read, and that it may read after a load.
abbrev pub RaisedReadsLess : Type 0
RaisedReadsLess =
    (n : Seen) (v : Views) → IsRaised n.views v
    → ((y k : ℕ) → may_read (record n { views = v }) y k ≡ true → may_read n y k ≡ true)
    × ((x k y l : ℕ) → may_read_then (record n { views = v }) x k y l ≡ true → may_read_then n x k y l ≡ true)

-- A load at the coherence view raises nothing.
abbrev pub LoadAtCoherenceRaisesNothing : Type 0
LoadAtCoherenceRaisesNothing = (n : Seen) (x : ℕ) → loaded n x (coh_of n.views x) ≡ n
