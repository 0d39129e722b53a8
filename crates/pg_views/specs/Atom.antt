-- What each atom of an assertion says of a state. A view of a location shows some of its positions, and most atoms
-- speak of the set of the values there.
use Rattle.std.specs.Prelude.{ℕ, zero, suc, max, Bool, false, not, ◌&&◌, ◌||◌, ◌==◌, nat_le, length, slice_index}
use Rattle.pg_assertion.specs.declared.atom.ViewAtom.{ViewAtom}
use Rattle.pg_assertion.specs.declared.atom.ViewAtom.TheVariants.{Scalar, Last, Read, Persist, Async, Then, Newest, Ordered, Fenced}
use Rattle.pg_machine.specs.Memory.{Memory, line_of, every_below, value_at, reaches, last, last_value}
use Rattle.pg_machine.specs.State.{State, coh_of, vpa_of, maxcoh, ordered, committed}
use Rattle.pg_machine.specs.Moves.{Seen, can_read, loaded}
use Rattle.pg_machine.specs.Step.{views_of, seen_by}

-- ---- positions of a memory

-- some number below n meets the test
abbrev pub some_below : (ℕ → Bool) → ℕ → Bool
some_below f zero = false
some_below f (suc n) = f n || some_below f n

-- some position meets the test, and every one does: those of the messages, and 0, that of the initial values
abbrev pub some_position : Memory → (ℕ → Bool) → Bool
some_position m f = some_below f (suc (length m.messages))

abbrev pub every_position : Memory → (ℕ → Bool) → Bool
every_position m f = every_below f (suc (length m.messages))

-- p is a position of x, from c on, that no message to x up to n hides, and v is the value there
abbrev pub shows : Memory → ℕ → ℕ → ℕ → ℕ → ℕ → Bool
shows m x c n v p = reaches m.messages x c n p && (value_at m x p == v)

-- v is the value at some such position
abbrev pub is_shown : Memory → ℕ → ℕ → ℕ → ℕ → Bool
is_shown m x c n v = some_position m (shows m x c n v)

-- ---- the last value

-- L(x,v): the last value of x is v
abbrev pub is_last : Memory → ℕ → ℕ → Bool
is_last m x v = last_value m x == v

-- ---- what a thread may read

-- thread reads v from x at p: it may read x there, and v is the value
abbrev pub reads : Seen → ℕ → ℕ → ℕ → Bool
reads n x v p = can_read n x p && (value_at n.memory x p == v)

-- R(t,x,v): v is shown from the coherence view of x on, up to the read view
abbrev pub may_read : Seen → ℕ → ℕ → Bool
may_read n x v = is_shown n.memory x (coh_of n.views x) n.views.vrn v

-- C(t,x,v,y,w): the thread may read v from x at some position, and after this load it may read w from y
abbrev pub may_read_then : Seen → ℕ → ℕ → ℕ → ℕ → Bool
may_read_then n x v y w = some_position n.memory (λ p. reads n x v p && may_read (loaded n x p) y w)

-- N(t,x): the thread may read x at its last position alone
abbrev pub reads_newest : Seen → ℕ → Bool
reads_newest n x = every_position n.memory (λ p. not (can_read n x p) || (p == last n.memory.messages x))

-- O(t,x): the last position of x is covered by what a `flushopt` of x is ordered after
abbrev pub covers_ordered : Seen → ℕ → Bool
covers_ordered n x = nat_le (last n.memory.messages x) (ordered n.memory.lines n.views (line_of n.memory x))

-- F(t,x): the last position of x is covered by what a `flush` is ordered after
abbrev pub covers_fenced : Seen → ℕ → Bool
covers_fenced n x = nat_le (last n.memory.messages x) (maxcoh n.views)

-- ---- what a crash may leave

-- what was committed to the line of x
abbrev pub committed_to : State → ℕ → ℕ
committed_to s x = committed s (line_of s.memory x)

-- and the greater of that and what thread t has begun to write back of the line, which its next fence commits
abbrev pub committed_next : State → ℕ → ℕ → ℕ
committed_next s t x = max (committed_to s x) (vpa_of (views_of s t) (line_of s.memory x))

-- P(x,v): v is shown of all positions of x, up to what was committed to its line
abbrev pub may_persist : State → ℕ → ℕ → Bool
may_persist s x v = is_shown s.memory x 0 (committed_to s x) v

-- A(t,x,v): v is shown of them, up to what a fence of thread t would commit
abbrev pub may_persist_after_fence : State → ℕ → ℕ → ℕ → Bool
may_persist_after_fence s t x v = is_shown s.memory x 0 (committed_next s t x) v

-- ---- atoms

abbrev pub atom_holds : State → ViewAtom → Bool
atom_holds s (Scalar r k) = slice_index s.scalars r == k
atom_holds s (Last x v) = is_last s.memory x v
atom_holds s (Read t x v) = may_read (seen_by s t) x v
atom_holds s (Persist x v) = may_persist s x v
atom_holds s (Async t x v) = may_persist_after_fence s t x v
atom_holds s (Then t x v y w) = may_read_then (seen_by s t) x v y w
atom_holds s (Newest t x) = reads_newest (seen_by s t) x
atom_holds s (Ordered t x) = covers_ordered (seen_by s t) x
atom_holds s (Fenced t x) = covers_fenced (seen_by s t) x
