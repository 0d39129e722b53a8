-- Watched literals: each clause watches two of its literals, and only where one of these is false the clause is looked at.
--
-- `ws` has the literal of each slot, `ls` the chains of slots, and `but` is a slot that is taken out of its chain just now.
use Rattle.std.specs.Prelude.{◌≡◌, ℕ, ◌+◌, ◌-◌, ◌*◌, ◌/◌, ◌%◌, ◌^◌, ◌<◌, ◌≤◌, Bool, true, false, ◌==◌, if◌then◌else◌, List, [], length, take}
use Rattle.pg_region.specs.Literal.{Literal, negated, word_of}
use Rattle.pg_region.specs.Region.{clause_at}
use Rattle.pg_decider.specs.Assignment.{Assignment, on, added, Within, HasConflict, IsUnit}
use Rattle.pg_decider.specs.Chains.{chain, ChainTable, times, held}
use Rattle.pg_decider.specs.Counted.{false_count}
use Rattle.pg_decider.specs.Reached.{AreWithin, Reached}
use Rattle.pg_decider.specs.Trail.{lit, TrailTable, reason}
use Rattle.pg_decider.specs.Weigh.{occurs}

-- The chain of a literal. Chain 0 is that of no literal; it has the slots that are still to be visited.
abbrev pub place : Literal → ℕ
place l = word_of l + 1

-- Clause k, counted from 0, has the slots 2 k and 2 k + 1. Each has a literal of the clause, which it watches.
abbrev pub other : ℕ → ℕ
other x = if x % 2 == 0 then x + 1 else x - 1

-- Slots stand in the chain of the literal that they watch; those that are still to be visited stand in chain 0, and watch the
-- literal whose chain is f.
pub record Placed (cs : List (List Literal)) (ws : List Literal) (ls : List (List ℕ)) (f : ℕ) (but : ℕ) : Type 0 where
  pub has : (x : ℕ) → x < length ws → on (clause_at cs (x / 2)) (lit ws x) ≡ true
  pub sound : (x m : ℕ) → 0 < m → 0 < occurs x (chain ls m) → (x < length ws) × (place (lit ws x) ≡ m)
  pub late : (x : ℕ) → 0 < occurs x (chain ls 0) → (x < length ws) × (place (lit ws x) ≡ f)
  pub full : (x : ℕ) → x < length ws → (x ≡ but → ⊥) → 0 < occurs x (chain ls (place (lit ws x))) + occurs x (chain ls 0)

-- The invariant: where a literal of p falsifies a watch, the other watch of the clause is true in s. Slots in `late` are still
-- to be visited. A clause of one literal watches it twice, and is true in s.
pub record Watching (cs : List (List Literal)) (ws : List Literal) (late : List ℕ) (p s : Assignment) (but : ℕ) : Type 0 where
  pub one : (x : ℕ) (m : Literal) → x < length ws → lit ws x ≡ lit ws (other x) → on (clause_at cs (x / 2)) m ≡ true → s m ≡ true
  pub held : (x : ℕ) → x < length ws → (x ≡ but → ⊥) → occurs x late ≡ 0 → p (negated (lit ws x)) ≡ true → s (lit ws (other x)) ≡ true

-- A clause is looked at no more in t than it was: one of its watches is true, or none is false. If t is closed under what is
-- watched, it is closed under the clauses.
abbrev pub Watched : List (List Literal) → List Literal → Assignment → Type 0
Watched cs ws t = Watching cs ws [] t t (length ws)

-- What is watched in a set within s stays watched. So nothing is to be done for the watches where literals are taken back.
abbrev pub KeepsWatched : List (List Literal) → List Literal → List Literal → Assignment → Type 0
KeepsWatched cs old new s = (t : Assignment) → Within t s → Watched cs old t → Watched cs new t

-- the parts of a workspace fit each other
pub record Shape (cs : List (List Literal)) (ws : List Literal) (ct : ChainTable) (t : TrailTable) : Type 0 where
  pub size : length ws ≡ 2 * length cs
  pub over : AreWithin t.atoms cs
  pub lists : 2 * t.atoms + 3 ≤ length ct.lists
  pub slots : length ws ≤ ct.slots
  pub few : length ws < 2 ^ 32

-- the literal at j of a trail is the unit of its reason
pub record IsReason (cs : List (List Literal)) (t : TrailTable) (j : ℕ) : Type 0 where
  pub positive : 1 ≤ reason t j
  pub within : reason t j ≤ length cs
  pub unit : IsUnit (on (take j t.literals)) (clause_at cs (reason t j - 1)) (lit t.literals j)

-- a trail grew by literals that clauses force
pub record Grown (cs : List (List Literal)) (t u : TrailTable) : Type 0 where
  pub atoms : u.atoms ≡ t.atoms
  pub longer : length t.literals ≤ length u.literals
  pub before : take (length t.literals) u.literals ≡ t.literals
  pub reached : Reached cs (on t.literals) (on u.literals)
  pub kept : (j : ℕ) → j < length t.literals → reason u j ≡ reason t j
  pub units : (j : ℕ) → length t.literals ≤ j → j < length u.literals → IsReason cs u j

abbrev pub KeepsWatching : List (List Literal) → List Literal → List Literal → List ℕ → Assignment → Assignment → ℕ → Bool → Type 0
KeepsWatching cs old new late s s' but calm =
    (p : Assignment) → Within p s → Watching cs old late p s but → calm ≡ true → Watching cs new late p s' (length new)

-- what is kept while the slots of f, which is false, are visited
pub record Draining (cs : List (List Literal)) (ws0 : List Literal) (ls0 : List (List ℕ)) (t0 : TrailTable) (looks0 : ℕ) (f : Literal) (ws : List Literal) (ct : ChainTable) (t : TrailTable) (looks : ℕ) (calm : Bool) : Type 0 where
  pub shape : Shape cs ws ct t
  pub placed : Placed cs ws ct.lists (place f) (length ws)
  pub grown : Grown cs t0 t
  pub shut : calm ≡ false → HasConflict cs (on t.literals)
  pub watching : (p : Assignment) → Within p (on t0.literals) → Watching cs ws0 [] p (on t0.literals) (length ws0) → calm ≡ true → Watching cs ws (chain ct.lists 0) (added (negated f) p) (on t.literals) (length ws)
  pub keeps : KeepsWatched cs ws0 ws (on t0.literals)
  pub looked : looks + length (chain ct.lists 0) ≤ looks0 + length (chain ls0 (place f))

-- what is kept while the literals of the trail are gone through
pub record Propagating (cs : List (List Literal)) (ws0 : List Literal) (t0 : TrailTable) (looks0 : ℕ) (ws : List Literal) (ct : ChainTable) (t : TrailTable) (looks next : ℕ) : Type 0 where
  pub shape : Shape cs ws ct t
  pub placed : Placed cs ws ct.lists 0 (length ws)
  pub empty : chain ct.lists 0 ≡ []
  pub grown : Grown cs t0 t
  pub within : next ≤ length t.literals
  pub watching : Watching cs ws [] (on (take next t.literals)) (on t.literals) (length ws)
  pub keeps : KeepsWatched cs ws0 ws (on t0.literals)
  pub looked : looks ≤ looks0 + false_count (on (take next t.literals)) cs

-- what is kept while k clauses get their watches
pub record Attaching (cs : List (List Literal)) (ws : List Literal) (ct : ChainTable) (t0 t : TrailTable) (k : ℕ) : Type 0 where
  pub size : length ws ≡ 2 * k
  pub over : AreWithin t.atoms cs
  pub lists : 2 * t.atoms + 3 ≤ length ct.lists
  pub slots : 2 * length cs ≤ ct.slots
  pub few : 2 * length cs < 2 ^ 32
  pub placed : Placed cs ws ct.lists 0 (length ws)
  pub empty : chain ct.lists 0 ≡ []
  pub out : (x : ℕ) → length ws ≤ x → times x ct.lists ≡ 0
  pub used : held ct.lists ≡ length ws
  pub one : (x : ℕ) (m : Literal) → x < length ws → lit ws x ≡ lit ws (other x) → on (clause_at cs (x / 2)) m ≡ true → on t.literals m ≡ true
  pub grown : Grown cs t0 t
