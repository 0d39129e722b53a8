-- Laws of the plain tree.
use Rattle.std.specs.Prelude.{◌≡◌, ℕ, ◌+◌, ◌^◌, ◌<◌, ◌≤◌, true, false, not, List, [], length}
use Rattle.pg_region.specs.Literal.{Literal, negated}
use Rattle.pg_region.specs.Region.{clause_at}
use Rattle.pg_decider.specs.Assignment.{Assignment, on, added, Forces, HasConflict, IsClosed, IsClosure}
use Rattle.pg_decider.specs.Split.{AllMet}
use Rattle.pg_decider.specs.Tree.{Tree, IsTree, has_model, size}

-- at most one tree, below any path
abbrev pub TreeIsUnique : Type 0
TreeIsUnique = (cs : List (List Literal)) (path : Assignment) (t u : Tree) → IsTree cs path t → IsTree cs path u → t ≡ u

-- each literal of the clauses has one of the atoms from 1 to n
pub record AreOver (n : ℕ) (cs : List (List Literal)) : Type 0 where
  pub each : (k : ℕ) (l : Literal) → on (clause_at cs k) l ≡ true → (1 ≤ l.atom) × (l.atom ≤ n)

-- clauses over n atoms have a tree, and it has fewer than 2 ^ (n + 1) nodes
pub record HasSmallTree (n : ℕ) (cs : List (List Literal)) : Type 0 where
  pub tree : Tree
  pub is : IsTree cs (on []) tree
  pub small : size tree < 2 ^ (n + 1)

abbrev pub SmallTreeExists : Type 0
SmallTreeExists = (n : ℕ) (cs : List (List Literal)) → AreOver n cs → HasSmallTree n cs

-- values for all atoms: of each literal and its negation one is true
pub record IsWhole (s : Assignment) : Type 0 where
  pub each : (l : Literal) → s (negated l) ≡ not (s l)

-- where a tree has no model, values for all atoms never satisfy the clauses
abbrev pub NoModelIsUnsatisfiable : Type 0
NoModelIsUnsatisfiable =
    (cs : List (List Literal)) (t : Tree) → IsTree cs (on []) t → has_model t ≡ false → (s : Assignment) → IsWhole s → AllMet s cs → ⊥

-- literals that were added one after the other, each of which a clause forced then
pub data Added (cs : List (List Literal)) (s : Assignment) : Assignment → Type 0 where
  nothing_more : Added cs s s
  one_more : (u : Assignment) (k : ℕ) (l : Literal) → Added cs s u → k < length cs → Forces u (clause_at cs k) l → Added cs s (added l u)

-- in whatever order forced literals are added: a closed set that is reached is the closure, and where a conflict is reached the
-- closure has one
abbrev pub AnyOrderCloses : Type 0
AnyOrderCloses = (cs : List (List Literal)) (s u : Assignment) → Added cs s u → IsClosed cs u → IsClosure cs s u

abbrev pub AnyOrderConflicts : Type 0
AnyOrderConflicts =
    (cs : List (List Literal)) (s u v : Assignment) → Added cs s u → HasConflict cs u → IsClosure cs s v → HasConflict cs v
