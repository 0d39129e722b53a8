-- The search: the branches that are still to be visited, and what is kept from node to node.
use Rattle.std.specs.Prelude.{◌≡◌, ℕ, ◌<◌, ◌≤◌, false, List, [], length, take, slice_index_or}
use Rattle.pg_region.specs.Literal.{Literal, negated}
use Rattle.pg_decider.specs.Assignment.{on}
use Rattle.pg_decider.specs.Chains.{chain, ChainTable}
use Rattle.pg_decider.specs.Trail.{none, TrailTable, added_to, cut}
use Rattle.pg_decider.specs.Watch.{Placed, Shape, Watching, Watched}
use Rattle.pg_decider.specs.declared.search.Branch.{Branch}
use Rattle.pg_decider.specs.declared.settle.Node.{Node}
use Rattle.pg_decider.specs.declared.settle.Node.TheVariants.{Shut, Met, Open}

abbrev pub branch : List Branch → ℕ → Branch
branch bs i = slice_index_or bs i (record { mark = 0; literal = none })

-- a literal of the trail's atoms without a value among ls
pub record IsOpen (t : TrailTable) (ls : List Literal) (l : Literal) : Type 0 where
  pub within : l.atom ≤ t.atoms
  pub free : on ls l ≡ false
  pub unset : on ls (negated l) ≡ false

-- a branch that is still to be visited: where the trail goes back to, and the literal that is added there
pub record IsBranch (cs : List (List Literal)) (ws : List Literal) (t : TrailTable) (b : Branch) : Type 0 where
  pub inside : b.mark < length t.literals
  pub unset : IsOpen t (take b.mark t.literals) b.literal
  pub watched : Watched cs ws (on (take b.mark t.literals))

-- marks rise, so there are no more branches than literals on the trail
pub record AreBranches (cs : List (List Literal)) (ws : List Literal) (t : TrailTable) (bs : List Branch) : Type 0 where
  pub low : (i : ℕ) → i < length bs → i ≤ (branch bs i).mark
  pub rising : (i j : ℕ) → i < j → j < length bs → (branch bs i).mark < (branch bs j).mark
  pub each : (i : ℕ) → i < length bs → IsBranch cs ws t (branch bs i)

-- back to a mark, and a literal is chosen
abbrev pub back_to : TrailTable → ℕ → Literal → TrailTable
back_to t m l = added_to (cut t m) l 0

-- what is kept from node to node
pub record Searching (cs : List (List Literal)) (ws : List Literal) (ct : ChainTable) (t : TrailTable) (bs : List Branch) (from : ℕ) : Type 0 where
  pub shape : Shape cs ws ct t
  pub placed : Placed cs ws ct.lists 0 (length ws)
  pub empty : chain ct.lists 0 ≡ []
  pub within : from ≤ length t.literals
  pub watching : Watching cs ws [] (on (take from t.literals)) (on t.literals) (length ws)
  pub branches : AreBranches cs ws t bs

-- where a node is open, or met
abbrev pub IfOpen : Node → (Literal → Type 0) → Type 0
IfOpen Met P = Unit {0}
IfOpen (Open l) P = P l
IfOpen Shut P = Unit {0}

abbrev pub IfMet : Node → Type 0 → Type 0
IfMet Met P = P
IfMet (Open l) P = Unit {0}
IfMet Shut P = Unit {0}
