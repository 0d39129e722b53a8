-- What a derivation is answered for an outline: whether it has one tree for each obligation, in their order, and no other, and each is
-- valid for its own obligation.
use Rattle.std.specs.Prelude.{◌≡◌, ◌≢◌, ℕ, ◌+◌, ◌-◌, ◌≤◌, Option, Some, Result, Ok, Err, length}
use Rattle.pg_derivation.specs.Derivation.{TreeTable, DerivationTable, tree_at, nodes_of}
use Rattle.pg_tree.specs.Valid.{AreValid}
use Rattle.pg_tree.specs.Fault.{tree_fault}
use Rattle.pg_tree.specs.declared.fault.TreeFault.{TreeFault}
use Rattle.pg_tree.specs.declared.fault.TreeFault.TheVariants.{TrailFull}
use Rattle.pg_outline.specs.Outline.{OutlineTable}
use Rattle.pg_layers.specs.Clauses.{obligation, obligation_clauses, obligation_atoms}
use Rattle.pg_judge.specs.Outcome.{obligation_count}
use Rattle.pg_derive.specs.declared.fault.VerifyFault.{VerifyFault}
use Rattle.pg_derive.specs.declared.fault.VerifyFault.TheVariants.{Tree, Missing, Extra, NoMemory}

-- a tree is valid for obligation i
abbrev pub IsValidFor : OutlineTable → ℕ → TreeTable → Type 0
IsValidFor o i tree = AreValid (obligation_atoms o (obligation o i)) (obligation_clauses o (obligation o i)) (nodes_of tree)

-- the first fault of a tree as one for obligation i
abbrev pub fault_for : OutlineTable → ℕ → TreeTable → Option TreeFault
fault_for o i tree = tree_fault (obligation_atoms o (obligation o i)) (obligation_clauses o (obligation o i)) tree

-- the first k trees are valid, each for its own obligation
abbrev pub AreFirstValid : OutlineTable → DerivationTable → ℕ → Type 0
AreFirstValid o d k = (i : ℕ) → 1 ≤ i → i ≤ k → IsValidFor o i (tree_at d i)

-- there are n trees and n obligations, and each tree is valid for its own
pub record IsVerified (o : OutlineTable) (d : DerivationTable) (n : ℕ) : Type 0 where
  pub trees : length d ≡ n
  pub all : n ≡ obligation_count o
  pub valid : AreFirstValid o d n

-- tree i is the first that is not valid for its obligation, and has this fault
pub record HasFault (o : OutlineTable) (d : DerivationTable) (i : ℕ) (first : TreeFault) : Type 0 where
  pub from : 1 ≤ i
  pub within : i ≤ length d
  pub to : i ≤ obligation_count o
  pub before : AreFirstValid o d (i - 1)
  pub fault : fault_for o i (tree_at d i) ≡ Some first

-- all trees are valid, and obligation i is the first without one
pub record IsMissing (o : OutlineTable) (d : DerivationTable) (i : ℕ) : Type 0 where
  pub behind : i ≡ length d + 1
  pub to : i ≤ obligation_count o
  pub valid : AreFirstValid o d (length d)

-- each obligation has a valid tree, and tree i is the first that has no obligation
pub record IsExtra (o : OutlineTable) (d : DerivationTable) (i : ℕ) : Type 0 where
  pub behind : i ≡ obligation_count o + 1
  pub within : i ≤ length d
  pub valid : AreFirstValid o d (obligation_count o)

-- where memory runs out nothing is said
abbrev pub IsAnswer : OutlineTable → DerivationTable → Result ℕ VerifyFault → Type 0
IsAnswer o d (Ok n) = IsVerified o d n
IsAnswer o d (Err (Tree i first)) = HasFault o d i first
IsAnswer o d (Err (Missing i)) = IsMissing o d i
IsAnswer o d (Err (Extra i)) = IsExtra o d i
IsAnswer o d (Err NoMemory) = Unit {0}

-- no tree is refused for want of room on the trail
abbrev pub IsNeverFull : Result ℕ VerifyFault → Type 0
IsNeverFull r = (i room : ℕ) → r ≢ Err (Tree i (TrailFull room))

-- the first k trees are valid, or the first that is not has this fault
abbrev pub AreChecked : OutlineTable → DerivationTable → ℕ → Result (Unit {0}) VerifyFault → Type 0
AreChecked o d k (Ok u) = AreFirstValid o d k
AreChecked o d k (Err (Tree i first)) = HasFault o d i first
AreChecked o d k (Err (Missing i)) = ⊥
AreChecked o d k (Err (Extra i)) = ⊥
AreChecked o d k (Err NoMemory) = ⊥
