-- The outcome of an outline under a budget of nodes, by the plain trees of the clauses of its obligations, in their order.
use Rattle.std.specs.Prelude.{◌≡◌, ℕ, zero, suc, ◌+◌, ◌-◌, ◌<◌, ◌≤◌, Bool, true, false, Some, List, [], ◌∷◌, length, map}
use Rattle.std.specs.List.{range_with_len}
use Rattle.pg_decider.specs.Assignment.{Assignment, on}
use Rattle.pg_decider.specs.Tree.{Tree, IsTree, has_model, model_of, visited}
use Rattle.pg_outline.specs.Outline.{OutlineTable}
use Rattle.pg_obligations.specs.Obligations.{obligations}
use Rattle.pg_layers.specs.Clauses.{obligation, obligation_clauses, obligation_atoms}
use Rattle.pg_judge.specs.declared.judgement.Judgement.{Judgement}
use Rattle.pg_judge.specs.declared.judgement.Judgement.TheVariants.{Accepted, Rejected, Spent}

-- how many obligations an outline has
abbrev pub obligation_count : OutlineTable → ℕ
obligation_count o = length (obligations o.program)

-- the plain tree of the clauses of obligation i
abbrev pub IsTreeOf : OutlineTable → ℕ → Tree → Type 0
IsTreeOf o i t = IsTree (obligation_clauses o (obligation o i)) (on []) t

-- Obligation i is closed: its tree has no model, and so many nodes, which the budget allows.
pub record IsClosed (o : OutlineTable) (budget i nodes : ℕ) : Type 0 where
  pub tree : Tree
  pub is : IsTreeOf o i tree
  pub closed : has_model tree ≡ false
  pub visited : visited tree ≡ nodes
  pub within : nodes ≤ budget

-- one more obligation is closed than the first k
pub record IsOneMore (First Next : ℕ → Type 0) (nodes : ℕ) : Type 0 where
  pub before : ℕ
  pub here : ℕ
  pub sum : nodes ≡ before + here
  pub first : First before
  pub next : Next here

-- The first k obligations are closed, and their trees have so many nodes together.
abbrev pub AreClosed : OutlineTable → ℕ → ℕ → ℕ → Type 0
AreClosed o budget zero nodes = nodes ≡ 0
AreClosed o budget (suc k) nodes = IsOneMore (AreClosed o budget k) (IsClosed o budget (suc k)) nodes

-- i is the number of an obligation, and those before it are closed
pub record IsNext (o : OutlineTable) (budget i : ℕ) : Type 0 where
  pub from : 1 ≤ i
  pub to : i ≤ obligation_count o
  pub nodes : ℕ
  pub closed : AreClosed o budget (i - 1) nodes

-- The truths of a model, by the numbers of atoms: none has the number 0, and where the model has no value an atom is false.
abbrev pub truths_of : ℕ → Assignment → List Bool
truths_of atoms model = false ∷ map (λ a. model (record { atom = a; positive = true })) (range_with_len 1 atoms)

-- ---- the outcomes

-- All obligations are closed. These are so many, and so many nodes were visited.
pub record IsAccepted (o : OutlineTable) (budget count nodes : ℕ) : Type 0 where
  pub all : count ≡ obligation_count o
  pub closed : AreClosed o budget count nodes

-- The tree of obligation i has a model, which is met within the budget, and these are its truths.
pub record IsRejected (o : OutlineTable) (budget i : ℕ) (truths : List Bool) : Type 0 where
  pub next : IsNext o budget i
  pub tree : Tree
  pub is : IsTreeOf o i tree
  pub model : Assignment
  pub meets : model_of tree ≡ Some model
  pub within : visited tree ≤ budget
  pub truths_are : truths ≡ truths_of (obligation_atoms o (obligation o i)) model

-- In the tree of obligation i more nodes are visited than the budget allows.
pub record IsSpent (o : OutlineTable) (budget i : ℕ) : Type 0 where
  pub next : IsNext o budget i
  pub tree : Tree
  pub is : IsTreeOf o i tree
  pub more : budget < visited tree

-- what a contract sees of a judgement
pub data Outcome : Type 0 where
  accepted : (count nodes : ℕ) → Outcome
  rejected : (i : ℕ) (truths : List Bool) → Outcome
  spent : (i : ℕ) → Outcome

abbrev pub outcome_of : Judgement → Outcome
outcome_of (Accepted count nodes) = accepted count nodes
outcome_of (Rejected i truths) = rejected i truths.items
outcome_of (Spent i) = spent i

abbrev pub IsOutcome : OutlineTable → ℕ → Outcome → Type 0
IsOutcome o budget (accepted count nodes) = IsAccepted o budget count nodes
IsOutcome o budget (rejected i truths) = IsRejected o budget i truths
IsOutcome o budget (spent i) = IsSpent o budget i
