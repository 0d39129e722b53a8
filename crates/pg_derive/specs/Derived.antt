-- The derivation of an outline under a budget: for each obligation that is closed its plain tree, with clauses that close each leaf.
use Rattle.std.specs.Prelude.{◌≡◌, ℕ, ◌+◌, ◌-◌, ◌<◌, List, [], ◌++◌, length, slice_index_or}
use Rattle.pg_decider.specs.Leaf.{IsLog}
use Rattle.pg_decider.specs.declared.log.TreeNode.{TreeNode}
use Rattle.pg_derivation.specs.Derivation.{Node}
use Rattle.pg_derivation.specs.Text.{header_text, trees_text, end_text}
use Rattle.pg_tree.specs.Laws.{AreWritten}
use Rattle.pg_outline.specs.Outline.{OutlineTable}
use Rattle.pg_layers.specs.Clauses.{obligation, obligation_clauses}
use Rattle.pg_judge.specs.Outcome.{Outcome, IsOutcome, accepted, rejected, spent}

-- the tree of obligation i: the splits of its plain tree, and for each leaf clauses that close it
pub record IsDerivedTree (o : OutlineTable) (i : ℕ) (nodes : List Node) : Type 0 where
  pub log : List TreeNode
  pub is : IsLog (obligation_clauses o (obligation o i)) log
  pub written : AreWritten (obligation_clauses o (obligation o i)) log nodes

-- trees of the first obligations, one for each
abbrev pub AreDerivedTrees : OutlineTable → List (List Node) → Type 0
AreDerivedTrees o trees = (k : ℕ) → k < length trees → IsDerivedTree o (k + 1) (slice_index_or trees k [])

-- how many obligations are closed by an outcome
abbrev pub closed_by : Outcome → ℕ
closed_by (accepted count nodes) = count
closed_by (rejected i truths) = i - 1
closed_by (spent i) = i - 1

-- the last line stands only where the outline is accepted
abbrev pub end_of : Outcome → List ℕ
end_of (accepted count nodes) = end_text
end_of (rejected i truths) = []
end_of (spent i) = []

-- the header, and the trees of the first obligations
abbrev pub begun_text : List (List Node) → List ℕ
begun_text trees = header_text ++ trees_text 1 trees

-- a text of an outcome: the header, the tree of each obligation that is closed, and the end
pub record IsDerivation (o : OutlineTable) (a : Outcome) (text : List ℕ) : Type 0 where
  pub trees : List (List Node)
  pub are : AreDerivedTrees o trees
  pub all : length trees ≡ closed_by a
  pub spelled : text ≡ begun_text trees ++ end_of a

-- a text of the outcome of an outline under a budget
pub record IsDerivationUnder (o : OutlineTable) (budget : ℕ) (text : List ℕ) : Type 0 where
  pub outcome : Outcome
  pub is : IsOutcome o budget outcome
  pub derivation : IsDerivation o outcome text
