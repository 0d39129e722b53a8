-- Texts of derivations as far as they go.
use Rattle.std.specs.Prelude.{◌≡◌, ◌⊎◌, ℕ, ◌+◌, ◌-◌, ◌<◌, ◌≤◌, List, [], ◌++◌, length, slice_index_or}
use Rattle.pg_region.specs.Literal.{Literal}
use Rattle.pg_region.specs.Region.{RegionTable}
use Rattle.pg_decider.specs.Held.{WorkspaceTable, LogTable}
use Rattle.pg_decider.specs.Leaf.{IsLog, path_of}
use Rattle.pg_decider.specs.declared.log.TreeNode.{TreeNode}
use Rattle.pg_decider.specs.declared.log.TreeNode.TheVariants.{Leaf}
use Rattle.pg_derivation.specs.Derivation.{Node, leaf}
use Rattle.pg_derivation.specs.Text.{obligation_text, node_text, nodes_text, end_text}
use Rattle.pg_tree.specs.Laws.{IsWritten}
use Rattle.pg_outline.specs.Outline.{OutlineTable}
use Rattle.pg_layers.specs.Clauses.{obligation, obligation_clauses}
use Rattle.pg_layers.specs.Layers.{Loading}
use Rattle.pg_judge.specs.Outcome.{obligation_count, AreClosed, IsClosed}
use Rattle.pg_judge.specs.declared.bench.End.{End}
use Rattle.pg_judge.specs.declared.bench.End.TheVariants.{Behind, Met, Spent}
use Rattle.pg_derive.specs.Derived.{AreDerivedTrees, begun_text}

-- ---- of a log

-- the line of the node at place k
pub record IsNodeText (cs : List (List Literal)) (log : List TreeNode) (k : ℕ) (text : List ℕ) : Type 0 where
  pub node : Node
  pub written : IsWritten cs (path_of log k) (slice_index_or log k Leaf) node
  pub spelled : text ≡ node_text node

-- the first nodes
pub record AreFirst (cs : List (List Literal)) (log : List TreeNode) (nodes : List Node) : Type 0 where
  pub within : length nodes ≤ length log
  pub each : (k : ℕ) → k < length nodes → IsWritten cs (path_of log k) (slice_index_or log k Leaf) (slice_index_or nodes k (leaf []))

-- the lines of the first k nodes
pub record IsFirstText (cs : List (List Literal)) (log : List TreeNode) (k : ℕ) (text : List ℕ) : Type 0 where
  pub nodes : List Node
  pub count : length nodes ≡ k
  pub first : AreFirst cs log nodes
  pub spelled : text ≡ nodes_text nodes

-- those of some first nodes
abbrev pub IsSomeText : List (List Literal) → List TreeNode → List ℕ → Type 0
IsSomeText cs log text = (k : ℕ) × IsFirstText cs log k text

-- ---- of an obligation

-- its line, and the lines of its tree
pub record IsWholeText (o : OutlineTable) (i : ℕ) (text : List ℕ) : Type 0 where
  pub log : List TreeNode
  pub is : IsLog (obligation_clauses o (obligation o i)) log
  pub lines : List ℕ
  pub tree : IsFirstText (obligation_clauses o (obligation o i)) log (length log) lines
  pub spelled : text ≡ obligation_text i ++ lines

-- the same as far as it goes
pub record IsPartText (o : OutlineTable) (i : ℕ) (text : List ℕ) : Type 0 where
  pub log : List TreeNode
  pub is : IsLog (obligation_clauses o (obligation o i)) log
  pub lines : List ℕ
  pub tree : IsSomeText (obligation_clauses o (obligation o i)) log lines
  pub spelled : text ≡ obligation_text i ++ lines

-- ---- of an outline

-- the trees of the first k obligations, behind the header
pub record AreTexts (o : OutlineTable) (k : ℕ) (text : List ℕ) : Type 0 where
  pub trees : List (List Node)
  pub are : AreDerivedTrees o trees
  pub all : length trees ≡ k
  pub spelled : text ≡ begun_text trees

-- how many obligations are closed where they end
abbrev pub closed_at : End → ℕ
closed_at (Behind count nodes) = count
closed_at (Met i atoms) = i - 1
closed_at (Spent i) = i - 1

-- the trees of the first k obligations, which are closed within the budget, and maybe the beginning of the next one, which is closed too
pub record IsBegun (o : OutlineTable) (budget : ℕ) (text : List ℕ) : Type 0 where
  pub done : ℕ
  pub front : List ℕ
  pub texts : AreTexts o done front
  pub nodes : ℕ
  pub closed : AreClosed o budget done nodes
  pub rest : List ℕ
  pub next : (rest ≡ []) ⊎ ((n : ℕ) × IsClosed o budget (done + 1) n × (done + 1 ≤ obligation_count o) × IsPartText o (done + 1) rest)
  pub spelled : text ≡ front ++ rest
  pub few : done ≤ obligation_count o

-- the line behind the trees where they end
abbrev pub end_line : End → List ℕ
end_line (Behind count nodes) = end_text
end_line (Met i atoms) = []
end_line (Spent i) = []

-- the trees, and that line
pub record IsEndText (o : OutlineTable) (end : End) (text : List ℕ) : Type 0 where
  pub front : List ℕ
  pub texts : AreTexts o (closed_at end) front
  pub spelled : text ≡ front ++ end_line end

-- all but the literals of a workspace stays as it was
pub record IsTurned (k k' : Loading) (r r' : RegionTable) (w w' : WorkspaceTable) (l l' : LogTable) : Type 0 where
  pub loader : k' ≡ k
  pub region : r' ≡ r
  pub atoms : w'.atoms ≡ w.atoms
  pub clauses : w'.clauses ≡ w.clauses
  pub log : l' ≡ l
