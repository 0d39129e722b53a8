-- What is kept from obligation to obligation.
use Rattle.std.specs.Prelude.{◌≡◌, ℕ, ◌*◌, ◌≤◌, List}
use Rattle.pg_region.specs.Literal.{Literal}
use Rattle.pg_region.specs.Region.{RegionTable}
use Rattle.pg_region.specs.Sink.{sink_of}
use Rattle.pg_region.specs.Range.{listed, Fits}
use Rattle.pg_region.specs.declared.range.Loaded.{Loaded}
use Rattle.pg_decider.specs.Assignment.{Assignment}
use Rattle.pg_decider.specs.Held.{WorkspaceTable, LogTable}
use Rattle.pg_outline.specs.Outline.{OutlineTable}
use Rattle.pg_layers.specs.Clauses.{obligation, obligation_clauses, obligation_atoms}
use Rattle.pg_layers.specs.Layers.{Loading, left}
use Rattle.pg_layers.specs.Needs.{enough_words, enough_spans, IsMostAtoms}
use Rattle.pg_judge.specs.Limits.{most_budget}
use Rattle.pg_judge.specs.Outcome.{AreClosed, truths_of, IsOutcome, accepted, rejected, spent}
use Rattle.pg_judge.specs.declared.bench.End.{End}
use Rattle.pg_judge.specs.declared.bench.End.TheVariants.{Behind, Met, Spent}

-- On the region lies what was loaded last. There is room for each obligation of the outline, in the region, in the workspace, and in
-- the log, which has room for so many nodes.
pub record IsReady (o : OutlineTable) (nodes : ℕ) (k : Loading) (r : RegionTable) (w : WorkspaceTable) (l : LogTable) : Type 0 where
  pub outline : k.outline ≡ o
  pub laid : r.clauses ≡ left k
  pub words : enough_words ≤ (sink_of r).capacity.words
  pub spans : (sink_of r).capacity.spans ≡ enough_spans
  pub atoms : IsMostAtoms o w.atoms
  pub clauses : enough_spans ≤ w.clauses
  pub log : nodes ≤ l.room

-- the clauses of obligation i lie where they were loaded
pub record IsAt (o : OutlineTable) (i : ℕ) (list : List (List Literal)) (loaded : Loaded) : Type 0 where
  pub fits : Fits loaded list
  pub clauses : listed list loaded.range ≡ obligation_clauses o (obligation o i)
  pub atoms : loaded.atoms ≡ obligation_atoms o (obligation o i)

-- The first k obligations are closed, and the nodes of their trees are few enough to be counted.
pub record AreDone (o : OutlineTable) (budget k nodes : ℕ) : Type 0 where
  pub closed : AreClosed o budget k nodes
  pub few : nodes ≤ most_budget * k

-- Where the obligations end that are closed. The model of one that has a model was found last.
abbrev pub IsEnd : OutlineTable → ℕ → Assignment → End → Type 0
IsEnd o budget found (Behind count nodes) = IsOutcome o budget (accepted count nodes)
IsEnd o budget found (Met i atoms) = IsOutcome o budget (rejected i (truths_of atoms found))
IsEnd o budget found (Spent i) = IsOutcome o budget (spent i)

-- the atoms of an obligation that has a model are no more than n
abbrev pub HasFewAtoms : ℕ → End → Type 0
HasFewAtoms n (Behind count nodes) = Unit {0}
HasFewAtoms n (Met i atoms) = atoms ≤ n
HasFewAtoms n (Spent i) = Unit {0}
