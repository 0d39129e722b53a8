-- What the parts of a load leave.
use Rattle.std.specs.Prelude.{◌≡◌, ℕ, ◌+◌, ◌≤◌, List, [], ◌++◌, Option, Some, None, length}
use Rattle.pg_program.specs.declared.point.Step.{Step}
use Rattle.pg_outline.specs.Outline.{OutlineTable}
use Rattle.pg_region.specs.Literal.{Literal}
use Rattle.pg_region.specs.Pieces.{total}
use Rattle.pg_region.specs.Region.{RegionTable}
use Rattle.pg_region.specs.Sink.{sink_of}
use Rattle.pg_region.specs.declared.range.ClauseRange.{ClauseRange}
use Rattle.pg_obligations.specs.declared.obligation.Obligation.{Obligation}
use Rattle.pg_assertion.specs.declared.layout.Side.{Side}
use Rattle.pg_tables.specs.Bound.{AreFew}
use Rattle.pg_tables.specs.Steps.{IsStepOf}
use Rattle.pg_axioms.specs.Bound.{most_axioms_2, most_axiom_literals_2}
use Rattle.pg_rules_access.specs.Access.{access}
use Rattle.pg_rules_access.specs.Bound.{most_access_rules_2, most_access_literals_2}
use Rattle.pg_rules_persist.specs.Persist.{persist}
use Rattle.pg_rules_persist.specs.Bound.{most_persist_2, most_persist_literals_2}
use Rattle.pg_obligations.specs.Follow.{axioms_of}
use Rattle.pg_layers.specs.Layers.{side_axioms, base_of, rules_if, top_for, or_before, axioms_left}
use Rattle.pg_layers.specs.Needs.{enough_words, enough_spans}
use Rattle.pg_layers.specs.declared.layers.Layers.{Layers}
use Rattle.pg_layers.specs.declared.layers.Laid.{Laid}

-- where the layers end: the axioms of the side before, those of both sides, and the rules
pub record AreMarks (o : OutlineTable) (k : Layers) : Type 0 where
  pub middle : k.middle ≡ length (side_axioms o).0
  pub base : k.base ≡ length (base_of o)
  pub base_to : k.base_to ≡ length (base_of o)
  pub rules : k.rules ≡ length (base_of o) + length (rules_if o k.ruled)
  pub rules_to : k.rules_to ≡ length (base_of o) + length (rules_if o k.ruled)

abbrev pub IsStepIf : OutlineTable → Option Step → Type 0
IsStepIf o None = Unit {0}
IsStepIf o (Some step) = IsStepOf o.program step

-- layers of an outline
pub record AreLayers (o : OutlineTable) (k : Layers) : Type 0 where
  pub step : IsStepIf o k.ruled
  pub marks : AreMarks o k

-- what a loader keeps of its last load, if there was one
abbrev pub AreKept : OutlineTable → Option Laid → Type 0
AreKept o None = Unit {0}
AreKept o (Some laid) = AreLayers o laid.layers

abbrev pub ruled_in : Option Laid → Option Step
ruled_in None = None
ruled_in (Some laid) = laid.layers.ruled

abbrev pub last_in : Option Laid → Option Obligation
last_in None = None
last_in (Some laid) = Some laid.last

-- the axioms and the rules lie there, and behind them this
pub record Lies (o : OutlineTable) (k : Layers) (rest list : List (List Literal)) : Type 0 where
  pub layers : AreLayers o k
  pub is : list ≡ base_of o ++ (rules_if o k.ruled ++ rest)

-- a region has enough room
pub record HasRoom (r : RegionTable) : Type 0 where
  pub words : enough_words ≤ (sink_of r).capacity.words
  pub spans : enough_spans ≤ (sink_of r).capacity.spans

-- these clauses fit in behind those of a region
pub record Fit (r : RegionTable) (cs : List (List Literal)) : Type 0 where
  pub words : total r.clauses + total cs ≤ (sink_of r).capacity.words
  pub spans : length r.clauses + length cs ≤ (sink_of r).capacity.spans

-- the axioms lie there, and no more was pushed than they are
pub record IsBased (o : OutlineTable) (laid : Option Laid) (k : Layers) (old new : RegionTable) : Type 0 where
  pub rest : List (List Literal)
  pub lies : Lies o k rest new.clauses
  pub ruled : k.ruled ≡ ruled_in laid
  pub capacity : (sink_of new).capacity ≡ (sink_of old).capacity
  pub pushes : new.pushes ≤ old.pushes + axioms_left o (last_in laid)

-- the rules of the step lie there, or there is no step; and nothing behind them
pub record IsRuled (o : OutlineTable) (step : Option Step) (k k' : Layers) (old new : RegionTable) : Type 0 where
  pub lies : Lies o k' [] new.clauses
  pub ruled : k'.ruled ≡ or_before step k.ruled
  pub capacity : (sink_of new).capacity ≡ (sink_of old).capacity
  pub pushes : new.pushes ≤ old.pushes + length (rules_if o step)
  pub pushes_same : step ≡ k.ruled → new.pushes ≤ old.pushes

-- the top part lies there
pub record IsTopped (o : OutlineTable) (ob : Obligation) (k : Layers) (old new : RegionTable) : Type 0 where
  pub lies : Lies o k (top_for o ob) new.clauses
  pub capacity : (sink_of new).capacity ≡ (sink_of old).capacity
  pub pushes : new.pushes ≤ old.pushes + length (top_for o ob)

-- where the parts of an obligation without a step and of one with a step lie
abbrev pub range_by : Layers → ℕ → Option Step → ClauseRange
range_by k top_to None =
    record { top_from = k.rules_to; top_to = top_to; rules_from = k.middle; rules_to = k.middle; axioms_from = 0; axioms_to = k.middle }
range_by k top_to (Some step) =
    record { top_from = k.rules_to; top_to = top_to; rules_from = k.base_to; rules_to = k.rules_to; axioms_from = 0; axioms_to = k.base_to }

-- how many clauses and literals the axioms of a side and the rules of a step have at most
pub record AreBounded (o : OutlineTable) : Type 0 where
  pub axioms : (side : Side) → AreFew (axioms_of o.program side) most_axioms_2 most_axiom_literals_2
  pub access : (step : Step) → IsStepOf o.program step → AreFew (access o.program step) most_access_rules_2 most_access_literals_2
  pub persist : (step : Step) → IsStepOf o.program step → AreFew (persist o.program step) most_persist_2 most_persist_literals_2
