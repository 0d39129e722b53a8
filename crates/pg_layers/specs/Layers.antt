-- What a loader lays on a region, from below: the axioms of both sides, the rules of a step, and the top part of one obligation.
use Rattle.std.specs.Prelude.{◌≡◌, ◌⊎◌, ℕ, ◌+◌, ◌<◌, ◌≤◌, List, [], ◌++◌, Option, Some, None, length}
use Rattle.pg_program.specs.declared.point.Step.{Step}
use Rattle.pg_assertion.specs.declared.layout.Side.TheVariants.{Before, After}
use Rattle.pg_outline.specs.Outline.{OutlineTable}
use Rattle.pg_region.specs.Literal.{Literal}
use Rattle.pg_region.specs.Region.{RegionTable}
use Rattle.pg_region.specs.Sink.{sink_of}
use Rattle.pg_region.specs.Range.{listed, Fits}
use Rattle.pg_region.specs.declared.range.ClauseRange.{ClauseRange}
use Rattle.pg_region.specs.declared.range.Loaded.{Loaded}
use Rattle.pg_obligations.specs.declared.obligation.Obligation.{Obligation}
use Rattle.pg_obligations.specs.Follow.{axioms_of}
use Rattle.pg_layers.specs.Clauses.{layout_of, rules_of, by_numbers, top_of, entailment_of, obligation_clauses, obligation_atoms}
use Rattle.pg_layers.specs.Members.{step_in}
use Rattle.pg_layers.specs.Needs.{enough_words, enough_spans}

-- ---- the layers

abbrev pub side_axioms : OutlineTable → List (List Literal) × List (List Literal)
side_axioms o = (by_numbers (layout_of o) (axioms_of o.program Before), by_numbers (layout_of o) (axioms_of o.program After))

abbrev pub base_of : OutlineTable → List (List Literal)
base_of o = (side_axioms o).0 ++ (side_axioms o).1

-- the rules of a step, and none without a step
abbrev pub rules_if : OutlineTable → Option Step → List (List Literal)
rules_if o None = []
rules_if o (Some step) = by_numbers (layout_of o) (rules_of o.program step)

abbrev pub top_for : OutlineTable → Obligation → List (List Literal)
top_for o ob = top_of (layout_of o) (entailment_of o ob)

-- What a contract sees of a loader: its outline, the obligation that it loaded last, if there is one, and the step of the last
-- one with a step.
pub record Loading : Type 0 where
  pub outline : OutlineTable
  pub ruled : Option Step
  pub last : Option Obligation

-- the clauses that its last load left, and none before the first
abbrev pub left_by : OutlineTable → Option Step → Option Obligation → List (List Literal)
left_by o step None = []
left_by o step (Some ob) = base_of o ++ (rules_if o step ++ top_for o ob)

abbrev pub left : Loading → List (List Literal)
left k = left_by k.outline k.ruled k.last

-- a step, and where there is none the step before it
abbrev pub or_before : Option Step → Option Step → Option Step
or_before (Some step) before = Some step
or_before None before = before

abbrev pub loaded_with : Loading → Obligation → Loading
loaded_with k ob = record { outline = k.outline; ruled = or_before (step_in ob) k.ruled; last = Some ob }

-- ---- a load

-- how many clauses the axioms are that a load has to push: all of them in the first one
abbrev pub axioms_left : OutlineTable → Option Obligation → ℕ
axioms_left o None = length (base_of o)
axioms_left o (Some ob) = 0

-- where there is a step, its rules lie right behind the axioms, and the top part right behind them
abbrev pub HasPlaces : Option Step → ClauseRange → Type 0
HasPlaces None r = Unit {0}
HasPlaces (Some step) r = (r.rules_from ≡ r.axioms_to) × (r.top_from ≡ r.rules_to)

-- What loading an obligation leaves of a loader and a region. It pushes the top part, the rules unless those of the same step lie
-- there, and in the first load the axioms.
pub record IsLoaded (k : Loading) (ob : Obligation) (old new : RegionTable) (loaded : Loaded) : Type 0 where
  pub laid : new.clauses ≡ left (loaded_with k ob)
  pub clauses : listed new.clauses loaded.range ≡ obligation_clauses k.outline ob
  pub atoms : loaded.atoms ≡ obligation_atoms k.outline ob
  pub fits : Fits loaded new.clauses
  pub axioms_from : loaded.range.axioms_from ≡ 0
  pub top_to : loaded.range.top_to ≡ length new.clauses
  pub places : HasPlaces (step_in ob) loaded.range
  pub capacity : (sink_of new).capacity ≡ (sink_of old).capacity
  pub pushes : new.pushes ≤ old.pushes + (length (top_for k.outline ob) + (length (rules_if k.outline (step_in ob)) + axioms_left k.outline k.last))
  pub pushes_same : step_in ob ≡ k.ruled → new.pushes ≤ old.pushes + (length (top_for k.outline ob) + axioms_left k.outline k.last)

-- the region's words or spans, the spare ones and those of its clauses together, are fewer than is enough
abbrev pub HasNoRoom : RegionTable → Type 0
HasNoRoom r = ((sink_of r).capacity.words < enough_words) ⊎ ((sink_of r).capacity.spans < enough_spans)
