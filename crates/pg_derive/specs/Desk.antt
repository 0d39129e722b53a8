-- What trees are checked with.
use Rattle.std.specs.Prelude.{◌≡◌, ℕ, ◌≤◌}
use Rattle.pg_region.specs.Region.{RegionTable}
use Rattle.pg_region.specs.Sink.{sink_of}
use Rattle.pg_outline.specs.Outline.{OutlineTable}
use Rattle.pg_layers.specs.Layers.{Loading, left}
use Rattle.pg_layers.specs.Needs.{enough_words, enough_spans, IsMostAtoms}

-- On the region lies what was loaded last. There is room for each obligation of the outline in the region, and for its atoms on the trail.
pub record IsSet (o : OutlineTable) (k : Loading) (r : RegionTable) (atoms : ℕ) : Type 0 where
  pub outline : k.outline ≡ o
  pub laid : r.clauses ≡ left k
  pub words : enough_words ≤ (sink_of r).capacity.words
  pub spans : enough_spans ≤ (sink_of r).capacity.spans
  pub most : IsMostAtoms o atoms
