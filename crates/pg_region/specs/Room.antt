-- What a region keeps of its words and its ends.
use Rattle.std.specs.Prelude.{ℕ, ◌<◌, ◌≤◌, ◌^◌, List, length}
use Rattle.pg_region.specs.Literal.{Literal}
use Rattle.pg_region.specs.Pieces.{AreEnds}

pub record IsRegion (words : List Literal) (ends : List ℕ) (word_room span_room : ℕ) : Type 0 where
  pub pieces_end : AreEnds 0 ends (length words)
  pub words_fit : length words ≤ word_room
  pub ends_fit : length ends ≤ span_room
  pub few_words : word_room < 2 ^ 32
  pub few_spans : span_room < 2 ^ 32
