-- The limit of a made outline.
use Rattle.std.specs.Prelude.{ℕ}

-- how many statements each of its threads may have
abbrev pub most_statements : ℕ
most_statements = 15
