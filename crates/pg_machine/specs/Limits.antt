-- The limits of a state.
use Rattle.std.specs.Prelude.{ℕ}

-- how many messages a state may have
abbrev pub most_messages : ℕ
most_messages = 65535
