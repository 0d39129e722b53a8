-- How many brackets and `!` may still be open, one level further in.
use Rattle.std.specs.Prelude.{ℕ, zero, suc, ◌+◌, Option, Some, None}

abbrev pub above : Option ℕ → ℕ
above None = 0
above (Some n) = n + 1

-- one fewer, if there is one
abbrev pub below : ℕ → Option ℕ
below zero = None
below (suc n) = Some n
