-- The limits of tokens.
use Rattle.std.specs.Prelude.{ℕ, ◌^◌}

-- the most bytes of a word
abbrev pub longest_word : ℕ
longest_word = 32

-- a number is below this one
abbrev pub number_bound : ℕ
number_bound = 2 ^ 32
