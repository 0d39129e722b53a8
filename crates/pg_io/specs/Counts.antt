-- Counts of faults and of bytes. A count is kept in 64 bits and stands still at the largest number
-- there, so a count that stands there is taken to have risen by any number.
use Rattle.std.specs.Prelude.{ℕ, ◌+◌, ◌-◌, ◌^◌, ◌≤◌, min}

-- the count after it rose by n, which stops at 2^64 - 1
abbrev pub raised : ℕ → ℕ → ℕ
raised n count = min (count + n) (2 ^ 64 - 1)

-- a count rose by n at least
abbrev pub RoseBy : ℕ → ℕ → ℕ → Type 0
RoseBy n before now = raised n before ≤ now

-- a count rose
abbrev pub Rose : ℕ → ℕ → Type 0
Rose before now = RoseBy 1 before now
