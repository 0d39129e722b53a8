-- The sink in memory: what it holds.
use Rattle.std.specs.Prelude.{ℕ, List}

-- a memory sink: the bytes written, the numbers of the calls that are to fail, the calls so far,
-- and the calls that failed
pub record Page : Type 0 where
  pub bytes : List ℕ
  pub failing : List ℕ
  pub calls : ℕ
  pub failures : ℕ
