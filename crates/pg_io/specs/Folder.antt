-- What is known of a real file system: counts alone.
use Rattle.std.specs.Prelude.{ℕ}

-- the faults of all names together, and the bytes read
pub record Folder : Type 0 where
  pub faults : ℕ
  pub taken : ℕ
