-- What is left on a sink by a call that puts a text piece by piece. `old` and `new` are what the sink tells that it has written,
-- `before` and `now` its counts of faults.
use Rattle.std.specs.Prelude.{◌≡◌, ℕ, List, Option, Result, Ok, Err}
use Rattle.pg_io.specs.Counts.{Rose}
use Rattle.pg_io.specs.Written.{appended, AppendsPart}
use Rattle.pg_derive.specs.declared.fault.DeriveFault.{DeriveFault}
use Rattle.pg_derive.specs.declared.fault.DeriveFault.TheVariants.{Write, NoMemory}

-- a text of this kind was appended
pub record PutsText (IsText : List ℕ → Type 0) (old new : Option (List ℕ)) : Type 0 where
  pub text : List ℕ
  pub is : IsText text
  pub written : new ≡ appended old text

-- a prefix of a text of this kind was appended
pub record PutsPart (IsText : List ℕ → Type 0) (old new : Option (List ℕ)) : Type 0 where
  pub text : List ℕ
  pub is : IsText text
  pub part : AppendsPart old new text

-- a whole text for the value that is answered; on a fault a prefix of a text that is begun, where the sink failed or memory ran out
abbrev pub Puts : {T : Type 0} → (T → List ℕ → Type 0) → (List ℕ → Type 0) → Result T DeriveFault → Option (List ℕ) → Option (List ℕ) → ℕ → ℕ → Type 0
Puts IsWhole IsBegun (Ok v) old new before now = PutsText (IsWhole v) old new
Puts IsWhole IsBegun (Err Write) old new before now = PutsPart IsBegun old new × Rose before now
Puts IsWhole IsBegun (Err NoMemory) old new before now = PutsPart IsBegun old new
