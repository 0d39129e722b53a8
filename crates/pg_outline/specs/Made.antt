-- What making an outline answers.
use Rattle.std.specs.Prelude.{◌≡◌, ◌≢◌, None, Some, Result, Ok, Err}
use Rattle.pg_outline.specs.declared.fault.OutlineFault.{OutlineFault}
use Rattle.pg_outline.specs.declared.fault.OutlineFault.TheVariants.{NoMemory}
use Rattle.pg_outline.specs.Outline.{OutlineTable, IsDraft, draft_of}
use Rattle.pg_outline.specs.Fault.{Fault, first_fault}

-- what is made of a part is that part, where it has no fault; and else its first fault is answered, unless memory runs out
abbrev pub Makes : {V R : Type 0} → (V → R) → R → Fault → Result V OutlineFault → Type 0
Makes part r fault (Ok v) = (part v ≡ r) × (fault ≡ None)
Makes part r fault (Err e) = e ≢ NoMemory → fault ≡ Some e

-- a check of a part, which makes nothing
abbrev pub Checks : {V : Type 0} → Fault → Result V OutlineFault → Type 0
Checks fault (Ok v) = fault ≡ None
Checks fault (Err e) = e ≢ NoMemory → fault ≡ Some e

-- an outline: it could be made of its parts
pub record IsOutline (o : OutlineTable) : Type 0 where
  pub draft : IsDraft (draft_of o)
  pub faultless : first_fault (draft_of o) ≡ None
