-- Faults: why positions are no crash choice of a state. Each fault stands where its condition holds and no earlier one does.
use Rattle.std.specs.Prelude.{◌≡◌, ◌≢◌, ℕ, ◌<◌, true, false, List, length, slice_index}
use Rattle.pg_machine.specs.Memory.{line_of, is_at}
use Rattle.pg_machine.specs.State.{State}
use Rattle.pg_machine.specs.Fault.{IsLeastHiding}
use Rattle.pg_views.specs.declared.fault.CrashFault.{CrashFault}
use Rattle.pg_views.specs.declared.fault.CrashFault.TheVariants.{WrongLength, NotAPosition, Overwritten}
use Rattle.pg_views.specs.Crash.{cut, survives}

-- The faults of the position for x among these: it is none of x, or a later message to x stands up to the cut of its line. The
-- cut is taken by all of the positions, also by those that have a fault.
abbrev pub PositionFault : State → List ℕ → ℕ → CrashFault → Type 0
PositionFault s ps x (NotAPosition y q) = (y ≡ x) × (q ≡ slice_index ps x) × (is_at s.memory.messages x q ≡ false)
PositionFault s ps x (Overwritten y q later) =
    (y ≡ x) × (q ≡ slice_index ps x) × (is_at s.memory.messages x q ≡ true)
    × IsLeastHiding s.memory.messages x q (cut s ps (line_of s.memory x)) later
PositionFault s ps x fault = ⊥

-- the first location whose position does not survive has this fault
pub record IsFirstFault (s : State) (ps : List ℕ) (fault : CrashFault) : Type 0 where
  pub location : ℕ
  pub declared : location < length s.memory.initial
  pub before : (x : ℕ) → x < location → survives s ps x ≡ true
  pub here : PositionFault s ps location fault

-- The fault of positions. Want of memory is none: it comes after all of them.
abbrev pub IsCrashFault : State → List ℕ → CrashFault → Type 0
IsCrashFault s ps (WrongLength given wanted) =
    (given ≡ length ps) × (wanted ≡ length s.memory.initial) × (length ps ≢ length s.memory.initial)
IsCrashFault s ps fault = (length ps ≡ length s.memory.initial) × IsFirstFault s ps fault
