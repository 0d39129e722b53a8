-- What a crash may leave.
use Rattle.std.specs.Prelude.{◌≡◌, ℕ, suc, ◌<◌, max, Bool, true, List, [], ◌∷◌, length, slice_index}
use Rattle.pg_assertion.specs.declared.atom.CrashAtom.{CrashAtom}
use Rattle.pg_assertion.specs.Formula.{Plain}
use Rattle.pg_machine.specs.Memory.{Memory, line_of, value_at, reaches}
use Rattle.pg_machine.specs.State.{State, greatest_on, committed}
use Rattle.pg_views.specs.Formula.{holds_crash}

-- Where a crash leaves the locations at these positions, the line l is cut at the greatest of them that stand on l, and at no
-- less than what was committed to l: a line is written back as a whole.
abbrev pub cut : State → List ℕ → ℕ → ℕ
cut s ps l = max (committed s l) (greatest_on s.memory.lines ps l)

-- Then x survives: its position is one of x, and no message to x stands after it up to the cut of its line.
abbrev pub survives : State → List ℕ → ℕ → Bool
survives s ps x = reaches s.memory.messages x 0 (cut s ps (line_of s.memory x)) (slice_index ps x)

-- A crash leaves, of each location, the value at a position, so that each survives. The choices for the lines are independent.
pub record IsCrashChoice (s : State) (ps : List ℕ) : Type 0 where
  pub size : length ps ≡ length s.memory.initial
  pub positions : (x : ℕ) → x < length s.memory.initial → survives s ps x ≡ true

-- the values at positions of the locations from x on
abbrev pub values_at : Memory → ℕ → List ℕ → List ℕ
values_at m x [] = []
values_at m x (p ∷ ps) = value_at m x p ∷ values_at m (suc x) ps

-- the memory that a crash leaves: one value of each location
abbrev pub crash_memory : State → List ℕ → List ℕ
crash_memory s ps = values_at s.memory 0 ps

-- the crash formula holds of each memory that a crash in the state may leave, with the scalars as they stand
abbrev pub HoldsAtCrash : State → Plain CrashAtom → Type 0
HoldsAtCrash s f = (ps : List ℕ) → IsCrashChoice s ps → holds_crash (crash_memory s ps) s.scalars f ≡ true
