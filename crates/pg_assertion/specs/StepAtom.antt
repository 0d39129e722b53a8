-- The atoms that a step of a program is judged by, and their numbers: an atom before the step, the same after it, and what
-- the step itself does.
use Rattle.std.specs.Prelude.{◌≡◌, ℕ, ◌+◌, ◌*◌, ◌<◌, ◌≤◌}
use Rattle.pg_assertion.specs.Layout.{Sizes, IsAtom, atoms, number_on}
use Rattle.pg_assertion.specs.declared.step_atom.StepAtom.{StepAtom}
use Rattle.pg_assertion.specs.declared.step_atom.StepAtom.TheVariants.{On, Value, Expected, Success, Taken}

-- The arguments of an atom of a step are in range.
abbrev pub IsStepAtom : Sizes → StepAtom → Type 0
IsStepAtom l (On a side) = IsAtom l a
IsStepAtom l (Value v) = v < l.domain
IsStepAtom l (Expected v) = v < l.domain
IsStepAtom l Success = Unit {0}
IsStepAtom l Taken = Unit {0}

-- The numbers go on from those of the two sides.
abbrev pub step_number : Sizes → StepAtom → ℕ
step_number l (On a side) = number_on l a side
step_number l (Value v) = 2 * atoms l + 1 + v
step_number l (Expected v) = 2 * atoms l + l.domain + 1 + v
step_number l Success = 2 * atoms l + 2 * l.domain + 1
step_number l Taken = 2 * atoms l + 2 * l.domain + 2

-- How many atoms a step has.
abbrev pub step_atoms : Sizes → ℕ
step_atoms l = 2 * atoms l + 2 * l.domain + 2

-- No two atoms of a step have one number.
abbrev pub StepNumbersTellAtomsApart : Type 0
StepNumbersTellAtomsApart =
    (l : Sizes) (a b : StepAtom) → IsStepAtom l a → IsStepAtom l b → step_number l a ≡ step_number l b → a ≡ b

-- The number of an atom of a step is one of 1 to their count, and each of these is the number of an atom.
abbrev pub StepNumbersHaveNoGap : Type 0
StepNumbersHaveNoGap =
    ((l : Sizes) (a : StepAtom) → IsStepAtom l a → (1 ≤ step_number l a) × (step_number l a ≤ step_atoms l))
    × ((l : Sizes) (n : ℕ) → 1 ≤ n → n ≤ step_atoms l → (a : StepAtom) × IsStepAtom l a × (step_number l a ≡ n))
