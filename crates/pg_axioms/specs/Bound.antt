-- How many clauses the axioms of a side have.
use Rattle.std.specs.Prelude.{◌≡◌, ℕ, length}
use Rattle.pg_assertion.specs.declared.layout.Side.{Side}
use Rattle.pg_assertion.specs.Layout.{Sizes}
use Rattle.pg_region.specs.Pieces.{total}
use Rattle.pg_tables.specs.Bound.{AreWithin, AreFew, largest}
use Rattle.pg_axioms.specs.Axioms.{axioms}

-- the most clauses of a side, and the most literals in all of them together, in either version of the language
abbrev pub most_axioms_1 : ℕ
most_axioms_1 = 12514

abbrev pub most_axiom_literals_1 : ℕ
most_axiom_literals_1 = 37264

abbrev pub most_axioms_2 : ℕ
most_axioms_2 = 46960

abbrev pub most_axiom_literals_2 : ℕ
most_axiom_literals_2 = 139136

-- no side has more, and one with as many values, scalars, locations and threads as there may be has as many
abbrev pub HasAtMost : ℕ → ℕ → ℕ → Type 0
HasAtMost version clauses literals = (l : Sizes) (side : Side) → AreWithin l (largest version) → AreFew (axioms l side) clauses literals

abbrev pub LargestHas : ℕ → ℕ → ℕ → Type 0
LargestHas version clauses literals =
    (side : Side) → (length (axioms (largest version) side) ≡ clauses) × (total (axioms (largest version) side) ≡ literals)

-- one thread, one location, two values and no scalar
abbrev pub smallest : Sizes
smallest = record { domain = 2; scalars = 0; locations = 1; threads = 1 }

abbrev pub SmallestHas : ℕ → Type 0
SmallestHas clauses = (side : Side) → length (axioms smallest side) ≡ clauses
