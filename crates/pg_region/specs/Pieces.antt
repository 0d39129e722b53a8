-- A list in pieces, by the places where they end.
use Rattle.std.specs.Prelude.{◌≡◌, ℕ, ◌+◌, ◌≤◌, List, [], ◌∷◌, length, slice_range}

-- the pieces of ws that end at these places, the first of which begins at `from`
abbrev pub pieces : {A : Type 0} → List A → ℕ → List ℕ → List (List A)
pieces ws from [] = []
pieces ws from (e ∷ es) = slice_range ws from e ∷ pieces ws e es

-- places that rise from `from` to n
abbrev pub AreEnds : ℕ → List ℕ → ℕ → Type 0
AreEnds from [] n = from ≡ n
AreEnds from (e ∷ es) n = (from ≤ e) × AreEnds e es n

-- the items of lists together
abbrev pub total : {A : Type 0} → List (List A) → ℕ
total [] = 0
total (xs ∷ xss) = length xs + total xss
