-- What a fetch says of the bytes that a room tells of a name, `None` where it tells nothing.
use Rattle.std.specs.Prelude.{◌≡◌, ◌<◌, ℕ, List, length, Option, IfSome}

-- these are the name's bytes, where they are told
abbrev pub IsTold : Option (List ℕ) → List ℕ → Type 0
IsTold told bytes = IfSome told (λ all. bytes ≡ all)

-- the name's bytes, where they are told, are more than the limit
abbrev pub IsTooLong : Option (List ℕ) → ℕ → Type 0
IsTooLong told limit = IfSome told (λ all. limit < length all)
