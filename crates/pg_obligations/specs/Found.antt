-- What is found at a place of a part of the list of obligations.
use Rattle.std.specs.Prelude.{◌≡◌, ℕ, ◌+◌, List, length, Some, slice_get}
use Rattle.pg_obligations.specs.declared.obligation.Obligation.{Obligation}
use Rattle.pg_obligations.specs.declared.place.Found.{Found}
use Rattle.pg_obligations.specs.declared.place.Found.TheVariants.{Here, Beyond}

-- the obligation at place n, from 0, or by how much the place is behind the part's end
abbrev pub Finds : List Obligation → ℕ → Found → Type 0
Finds obs n (Here ob) = slice_get obs n ≡ Some ob
Finds obs n (Beyond m) = n ≡ length obs + m
