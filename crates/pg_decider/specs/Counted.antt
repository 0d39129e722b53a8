-- What bounds the looks of one node: how many literals of the clauses are false.
use Rattle.std.specs.Prelude.{ℕ, ◌+◌, List, [], ◌∷◌}
use Rattle.pg_region.specs.Literal.{Literal, same, negated}
use Rattle.pg_decider.specs.Assignment.{Assignment}
use Rattle.pg_decider.specs.Split.{bit}

-- the literals of a clause that are false, and those of all clauses
abbrev pub false_in : Assignment → List Literal → ℕ
false_in s [] = 0
false_in s (m ∷ c) = bit (s (negated m)) + false_in s c

abbrev pub false_count : Assignment → List (List Literal) → ℕ
false_count s [] = 0
false_count s (c ∷ cs) = false_in s c + false_count s cs

-- how often a literal stands in a clause, and in all clauses
abbrev pub met_of : Literal → List Literal → ℕ
met_of f [] = 0
met_of f (m ∷ c) = bit (same f m) + met_of f c

abbrev pub met_in : Literal → List (List Literal) → ℕ
met_in f [] = 0
met_in f (c ∷ cs) = met_of f c + met_in f cs
