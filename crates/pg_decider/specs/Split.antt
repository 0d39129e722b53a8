-- The rule by which a node splits. Of the clauses without a true literal it takes one with a false literal and the fewest
-- literals without a value, the first of these on a tie; else, where none has a false literal, the first clause without a true
-- literal. The split literal is the first literal without a value in that clause.
use Rattle.std.specs.Prelude.{◌≡◌, ℕ, ◌+◌, ◌<◌, nat_le, Bool, true, false, not, ◌&&◌, ◌||◌, if◌then◌else◌, Option, Some, None, List, [], ◌∷◌, length}
use Rattle.pg_region.specs.Literal.{Literal, negated}
use Rattle.pg_region.specs.Region.{clause_at}
use Rattle.pg_decider.specs.Assignment.{Assignment, on}

abbrev pub any_true : Assignment → List Literal → Bool
any_true s [] = false
any_true s (m ∷ c) = s m || any_true s c

abbrev pub any_false : Assignment → List Literal → Bool
any_false s [] = false
any_false s (m ∷ c) = s (negated m) || any_false s c

-- a literal without a value
abbrev pub free : Assignment → Literal → Bool
free s m = not (s m) && not (s (negated m))

-- a truth as a number
abbrev pub bit : Bool → ℕ
bit true = 1
bit false = 0

-- how many literals of a clause have no value; one that stands twice counts once, and opposite literals are two
abbrev pub free_count : Assignment → List Literal → ℕ
free_count s [] = 0
free_count s (m ∷ c) = bit (free s m && not (on c m)) + free_count s c

abbrev pub first_free : Assignment → List Literal → Option Literal
first_free s [] = None
first_free s (m ∷ c) = if free s m then Some m else first_free s c

-- the clauses without a true literal, and those of them that have a false one
abbrev pub open_clauses : Assignment → List (List Literal) → List (List Literal)
open_clauses s [] = []
open_clauses s (c ∷ cs) = if any_true s c then open_clauses s cs else (c ∷ open_clauses s cs)

abbrev pub touched : Assignment → List (List Literal) → List (List Literal)
touched s [] = []
touched s (c ∷ cs) = if any_false s c then (c ∷ touched s cs) else touched s cs

-- the clause with the fewest literals without a value, the first on a tie
abbrev pub fewer : Assignment → List Literal → Option (List Literal) → List Literal
fewer s c None = c
fewer s c (Some d) = if nat_le (free_count s c) (free_count s d) then c else d

abbrev pub fewest : Assignment → List (List Literal) → Option (List Literal)
fewest s [] = None
fewest s (c ∷ cs) = Some (fewer s c (fewest s cs))

abbrev pub first_clause : List (List Literal) → Option (List Literal)
first_clause [] = None
first_clause (c ∷ cs) = Some c

abbrev pub or_else : Option (List Literal) → Option (List Literal) → Option (List Literal)
or_else None o = o
or_else (Some c) o = Some c

abbrev pub split_clause : Assignment → List (List Literal) → Option (List Literal)
split_clause s cs = or_else (fewest s (touched s (open_clauses s cs))) (first_clause (open_clauses s cs))

abbrev pub free_in : Assignment → Option (List Literal) → Option Literal
free_in s None = None
free_in s (Some c) = first_free s c

abbrev pub split_literal : Assignment → List (List Literal) → Option Literal
split_literal s cs = free_in s (split_clause s cs)

-- each clause has a true literal
pub record AllMet (s : Assignment) (cs : List (List Literal)) : Type 0 where
  pub each : (k : ℕ) → k < length cs → any_true s (clause_at cs k) ≡ true
