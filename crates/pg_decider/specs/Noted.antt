-- The split rule clause by clause: what is found so far, and after one more clause.
use Rattle.std.specs.Prelude.{◌≡◌, ℕ, ◌<◌, ◌≤◌, nat_le, nat_lt, Bool, false, if◌then◌else◌, Option, None, List, [], ◌∷◌, length}
use Rattle.pg_region.specs.Literal.{Literal}
use Rattle.pg_region.specs.Region.{clause_at}
use Rattle.pg_decider.specs.Assignment.{Assignment}
use Rattle.pg_decider.specs.Split.{any_true, any_false, free_count, first_free}
use Rattle.pg_decider.specs.declared.split.Found.{Found}
use Rattle.pg_decider.specs.declared.split.Found.TheVariants.{Nothing, Untouched, Touched}

-- after a clause with a false literal and n literals without a value, the first of which is l: a tie keeps the earlier clause
abbrev pub better : Found → ℕ → Option Literal → Found
better Nothing n l = Touched n l
better (Untouched k) n l = Touched n l
better (Touched m k) n l = if nat_lt n m then Touched n l else Touched m k

-- after a clause without a false literal
abbrev pub or_first : Found → Option Literal → Found
or_first Nothing l = Untouched l
or_first (Untouched k) l = Untouched k
or_first (Touched m k) l = Touched m k

-- what is found after one more clause
abbrev pub noted : Assignment → Found → List Literal → Found
noted s f c = if any_true s c then f else (if any_false s c then better f (free_count s c) (first_free s c) else or_first f (first_free s c))

-- the split literal of what was found
abbrev pub picked : Found → Option Literal
picked Nothing = None
picked (Untouched l) = l
picked (Touched n l) = l

-- and of what is found after all clauses
abbrev pub run : Assignment → Found → List (List Literal) → Option Literal
run s f [] = picked f
run s f (c ∷ cs) = run s (noted s f c) cs

-- no later clause is better, since none has fewer than two literals without a value
abbrev pub least : Found → Bool
least Nothing = false
least (Untouched l) = false
least (Touched n l) = nat_le n 2

-- each clause without a true literal has two literals without a value
pub record AreLong (s : Assignment) (cs : List (List Literal)) : Type 0 where
  pub each : (k : ℕ) → k < length cs → any_true s (clause_at cs k) ≡ false → 2 ≤ free_count s (clause_at cs k)
