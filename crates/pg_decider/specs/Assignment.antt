-- Assignments, what clauses say in them, and the unit closure as a least set.
use Rattle.std.specs.Prelude.{◌≡◌, ℕ, ◌<◌, Bool, true, false, ◌||◌, List, [], ◌∷◌, length}
use Rattle.pg_region.specs.Literal.{Literal, same, negated}
use Rattle.pg_region.specs.Region.{clause_at}

-- a set of literals, which are true in it; a literal is false where its negation is true
abbrev pub Assignment : Type 0
Assignment = Literal → Bool

-- l stands in a clause, or among the literals that were added so far. So `on ls` is the assignment of these literals.
abbrev pub on : List Literal → Literal → Bool
on [] l = false
on (m ∷ ms) l = same m l || on ms l

-- one more literal
abbrev pub added : Literal → Assignment → Assignment
added l s = λ m. same l m || s m

abbrev pub Within : Assignment → Assignment → Type 0
Within s t = (l : Literal) → s l ≡ true → t l ≡ true

-- A clause forces its literal l where each of its other literals is false. A literal that stands twice is one.
pub record Forces (s : Assignment) (c : List Literal) (l : Literal) : Type 0 where
  pub has : on c l ≡ true
  pub others : (m : Literal) → on c m ≡ true → same m l ≡ false → s (negated m) ≡ true

-- l has no value, and c forces it
pub record IsUnit (s : Assignment) (c : List Literal) (l : Literal) : Type 0 where
  pub free : s l ≡ false
  pub unset : s (negated l) ≡ false
  pub forced : Forces s c l

-- each literal of a clause is false
pub record AreFalse (s : Assignment) (c : List Literal) : Type 0 where
  pub each : (m : Literal) → on c m ≡ true → s (negated m) ≡ true

-- a conflict: one of the clauses is all false
pub record HasConflict (cs : List (List Literal)) (s : Assignment) : Type 0 where
  pub place : ℕ
  pub within : place < length cs
  pub false_there : AreFalse s (clause_at cs place)

-- what a clause forces is in the set
pub record IsClosed (cs : List (List Literal)) (s : Assignment) : Type 0 where
  pub each : (k : ℕ) (l : Literal) → k < length cs → Forces s (clause_at cs k) l → s l ≡ true

-- u is the unit closure of s: the least closed set that contains it
pub record IsClosure (cs : List (List Literal)) (s u : Assignment) : Type 0 where
  pub above : Within s u
  pub closed : IsClosed cs u
  pub least : (t : Assignment) → Within s t → IsClosed cs t → Within u t
