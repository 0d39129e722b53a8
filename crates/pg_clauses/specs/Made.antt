-- What giving the definitional clauses of a formula to a sink answers.
use Rattle.std.specs.Prelude.{◌≡◌, ℕ, ◌<◌, ◌≤◌, ◌^◌, Bool, List, Result, MatchResult}
use Rattle.pg_assertion.specs.Formula.{Plain, top, bottom, atom, neg, both, either, implies, AllAtoms}
use Rattle.pg_region.specs.Literal.{Literal}
use Rattle.pg_region.specs.Sink.{Capacity, SinkView, Appended, Stopped}
use Rattle.pg_clauses.specs.Definitional.{after, literal, clauses}
use Rattle.pg_clauses.specs.declared.node.Made.{Made}

-- a number that an atom may have
abbrev pub IsNumber : ℕ → Type 0
IsNumber n = (1 ≤ n) × (n < 2 ^ 31)

-- each atom of the formula has a number below n
abbrev pub AreBelow : ℕ → Plain ℕ → Type 0
AreBelow n f = AllAtoms (λ a. (1 ≤ a) × (a < n)) f

-- The literal is told and the clauses are behind the others, and the next new atom is behind those that were taken. After a fault
-- the clauses before the one that was not taken are behind the others, and no atom was taken.
pub record IsClausified (old new : SinkView) (n next : ℕ) (f : Plain ℕ) (l : Literal) : Type 0 where
  pub told : l ≡ literal n f
  pub then : next ≡ after n f
  pub appended : Appended old new (clauses n f)

pub record IsLeft (takes : List (List Literal) → Capacity → List Literal → Bool) (old new : SinkView) (n next : ℕ) (f : Plain ℕ) : Type 0 where
  pub kept : next ≡ n
  pub stopped : Stopped takes old new (clauses n f)

abbrev pub Clausifies : {F : Type 0} → (List (List Literal) → Capacity → List Literal → Bool) → Result Literal F → SinkView → SinkView → ℕ → ℕ → Plain ℕ → Type 0
Clausifies takes r old new n next f = MatchResult r (λ l. IsClausified old new n next f l) (λ _. IsLeft takes old new n next f)

-- ---- node by node

-- the numbers of a formula's own atoms, and those that it takes
abbrev pub Fits : ℕ → Plain ℕ → Type 0
Fits n top = IsNumber n
Fits n bottom = IsNumber n
Fits n (atom a) = IsNumber a
Fits n (neg f) = Fits n f
Fits n (both f g) = Fits n f × (Fits (after n f) g × IsNumber (after (after n f) g))
Fits n (either f g) = Fits n f × (Fits (after n f) g × IsNumber (after (after n f) g))
Fits n (implies f g) = Fits n f × (Fits (after n f) g × IsNumber (after (after n f) g))

-- this literal is told with the next new atom, and these clauses are behind the others
pub record IsMade (old new : SinkView) (l : Literal) (next : ℕ) (cs : List (List Literal)) (m : Made) : Type 0 where
  pub told : m.literal ≡ l
  pub then : m.next ≡ next
  pub appended : Appended old new cs

abbrev pub Makes : {F : Type 0} → (List (List Literal) → Capacity → List Literal → Bool) → Result Made F → SinkView → SinkView → Literal → ℕ → List (List Literal) → Type 0
Makes takes r old new l next cs = MatchResult r (λ m. IsMade old new l next cs m) (λ _. Stopped takes old new cs)
