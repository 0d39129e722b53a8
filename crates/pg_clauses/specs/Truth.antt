-- What the definitional clauses of a formula say of its truth.
use Rattle.std.specs.Prelude.{◌≡◌, ℕ, ◌<◌, Bool, true, not, List, if◌then◌else◌}
use Rattle.std.specs.List.{list_any, list_all}
use Rattle.pg_assertion.specs.Formula.{Plain, AllAtoms}
use Rattle.pg_region.specs.Literal.{Literal}
use Rattle.pg_views.specs.Formula.{true_in}
use Rattle.pg_clauses.specs.Definitional.{literal, clauses}

-- the truth of a literal, of a clause, which has a true literal, and of clauses, each of which is true
abbrev pub literal_true : (ℕ → Bool) → Literal → Bool
literal_true val l = if l.positive then val l.atom else not (val l.atom)

abbrev pub clause_true : (ℕ → Bool) → List Literal → Bool
clause_true val c = list_any (literal_true val) c

abbrev pub all_true : (ℕ → Bool) → List (List Literal) → Bool
all_true val cs = list_all (clause_true val) cs

-- Where the clauses are true, the formula's literal is true just where the formula is.
abbrev pub DefinitionsTellTheTruth : Type 0
DefinitionsTellTheTruth =
    (n : ℕ) (f : Plain ℕ) (val : ℕ → Bool) → all_true val (clauses n f) ≡ true → literal_true val (literal n f) ≡ true_in val f

-- a valuation that is another one below the new atoms, makes the clauses true, and gives the literal the formula's truth
pub record Extends (n : ℕ) (f : Plain ℕ) (val more : ℕ → Bool) : Type 0 where
  pub same : (k : ℕ) → k < n → more k ≡ val k
  pub meets : all_true more (clauses n f) ≡ true
  pub told : literal_true more (literal n f) ≡ true_in val f

-- There is one for each valuation.
abbrev pub DefinitionsCanBeMet : Type 0
DefinitionsCanBeMet =
    (n : ℕ) (f : Plain ℕ) (val : ℕ → Bool) → AllAtoms (λ a. a < n) f → (more : ℕ → Bool) × Extends n f val more
