-- What holds of outcomes.
use Rattle.std.specs.Prelude.{◌≡◌, ℕ, ◌≤◌, Bool, true, false, List, length, slice_index_or}
use Rattle.pg_program.specs.Limits.{most_scalars}
use Rattle.pg_machine.specs.State.{fresh}
use Rattle.pg_views.specs.Execution.{IsStart}
use Rattle.pg_clauses.specs.Truth.{all_true}
use Rattle.pg_outline.specs.Outline.{OutlineTable}
use Rattle.pg_outline.specs.Made.{IsOutline}
use Rattle.pg_obligations.specs.Follow.{Follows, AllFollow}
use Rattle.pg_obligations.specs.Safe.{IsSafe}
use Rattle.pg_layers.specs.Clauses.{entailment_of, obligation, obligation_clauses, rules_of}
use Rattle.pg_judge.specs.Outcome.{Outcome, IsOutcome, accepted, rejected, spent}

-- An outline has at most one outcome under a budget.
abbrev pub OutcomeIsUnique : Type 0
OutcomeIsUnique = (o : OutlineTable) (budget : ℕ) (a b : Outcome) → IsOutcome o budget a → IsOutcome o budget b → a ≡ b

-- ---- what an outcome says of an outline

-- Each obligation follows by the rules; so the outline is safe; and its executions may begin in the fresh state, so there are some.
pub record IsProved (o : OutlineTable) : Type 0 where
  pub follow : AllFollow o (rules_of o.program)
  pub starts : IsStart o.program o.pre (fresh o.program)
  pub safe : IsSafe o

-- the truth of an atom, by its number
abbrev pub truth_in : List Bool → ℕ → Bool
truth_in truths a = slice_index_or truths a false

-- The truths make each clause of obligation i true, and so it does not follow.
pub record IsRefuted (o : OutlineTable) (i : ℕ) (truths : List Bool) : Type 0 where
  pub met : all_true (truth_in truths) (obligation_clauses o (obligation o i)) ≡ true
  pub fails : Follows (entailment_of o (obligation o i)) → ⊥

-- where the budget is spent nothing is said
abbrev pub Says : OutlineTable → Outcome → Type 0
Says o (accepted count nodes) = IsProved o
Says o (rejected i truths) = IsRefuted o i truths
Says o (spent i) = Unit {0}

abbrev pub OutcomeIsTrue : Type 0
OutcomeIsTrue =
    (o : OutlineTable) (budget : ℕ) (a : Outcome) → IsOutline o → length o.program.names.scalars ≤ most_scalars → IsOutcome o budget a → Says o a
