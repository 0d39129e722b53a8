-- What the clauses of an obligation decide.
use Rattle.std.specs.Prelude.{◌≡◌, ℕ, Bool, true, ◌↔◌, Contains}
use Rattle.pg_outline.specs.Outline.{OutlineTable}
use Rattle.pg_outline.specs.Made.{IsOutline}
use Rattle.pg_clauses.specs.Truth.{all_true}
use Rattle.pg_obligations.specs.declared.obligation.Obligation.{Obligation}
use Rattle.pg_obligations.specs.Obligations.{obligations}
use Rattle.pg_obligations.specs.Follow.{Follows}
use Rattle.pg_layers.specs.Clauses.{entailment_of, obligation_clauses}

-- An obligation follows exactly where no assignment of truth values to numbers makes each of its clauses true.
abbrev pub ClausesDecide : Type 0
ClausesDecide =
    (o : OutlineTable) (ob : Obligation) → IsOutline o → Contains (obligations o.program) ob
    → Follows (entailment_of o ob) ↔ ((val : ℕ → Bool) → all_true val (obligation_clauses o ob) ≡ true → ⊥)
