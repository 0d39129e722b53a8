-- Where all obligations are closed, each follows, and so the outline is safe.
use Rattle.std.proofs.Common.{◌≡◌, ℕ, ◌+◌, ◌-◌, ◌<◌, ◌≤◌, Bool, true, length, get_or, subst, arith}
use Rattle.std.specs.List.{Contains}
use Rattle.std.proofs.lemmas.List.Elements.{All-from_get_or, Contains-get_or}
use Rattle.pg_program.specs.Limits.{most_scalars}
use Rattle.pg_program.specs.Program.{ProgramTable, IsProgram}
use Rattle.pg_views.specs.Valuation.{valuation}
use Rattle.pg_tables.proofs.Truth.{all-append}
use Rattle.pg_rules_access.specs.Access.{access}
use Rattle.pg_rules_persist.specs.Persist.{persist}
use Rattle.pg_soundness.proofs.AccessTrue.{access_rules_are_true}
use Rattle.pg_soundness.proofs.PersistTrue.{persist_rules_are_true}
use Rattle.pg_clauses.specs.Truth.{literal_true, all_true}
use Rattle.pg_decider.proofs.Sound.{no-model}
use Rattle.pg_outline.specs.Outline.{OutlineTable}
use Rattle.pg_outline.specs.Made.{IsOutline}
use Rattle.pg_obligations.specs.declared.obligation.Obligation.{Obligation}
use Rattle.pg_obligations.specs.declared.obligation.Obligation.TheVariants.{Fresh}
use Rattle.pg_obligations.specs.Obligations.{obligations}
use Rattle.pg_obligations.specs.Follow.{Follows, AllFollow, AreTrue}
use Rattle.pg_obligations.proofs.Follows.{follow_is_safe}
use Rattle.pg_layers.specs.Clauses.{entailment_of, obligation, obligation_clauses, rules_of}
use Rattle.pg_layers.proofs.Law.{clauses_decide}
use Rattle.pg_judge.specs.Outcome.{IsClosed, IsAccepted}
use Rattle.pg_judge.specs.Laws.{IsProved}
use Rattle.pg_judge.proofs.Truths.{whole, all-met}
use Rattle.pg_judge.proofs.Unique.{closed-at}

pub is-obligation : (o : OutlineTable) (i : ℕ) → 1 ≤ i → i ≤ length (obligations o.program) → Contains (obligations o.program) (obligation o i)
is-obligation o i from to = Contains-get_or (obligations o.program) (i - 1) Fresh (omega (arith, from, to))

-- a closed obligation has no satisfying assignment
closed-unmet : (o : OutlineTable) (budget i nodes : ℕ) → IsClosed o budget i nodes → (val : ℕ → Bool) → all_true val (obligation_clauses o (obligation o i)) ≡ true → ⊥
closed-unmet o budget i nodes c val h =
    no-model (obligation_clauses o (obligation o i)) c.tree c.is c.closed (literal_true val) (whole val) (all-met val (obligation_clauses o (obligation o i)) h)

rules-true : (p : ProgramTable) → IsProgram p → length p.names.scalars ≤ most_scalars → AreTrue p (rules_of p)
rules-true p is few = record {
  each = λ s e step next formed through.
      all-append (valuation p e s next) (access p step) (persist p step) (access_rules_are_true p few s e step next is formed through)
      (persist_rules_are_true p s e step next is formed through);
}

pub closed-follows : (o : OutlineTable) (budget i nodes : ℕ) → IsOutline o → 1 ≤ i → i ≤ length (obligations o.program) → IsClosed o budget i nodes
    → Follows (entailment_of o (obligation o i))
closed-follows o budget i nodes made from to c = (clauses_decide o (obligation o i) made (is-obligation o i from to)).1 (closed-unmet o budget i nodes c)

all-follow : (o : OutlineTable) (budget count nodes : ℕ) → IsOutline o → IsAccepted o budget count nodes → AllFollow o (rules_of o.program)
all-follow o budget count nodes made a =
    All-from_get_or (λ (ob : Obligation). Follows (entailment_of o ob)) (obligations o.program) Fresh each
  where
    each : (k : ℕ) → k < length (obligations o.program) → Follows (entailment_of o (get_or (obligations o.program) k Fresh))
    each k lt =
        let c = closed-at o budget count nodes (k + 1) a.closed (omega arith) (omega (arith, lt, a.all)) in
        subst (λ (i : ℕ). Follows (entailment_of o (get_or (obligations o.program) i Fresh))) (omega arith)
        (closed-follows o budget (k + 1) c.0 made (omega arith) (omega (arith, lt)) c.1)

-- where each obligation follows, the outline is safe
pub follow-proved : (o : OutlineTable) → IsOutline o → length o.program.names.scalars ≤ most_scalars → AllFollow o (rules_of o.program) → IsProved o
follow-proved o made few follow =
    let safe = follow_is_safe o (rules_of o.program) made.draft.program (rules-true o.program made.draft.program few) follow in
    record { follow = follow; starts = safe.1; safe = safe.0 }

pub accepted-proved : (o : OutlineTable) (budget count nodes : ℕ) → IsOutline o → length o.program.names.scalars ≤ most_scalars → IsAccepted o budget count nodes → IsProved o
accepted-proved o budget count nodes made few a = follow-proved o made few (all-follow o budget count nodes made a)
