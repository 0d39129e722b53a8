-- An outcome names an obligation, and the truths of all atoms of a step.
use Rattle.std.proofs.Common.{ℕ, ◌+◌, ◌≤◌, List, Bool, length, map, ap, arith}
use Rattle.pg_assertion.specs.StepAtom.{step_atoms}
use Rattle.pg_outline.specs.Outline.{OutlineTable}
use Rattle.pg_layers.specs.Clauses.{layout_of, entailment_of, first_new, by_number, obligation, obligation_atoms}
use Rattle.pg_layers.proofs.Below.{after_top-later}
use Rattle.pg_judge.specs.Outcome.{accepted, rejected, spent, IsRejected}
use Rattle.pg_judge.proofs.Steps.{truths-length}
use Rattle.pg_report.specs.Judged.{OutcomesAreTold}

-- an obligation has all atoms of a step
all-atoms : (o : OutlineTable) (i : ℕ) → step_atoms (layout_of o) ≤ obligation_atoms o (obligation o i)
all-atoms o i =
    let l = layout_of o in
    let e = entailment_of o (obligation o i) in
    let low = after_top-later (first_new l) (map (by_number l) e.givens) (by_number l e.goal) in
    omega (arith, low)

long-enough : (o : OutlineTable) (budget i : ℕ) (truths : List Bool) → IsRejected o budget i truths → step_atoms (layout_of o) + 1 ≤ length truths
long-enough o budget i truths r =
    omega (arith, ap length r.truths_are, truths-length (obligation_atoms o (obligation o i)) r.model, all-atoms o i)

pub outcomes-told : OutcomesAreTold
outcomes-told o budget (accepted count nodes) a = tt
outcomes-told o budget (rejected i truths) a = (record { from = a.next.from; to = a.next.to }, long-enough o budget i truths a)
outcomes-told o budget (spent i) a = record { from = a.next.from; to = a.next.to }
