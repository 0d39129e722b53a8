-- The first of the steps from a point is a step of the program.
use Rattle.std.proofs.Common.{◌≡◌, ℕ, ◌≤◌, Bool, true, cond, List, [], ◌∷◌, length, get_or, Some, refl, sym, ap, ap₂, subst, ◌∙◌, arith}
use Rattle.std.proofs.lemmas.List.Elements.{All-head, All-same}
use Rattle.pg_program.specs.declared.point.Branch.{Branch}
use Rattle.pg_program.specs.declared.point.Branch.TheVariants.{Plain, Yes, No}
use Rattle.pg_program.specs.declared.point.Step.{Step}
use Rattle.pg_program.specs.Graph.{is_branch, step_of}
use Rattle.pg_program.specs.Laws.{LeadsWithin}
use Rattle.pg_program.specs.Program.{ProgramTable, points, steps_at}
use Rattle.pg_program.proofs.GraphLaws.{steps_lead_within}
use Rattle.pg_tables.specs.Steps.{IsStepOf}

own_branch : (b : Branch) → is_branch b b ≡ true
own_branch Plain = refl
own_branch Yes = refl
own_branch No = refl

first_is_step : (p : ProgramTable) (t k : ℕ) (step : Step) (rest : List Step) → 1 ≤ t → t ≤ length p.threads → 1 ≤ k → k ≤ points p t → steps_at p t k ≡ step ∷ rest → IsStepOf p step
first_is_step p t k step rest low high from upto is =
    let leads = All-head (LeadsWithin t k (points p t)) step rest (All-same (LeadsWithin t k (points p t)) (step ∷ rest) (steps_at p t k) (sym is) (steps_lead_within p t k from)) in
    record {
      thread = subst (λ (n : ℕ). (1 ≤ n) × (n ≤ length p.threads)) (sym leads.thread) (low, high);
      point = subst (λ (n : ℕ). (1 ≤ step.point) × (step.point ≤ points p n)) (sym leads.thread) (subst (λ (j : ℕ). (1 ≤ j) × (j ≤ points p t)) (sym leads.point) (from, upto));
      leads =
          ap (step_of step.branch) (ap₂ (steps_at p) leads.thread leads.point ∙ is)
          ∙ ap (λ (b : Bool). cond b (Some step) (step_of step.branch rest)) (own_branch step.branch);
    }

pub first_of : (p : ProgramTable) (t k : ℕ) (steps : List Step) (none : Step) → (1 ≤ t) × (t ≤ length p.threads) → (1 ≤ k) × (k ≤ points p t) → steps ≡ steps_at p t k
    → 1 ≤ length steps → IsStepOf p (get_or steps 0 none)
first_of p t k [] none thread point is some = absurd (omega (arith, some))
first_of p t k (step ∷ rest) none thread point is some = first_is_step p t k step rest thread.0 thread.1 point.0 point.1 (sym is)
