use Rattle.std.proofs.Common.{ℕ, ◌-◌, ◌<◌, set, IsSome, List, length, sym, ap, subst, ◌∙◌, arith}
use Rattle.std.specs.List.{All}
use Rattle.pg_program.specs.declared.point.Branch.{Branch}
use Rattle.pg_program.specs.declared.point.Step.{Step}
use Rattle.pg_program.specs.Words.{outside, scalars_of, locations_of}
use Rattle.pg_program.specs.Graph.{step_of}
use Rattle.pg_machine.specs.declared.event.Event.{Event}
use Rattle.pg_machine.specs.State.{Views, State, AreSized}
use Rattle.pg_machine.specs.Step.{leaves, moved, act_of, branch_taken, IsStep}
use Rattle.pg_machine.specs.Held.{Held}
use Rattle.pg_machine.specs.Memory.{Memory}
use Rattle.pg_machine.specs.Moves.{Seen}
use Rattle.pg_machine.specs.StepParts.{seen_in}
use Rattle.pg_machine.proofs.Formed.{leads_on, act_scalars, stmt_scalars, stmt_locations}
use Rattle.std.proofs.lemmas.List.{length-set}
use Rattle.pg_machine.proofs.WellFormed.{step_sizes}
use Rattle.pg_machine.proofs.Taken.{taken, refusal, parts_of, same_state, refill, same_views, stays}
use Rattle.std.proofs.lemmas.Result.{err_from_is_err_and}
use Rattle.pg_machine.proofs.state.State.take.Goals as goal

pub branch_taken-branch-requires-clause-scalars : goal.branch_taken-branch-requires-clause-scalars
branch_taken-branch-requires-clause-scalars c =
    let same = c.deref.ensures.value ∙ ap (λ (h : Held). h.state.scalars) c.self.view_is in
    subst (λ (l : List ℕ). All (λ (r : ℕ). r < length l) (outside c.args.stmt.now)) (sym same)
    (act_scalars c.args.p.now c.args.self.now.state c.names.ensures.built c.requires.formed c.args.at.thread c.args.at.point c.args.stmt.now c.requires.thread.0 c.requires.thread.1 c.requires.stmt)

pub step_of-step-requires : goal.step_of-step-requires
step_of-step-requires c =
    let taken_branch = branch_taken c.domain-domain.result c.deref.result.now (act_of c.args.stmt.now) in
    subst (λ (b : Branch). IsSome (step_of b c.steps.result.now)) (sym c.branch_taken-branch.ensures)
    (subst (λ (ss : List Step). IsSome (step_of taken_branch ss)) (sym c.steps.ensures)
    (leads_on c.args.p.now c.args.at.thread c.args.at.point c.domain-domain.result c.deref.result.now c.args.stmt.now c.requires.stmt))

pub run-requires-clause-scalars : goal.run-requires-clause-scalars
run-requires-clause-scalars c =
    let same = c.deref_mut.ensures.value ∙ ap (λ (h : Held). h.state.scalars) c.self.view_is in
    subst (λ (l : List ℕ). All (λ (r : ℕ). r < length l) (scalars_of c.args.stmt.now)) (sym same)
    (stmt_scalars c.args.p.now c.args.self.now.state c.names.ensures.built c.requires.formed c.args.at.thread c.args.at.point c.args.stmt.now c.requires.thread.0 c.requires.thread.1 c.requires.stmt)

pub run-requires-clause-locations : goal.run-requires-clause-locations
run-requires-clause-locations c =
    let same = ap (λ (h : Held). h.state.memory.initial) c.self.view_is in
    subst (λ (l : List ℕ). All (λ (x : ℕ). x < length l) (locations_of c.args.stmt.now)) (sym same)
    (stmt_locations c.args.p.now c.args.self.now.state c.names.ensures.built c.requires.formed c.args.at.thread c.args.at.point c.args.stmt.now c.requires.thread.0 c.requires.thread.1 c.requires.stmt)

pub returns-in_err-run-clause-err : goal.returns-in_err-run-clause-err
returns-in_err-run-clause-err c =
    let parts =
    parts_of c.args.p.now c.args.self.now c.self.inside.memory c.self.inside.views.items c.self.inside.scalars.items c.self.inside.points.items c.names.result.now
    c.args.at.thread c.args.at.point c.from-t.result c.domain-domain.result c.args.stmt.now c.index_mut-views.result.now c.deref_mut.result.now
    c.self.view_is c.requires.thread.0 c.requires.thread.1 c.requires.formed.threads c.requires.point c.requires.stmt c.domain-domain.ensures c.names.ensures.names c.from-t.ensures c.index_mut-views.ensures.value c.deref_mut.ensures.value in
    let q = err_from_is_err_and c.from_residual.result c.from_residual.ensures.1 in
    rw (q.1, q.2)
    (refusal c.args.p.now c.args.self.now c.args.at.thread c.args.at.point c.args.stmt.now c.domain-domain.result c.self.inside.memory c.index_mut-views.result.now c.deref_mut.result.now c.args.choice c.in_err-run.field-0.0
    parts (ap (λ (h : Held). h.spare) c.self.view_is) c.in_err-run.ensures.err)

pub invariant_of-self-2 : goal.invariant_of-self-2
invariant_of-self-2 c =
    let p = c.args.p.now in
    let s = c.args.self.now.state in
    let t = c.args.at.thread in
    let i = c.from-t.result in
    let memory = c.run.new.memory.memory in
    let own = c.run.new.views in
    let parts =
    parts_of p c.args.self.now c.self.inside.memory c.self.inside.views.items c.self.inside.scalars.items c.self.inside.points.items c.names.result.now
    t c.args.at.point i c.domain-domain.result c.args.stmt.now c.index_mut-views.result.now c.deref_mut.result.now
    c.self.view_is c.requires.thread.0 c.requires.thread.1 c.requires.formed.threads c.requires.point c.requires.stmt c.domain-domain.ensures c.names.ensures.names c.from-t.ensures c.index_mut-views.ensures.value c.deref_mut.ensures.value in
    let scalars = ap (λ (h : Held). h.state.scalars) c.self.view_is in
    let after = leaves (seen_in c.run.new.memory own) c.run.new.scalars in
    let e : Event = record { thread = t; choice = c.args.choice } in
    let step = taken p s t c.args.at.point c.args.stmt.now c.domain-domain.result c.self.inside.memory c.index_mut-views.result.now c.deref_mut.result.now c.args.choice
    c.branch_taken-branch.result c.deref.result.now c.steps.result.now c.step_of-step.result after
    parts c.in_ok-run.ensures.ok (c.deref.ensures.value ∙ scalars) c.branch_taken-branch.ensures c.steps.ensures c.step_of-step.ensures in
    let sized = step_sizes p s e (moved s t after c.step_of-step.result.target) c.names.ensures.built c.requires.formed step in (
      c.run.ensures.within,
      length-set c.self.inside.points.items (i - 1) c.step_of-step.result.target ∙ (c.self.invariant.1 ∙ sym (length-set c.self.inside.views.items (i - 1) own)),
      subst (λ (l : List Views). All (AreSized memory) (set l (i - 1) own)) (sym (ap (λ (h : Held). h.state.views) c.self.view_is))
          (subst (λ (n : ℕ). All (AreSized memory) (set s.views (n - 1) own)) (sym c.from-t.ensures) sized),
    )

pub returns-clause-ok : goal.returns-clause-ok
returns-clause-ok c =
    let s = c.args.self.now.state in
    let t = c.args.at.thread in
    let parts =
    parts_of c.args.p.now c.args.self.now c.self.inside.memory c.self.inside.views.items c.self.inside.scalars.items c.self.inside.points.items c.names.result.now
    c.args.at.thread c.args.at.point c.from-t.result c.domain-domain.result c.args.stmt.now c.index_mut-views.result.now c.deref_mut.result.now
    c.self.view_is c.requires.thread.0 c.requires.thread.1 c.requires.formed.threads c.requires.point c.requires.stmt c.domain-domain.ensures c.names.ensures.names c.from-t.ensures c.index_mut-views.ensures.value c.deref_mut.ensures.value in
    let scalars = ap (λ (h : Held). h.state.scalars) c.self.view_is in
    let after = leaves (seen_in c.run.new.memory c.run.new.views) c.run.new.scalars in
    let step = taken c.args.p.now s t c.args.at.point c.args.stmt.now c.domain-domain.result c.self.inside.memory c.index_mut-views.result.now c.deref_mut.result.now c.args.choice
    c.branch_taken-branch.result c.deref.result.now c.steps.result.now c.step_of-step.result after
    parts c.in_ok-run.ensures.ok (c.deref.ensures.value ∙ scalars) c.branch_taken-branch.ensures c.steps.ensures c.step_of-step.ensures in
    subst (λ (n : State). IsStep c.args.p.now s (record { thread = t; choice = c.args.choice }) n)
    (same_state s t c.run.new.memory.memory c.run.new.views _ c.run.new.scalars c.self.inside.views.items c.self.inside.points.items c.from-t.result c.step_of-step.result.target
    (ap (λ (h : Held). h.state.views) c.self.view_is) (ap (λ (h : Held). h.state.points) c.self.view_is) c.from-t.ensures
    (refill c.self.inside.scalars.len c.run.new.scalars c.self.inside.scalars.items (c.run.auto.scalars ∙ c.deref_mut.ensures.len)))
    step

pub returns-in_err-run-clause-unchanged : goal.returns-in_err-run-clause-unchanged
returns-in_err-run-clause-unchanged c =
    let q = err_from_is_err_and c.from_residual.result c.from_residual.ensures.1 in
    let same = c.in_err-run.ensures.unchanged in
    rw q.1
    (stays c.args.self.now.state c.run.new.memory.memory c.self.inside.memory.memory (set c.self.inside.views.items (c.from-t.result - 1) c.run.new.views) c.self.inside.views.items _ c.self.inside.scalars.items c.self.inside.points.items
    (ap (λ (h : Held). h.state) c.self.view_is) (ap (λ (n : Seen). n.memory) same.0)
    (same_views c.self.inside.views.items (c.from-t.result - 1) c.run.new.views c.index_mut-views.result.now (ap (λ (n : Seen). n.views) same.0) c.index_mut-views.ensures.value)
    (refill c.self.inside.scalars.len c.run.new.scalars c.self.inside.scalars.items (c.run.auto.scalars ∙ c.deref_mut.ensures.len) ∙ (same.1 ∙ c.deref_mut.ensures.value)))

pub returns-in_err-run-clause-spare : goal.returns-in_err-run-clause-spare
returns-in_err-run-clause-spare c =
    let spare = ap (λ (h : Held). h.spare) c.self.view_is in
    let messages = ap (λ (h : Held). length h.state.memory.messages) c.self.view_is in
    let more = c.run.ensures.spare in
    omega (arith, spare, messages, more)

pub returns-clause-spare : goal.returns-clause-spare
returns-clause-spare c =
    let spare = ap (λ (h : Held). h.spare) c.self.view_is in
    let messages = ap (λ (h : Held). length h.state.memory.messages) c.self.view_is in
    let more = c.run.ensures.spare in
    omega (arith, spare, messages, more)

pub invariant_of-self : goal.invariant_of-self
invariant_of-self c =
    let views = c.self.inside.views.items in
    let i = c.from-t.result - 1 in
    let seen = c.in_err-run.ensures.unchanged.0 in
    let same = same_views views i c.run.new.views c.index_mut-views.result.now (ap (λ (n : Seen). n.views) seen) c.index_mut-views.ensures.value in (
      c.run.ensures.within,
      c.self.invariant.1 ∙ sym (ap length same),
      subst (λ (l : List Views). All (AreSized c.run.new.memory.memory) l) (sym same)
          (subst (λ (m : Memory). All (AreSized m) views) (sym (ap (λ (n : Seen). n.memory) seen)) c.self.invariant.2),
    )
