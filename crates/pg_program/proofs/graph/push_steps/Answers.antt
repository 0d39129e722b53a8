use Rattle.std.proofs.Common.{◌∙◌, ap, ◌++◌, ◌∷◌, [], map}
use Rattle.pg_program.proofs.AppendLemmas.{owes_nothing}
use Rattle.pg_program.proofs.GraphLemmas.{pushed}
use Rattle.pg_program.proofs.graph.push_steps.Goals as goal

pub returns-in_err-own_steps : goal.returns-in_err-own_steps
returns-in_err-own_steps c = owes_nothing c.from_residual.result _ c.from_residual.ensures.0

pub returns-in_err-push : goal.returns-in_err-push
returns-in_err-push c = owes_nothing c.from_residual-in_err-push.result _ c.from_residual-in_err-push.ensures.0

pub returns : goal.returns
returns c =
    pushed (λ s. s.items) _ _ _ c.in_ok-push.ensures.items
    ∙ ap (λ l. map (λ s. s.items) c.args.graph.now.items ++ l ∷ []) c.in_ok-own_steps.ensures
