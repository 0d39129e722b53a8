-- How many obligations there are, and that a point has two steps at most.
use Rattle.std.proofs.Common.{◌≡◌, ℕ, ◌≤◌, Bool, true, false, cond, [], ◌∷◌, length, map, Option, Some, None, sym, ap, ◌∙◌, ◌+◌, arith, length-append}
use Rattle.std.specs.List.{flat_map}
use Rattle.std.proofs.lemmas.List.FromFn.{length-map-range_with_len}
use Rattle.std.proofs.lemmas.List.{length-map}
use Rattle.pg_program.specs.declared.syntax.Stmt.{Stmt}
use Rattle.pg_program.specs.declared.point.Branch.TheVariants.{Plain, Yes, No}
use Rattle.pg_program.specs.declared.point.Step.{Step}
use Rattle.pg_program.specs.Graph.{is_test, branches}
use Rattle.pg_program.specs.Program.{ProgramTable, stmt_at, steps_at}
use Rattle.pg_program.proofs.GraphLaws.{steps_of_statements}
use Rattle.pg_obligations.specs.declared.obligation.Obligation.TheVariants.{Entry, EntryCrash}
use Rattle.pg_obligations.specs.Obligations.{threads_of, of_thread, obligations}

few_by : (b : Bool) → length (cond b (Yes ∷ No ∷ []) (Plain ∷ [])) ≤ 2
few_by true = omega arith
few_by false = omega arith

few_branches : (o : Option Stmt) → length (branches o) ≤ 2
few_branches None = omega arith
few_branches (Some s) = few_by (is_test s)

pub few_steps : (p : ProgramTable) (t k : ℕ) → length (steps_at p t k) ≤ 2
few_steps p t k =
    let e = sym (length-map (steps_at p t k) (λ (s : Step). s.branch)) ∙ ap length (steps_of_statements p t k) in
    omega (arith, e, few_branches (stmt_at p t k))

pub counted : (p : ProgramTable) → length (obligations p) ≡ 2 + length p.threads + length (flat_map (of_thread p) (threads_of p))
counted p =
    let rest = flat_map (of_thread p) (threads_of p) in
    omega (arith, length-append (map (λ t. Entry t) (threads_of p)) (EntryCrash ∷ rest), length-map-range_with_len (λ t. Entry t) 1 (length p.threads))
