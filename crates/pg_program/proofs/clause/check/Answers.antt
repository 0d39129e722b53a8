use Rattle.std.proofs.Common.{◌≡◌, sym, subst, ℕ, None, Option, Some, List, length, map, option_map, IfSome, Vec, Global}
use Rattle.pg_program.specs.declared.syntax.Stmt.{Stmt}
use Rattle.pg_program.specs.declared.name_table.ScalarKind.{ScalarKind}
use Rattle.pg_program.specs.Fault.{Fault, plain_fault, unknown_owner, unknown_thread}
use Rattle.pg_program.proofs.ClauseLemmas.{passes_on, refuses, length_viewed}
use Rattle.pg_program.proofs.clause.check.Goals as goal

-- what is found with the length of a list is found with the length of its view
viewed : (P : Option Fault → Type 0) (threads : List (Vec Stmt Global)) (scalars : List (List ℕ × ScalarKind)) → P (option_map unknown_thread (unknown_owner (length threads) scalars))
    → P (option_map unknown_thread (unknown_owner (length (map (λ (t : Vec Stmt Global). t.items) threads)) scalars))
viewed P threads scalars = subst (λ (n : ℕ). P (option_map unknown_thread (unknown_owner n scalars))) (sym (length_viewed (λ (t : Vec Stmt Global). t.items) threads))

pub returns-in_err-check_domain : goal.returns-in_err-check_domain
returns-in_err-check_domain c =
    refuses _ _ c.from_residual.result c.in_err-check_domain.field-0.0 c.from_residual.ensures.1 c.in_err-check_domain.ensures

pub returns-in_err-check_owners : goal.returns-in_err-check_owners
returns-in_err-check_owners c =
    passes_on _ _ _ c.in_ok-check_domain.ensures
    (refuses _ _ c.from_residual-in_err-check_owners.result c.in_err-check_owners.field-0.0 c.from_residual-in_err-check_owners.ensures.1 (viewed (λ (f : Option Fault). IfSome (plain_fault c.in_err-check_owners.field-0.0) (λ g. f ≡ Some g)) c.args.threads.now c.args.names.now.scalars c.in_err-check_owners.ensures))

pub returns-in_err-check_text : goal.returns-in_err-check_text
returns-in_err-check_text c =
    passes_on _ _ _ c.in_ok-check_domain.ensures
    (passes_on _ _ _ (viewed (λ (f : Option Fault). f ≡ None) c.args.threads.now c.args.names.now.scalars c.in_ok-check_owners.ensures)
    (refuses _ _ c.from_residual-in_err-check_text.result c.in_err-check_text.field-0.0 c.from_residual-in_err-check_text.ensures.1 c.in_err-check_text.ensures))

pub returns-in_err-check_text-2 : goal.returns-in_err-check_text-2
returns-in_err-check_text-2 c =
    passes_on _ _ _ c.in_ok-check_domain.ensures
    (passes_on _ _ _ (viewed (λ (f : Option Fault). f ≡ None) c.args.threads.now c.args.names.now.scalars c.in_ok-check_owners.ensures)
    (passes_on _ _ _ c.in_ok-check_text.ensures
    (refuses _ _ c.from_residual-in_err-check_text-2.result c.in_err-check_text-2.field-0.0 c.from_residual-in_err-check_text-2.ensures.1 c.in_err-check_text-2.ensures)))

pub returns-in_err-check_text-3 : goal.returns-in_err-check_text-3
returns-in_err-check_text-3 c =
    passes_on _ _ _ c.in_ok-check_domain.ensures
    (passes_on _ _ _ (viewed (λ (f : Option Fault). f ≡ None) c.args.threads.now c.args.names.now.scalars c.in_ok-check_owners.ensures)
    (passes_on _ _ _ c.in_ok-check_text.ensures
    (passes_on _ _ _ c.in_ok-check_text-2.ensures
    (refuses _ _ c.from_residual-in_err-check_text-3.result c.in_err-check_text-3.field-0.0 c.from_residual-in_err-check_text-3.ensures.1 c.in_err-check_text-3.ensures))))

pub returns-in_err-check_initial : goal.returns-in_err-check_initial
returns-in_err-check_initial c =
    passes_on _ _ _ c.in_ok-check_domain.ensures
    (passes_on _ _ _ (viewed (λ (f : Option Fault). f ≡ None) c.args.threads.now c.args.names.now.scalars c.in_ok-check_owners.ensures)
    (passes_on _ _ _ c.in_ok-check_text.ensures
    (passes_on _ _ _ c.in_ok-check_text-2.ensures
    (passes_on _ _ _ c.in_ok-check_text-3.ensures
    (refuses _ _ c.from_residual-in_err-check_initial.result c.in_err-check_initial.field-0.0 c.from_residual-in_err-check_initial.ensures.1 c.in_err-check_initial.ensures)))))

pub returns-in_err-check_text-4 : goal.returns-in_err-check_text-4
returns-in_err-check_text-4 c =
    passes_on _ _ _ c.in_ok-check_domain.ensures
    (passes_on _ _ _ (viewed (λ (f : Option Fault). f ≡ None) c.args.threads.now c.args.names.now.scalars c.in_ok-check_owners.ensures)
    (passes_on _ _ _ c.in_ok-check_text.ensures
    (passes_on _ _ _ c.in_ok-check_text-2.ensures
    (passes_on _ _ _ c.in_ok-check_text-3.ensures
    (passes_on _ _ _ c.in_ok-check_initial.ensures
    (refuses _ _ c.from_residual-in_err-check_text-4.result c.in_err-check_text-4.field-0.0 c.from_residual-in_err-check_text-4.ensures.1 c.in_err-check_text-4.ensures))))))

pub returns : goal.returns
returns c =
    passes_on _ _ _ c.in_ok-check_domain.ensures
    (passes_on _ _ _ (viewed (λ (f : Option Fault). f ≡ None) c.args.threads.now c.args.names.now.scalars c.in_ok-check_owners.ensures)
    (passes_on _ _ _ c.in_ok-check_text.ensures
    (passes_on _ _ _ c.in_ok-check_text-2.ensures
    (passes_on _ _ _ c.in_ok-check_text-3.ensures
    (passes_on _ _ _ c.in_ok-check_initial.ensures
    (passes_on _ _ _ c.in_ok-check_text-4.ensures c.check_text-5.ensures))))))
