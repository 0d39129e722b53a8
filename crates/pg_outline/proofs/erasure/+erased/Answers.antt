-- What an act does is erased by its kind.
use Rattle.std.proofs.Common.{◌≡◌, ℕ, IfOk, sym, ap, subst, ◌∙◌}
use Rattle.pg_program.specs.declared.syntax.Expr.{Expr}
use Rattle.pg_program.specs.declared.syntax.Stmt.{Stmt}
use Rattle.pg_program.specs.declared.syntax.Act.{Act, roll-Act}
use Rattle.pg_program.specs.declared.syntax.Act.TheVariants as act
use Rattle.pg_program.specs.declared.syntax.Act.TheOpen.{Act-F, Assign, Store, Cas}
use Rattle.pg_program.specs.declared.syntax.Act.TheFolds.{map-Act, fold-roll-Act}
use Rattle.pg_outline.specs.Erasure.{moved, act_step, stmt_step, erased_act, erased_stmt, new_place}
use Rattle.pg_outline.proofs.erasure.+erased.Goals as goal

module _ (place : ℕ → ℕ) (a : Act) where
  of_layer : (x : Act-F Act Stmt) → a ≡ roll-Act x → erased_act place a ≡ act_step place (map-Act Act Stmt Act Stmt (erased_act place) (erased_stmt place) x)
  of_layer x is = ap (erased_act place) is ∙ fold-roll-Act Act Stmt (act_step place) stmt_step x

  of_assign : (r : ℕ) (e : Expr) → a ≡ act.Assign r e → act.Assign (place r) (moved place e) ≡ erased_act place a
  of_assign r e is = sym (of_layer (Assign r e) (is ∙ sym (act.rolls-Assign r e)) ∙ act.rolls-Assign (place r) (moved place e))

  of_store : (x : ℕ) (e : Expr) → a ≡ act.Store x e → act.Store x (moved place e) ≡ erased_act place a
  of_store x e is = sym (of_layer (Store x e) (is ∙ sym (act.rolls-Store x e)) ∙ act.rolls-Store x (moved place e))

  of_cas : (r x : ℕ) (e d : Expr) → a ≡ act.Cas r x e d → act.Cas (place r) x (moved place e) (moved place d) ≡ erased_act place a
  of_cas r x e d is = sym (of_layer (Cas r x e d) (is ∙ sym (act.rolls-Cas r x e d)) ∙ act.rolls-Cas (place r) x (moved place e) (moved place d))

pub erased_act-returns-in-Assign : goal.erased_act-returns-in-Assign
erased_act-returns-in-Assign t c =
    subst (λ (x : Act). IfOk c.moved_assign.result (λ b. b ≡ x)) (of_assign (new_place c.args.names.now) c.args.act.now c.in-Assign.target c.in-Assign.expr c.in-Assign.is) c.moved_assign.ensures

pub erased_act-returns-in-Store : goal.erased_act-returns-in-Store
erased_act-returns-in-Store t c =
    subst (λ (x : Act). IfOk c.moved_store.result (λ b. b ≡ x)) (of_store (new_place c.args.names.now) c.args.act.now c.in-Store.location c.in-Store.expr c.in-Store.is) c.moved_store.ensures

pub erased_act-returns-in-Cas : goal.erased_act-returns-in-Cas
erased_act-returns-in-Cas t c =
    subst (λ (x : Act). IfOk c.moved_cas.result (λ b. b ≡ x)) (of_cas (new_place c.args.names.now) c.args.act.now c.in-Cas.target c.in-Cas.location c.in-Cas.expected c.in-Cas.desired c.in-Cas.is)
    c.moved_cas.ensures
