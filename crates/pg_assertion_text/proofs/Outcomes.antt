-- The outcome of a step, by the result that it answered.
use Rattle.std.proofs.Common.{◌≡◌, ◌≢◌, ◌∙◌, Ok, Err, subst, ap}
use Rattle.std.specs.Prelude.{Result}
use Rattle.std.specs.Result.{result_and}
use Rattle.pg_lex.specs.declared.fault.TextFault.{TextFault}
use Rattle.pg_lex.specs.declared.fault.TextFault.TheVariants.{NoMemory}
use Rattle.pg_assertion_text.specs.Input.{Input, Outcome, Parser, and_then, ◌>>◌, pure, Does, Reads}

module _ {R A : Type 0} (view : R → A) (o : Outcome A) (r : Result R TextFault) (j : Input) where
  pub did : (a : R) → Does view o r j → r ≡ Ok a → o ≡ Ok (view a, j)
  did a does is = subst (λ r. Does view o r j) is does

  pub did_not : (e : TextFault) → Does view o r j → r ≡ Err e → o ≡ Err e
  did_not e does is = subst (λ r. Does view o r j) is does

  pub read : (a : R) → Reads view o r j → r ≡ Ok a → o ≡ Ok (view a, j)
  read a reads is = subst (λ r. Reads view o r j) is reads

  pub read_not : (e : TextFault) → Reads view o r j → r ≡ Err e → e ≢ NoMemory → o ≡ Err e
  read_not e reads is = subst (λ r. Reads view o r j) is reads

-- what was read before a step that gives nothing
pub then_ends : {R A B C : Type 0} (view : R → A) (o : Outcome A) (step : Parser B) (shown : C → B) (a : R) (i j : Input) (r : Result C TextFault)
    → o ≡ Ok (view a, i) → Does shown (step i) r j → Reads view (and_then o (λ x. step >> pure x)) (result_and r (Ok a)) j
then_ends view o step shown a i j (Ok c) is does = ap (λ o. and_then o (λ x. step >> pure x)) is ∙ ap (λ o. and_then o (λ _. pure (view a))) does
then_ends view o step shown a i j (Err e) is does = λ _. ap (λ o. and_then o (λ x. step >> pure x)) is ∙ ap (λ o. and_then o (λ _. pure (view a))) does
