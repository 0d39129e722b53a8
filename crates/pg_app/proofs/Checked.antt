-- The line of a derivation's answer, put on the sink, is the answer to the derivation.
use Rattle.std.proofs.Common.{◌≡◌, ◌≢◌, ℕ, List, Option, false}
use Rattle.std.specs.Prelude.{Result, Ok, Err, IfOk}
use Rattle.pg_derivation.specs.Derivation.{DerivationTable}
use Rattle.pg_outline.specs.Outline.{OutlineTable}
use Rattle.pg_judge.specs.Laws.{IsProved}
use Rattle.pg_derive.specs.declared.fault.VerifyFault.{VerifyFault}
use Rattle.pg_derive.specs.declared.fault.VerifyFault.TheVariants.{Tree, Missing, Extra, NoMemory}
use Rattle.pg_derive.specs.Verified.{IsAnswer}
use Rattle.pg_report.specs.Verified.{verified_line}
use Rattle.pg_app.specs.Answer.{IsChecked, verified_status}
use Rattle.pg_app.specs.Put.{Puts, ran_out}
use Rattle.pg_app.proofs.Puts.{puts_map}

roomy : (answer : Result ℕ VerifyFault) → false ≡ ran_out answer → answer ≢ Err NoMemory
roomy (Ok n) e is = cc
roomy (Err (Tree i fault)) e is = cc
roomy (Err (Missing i)) e is = cc
roomy (Err (Extra i)) e is = cc
roomy (Err NoMemory) e is = cc

pub checked_puts : {status : ℕ} {old new : Option (List ℕ)} {before now : ℕ} (o : OutlineTable) (d : DerivationTable) (answer : Result ℕ VerifyFault)
    → IsAnswer o d answer → false ≡ ran_out answer → IfOk answer (λ _. IsProved o)
    → Puts (λ due text. (due ≡ verified_status answer) × (text ≡ verified_line answer)) status old new before now → Puts (IsChecked d o) status old new before now
checked_puts {status} {old} {new} {before} {now} o d answer is room proved puts =
    puts_map (λ due text. (due ≡ verified_status answer) × (text ≡ verified_line answer)) (IsChecked d o)
    (λ s text same. record { answer = answer; is = is; roomy = roomy answer room; proved = proved; status_is = same.0; text_is = same.1 })
    status old new before now puts
