-- The text of a judgement, put on the sink, is the answer to its outline.
use Rattle.std.proofs.Common.{◌≡◌, ℕ, List, Option}
use Rattle.pg_outline.specs.Outline.{OutlineTable}
use Rattle.pg_judge.specs.Outcome.{Outcome, IsOutcome}
use Rattle.pg_judge.specs.Laws.{Says}
use Rattle.pg_app.specs.Answer.{IsJudged, status_of}
use Rattle.pg_app.specs.Put.{Puts}
use Rattle.pg_app.proofs.Puts.{puts_map}

pub judged_puts : {status : ℕ} {old new : Option (List ℕ)} {before now : ℕ} (IsText : OutlineTable → Outcome → List ℕ → Type 0) (o : OutlineTable) (budget : ℕ) (a : Outcome)
    → IsOutcome o budget a → Says o a → Puts (λ due text. (due ≡ status_of a) × IsText o a text) status old new before now
    → Puts (IsJudged IsText budget o) status old new before now
judged_puts {status} {old} {new} {before} {now} IsText o budget a is says puts =
    puts_map (λ due text. (due ≡ status_of a) × IsText o a text) (IsJudged IsText budget o)
    (λ s text same. record { outcome = a; is = is; says = says; status_is = same.0; text_is = same.1 })
    status old new before now puts
