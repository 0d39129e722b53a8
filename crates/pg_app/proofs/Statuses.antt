-- Which statuses an answer has.
use Rattle.std.proofs.Common.{◌≡◌, ◌≢◌, ℕ, zero, suc, ◌≤◌, ◌⊎◌, inl, inr, List, Option, None, Some, Contains, refl, sym, arith, lit<}
use Rattle.std.specs.Prelude.{Result, Ok, Err}
use Rattle.pg_document.specs.declared.fault.DocFault.{DocFault}
use Rattle.pg_outline.specs.Outline.{OutlineTable}
use Rattle.pg_made.specs.Made.{made_outline}
use Rattle.pg_judge.specs.Outcome.{Outcome, accepted, rejected, spent}
use Rattle.pg_derive.specs.declared.fault.VerifyFault.{VerifyFault}
use Rattle.pg_replay.specs.declared.answer.Violation.{Violation}
use Rattle.pg_replay.specs.Replay.{Answer}
use Rattle.pg_app.specs.File.{File, outline_file, derivation_file, schedule_file, derivation_in, schedule_in}
use Rattle.pg_app.specs.Command.{Command, check, obligations, derive, verify, replay, made}
use Rattle.pg_app.specs.Answer.{Found, IsJudged, IsJudgement, IsDerived, IsMadeJudgement, IsListed, IsChecked, IsReplayed, AsOutline, AsDocument, AsDerivation, AsSchedule, OnFile, OnBoth, Answers, AnswersTo, status_of, verified_status, violated_status, replayed_status}
use Rattle.pg_app.specs.Run.{statuses, IsAnswer}

-- those of some work, and of the refusal of a file
abbrev pub IsLow : ℕ → Type 0
IsLow s = s ≤ 5

-- and that of a file that is too long
abbrev pub IsAnswered : ℕ → Type 0
IsAnswered s = IsLow s ⊎ (s ≡ 10)

abbrev pub HasLow : (OutlineTable → ℕ → List ℕ → Type 0) → Type 0
HasLow Work = (o : OutlineTable) (s : ℕ) (text : List ℕ) → Work o s text → IsLow s

abbrev pub TakesLow : (List ℕ → ℕ → List ℕ → Type 0) → Type 0
TakesLow Takes = (bytes : List ℕ) (s : ℕ) (text : List ℕ) → Takes bytes s text → IsLow s

outcome_low : (outcome : Outcome) (s : ℕ) → s ≡ status_of outcome → IsLow s
outcome_low (accepted count nodes) s e = omega (arith, e)
outcome_low (rejected i truths) s e = omega (arith, e)
outcome_low (spent i) s e = omega (arith, e)

pub judged_low : (IsText : OutlineTable → Outcome → List ℕ → Type 0) (budget : ℕ) → HasLow (IsJudged IsText budget)
judged_low IsText budget o s text h = outcome_low h.outcome s h.status_is

pub made_low : (statements budget s : ℕ) (text : List ℕ) → IsJudged (IsMadeJudgement statements) budget (made_outline statements) s text → IsLow s
made_low statements budget s text h = judged_low (IsMadeJudgement statements) budget (made_outline statements) s text h

pub listed_low : HasLow IsListed
listed_low o s text h = let e = h.status_is in omega (arith, e)

verified_low : (answer : Result ℕ VerifyFault) (s : ℕ) → s ≡ verified_status answer → IsLow s
verified_low (Ok n) s e = omega (arith, e)
verified_low (Err fault) s e = omega (arith, e)

violated_low : (violation : Option Violation) (s : ℕ) → s ≡ violated_status violation → IsLow s
violated_low None s e = omega (arith, e)
violated_low (Some violation) s e = omega (arith, e)

replayed_low : (answer : Answer) (s : ℕ) → s ≡ replayed_status answer → IsLow s
replayed_low (Ok found) s e = violated_low found.first_violation s e
replayed_low (Err fault) s e = omega (arith, e)

pub as_outline_low : (Work : OutlineTable → ℕ → List ℕ → Type 0) → HasLow Work → TakesLow (AsOutline Work)
as_outline_low Work low bytes s text (inl refusal) = let e = refusal.status_is in omega (arith, e)
as_outline_low Work low bytes s text (inr done) = low done.outline s text done.work

document_low : {A : Type 0} (read : List ℕ → Result A DocFault) (Work : A → ℕ → List ℕ → Type 0) → ((d : A) (s : ℕ) (text : List ℕ) → Work d s text → IsLow s) → TakesLow (AsDocument read Work)
document_low read Work low bytes s text (inl denied) = let e = denied.status_is in omega (arith, e)
document_low read Work low bytes s text (inr done) = low done.document s text done.work

pub derivation_low : (o : OutlineTable) → TakesLow (AsDerivation o)
derivation_low o = document_low derivation_in (λ d. IsChecked d o) (λ d s text h. verified_low h.answer s h.status_is)

pub schedule_low : (o : OutlineTable) → TakesLow (AsSchedule o)
schedule_low o = document_low schedule_in (λ lines. IsReplayed lines o) (λ lines s text h. replayed_low h.answer s h.status_is)

on_file_status : (Finds : File → Found → Type 0) (file : File) (Takes : List ℕ → ℕ → List ℕ → Type 0) → TakesLow Takes → (s : ℕ) (text : List ℕ)
    → OnFile Finds file Takes s text → IsAnswered s
on_file_status Finds file Takes low s text (inl long) = inr long.status_is
on_file_status Finds file Takes low s text (inr read) = inl (low read.bytes s text read.answers)

on_both_status : (Finds : File → Found → Type 0) (name : List ℕ) (second : File) (Takes : OutlineTable → List ℕ → ℕ → List ℕ → Type 0) → ((o : OutlineTable) → TakesLow (Takes o))
    → (s : ℕ) (text : List ℕ) → OnBoth Finds name second Takes s text → IsAnswered s
on_both_status Finds name second Takes low s text (inl long) = inr long.status_is
on_both_status Finds name second Takes low s text (inr read) =
    elim read.answers [
      | inl refusal ↦ inl (let e = refusal.status_is in omega (arith, e))
      | inr done ↦ on_file_status Finds second (Takes done.outline) (low done.outline) s text done.work
    ]

-- ---- commands

pub command_status : (Finds : File → Found → Type 0) (command : Command) (s : ℕ) (text : List ℕ) → Answers Finds command s text → IsAnswered s
command_status Finds (check name budget) s text h =
    on_file_status Finds (outline_file name) (AsOutline (IsJudged IsJudgement budget)) (as_outline_low (IsJudged IsJudgement budget) (judged_low IsJudgement budget)) s text h
command_status Finds (obligations name) s text h = on_file_status Finds (outline_file name) (AsOutline IsListed) (as_outline_low IsListed listed_low) s text h
command_status Finds (derive name budget) s text h =
    on_file_status Finds (outline_file name) (AsOutline (IsJudged IsDerived budget)) (as_outline_low (IsJudged IsDerived budget) (judged_low IsDerived budget)) s text h
command_status Finds (verify name second) s text h = on_both_status Finds name (derivation_file second) AsDerivation derivation_low s text h
command_status Finds (replay name second) s text h = on_both_status Finds name (schedule_file second) AsSchedule schedule_low s text h
command_status Finds (made statements budget) s text h = inl (made_low statements budget s text h)

-- a command is not answered by the status of other words
other_than_usage : (s : ℕ) → IsAnswered s → s ≢ 8
other_than_usage s (inl small) is = omega (arith, small, is)
other_than_usage s (inr long) is = omega (arith, long, is)

pub not_usage : (Finds : File → Found → Type 0) (command : Command) (s : ℕ) (text : List ℕ) → Answers Finds command s text → s ≢ 8
not_usage Finds command s text h = other_than_usage s (command_status Finds command s text h)

is_answer : (s : ℕ) → IsAnswered s → IsAnswer s
is_answer s (inl small) = record {
  fetched = λ is. absurd (omega (arith, small, is));
  put = λ is. absurd (omega (arith, small, is));
  roomy = λ is. absurd (omega (arith, small, is));
}
is_answer s (inr long) = record {
  fetched = λ is. absurd (omega (arith, long, is));
  put = λ is. absurd (omega (arith, long, is));
  roomy = λ is. absurd (omega (arith, long, is));
}

-- what is due has the status of an answer
pub due_is_answer : (Finds : File → Found → Type 0) (command : Option Command) (s : ℕ) (text : List ℕ) → AnswersTo Finds command s text → IsAnswer s
due_is_answer Finds None s text h =
    let e = h.0 in
    record { fetched = λ is. absurd (omega (arith, e, is)); put = λ is. absurd (omega (arith, e, is)); roomy = λ is. absurd (omega (arith, e, is)) }
due_is_answer Finds (Some command) s text h = is_answer s (command_status Finds command s text h)

low_in_range : (s : ℕ) → IsLow s → Contains statuses s
low_in_range zero small = (0, lit< tt, refl)
low_in_range (suc zero) small = (1, lit< tt, refl)
low_in_range (suc (suc zero)) small = (2, lit< tt, refl)
low_in_range (suc (suc (suc zero))) small = (3, lit< tt, refl)
low_in_range (suc (suc (suc (suc zero)))) small = (4, lit< tt, refl)
low_in_range (suc (suc (suc (suc (suc zero))))) small = (5, lit< tt, refl)
low_in_range (suc (suc (suc (suc (suc (suc s)))))) small = absurd (omega (arith, small))

answered_in_range : (s : ℕ) → IsAnswered s → Contains statuses s
answered_in_range s (inl small) = low_in_range s small
answered_in_range s (inr e) = (10, lit< tt, sym e)

-- and it is one of the program's
pub due_in_range : (Finds : File → Found → Type 0) (command : Option Command) (s : ℕ) (text : List ℕ) → AnswersTo Finds command s text → Contains statuses s
due_in_range Finds None s text h = (8, lit< tt, sym h.0)
due_in_range Finds (Some command) s text h = answered_in_range s (command_status Finds command s text h)
