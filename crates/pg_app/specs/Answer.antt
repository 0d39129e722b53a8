-- The answers: a status and a text for each. Status 0 is that every obligation follows, that a replay shows no violation, or that a text
-- was printed; 1 that an obligation does not follow, or that a replay shows a violation; 2 that the budget was spent on an obligation; 3
-- that the first file stands for no outline; 4 that the second file is no document; 5 that a derivation does not have a valid tree for each
-- obligation, or that the machine refuses a line of a schedule; 8 that the words are no command; and 10 that a file is longer than its
-- limit.
use Rattle.std.specs.Prelude.{◌≡◌, ◌≢◌, ℕ, ◌<◌, ◌≤◌, ◌⊎◌, List, [], ◌++◌, length, Option, None, Some, IfOk, IsSomeAnd, Result, Ok, Err, String}
use Rattle.std.specs.declared.alloc.Global.{Global}
use Rattle.pg_document.specs.declared.fault.DocFault.{DocFault}
use Rattle.pg_derivation.specs.Derivation.{DerivationTable}
use Rattle.pg_schedule.specs.Schedule.{ScheduleTable}
use Rattle.pg_outline.specs.Outline.{OutlineTable}
use Rattle.pg_outline_text.specs.Text.{StandsFor}
use Rattle.pg_outline_text.specs.Fault.{Fault, first_fault}
use Rattle.pg_made.specs.Made.{made_outline}
use Rattle.pg_judge.specs.Outcome.{Outcome, accepted, rejected, spent, IsOutcome}
use Rattle.pg_judge.specs.Laws.{IsProved, Says}
use Rattle.pg_derive.specs.declared.fault.VerifyFault.{VerifyFault}
use Rattle.pg_derive.specs.declared.fault.VerifyFault.TheVariants as verifying
use Rattle.pg_derive.specs.Derived.{IsDerivation}
use Rattle.pg_derive.specs.Verified as derivation
use Rattle.pg_replay.specs.declared.answer.Violation.{Violation}
use Rattle.pg_replay.specs.Replay as replaying
use Rattle.pg_report.specs.Documents.{document_line}
use Rattle.pg_report.specs.Refusal.{refusal}
use Rattle.pg_report.specs.Replayed.{replayed_line}
use Rattle.pg_report.specs.Verified.{verified_line}
use Rattle.pg_report.specs.Obligations.{obligations_text}
use Rattle.pg_report.specs.Judged.{judgement_text}
use Rattle.pg_report.specs.Made.{made_text}
use Rattle.pg_app.specs.declared.file.Kind.{Kind}
use Rattle.pg_app.specs.declared.file.Kind.TheVariants.{Outline, Derivation, Schedule}
use Rattle.pg_app.specs.Line.{usage, too_long}
use Rattle.pg_app.specs.File.{File, outline_file, derivation_file, schedule_file, limit, derivation_in, schedule_in}
use Rattle.pg_app.specs.Command.{Command, check, obligations, derive, verify, replay, made, command_of}

-- ---- the work of the commands

abbrev pub status_of : Outcome → ℕ
status_of (accepted count nodes) = 0
status_of (rejected i truths) = 1
status_of (spent i) = 2

-- the outcome of the outline under the budget; what it says of the outline holds; and the text is one for it
pub record IsJudged (IsText : OutlineTable → Outcome → List ℕ → Type 0) (budget : ℕ) (o : OutlineTable) (status : ℕ) (text : List ℕ) : Type 0 where
  pub outcome : Outcome
  pub is : IsOutcome o budget outcome
  pub says : Says o outcome
  pub status_is : status ≡ status_of outcome
  pub text_is : IsText o outcome text

-- the text of `check`
abbrev pub IsJudgement : OutlineTable → Outcome → List ℕ → Type 0
IsJudgement o outcome text = text ≡ judgement_text o outcome

-- what `derive` puts behind a derivation: the judgement of an outline that is not accepted
abbrev pub rest_of : OutlineTable → Outcome → List ℕ
rest_of o (accepted count nodes) = []
rest_of o (rejected i truths) = judgement_text o (rejected i truths)
rest_of o (spent i) = judgement_text o (spent i)

-- a text of `derive`
pub record IsDerived (o : OutlineTable) (outcome : Outcome) (text : List ℕ) : Type 0 where
  pub derivation : List ℕ
  pub is : IsDerivation o outcome derivation
  pub spelled : text ≡ derivation ++ rest_of o outcome

-- the text of `made`
abbrev pub IsMadeJudgement : ℕ → OutlineTable → Outcome → List ℕ → Type 0
IsMadeJudgement n o outcome text = text ≡ made_text n o outcome

-- `obligations`: the text of all of them
pub record IsListed (o : OutlineTable) (status : ℕ) (text : List ℕ) : Type 0 where
  pub status_is : status ≡ 0
  pub text_is : text ≡ obligations_text o

abbrev pub verified_status : Result ℕ VerifyFault → ℕ
verified_status (Ok n) = 0
verified_status (Err fault) = 5

-- `verify`: what the derivation is answered; where it is verified the outline is safe
pub record IsChecked (d : DerivationTable) (o : OutlineTable) (status : ℕ) (text : List ℕ) : Type 0 where
  pub answer : Result ℕ VerifyFault
  pub is : derivation.IsAnswer o d answer
  pub roomy : answer ≢ Err verifying.NoMemory
  pub proved : IfOk answer (λ _. IsProved o)
  pub status_is : status ≡ verified_status answer
  pub text_is : text ≡ verified_line answer

abbrev pub violated_status : Option Violation → ℕ
violated_status None = 0
violated_status (Some violation) = 1

abbrev pub replayed_status : replaying.Answer → ℕ
replayed_status (Ok found) = violated_status found.first_violation
replayed_status (Err fault) = 5

-- `replay`: the trace of the schedule, and behind it the line of its answer
pub record IsReplayed (lines : ScheduleTable) (o : OutlineTable) (status : ℕ) (text : List ℕ) : Type 0 where
  pub answer : replaying.Answer
  pub trace : List ℕ
  pub is : replaying.IsReplay o lines answer trace
  pub status_is : status ≡ replayed_status answer
  pub text_is : text ≡ trace ++ replayed_line o.program.names answer

-- ---- files

-- what is found of a file: its bytes, or that it is longer than its limit
pub data Found : Type 0 where
  whole : List ℕ → Found
  longer : Found

-- the file is longer than its limit
pub record IsOverlong (Finds : File → Found → Type 0) (file : File) (status : ℕ) (text : List ℕ) : Type 0 where
  pub finds : Finds file longer
  pub status_is : status ≡ 10
  pub text_is : text ≡ too_long file.name

-- the file has these bytes, and they are taken so
pub record IsRead (Finds : File → Found → Type 0) (file : File) (Takes : List ℕ → ℕ → List ℕ → Type 0) (status : ℕ) (text : List ℕ) : Type 0 where
  pub bytes : List ℕ
  pub finds : Finds file (whole bytes)
  pub answers : Takes bytes status text

-- the answer to a file whose bytes are taken so, where `Finds` says what is found of files
abbrev pub OnFile : (File → Found → Type 0) → File → (List ℕ → ℕ → List ℕ → Type 0) → ℕ → List ℕ → Type 0
OnFile Finds file Takes status text = IsOverlong Finds file status text ⊎ IsRead Finds file Takes status text

-- the bytes stand for no outline, and this is their first fault
pub record IsRefusal (bytes : List ℕ) (status : ℕ) (text : List ℕ) : Type 0 where
  pub fault : Fault
  pub first : first_fault bytes ≡ Some fault
  pub status_is : status ≡ 3
  pub text_is : text ≡ refusal fault

-- the bytes are no document, and this is their first fault
pub record IsNoDocument {A : Type 0} (read : List ℕ → Result A DocFault) (bytes : List ℕ) (status : ℕ) (text : List ℕ) : Type 0 where
  pub fault : DocFault
  pub first : read bytes ≡ Err fault
  pub status_is : status ≡ 4
  pub text_is : text ≡ document_line fault

-- the bytes are refused as those of such a file
abbrev pub IsRefused : Kind → List ℕ → ℕ → List ℕ → Type 0
IsRefused Outline bytes status text = IsRefusal bytes status text
IsRefused Derivation bytes status text = IsNoDocument derivation_in bytes status text
IsRefused Schedule bytes status text = IsNoDocument schedule_in bytes status text

-- the bytes stand for an outline, on which the work is done
pub record IsDone (Work : OutlineTable → ℕ → List ℕ → Type 0) (bytes : List ℕ) (status : ℕ) (text : List ℕ) : Type 0 where
  pub outline : OutlineTable
  pub stands : StandsFor bytes outline
  pub work : Work outline status text

-- the bytes are refused, or the work is done on their outline
abbrev pub AsOutline : (OutlineTable → ℕ → List ℕ → Type 0) → List ℕ → ℕ → List ℕ → Type 0
AsOutline Work bytes status text = IsRefusal bytes status text ⊎ IsDone Work bytes status text

-- the answer of some work on the outline in the file of this name
abbrev pub OnOutline : (File → Found → Type 0) → List ℕ → (OutlineTable → ℕ → List ℕ → Type 0) → ℕ → List ℕ → Type 0
OnOutline Finds name Work status text = OnFile Finds (outline_file name) (AsOutline Work) status text

-- the bytes are a document, on which the work is done
pub record IsDoneOn {A : Type 0} (read : List ℕ → Result A DocFault) (Work : A → ℕ → List ℕ → Type 0) (bytes : List ℕ) (status : ℕ) (text : List ℕ) : Type 0 where
  pub document : A
  pub is : read bytes ≡ Ok document
  pub work : Work document status text

-- the bytes are refused, or the work is done on their document
abbrev pub AsDocument : {A : Type 0} → (List ℕ → Result A DocFault) → (A → ℕ → List ℕ → Type 0) → List ℕ → ℕ → List ℕ → Type 0
AsDocument read Work bytes status text = IsNoDocument read bytes status text ⊎ IsDoneOn read Work bytes status text

-- how the bytes of a second file are taken, beside an outline
abbrev pub AsDerivation : OutlineTable → List ℕ → ℕ → List ℕ → Type 0
AsDerivation o bytes status text = AsDocument derivation_in (λ d. IsChecked d o) bytes status text

abbrev pub AsSchedule : OutlineTable → List ℕ → ℕ → List ℕ → Type 0
AsSchedule o bytes status text = AsDocument schedule_in (λ lines. IsReplayed lines o) bytes status text

-- the answer on an outline and a second file, whose bytes are taken so beside it
abbrev pub OnBoth : (File → Found → Type 0) → List ℕ → File → (OutlineTable → List ℕ → ℕ → List ℕ → Type 0) → ℕ → List ℕ → Type 0
OnBoth Finds name second Takes status text = OnOutline Finds name (λ o. OnFile Finds second (Takes o)) status text

-- ---- commands

-- the answer to a command
abbrev pub Answers : (File → Found → Type 0) → Command → ℕ → List ℕ → Type 0
Answers Finds (check name budget) status text = OnOutline Finds name (IsJudged IsJudgement budget) status text
Answers Finds (obligations name) status text = OnOutline Finds name IsListed status text
Answers Finds (derive name budget) status text = OnOutline Finds name (IsJudged IsDerived budget) status text
Answers Finds (verify name second) status text = OnBoth Finds name (derivation_file second) AsDerivation status text
Answers Finds (replay name second) status text = OnBoth Finds name (schedule_file second) AsSchedule status text
Answers Finds (made statements budget) status text = IsJudged (IsMadeJudgement statements) budget (made_outline statements) status text

-- and to words that are a command or none
abbrev pub AnswersTo : (File → Found → Type 0) → Option Command → ℕ → List ℕ → Type 0
AnswersTo Finds None status text = (status ≡ 8) × (text ≡ usage)
AnswersTo Finds (Some command) status text = Answers Finds command status text

-- what is found of a file where the bytes of names are told
abbrev pub Tells : (List ℕ → Option (List ℕ)) → File → Found → Type 0
Tells told file (whole bytes) = (told file.name ≡ Some bytes) × (length bytes ≤ limit file)
Tells told file longer = IsSomeAnd (told file.name) (λ bytes. limit file < length bytes)

-- the answer to the words, where the bytes of names are told
abbrev pub Defined : List (String Global) → (List ℕ → Option (List ℕ)) → ℕ → List ℕ → Type 0
Defined words told status text = AnswersTo (Tells told) (command_of words) status text
