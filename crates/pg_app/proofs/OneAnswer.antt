-- A call has one answer: of the words, where the bytes of names are told, one status at most, and one text unless a derivation is asked for.
use Rattle.std.proofs.Common.{◌≡◌, ℕ, ◌⊎◌, inl, inr, List, ◌++◌, Option, None, Some, String, sym, subst, ap, ap₂, ◌∙◌}
use Rattle.std.specs.Prelude.{Result, Ok, Err}
use Rattle.std.specs.declared.alloc.Global.{Global}
use Rattle.pg_outline.specs.Outline.{OutlineTable}
use Rattle.pg_outline_text.proofs.Answered.{one_reading, no_fault_told}
use Rattle.pg_made.specs.Made.{made_outline}
use Rattle.pg_judge.specs.Outcome.{Outcome}
use Rattle.pg_judge.proofs.Unique.{outcome-unique}
use Rattle.pg_document.specs.declared.fault.DocFault.{DocFault}
use Rattle.pg_derivation.specs.Derivation.{DerivationTable}
use Rattle.pg_derive.specs.Laws.{AnswerIsUnique}
use Rattle.pg_schedule.specs.Schedule.{ScheduleTable}
use Rattle.pg_replay.specs.Replay.{Answer}
use Rattle.pg_replay.proofs.OneAnswer as replays
use Rattle.pg_report.specs.Documents.{document_line}
use Rattle.pg_report.specs.Refusal.{refusal}
use Rattle.pg_report.specs.Replayed.{replayed_line}
use Rattle.pg_report.specs.Verified.{verified_line}
use Rattle.pg_app.specs.File.{File, outline_file, derivation_file, schedule_file, derivation_in, schedule_in}
use Rattle.pg_app.specs.Command.{Command, AsksForDerivation, check, obligations, derive, verify, replay, made, command_of}
use Rattle.pg_app.specs.Answer.{IsJudged, IsJudgement, IsDerived, IsMadeJudgement, IsListed, IsChecked, IsReplayed, IsRefusal, IsNoDocument, IsDone, IsDoneOn, AsOutline, AsDocument, AsDerivation, AsSchedule, OnFile, OnBoth, AnswersTo, Tells, Defined, status_of, verified_status, replayed_status}
use Rattle.pg_app.proofs.Files.{AreSame, HasOneTaking, on_file_once}

-- ---- works

-- work on an outline has one status, and one text unless that is free
abbrev pub HasOneResult : Type 0 → (OutlineTable → ℕ → List ℕ → Type 0) → Type 0
HasOneResult Free Work = (o : OutlineTable) (s t : ℕ) (a b : List ℕ) → Work o s a → Work o t b → AreSame Free s t a b

-- an outcome has one text, unless that is free
abbrev pub HasOneText : Type 0 → (OutlineTable → Outcome → List ℕ → Type 0) → Type 0
HasOneText Free IsText = (o : OutlineTable) (outcome : Outcome) (a b : List ℕ) → IsText o outcome a → IsText o outcome b → Free ⊎ (a ≡ b)

judgement_once : HasOneText ⊥ IsJudgement
judgement_once o outcome a b h k = inr (h ∙ sym k)

derived_once : HasOneText (Unit {0}) IsDerived
derived_once o outcome a b h k = inl tt

made_judgement_once : (statements : ℕ) → HasOneText ⊥ (IsMadeJudgement statements)
made_judgement_once statements o outcome a b h k = inr (h ∙ sym k)

judged_once : {Free : Type 0} (IsText : OutlineTable → Outcome → List ℕ → Type 0) → HasOneText Free IsText → (budget : ℕ) → HasOneResult Free (IsJudged IsText budget)
judged_once IsText once budget o s t a b h k =
    let e = outcome-unique o budget h.outcome k.outcome h.is k.is in
    (h.status_is ∙ (ap status_of e ∙ sym k.status_is), once o k.outcome a b (subst (λ (outcome : Outcome). IsText o outcome a) e h.text_is) k.text_is)

listed_once : HasOneResult ⊥ IsListed
listed_once o s t a b h k = (h.status_is ∙ sym k.status_is, inr (h.text_is ∙ sym k.text_is))

module _ {Free : Type 0} (Work : OutlineTable → ℕ → List ℕ → Type 0) (once : HasOneResult Free Work) where
  -- a text that stands for an outline has no fault
  not_refused : {A : Type 0} (bytes : List ℕ) (s t : ℕ) (a b : List ℕ) → IsDone Work bytes s a → IsRefusal bytes t b → A
  not_refused bytes s t a b h k = let none : None ≡ Some k.fault = sym (no_fault_told bytes h.outline h.stands) ∙ k.first in absurd (cc)

  both_refused : (bytes : List ℕ) (s t : ℕ) (a b : List ℕ) → IsRefusal bytes s a → IsRefusal bytes t b → AreSame Free s t a b
  both_refused bytes s t a b h k =
      let same : Some h.fault ≡ Some k.fault = sym h.first ∙ k.first in
      let fault : h.fault ≡ k.fault = cc in
      (h.status_is ∙ sym k.status_is, inr (h.text_is ∙ (ap refusal fault ∙ sym k.text_is)))

  both_done : (bytes : List ℕ) (s t : ℕ) (a b : List ℕ) → IsDone Work bytes s a → IsDone Work bytes t b → AreSame Free s t a b
  both_done bytes s t a b h k =
      once k.outline s t a b (subst (λ (o : OutlineTable). Work o s a) (one_reading bytes h.outline k.outline h.stands k.stands) h.work) k.work

  read_once : HasOneTaking Free (AsOutline Work)
  read_once bytes s t a b (inl h) (inl k) = both_refused bytes s t a b h k
  read_once bytes s t a b (inl h) (inr k) = not_refused bytes t s b a k h
  read_once bytes s t a b (inr h) (inl k) = not_refused bytes s t a b h k
  read_once bytes s t a b (inr h) (inr k) = both_done bytes s t a b h k

-- ---- documents

checked_once : AnswerIsUnique → (o : OutlineTable) (d : DerivationTable) (s t : ℕ) (a b : List ℕ) → IsChecked d o s a → IsChecked d o t b → AreSame ⊥ s t a b
checked_once unique o d s t a b h k =
    let e = unique o d h.answer k.answer h.is k.is h.roomy k.roomy in
    (h.status_is ∙ (ap verified_status e ∙ sym k.status_is), inr (h.text_is ∙ (ap verified_line e ∙ sym k.text_is)))

replayed_once : (o : OutlineTable) (lines : ScheduleTable) (s t : ℕ) (a b : List ℕ) → IsReplayed lines o s a → IsReplayed lines o t b → AreSame ⊥ s t a b
replayed_once o lines s t a b h k =
    let e = replays.one_answer o lines h.answer k.answer h.trace k.trace h.is k.is in (
      h.status_is ∙ (ap replayed_status e.answer ∙ sym k.status_is),
      inr (h.text_is ∙ (ap₂ (λ (l : List ℕ) (r : Answer). l ++ replayed_line o.program.names r) e.trace e.answer ∙ sym k.text_is)),
    )

module _ {A : Type 0} (read : List ℕ → Result A DocFault) (Work : A → ℕ → List ℕ → Type 0) (once : (d : A) (s t : ℕ) (a b : List ℕ) → Work d s a → Work d t b → AreSame ⊥ s t a b) where
  not_denied : {B : Type 0} (bytes : List ℕ) (s t : ℕ) (a b : List ℕ) → IsDoneOn read Work bytes s a → IsNoDocument read bytes t b → B
  not_denied bytes s t a b h k = let e : Ok h.document ≡ Err k.fault = sym h.is ∙ k.first in cc

  document_once : HasOneTaking ⊥ (AsDocument read Work)
  document_once bytes s t a b (inl h) (inl k) =
      let same : Err h.fault ≡ Err k.fault = sym h.first ∙ k.first in
      let fault : h.fault ≡ k.fault = cc in
      (h.status_is ∙ sym k.status_is, inr (h.text_is ∙ (ap document_line fault ∙ sym k.text_is)))
  document_once bytes s t a b (inl h) (inr k) = not_denied bytes t s b a k h
  document_once bytes s t a b (inr h) (inl k) = not_denied bytes s t a b h k
  document_once bytes s t a b (inr h) (inr k) =
      let same : Ok h.document ≡ Ok k.document = sym h.is ∙ k.is in
      let document : h.document ≡ k.document = cc in
      once k.document s t a b (subst (λ (d : A). Work d s a) document h.work) k.work

-- the second file, beside an outline
beside_once : (told : List ℕ → Option (List ℕ)) (second : File) (Takes : OutlineTable → List ℕ → ℕ → List ℕ → Type 0) → ((o : OutlineTable) → HasOneTaking ⊥ (Takes o))
    → HasOneResult ⊥ (λ o. OnFile (Tells told) second (Takes o))
beside_once told second Takes once o s t a b h k = on_file_once told second (Takes o) (once o) s t a b h k

on_both_once : (told : List ℕ → Option (List ℕ)) (name : List ℕ) (second : File) (Takes : OutlineTable → List ℕ → ℕ → List ℕ → Type 0) → ((o : OutlineTable) → HasOneTaking ⊥ (Takes o))
    → (s t : ℕ) (a b : List ℕ) → OnBoth (Tells told) name second Takes s a → OnBoth (Tells told) name second Takes t b → AreSame ⊥ s t a b
on_both_once told name second Takes once s t a b h k =
    on_file_once told (outline_file name) (AsOutline (λ o. OnFile (Tells told) second (Takes o)))
    (read_once (λ o. OnFile (Tells told) second (Takes o)) (beside_once told second Takes once)) s t a b h k

-- ---- commands

answered_once : AnswerIsUnique → (told : List ℕ → Option (List ℕ)) (command : Option Command) (s t : ℕ) (a b : List ℕ) → AnswersTo (Tells told) command s a → AnswersTo (Tells told) command t b → AreSame (AsksForDerivation command) s t a b
answered_once unique told None s t a b h k = (h.0 ∙ sym k.0, inr (h.1 ∙ sym k.1))
answered_once unique told (Some (check name budget)) s t a b h k =
    on_file_once told (outline_file name) (AsOutline (IsJudged IsJudgement budget)) (read_once (IsJudged IsJudgement budget) (judged_once IsJudgement judgement_once budget)) s t a b h k
answered_once unique told (Some (obligations name)) s t a b h k = on_file_once told (outline_file name) (AsOutline IsListed) (read_once IsListed listed_once) s t a b h k
answered_once unique told (Some (derive name budget)) s t a b h k =
    on_file_once told (outline_file name) (AsOutline (IsJudged IsDerived budget)) (read_once (IsJudged IsDerived budget) (judged_once IsDerived derived_once budget)) s t a b h k
answered_once unique told (Some (verify name second)) s t a b h k =
    on_both_once told name (derivation_file second) AsDerivation (λ o. document_once derivation_in (λ d. IsChecked d o) (checked_once unique o)) s t a b h k
answered_once unique told (Some (replay name second)) s t a b h k =
    on_both_once told name (schedule_file second) AsSchedule (λ o. document_once schedule_in (λ lines. IsReplayed lines o) (replayed_once o)) s t a b h k
answered_once unique told (Some (made statements budget)) s t a b h k =
    judged_once (IsMadeJudgement statements) (made_judgement_once statements) budget (made_outline statements) s t a b h k

pub one_answer : AnswerIsUnique → (words : List (String Global)) (told : List ℕ → Option (List ℕ)) (s t : ℕ) (a b : List ℕ) → Defined words told s a → Defined words told t b → AreSame (AsksForDerivation (command_of words)) s t a b
one_answer unique words told s t a b h k = answered_once unique told (command_of words) s t a b h k
