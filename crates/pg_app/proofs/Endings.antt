-- How the parts of a call end the full, and what an ending says.
use Rattle.std.proofs.Common.{◌≡◌, ℕ, ◌+◌, ◌<◌, ◌≤◌, ◌⊎◌, inl, inr, List, [], ◌∷◌, Option, None, Some, IfSome, IsSome, Contains, refl, sym, subst, ◌∙◌, arith, lit<}
use Rattle.std.specs.List.{All}
use Rattle.std.specs.Prelude.{String, Result, Ok, Err, IfOk, IfErr}
use Rattle.std.specs.declared.alloc.Global.{Global}
use Rattle.std.proofs.lemmas.List.Elements.{All-head, All-tail}
use Rattle.pg_io.specs.Counts.{Rose, RoseBy}
use Rattle.pg_io.specs.Told.{IsTooLong}
use Rattle.pg_io.specs.Written.{appended}
use Rattle.pg_document.specs.declared.fault.DocFault.{DocFault}
use Rattle.pg_derivation.specs.Derivation.{DerivationTable}
use Rattle.pg_schedule.specs.Schedule.{ScheduleTable}
use Rattle.pg_outline.specs.Outline.{OutlineTable}
use Rattle.pg_outline_text.specs.Text.{StandsFor}
use Rattle.pg_outline_text.proofs.Answered.{one_reading}
use Rattle.pg_derive.specs.declared.fault.VerifyFault.{VerifyFault}
use Rattle.pg_replay.specs.declared.answer.Violation.{Violation}
use Rattle.pg_replay.specs.Replay.{Answer, IsReplay}
use Rattle.pg_replay.proofs.Unviolated.{safe_shows_none}
use Rattle.pg_made.specs.Made.{made_outline}
use Rattle.pg_judge.specs.Outcome.{Outcome, accepted, rejected, spent}
use Rattle.pg_judge.specs.Laws.{IsProved, Says}
use Rattle.pg_app.specs.declared.file.Kind.TheVariants.{Outline}
use Rattle.pg_app.specs.Line.{too_long}
use Rattle.pg_app.specs.File.{File, outline_file, derivation_file, schedule_file, limit, derivation_in, schedule_in, IsOutlineText}
use Rattle.pg_app.specs.declared.command.Work.{Work}
use Rattle.pg_app.specs.declared.command.Work.TheVariants.{Check, Obligations, Derive, Verify, Replay}
use Rattle.pg_app.specs.Command.{Command, check, obligations, derive, verify, replay, made, command_of, files_for, asked_on}
use Rattle.pg_app.specs.Answer.{whole, IsJudged, IsJudgement, IsDerived, IsMadeJudgement, IsListed, IsChecked, IsReplayed, IsRefused, IsNoDocument, IsDone, AsOutline, AsDocument, AsDerivation, AsSchedule, OnFile, OnOutline, Answers, AnswersTo, Tells, status_of, verified_status, violated_status, replayed_status}
use Rattle.pg_app.specs.Put.{Puts}
use Rattle.pg_app.specs.Safety.{IsSafeText, Claims, Denies}
use Rattle.pg_app.specs.Run.{statuses, IsAnswer, AreTold, AreQuiet, Reached, Writes, WritesPart, Fetches, IsUnfetched, Ends}
use Rattle.pg_app.specs.Stops.{IsFetched, IsFetchedAs, IsFailed, Stops, EndsOn, EndsWork}
use Rattle.pg_app.proofs.Puts.{whole_is_part, puts_map}
use Rattle.pg_app.proofs.BothFiles.{both_end, on_both_defined, on_both_long, on_both_says}
use Rattle.pg_app.proofs.Files.{on_file_map, fetched_told, on_file_claims, as_outline_claims}
use Rattle.pg_app.proofs.Statuses.{TakesLow, judged_low, made_low, listed_low, derivation_low, schedule_low, as_outline_low, due_is_answer, due_in_range, not_usage}

-- ---- the end of the call

-- the refusal of the file is the answer whatever the work
stopped_puts : (told : List ℕ → Option (List ℕ)) (taken taken_now : ℕ) (name : List ℕ) (Work : OutlineTable → ℕ → List ℕ → Type 0) (status : ℕ) (old new : Option (List ℕ)) (before now : ℕ)
    → Puts (OnFile (Fetches told taken taken_now) (outline_file name) (IsRefused Outline)) status old new before now
    → Puts (OnOutline (Fetches told taken taken_now) name Work) status old new before now
stopped_puts told taken taken_now name Work status old new before now puts =
    puts_map (OnFile (Fetches told taken taken_now) (outline_file name) (IsRefused Outline)) (OnOutline (Fetches told taken taken_now) name Work)
    (on_file_map (Fetches told taken taken_now) (Fetches told taken taken_now) (outline_file name) (IsRefused Outline) (AsOutline Work) (λ found finds. finds)
    (λ bytes s text refusal. inl refusal))
    status old new before now puts

module _ {told : List ℕ → Option (List ℕ)} {taken taken_now status : ℕ} {old new : Option (List ℕ)} {before now : ℕ} where
  -- the refusal of a file that was read
  refusal_stops : (file : File) (bytes : List ℕ) (faults faults_now : ℕ) → Fetches told taken taken_now file (whole bytes) → Puts (IsRefused file.kind bytes) status old new before now
      → Stops told file faults faults_now taken taken_now status old new before now
  refusal_stops file bytes faults faults_now finds puts = record {
    how = inl (puts_map (IsRefused file.kind bytes) (OnFile (Fetches told taken taken_now) file (IsRefused file.kind))
        (λ s text refusal. inr (record { bytes = bytes; finds = finds; answers = refusal }))
        status old new before now puts);
  }

  -- and of one that was too long
  pub long_stops : (file : File) (faults faults_now n : ℕ) → limit file < n → RoseBy n taken taken_now → IsTooLong (told file.name) (limit file)
      → Puts (λ s text. (s ≡ 10) × (text ≡ too_long file.name)) status old new before now
      → Stops told file faults faults_now taken taken_now status old new before now
  long_stops file faults faults_now n above rose long puts = record {
    how = inl (puts_map (λ s text. (s ≡ 10) × (text ≡ too_long file.name)) (OnFile (Fetches told taken taken_now) file (IsRefused file.kind))
        (λ s text due. inl (record { finds = (long, omega (arith, above, rose)); status_is = due.0; text_is = due.1 }))
        status old new before now puts);
  }

  module _ (name : List ℕ) (Work : OutlineTable → ℕ → List ℕ → Type 0) where
    -- the work on an outline that was fetched
    done_puts : (o : OutlineTable) → IsFetched told taken taken_now (outline_file name) o → Puts (Work o) status old new before now
        → Puts (OnOutline (Fetches told taken taken_now) name Work) status old new before now
    done_puts o fetched puts =
        puts_map (Work o) (OnOutline (Fetches told taken taken_now) name Work)
        (λ s text work. inr (record { bytes = fetched.bytes; finds = fetched.finds; answers = inr (record { outline = o; stands = fetched.stands; work = work }) }))
        status old new before now puts

  -- the outline's file ends the call, whatever the work and the files behind it
  module _ {faults faults_now : List ℕ → ℕ} (name : List ℕ) where
    stopped : (Work : OutlineTable → ℕ → List ℕ → Type 0) (more : List File) → Stops told (outline_file name) (faults name) (faults_now name) taken taken_now status old new before now
        → Puts (OnOutline (Fetches told taken taken_now) name Work) status old new before now ⊎ IsUnfetched told (outline_file name ∷ more) faults faults_now status old new
    stopped Work more stops =
        elim stops.how [
          | inl puts ↦ inl (stopped_puts told taken taken_now name Work status old new before now puts)
          | inr failed ↦ inr (record { status_is = failed.status_is; rose = inl failed.rose; kept = failed.kept })
        ]

    pub work_stops : (work : Work) → Stops told (outline_file name) (faults name) (faults_now name) taken taken_now status old new before now
        → Ends (Some (asked_on name work)) told faults faults_now taken taken_now status old new before now
    work_stops (Check budget) stops = record { how = stopped (IsJudged IsJudgement budget) [] stops }
    work_stops Obligations stops = record { how = stopped IsListed [] stops }
    work_stops (Derive budget) stops = record { how = stopped (IsJudged IsDerived budget) [] stops }
    work_stops (Verify derivation) stops = record {
      how = stopped (λ o. OnFile (Fetches told taken taken_now) (derivation_file derivation.now) (AsDerivation o)) (derivation_file derivation.now ∷ []) stops;
    }
    work_stops (Replay schedule) stops = record {
      how = stopped (λ o. OnFile (Fetches told taken taken_now) (schedule_file schedule.now) (AsSchedule o)) (schedule_file schedule.now ∷ []) stops;
    }

-- a document that was fetched is answered, or its refusal ends the second file
module _ {told : List ℕ → Option (List ℕ)} {taken taken_now status : ℕ} {old new : Option (List ℕ)} {before now : ℕ} where
  module _ {A : Type 0} (read : List ℕ → Result A DocFault) (Work : A → ℕ → List ℕ → Type 0) (file : File) (faults faults_now : ℕ) where
    document_ends : (d : A) → IsFetchedAs read told taken taken_now file d → Puts (Work d) status old new before now
        → EndsOn (AsDocument read Work) told file faults faults_now taken taken_now status old new before now
    document_ends d fetched puts = record {
      how = inl (puts_map (Work d) (OnFile (Fetches told taken taken_now) file (AsDocument read Work))
          (λ s text work. inr (record { bytes = fetched.bytes; finds = fetched.finds; answers = inr (record { document = d; is = fetched.is; work = work }) }))
          status old new before now puts);
    }

    document_stops : Puts (OnFile (Fetches told taken taken_now) file (IsNoDocument read)) status old new before now ⊎ IsFailed faults faults_now status old new
        → EndsOn (AsDocument read Work) told file faults faults_now taken taken_now status old new before now
    document_stops (inl puts) = record {
      how = inl (puts_map (OnFile (Fetches told taken taken_now) file (IsNoDocument read)) (OnFile (Fetches told taken taken_now) file (AsDocument read Work))
          (on_file_map (Fetches told taken taken_now) (Fetches told taken taken_now) file (IsNoDocument read) (AsDocument read Work) (λ found finds. finds)
          (λ bytes s text denied. inl denied))
          status old new before now puts);
    }
    document_stops (inr failed) = record { how = inr failed }

  module _ {faults faults_now : ℕ} (o : OutlineTable) (name : List ℕ) where
    pub derivation_ends : (d : DerivationTable) → IsFetchedAs derivation_in told taken taken_now (derivation_file name) d → Puts (IsChecked d o) status old new before now
        → EndsOn (AsDerivation o) told (derivation_file name) faults faults_now taken taken_now status old new before now
    derivation_ends d fetched puts = document_ends derivation_in (λ x. IsChecked x o) (derivation_file name) faults faults_now d fetched puts

    pub derivation_stops : Stops told (derivation_file name) faults faults_now taken taken_now status old new before now
        → EndsOn (AsDerivation o) told (derivation_file name) faults faults_now taken taken_now status old new before now
    derivation_stops stops = document_stops derivation_in (λ x. IsChecked x o) (derivation_file name) faults faults_now stops.how

    pub schedule_ends : (lines : ScheduleTable) → IsFetchedAs schedule_in told taken taken_now (schedule_file name) lines → Puts (IsReplayed lines o) status old new before now
        → EndsOn (AsSchedule o) told (schedule_file name) faults faults_now taken taken_now status old new before now
    schedule_ends lines fetched puts = document_ends schedule_in (λ x. IsReplayed x o) (schedule_file name) faults faults_now lines fetched puts

    pub schedule_stops : Stops told (schedule_file name) faults faults_now taken taken_now status old new before now
        → EndsOn (AsSchedule o) told (schedule_file name) faults faults_now taken taken_now status old new before now
    schedule_stops stops = document_stops schedule_in (λ x. IsReplayed x o) (schedule_file name) faults faults_now stops.how

-- what was found of a file does not rest on what is taken later
found_later : (told : List ℕ → Option (List ℕ)) (taken between taken_now : ℕ) (file : File) (o : OutlineTable) → IsFetched told taken between file o → IsFetched told taken taken_now file o
found_later told taken between taken_now file o fetched = record { bytes = fetched.bytes; finds = fetched.finds; stands = fetched.stands }

-- the work on the outline that was fetched ends the call; `mid` has the counts of faults before it
module _ {told later : List ℕ → Option (List ℕ)} {faults mid faults_now : List ℕ → ℕ} {taken between taken_now status : ℕ} {old new : Option (List ℕ)} {before now : ℕ}
    (name : List ℕ) (o : OutlineTable) (same : (n : List ℕ) → later n ≡ told n) (grown : (n : List ℕ) → faults n ≤ mid n) (le : taken ≤ between)
    (fetched : IsFetched told taken between (outline_file name) o) where
  pub work_ends : (work : Work) → EndsWork work o later mid faults_now between taken_now status old new before now
      → Ends (Some (asked_on name work)) told faults faults_now taken taken_now status old new before now
  work_ends (Check budget) puts = record { how = inl (done_puts name (IsJudged IsJudgement budget) o (found_later told taken between taken_now (outline_file name) o fetched) puts) }
  work_ends Obligations puts = record { how = inl (done_puts name IsListed o (found_later told taken between taken_now (outline_file name) o fetched) puts) }
  work_ends (Derive budget) puts = record { how = inl (done_puts name (IsJudged IsDerived budget) o (found_later told taken between taken_now (outline_file name) o fetched) puts) }
  work_ends (Verify derivation) ends = record {
    how = both_end later name (derivation_file derivation.now) AsDerivation o (same derivation.now) le fetched (mid derivation.now) (grown derivation.now) ends;
  }
  work_ends (Replay schedule) ends = record {
    how = both_end later name (schedule_file schedule.now) AsSchedule o (same schedule.now) le fetched (mid schedule.now) (grown schedule.now) ends;
  }

-- no file is read where an outline is made
pub made_ends : {told : List ℕ → Option (List ℕ)} {faults faults_now : List ℕ → ℕ} {taken taken_now status : ℕ} {old new : Option (List ℕ)} {before now : ℕ} (statements budget : ℕ)
    → Puts (IsJudged (IsMadeJudgement statements) budget (made_outline statements)) status old new before now
    → Ends (Some (made statements budget)) told faults faults_now taken taken_now status old new before now
made_ends statements budget puts = record { how = inl puts }

-- where the bytes that were fetched are refused, the call ends with that
pub refused_stops : {A : Type 0} (r : Result A ℕ) (told : List ℕ → Option (List ℕ)) (file : File) (bytes : List ℕ) (faults faults_now taken taken_now : ℕ) (old new : Option (List ℕ)) (before now : ℕ)
    → Fetches told taken taken_now file (whole bytes) → IfErr r (λ s. Puts (IsRefused file.kind bytes) s old new before now)
    → IfErr r (λ s. Stops told file faults faults_now taken taken_now s old new before now)
refused_stops (Ok o) told file bytes faults faults_now taken taken_now old new before now finds puts = tt
refused_stops (Err s) told file bytes faults faults_now taken taken_now old new before now finds puts = refusal_stops file bytes faults faults_now finds puts

-- ---- what is due is what is defined

module _ (told : List ℕ → Option (List ℕ)) (taken taken_now : ℕ) where
  on_outline_defined : (name : List ℕ) (Work : OutlineTable → ℕ → List ℕ → Type 0) (s : ℕ) (text : List ℕ) → AreTold (outline_file name ∷ []) told
      → OnOutline (Fetches told taken taken_now) name Work s text → OnOutline (Tells told) name Work s text
  on_outline_defined name Work s text known =
      let some = All-head (λ (f : File). IsSome (told f.name)) (outline_file name) [] known in
      on_file_map (Fetches told taken taken_now) (Tells told) (outline_file name) (AsOutline Work) (AsOutline Work) (fetched_told told taken taken_now (outline_file name) some)
      (λ bytes n line answers. answers) s text

  due_defined : (command : Option Command) (s : ℕ) (text : List ℕ) → AreTold (files_for command) told → AnswersTo (Fetches told taken taken_now) command s text
      → AnswersTo (Tells told) command s text
  due_defined None s text known due = due
  due_defined (Some (check name budget)) s text known due = on_outline_defined name (IsJudged IsJudgement budget) s text known due
  due_defined (Some (obligations name)) s text known due = on_outline_defined name IsListed s text known due
  due_defined (Some (derive name budget)) s text known due = on_outline_defined name (IsJudged IsDerived budget) s text known due
  due_defined (Some (verify name second)) s text known due = on_both_defined told taken taken_now name (derivation_file second) AsDerivation s text known due
  due_defined (Some (replay name second)) s text known due = on_both_defined told taken taken_now name (schedule_file second) AsSchedule s text known due
  due_defined (Some (made statements budget)) s text known due = due

-- ---- what an ending says

not_reached : (told : List ℕ → Option (List ℕ)) (P : File → Type 0) (files : List File) → Reached told files P → All (λ file. ¬ P file) files → ⊥
not_reached told P [] h none = h
not_reached told P (file ∷ files) (inl is) none = All-head (λ (f : File). ¬ P f) file files none is
not_reached told P (file ∷ files) (inr h) none = not_reached told P files h.1 (All-tail (λ (f : File). ¬ P f) file files none)

module _ {told : List ℕ → Option (List ℕ)} {faults faults_now : List ℕ → ℕ} {taken taken_now status : ℕ} {old new : Option (List ℕ)} {before now : ℕ} where
  module _ (command : Option Command) (ends : Ends command told faults faults_now taken taken_now status old new before now) where
    pub ends_in_range : Contains statuses status
    ends_in_range =
        elim ends.how [
          | inl puts ↦ elim puts [
            | inl full ↦ due_in_range (Fetches told taken taken_now) command status full.text full.due
            | inr others ↦ elim others [
              | inl cut ↦ (7, lit< tt, sym cut.status_is)
              | inr short ↦ (9, lit< tt, sym short.status_is)
            ]
          ]
          | inr unfetched ↦ (6, lit< tt, sym unfetched.status_is)
        ]

    pub ends_unread : status ≡ 6 → Reached told (files_for command) (λ file. Rose (faults file.name) (faults_now file.name)) × (new ≡ old)
    ends_unread is =
        elim ends.how [
          | inl puts ↦ elim puts [
            | inl full ↦ absurd ((due_is_answer (Fetches told taken taken_now) command status full.text full.due).fetched is)
            | inr others ↦ elim others [
              | inl cut ↦ let e = cut.status_is in absurd (omega (arith, e, is))
              | inr short ↦ let e = short.status_is in absurd (omega (arith, e, is))
            ]
          ]
          | inr unfetched ↦ (unfetched.rose, unfetched.kept)
        ]

    pub ends_unwritten : status ≡ 7 → Rose before now
    ends_unwritten is =
        elim ends.how [
          | inl puts ↦ elim puts [
            | inl full ↦ absurd ((due_is_answer (Fetches told taken taken_now) command status full.text full.due).put is)
            | inr others ↦ elim others [
              | inl cut ↦ cut.rose
              | inr short ↦ let e = short.status_is in absurd (omega (arith, e, is))
            ]
          ]
          | inr unfetched ↦ let e = unfetched.status_is in absurd (omega (arith, e, is))
        ]

    -- an answer is a defined one, and its full text was written
    defined_text : AreTold (files_for command) told → IsAnswer status → (text : List ℕ) × AnswersTo (Tells told) command status text × (new ≡ appended old text)
    defined_text known answer =
        elim ends.how [
          | inl puts ↦ elim puts [
            | inl full ↦ (full.text, due_defined told taken taken_now command status full.text known full.due, full.written)
            | inr others ↦ elim others [
              | inl cut ↦ absurd (answer.put cut.status_is)
              | inr short ↦ absurd (answer.roomy short.status_is)
            ]
          ]
          | inr unfetched ↦ absurd (answer.fetched unfetched.status_is)
        ]

  -- of the words
  module _ (words : List (String Global)) (ends : Ends (command_of words) told faults faults_now taken taken_now status old new before now) (known : AreTold (files_for (command_of words)) told) where
    pub ends_defined : IsAnswer status → Writes words told status old new
    ends_defined answer =
        let found = defined_text (command_of words) ends known answer in
        record { text = found.0; defined = found.1; written = found.2 }

    -- whatever a call wrote is a prefix of a defined text
    pub ends_part : (new ≡ old) ⊎ WritesPart words told old new
    ends_part =
        elim ends.how [
          | inl puts ↦ elim puts [
            | inl full ↦ inr (record {
              status = status;
              text = full.text;
              defined = due_defined told taken taken_now (command_of words) status full.text known full.due;
              written = whole_is_part old new full.text full.written;
            })
            | inr others ↦ elim others [
              | inl cut ↦ inr (record {
                status = cut.part.status;
                text = cut.part.text;
                defined = due_defined told taken taken_now (command_of words) cut.part.status cut.part.text known cut.part.due;
                written = cut.part.written;
              })
              | inr short ↦ elim short.part [
                | inl kept ↦ inl kept
                | inr part ↦ inr (record {
                  status = part.status;
                  text = part.text;
                  defined = due_defined told taken taken_now (command_of words) part.status part.text known part.due;
                  written = part.written;
                })
              ]
            ]
          ]
          | inr unfetched ↦ inl unfetched.kept
        ]

    -- where no count of faults rose, there is an answer, or memory ran out
    pub ends_complete : AreQuiet (files_for (command_of words)) faults faults_now → ¬ Rose before now → Writes words told status old new ⊎ (status ≡ 9)
    ends_complete quiet calm =
        elim ends.how [
          | inl puts ↦ elim puts [
            | inl full ↦ inl (record { text = full.text; defined = due_defined told taken taken_now (command_of words) status full.text known full.due; written = full.written })
            | inr others ↦ elim others [
              | inl cut ↦ absurd (calm cut.rose)
              | inr short ↦ inr short.status_is
            ]
          ]
          | inr unfetched ↦ absurd (not_reached told (λ file. Rose (faults file.name) (faults_now file.name)) (files_for (command_of words)) unfetched.rose quiet)
        ]

-- ---- a file that is too long

module _ (told : List ℕ → Option (List ℕ)) (taken taken_now : ℕ) where
  -- bytes that are taken by one of the low statuses are not too long
  file_long : (file : File) (Takes : List ℕ → ℕ → List ℕ → Type 0) → TakesLow Takes → (s : ℕ) (text : List ℕ) → OnFile (Fetches told taken taken_now) file Takes s text → s ≡ 10
      → Reached told (file ∷ []) (λ f. RoseBy (limit f + 1) taken taken_now)
  file_long file Takes low s text (inl long) is = inl long.finds.1
  file_long file Takes low s text (inr read) is = let small = low read.bytes s text read.answers in absurd (omega (arith, small, is))

  due_long : (command : Option Command) (s : ℕ) (text : List ℕ) → AnswersTo (Fetches told taken taken_now) command s text → s ≡ 10
      → Reached told (files_for command) (λ f. RoseBy (limit f + 1) taken taken_now)
  due_long None s text due is = let e = due.0 in absurd (omega (arith, e, is))
  due_long (Some (check name budget)) s text due is = file_long (outline_file name) (AsOutline (IsJudged IsJudgement budget)) (as_outline_low (IsJudged IsJudgement budget) (judged_low IsJudgement budget)) s text due is
  due_long (Some (obligations name)) s text due is = file_long (outline_file name) (AsOutline IsListed) (as_outline_low IsListed listed_low) s text due is
  due_long (Some (derive name budget)) s text due is = file_long (outline_file name) (AsOutline (IsJudged IsDerived budget)) (as_outline_low (IsJudged IsDerived budget) (judged_low IsDerived budget)) s text due is
  due_long (Some (verify name second)) s text due is = on_both_long told taken taken_now name (derivation_file second) AsDerivation derivation_low s text due is
  due_long (Some (replay name second)) s text due is = on_both_long told taken taken_now name (schedule_file second) AsSchedule schedule_low s text due is
  due_long (Some (made statements budget)) s text due is = let small = made_low statements budget s text due in absurd (omega (arith, small, is))

pub ends_long : {told : List ℕ → Option (List ℕ)} {faults faults_now : List ℕ → ℕ} {taken taken_now status : ℕ} {old new : Option (List ℕ)} {before now : ℕ} (command : Option Command)
    → Ends command told faults faults_now taken taken_now status old new before now → status ≡ 10 → Reached told (files_for command) (λ f. RoseBy (limit f + 1) taken taken_now)
ends_long {told} {faults} {faults_now} {taken} {taken_now} {status} command ends is =
    elim ends.how [
      | inl puts ↦ elim puts [
        | inl full ↦ due_long told taken taken_now command status full.text full.due is
        | inr others ↦ elim others [
          | inl cut ↦ let e = cut.status_is in absurd (omega (arith, e, is))
          | inr short ↦ let e = short.status_is in absurd (omega (arith, e, is))
        ]
      ]
      | inr unfetched ↦ let e = unfetched.status_is in absurd (omega (arith, e, is))
    ]

-- ---- usage

-- a command does not end with the status of other words
pub ends_shaped : {told : List ℕ → Option (List ℕ)} {faults faults_now : List ℕ → ℕ} {taken taken_now status : ℕ} {old new : Option (List ℕ)} {before now : ℕ} (command : Command)
    → Ends (Some command) told faults faults_now taken taken_now status old new before now → status ≡ 8 → ⊥
ends_shaped {told} {faults} {faults_now} {taken} {taken_now} {status} command ends is =
    elim ends.how [
      | inl puts ↦ elim puts [
        | inl full ↦ not_usage (Fetches told taken taken_now) command status full.text full.due is
        | inr others ↦ elim others [
          | inl cut ↦ let e = cut.status_is in absurd (omega (arith, e, is))
          | inr short ↦ let e = short.status_is in absurd (omega (arith, e, is))
        ]
      ]
      | inr unfetched ↦ let e = unfetched.status_is in absurd (omega (arith, e, is))
    ]

-- words that are no command end with one of the program's statuses
pub usage_in_range : {old new : Option (List ℕ)} {status before now : ℕ} (text : List ℕ) → Puts (λ due line. (due ≡ 8) × (line ≡ text)) status old new before now → Contains statuses status
usage_in_range text (inl full) = (8, lit< tt, sym full.due.0)
usage_in_range text (inr (inl cut)) = (7, lit< tt, sym cut.status_is)
usage_in_range text (inr (inr short)) = (9, lit< tt, sym short.status_is)

-- and so do words that were refused
pub started_in_range : {A : Type 0} (words : Result A ℕ) (status : ℕ) → IfOk words (λ list. Contains statuses status) → IfErr words (λ s. status ≡ s) → IfErr words (λ s. (s ≡ 8) ⊎ (s ≡ 9))
    → Contains statuses status
started_in_range (Ok list) status ran refused which = ran
started_in_range (Err s) status ran refused (inl usage_is) = (8, lit< tt, sym (refused ∙ usage_is))
started_in_range (Err s) status ran refused (inr short_is) = (9, lit< tt, sym (refused ∙ short_is))

-- where the status is the answer, the full text was written
pub usage_written : {old new : Option (List ℕ)} {status before now : ℕ} (text : List ℕ) → Puts (λ due line. (due ≡ 8) × (line ≡ text)) status old new before now → status ≡ 8 → new ≡ appended old text
usage_written {old} text (inl full) is_usage = rw full.due.1 at full.written
usage_written text (inr (inl cut)) is_usage =
    let differs : 7 ≡ 8 = sym cut.status_is ∙ is_usage in absurd (omega (arith, differs))
usage_written text (inr (inr short)) is_usage =
    let differs : 9 ≡ 8 = sym short.status_is ∙ is_usage in absurd (omega (arith, differs))

-- ---- what status 0 claims, and what a violation denies

outcome_proved : (o : OutlineTable) (outcome : Outcome) (s : ℕ) → Says o outcome → s ≡ status_of outcome → s ≡ 0 → IsProved o
outcome_proved o (accepted count nodes) s proved e zero = proved
outcome_proved o (rejected i truths) s says e zero = absurd (omega (arith, e, zero))
outcome_proved o (spent i) s says e zero = absurd (omega (arith, e, zero))

-- an outline that is judged is proved
judged_proved : (IsText : OutlineTable → Outcome → List ℕ → Type 0) (budget : ℕ) (o : OutlineTable) (s : ℕ) (text : List ℕ) → IsJudged IsText budget o s text → s ≡ 0 → IsProved o
judged_proved IsText budget o s text judged zero = outcome_proved o judged.outcome s judged.says judged.status_is zero

judged_safe : (IsText : OutlineTable → Outcome → List ℕ → Type 0) (budget : ℕ) (bytes : List ℕ) (s : ℕ) (text : List ℕ) → IsDone (IsJudged IsText budget) bytes s text → s ≡ 0 → IsSafeText bytes
judged_safe IsText budget bytes s text done zero =
    record { outline = done.outline; stands = done.stands; proved = judged_proved IsText budget done.outline s text done.work zero }

verified_proved : (o : OutlineTable) (answer : Result ℕ VerifyFault) (s : ℕ) → IfOk answer (λ _. IsProved o) → s ≡ verified_status answer → s ≡ 0 → IsProved o
verified_proved o (Ok n) s proved e zero = proved
verified_proved o (Err fault) s proved e zero = absurd (omega (arith, e, zero))

-- a derivation that is verified shows that the outline is safe
derivation_safe : (bytes : List ℕ) (o : OutlineTable) (all : List ℕ) (s : ℕ) (text : List ℕ) → StandsFor bytes o → AsDerivation o all s text → s ≡ 0 → IsSafeText bytes
derivation_safe bytes o all s text stands (inl denied) zero = let e = denied.status_is in absurd (omega (arith, e, zero))
derivation_safe bytes o all s text stands (inr done) zero =
    record { outline = o; stands = stands; proved = verified_proved o done.work.answer s done.work.proved done.work.status_is zero }

-- where there is a violation not every obligation follows
one_violated : (violation : Option Violation) (s : ℕ) → s ≡ violated_status violation → s ≡ 1 → violation ≡ None → ⊥
one_violated None s e one none = omega (arith, e, one)
one_violated (Some violation) s e one none = cc

violated_unproved : (o : OutlineTable) (lines : ScheduleTable) (answer : Answer) (trace : List ℕ) (s : ℕ) → IsReplay o lines answer trace → s ≡ replayed_status answer → s ≡ 1 → IsProved o → ⊥
violated_unproved o lines (Ok found) trace s is e one proved = one_violated found.first_violation s e one (safe_shows_none o lines found trace proved.safe proved.starts is)
violated_unproved o lines (Err fault) trace s is e one proved = omega (arith, e, one)

schedule_unproved : (bytes : List ℕ) (o : OutlineTable) (all : List ℕ) (s : ℕ) (text : List ℕ) → StandsFor bytes o → AsSchedule o all s text → s ≡ 1
    → (p : OutlineTable) → StandsFor bytes p → IsProved p → ⊥
schedule_unproved bytes o all s text stands (inl denied) one = let e = denied.status_is in absurd (omega (arith, e, one))
schedule_unproved bytes o all s text stands (inr done) one = λ p reads proved.
    violated_unproved o done.document done.work.answer done.work.trace s done.work.is done.work.status_is one (subst IsProved (one_reading bytes p o reads stands) proved)

-- so `check` accepts the file under no budget
of_told : (P : List ℕ → Type 0) (o : Option (List ℕ)) (bytes : List ℕ) → o ≡ Some bytes → IfSome o P → P bytes
of_told P None bytes e h = cc
of_told P (Some all) bytes e h = let same : all ≡ bytes = cc in subst P same h

unaccepted : (told : List ℕ → Option (List ℕ)) (name : List ℕ) → IfSome (told name) (λ bytes. (o : OutlineTable) → StandsFor bytes o → IsProved o → ⊥) → (budget : ℕ) (text : List ℕ)
    → Answers (Tells told) (check name budget) 0 text → ⊥
unaccepted told name unproved budget text (inl long) = let e = long.status_is in omega (arith, e)
unaccepted told name unproved budget text (inr read) =
    elim read.answers [
      | inl refusal ↦ let e = refusal.status_is in absurd (omega (arith, e))
      | inr done ↦
          of_told (λ bytes. (o : OutlineTable) → StandsFor bytes o → IsProved o → ⊥) (told name) read.bytes read.finds.0 unproved done.outline done.stands
          (judged_proved IsJudgement budget done.outline 0 text done.work refl)
    ]

listed_stands : (bytes : List ℕ) (s : ℕ) (text : List ℕ) → IsDone IsListed bytes s text → s ≡ 0 → IsOutlineText bytes
listed_stands bytes s text done zero = record { outline = done.outline; stands = done.stands }

module _ (told : List ℕ → Option (List ℕ)) (taken taken_now : ℕ) where
  on_outline_claims : (name : List ℕ) (Work : OutlineTable → ℕ → List ℕ → Type 0) (P : List ℕ → Type 0)
      → ((bytes : List ℕ) (s : ℕ) (text : List ℕ) → IsDone Work bytes s text → s ≡ 0 → P bytes)
      → (s : ℕ) (text : List ℕ) → OnOutline (Fetches told taken taken_now) name Work s text → s ≡ 0 → IfSome (told name) P
  on_outline_claims name Work P claims s text due zero =
      on_file_claims told taken taken_now (outline_file name) (AsOutline Work) P (as_outline_claims Work P claims) s text due zero

  due_claims : (command : Command) (s : ℕ) (text : List ℕ) → Answers (Fetches told taken taken_now) command s text → s ≡ 0 → Claims command told
  due_claims (check name budget) s text due zero = on_outline_claims name (IsJudged IsJudgement budget) IsSafeText (judged_safe IsJudgement budget) s text due zero
  due_claims (obligations name) s text due zero = on_outline_claims name IsListed IsOutlineText listed_stands s text due zero
  due_claims (derive name budget) s text due zero = on_outline_claims name (IsJudged IsDerived budget) IsSafeText (judged_safe IsDerived budget) s text due zero
  due_claims (verify name second) s text due zero =
      on_both_says told taken taken_now name (derivation_file second) AsDerivation (λ n. n ≡ 0) (λ is. omega (arith, is)) (λ is. omega (arith, is)) IsSafeText derivation_safe s text due zero
  due_claims (replay name second) s text due zero =
      on_both_says told taken taken_now name (schedule_file second) AsSchedule (λ n. n ≡ 0) (λ is. omega (arith, is)) (λ is. omega (arith, is)) IsOutlineText
      (λ bytes o all n line stands takes is. record { outline = o; stands = stands }) s text due zero
  due_claims (made statements budget) s text due zero = judged_proved (IsMadeJudgement statements) budget (made_outline statements) s text due zero

  due_denies : (command : Command) (s : ℕ) (text : List ℕ) → Answers (Fetches told taken taken_now) command s text → s ≡ 1 → Denies command told
  due_denies (check name budget) s text due one = tt
  due_denies (obligations name) s text due one = tt
  due_denies (derive name budget) s text due one = tt
  due_denies (verify name second) s text due one = tt
  due_denies (replay name second) s text due one =
      let unproved =
      on_both_says told taken taken_now name (schedule_file second) AsSchedule (λ n. n ≡ 1) (λ is. omega (arith, is)) (λ is. omega (arith, is))
      (λ bytes. (o : OutlineTable) → StandsFor bytes o → IsProved o → ⊥) schedule_unproved s text due one in
      record { unproved = unproved; unaccepted = unaccepted told name unproved }
  due_denies (made statements budget) s text due one = tt

pub ends_safe : {told : List ℕ → Option (List ℕ)} {faults faults_now : List ℕ → ℕ} {taken taken_now status : ℕ} {old new : Option (List ℕ)} {before now : ℕ} (command : Command)
    → Ends (Some command) told faults faults_now taken taken_now status old new before now → status ≡ 0 → Claims command told
ends_safe {told} {faults} {faults_now} {taken} {taken_now} {status} command ends zero =
    elim ends.how [
      | inl puts ↦ elim puts [
        | inl full ↦ due_claims told taken taken_now command status full.text full.due zero
        | inr others ↦ elim others [
          | inl cut ↦ let e = cut.status_is in absurd (omega (arith, e, zero))
          | inr short ↦ let e = short.status_is in absurd (omega (arith, e, zero))
        ]
      ]
      | inr unfetched ↦ let e = unfetched.status_is in absurd (omega (arith, e, zero))
    ]

pub ends_denied : {told : List ℕ → Option (List ℕ)} {faults faults_now : List ℕ → ℕ} {taken taken_now status : ℕ} {old new : Option (List ℕ)} {before now : ℕ} (command : Command)
    → Ends (Some command) told faults faults_now taken taken_now status old new before now → status ≡ 1 → Denies command told
ends_denied {told} {faults} {faults_now} {taken} {taken_now} {status} command ends one =
    elim ends.how [
      | inl puts ↦ elim puts [
        | inl full ↦ due_denies told taken taken_now command status full.text full.due one
        | inr others ↦ elim others [
          | inl cut ↦ let e = cut.status_is in absurd (omega (arith, e, one))
          | inr short ↦ let e = short.status_is in absurd (omega (arith, e, one))
        ]
      ]
      | inr unfetched ↦ let e = unfetched.status_is in absurd (omega (arith, e, one))
    ]
