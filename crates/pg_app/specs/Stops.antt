-- How the fetch of a file ends: with what it is of, or with the end of the call.
use Rattle.std.specs.Prelude.{◌≡◌, ℕ, ◌⊎◌, List, Option, Result, Ok}
use Rattle.pg_io.specs.Counts.{Rose}
use Rattle.pg_document.specs.declared.fault.DocFault.{DocFault}
use Rattle.pg_outline.specs.Outline.{OutlineTable}
use Rattle.pg_outline_text.specs.Text.{StandsFor}
use Rattle.pg_app.specs.declared.command.Work.{Work}
use Rattle.pg_app.specs.declared.command.Work.TheVariants.{Check, Obligations, Derive, Verify, Replay}
use Rattle.pg_app.specs.File.{File, derivation_file, schedule_file}
use Rattle.pg_app.specs.Answer.{whole, OnFile, IsRefused, IsJudged, IsJudgement, IsListed, IsDerived, AsDerivation, AsSchedule}
use Rattle.pg_app.specs.Put.{Puts}
use Rattle.pg_app.specs.Run.{Fetches}

-- the outline is that of the bytes that were fetched
pub record IsFetched (told : List ℕ → Option (List ℕ)) (taken taken_now : ℕ) (file : File) (o : OutlineTable) : Type 0 where
  pub bytes : List ℕ
  pub finds : Fetches told taken taken_now file (whole bytes)
  pub stands : StandsFor bytes o

-- and the document that which they are read as
pub record IsFetchedAs {A : Type 0} (read : List ℕ → Result A DocFault) (told : List ℕ → Option (List ℕ)) (taken taken_now : ℕ) (file : File) (document : A) : Type 0 where
  pub bytes : List ℕ
  pub finds : Fetches told taken taken_now file (whole bytes)
  pub is : read bytes ≡ Ok document

-- the file's count of faults rose, and nothing was written
pub record IsFailed (faults faults_now status : ℕ) (old new : Option (List ℕ)) : Type 0 where
  pub status_is : status ≡ 6
  pub rose : Rose faults faults_now
  pub kept : new ≡ old

-- that the file is too long was put, or the refusal of its bytes, or the file could not be fetched
pub record Stops (told : List ℕ → Option (List ℕ)) (file : File) (faults faults_now taken taken_now status : ℕ) (old new : Option (List ℕ)) (before now : ℕ) : Type 0 where
  pub how :
      Puts (OnFile (Fetches told taken taken_now) file (IsRefused file.kind)) status old new before now
      ⊎ IsFailed faults faults_now status old new

-- the answer on the file was put, by how its bytes are taken, or the file could not be fetched
pub record EndsOn (Takes : List ℕ → ℕ → List ℕ → Type 0) (told : List ℕ → Option (List ℕ)) (file : File) (faults faults_now taken taken_now status : ℕ) (old new : Option (List ℕ)) (before now : ℕ) : Type 0 where
  pub how :
      Puts (OnFile (Fetches told taken taken_now) file Takes) status old new before now
      ⊎ IsFailed faults faults_now status old new

-- the text of the work on an outline was put, or the call ended on its second file
abbrev pub EndsWork : Work → OutlineTable → (List ℕ → Option (List ℕ)) → (List ℕ → ℕ) → (List ℕ → ℕ) → ℕ → ℕ → ℕ → Option (List ℕ) → Option (List ℕ) → ℕ → ℕ → Type 0
EndsWork (Check budget) o told faults faults_now taken taken_now status old new before now = Puts (IsJudged IsJudgement budget o) status old new before now
EndsWork Obligations o told faults faults_now taken taken_now status old new before now = Puts (IsListed o) status old new before now
EndsWork (Derive budget) o told faults faults_now taken taken_now status old new before now = Puts (IsJudged IsDerived budget o) status old new before now
EndsWork (Verify derivation) o told faults faults_now taken taken_now status old new before now =
    EndsOn (AsDerivation o) told (derivation_file derivation.now) (faults derivation.now) (faults_now derivation.now) taken taken_now status old new before now
EndsWork (Replay schedule) o told faults faults_now taken taken_now status old new before now =
    EndsOn (AsSchedule o) told (schedule_file schedule.now) (faults schedule.now) (faults_now schedule.now) taken taken_now status old new before now
