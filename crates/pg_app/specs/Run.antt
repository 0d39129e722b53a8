-- How a call of the program ends. `told` gives the bytes of a name, where the room tells them;
-- `old` and `new` are what the sink tells it has written.
use Rattle.std.specs.Prelude.{◌≡◌, ◌≢◌, ℕ, ◌+◌, ◌≤◌, ◌⊎◌, List, [], ◌∷◌, length, Option, IsSome, IsNone, IfSome, IfNone, All, Contains, String}
use Rattle.std.specs.declared.alloc.Global.{Global}
use Rattle.pg_io.specs.Counts.{Rose, RoseBy}
use Rattle.pg_io.specs.Told.{IsTold, IsTooLong}
use Rattle.pg_io.specs.Written.{appended, AppendsPart}
use Rattle.pg_app.specs.Line.{usage}
use Rattle.pg_app.specs.File.{File, limit, IsTextOf}
use Rattle.pg_app.specs.Command.{Command, AsksForDerivation, command_of, files_for, files_in}
use Rattle.pg_app.specs.Answer.{Found, whole, longer, AnswersTo, Defined}
use Rattle.pg_app.specs.Put.{Puts}
use Rattle.pg_app.specs.Safety.{Claims, Denies}

-- the statuses of the program
abbrev pub statuses : List ℕ
statuses = 0 ∷ 1 ∷ 2 ∷ 3 ∷ 4 ∷ 5 ∷ 6 ∷ 7 ∷ 8 ∷ 9 ∷ 10 ∷ []

-- the status of an answer: no fetch failed, no put failed, and memory did not run out
pub record IsAnswer (status : ℕ) : Type 0 where
  pub fetched : status ≢ 6
  pub put : status ≢ 7
  pub roomy : status ≢ 9

-- ---- the files of the words

-- the bytes of each file are told
abbrev pub AreTold : List File → (List ℕ → Option (List ℕ)) → Type 0
AreTold files told = All (λ file. IsSome (told file.name)) files

-- no file's count of faults rose
abbrev pub AreQuiet : List File → (List ℕ → ℕ) → (List ℕ → ℕ) → Type 0
AreQuiet files faults faults_now = All (λ file. ¬ Rose (faults file.name) (faults_now file.name)) files

-- bytes after which the next file is fetched: they are within the file's limit, and what the file is to have
pub record IsPassed (file : File) (bytes : List ℕ) : Type 0 where
  pub within : length bytes ≤ limit file
  pub is : IsTextOf file.kind bytes

-- one of the files is so, and it was fetched: each file before it was passed
abbrev pub Reached : (List ℕ → Option (List ℕ)) → List File → (File → Type 0) → Type 0
Reached told [] IsSo = ⊥
Reached told (file ∷ files) IsSo = IsSo file ⊎ (IfSome (told file.name) (IsPassed file) × Reached told files IsSo)

-- ---- what is written

-- this status is defined, and its whole text was written
pub record Writes (words : List (String Global)) (told : List ℕ → Option (List ℕ)) (status : ℕ) (old new : Option (List ℕ)) : Type 0 where
  pub text : List ℕ
  pub defined : Defined words told status text
  pub written : new ≡ appended old text

-- one status is defined; and one text, unless the words ask for a derivation, as several lists of clauses may close a leaf
abbrev pub HasOneAnswer : List (String Global) → (List ℕ → Option (List ℕ)) → Type 0
HasOneAnswer words told =
    (s t : ℕ) (a b : List ℕ) → Defined words told s a → Defined words told t b → (s ≡ t) × (AsksForDerivation (command_of words) ⊎ (a ≡ b))

-- a prefix of a defined text was written
pub record WritesPart (words : List (String Global)) (told : List ℕ → Option (List ℕ)) (old new : Option (List ℕ)) : Type 0 where
  pub status : ℕ
  pub text : List ℕ
  pub defined : Defined words told status text
  pub written : AppendsPart old new text

-- ---- how a call ends

-- What a fetch finds of a file: its bytes, which are those that are told, if any; or that it is too long, and then its bytes are,
-- where they are told, and more bytes were taken than it may have.
abbrev pub Fetches : (List ℕ → Option (List ℕ)) → ℕ → ℕ → File → Found → Type 0
Fetches told taken taken_now file (whole bytes) = IsTold (told file.name) bytes × (length bytes ≤ limit file)
Fetches told taken taken_now file longer = IsTooLong (told file.name) (limit file) × RoseBy (limit file + 1) taken taken_now

-- a file was not fetched, as its count of faults rose, and nothing was written
pub record IsUnfetched (told : List ℕ → Option (List ℕ)) (files : List File) (faults faults_now : List ℕ → ℕ) (status : ℕ) (old new : Option (List ℕ)) : Type 0 where
  pub status_is : status ≡ 6
  pub rose : Reached told files (λ file. Rose (faults file.name) (faults_now file.name))
  pub kept : new ≡ old

-- the call put what is due, or could not fetch a file
pub record Ends (command : Option Command) (told : List ℕ → Option (List ℕ)) (faults faults_now : List ℕ → ℕ) (taken taken_now status : ℕ) (old new : Option (List ℕ)) (before now : ℕ) : Type 0 where
  pub how :
      Puts (AnswersTo (Fetches told taken taken_now) command) status old new before now
      ⊎ IsUnfetched told (files_for command) faults faults_now status old new

-- What a run of the program on these words does, in the clauses of `run`.
pub record IsRun (words : List (String Global)) (told : List ℕ → Option (List ℕ)) (faults faults_now : List ℕ → ℕ) (taken taken_now status : ℕ) (old new : Option (List ℕ)) (before now : ℕ) : Type 0 where
  pub range : Contains statuses status
  pub read_fault : status ≡ 6 → Reached told (files_in words) (λ file. Rose (faults file.name) (faults_now file.name))
  pub nothing_read : status ≡ 6 → new ≡ old
  pub write_fault : status ≡ 7 → Rose before now
  pub too_long : status ≡ 10 → Reached told (files_in words) (λ file. RoseBy (limit file + 1) taken taken_now)
  pub usage : status ≡ 8 → IsNone (command_of words) × (new ≡ appended old usage)
  pub shapeless : IfNone (command_of words) (status ≡ 8 ⊎ (status ≡ 7 ⊎ status ≡ 9))
  pub defined : AreTold (files_in words) told → IsAnswer status → Writes words told status old new
  pub only : HasOneAnswer words told
  pub part : AreTold (files_in words) told → status ≡ 7 ⊎ status ≡ 9 →
      (new ≡ old) ⊎ WritesPart words told old new
  pub complete : AreTold (files_in words) told → AreQuiet (files_in words) faults faults_now → ¬ Rose before now →
      Writes words told status old new ⊎ (status ≡ 9)
  pub safe : status ≡ 0 → IfSome (command_of words) (λ command. Claims command told)
  pub denied : status ≡ 1 → IfSome (command_of words) (λ command. Denies command told)
