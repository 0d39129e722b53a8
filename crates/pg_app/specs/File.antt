-- The files that commands read: what each is of, how long it may be, and what its bytes are to be.
use Rattle.std.specs.Prelude.{◌≡◌, ℕ, List, Result, Ok, Err}
use Rattle.pg_document.specs.declared.fault.DocFault.{DocFault}
use Rattle.pg_derivation.specs.Derivation.{Node, DerivationTable, numbered}
use Rattle.pg_derivation.specs.Fault.{derivation_of}
use Rattle.pg_schedule.specs.Reading.{schedule}
use Rattle.pg_schedule.specs.Schedule.{ScheduleTable}
use Rattle.pg_outline.specs.Outline.{OutlineTable}
use Rattle.pg_outline_text.specs.Text.{StandsFor}
use Rattle.pg_app.specs.declared.file.Kind.{Kind}
use Rattle.pg_app.specs.declared.file.Kind.TheVariants.{Outline, Derivation, Schedule}

-- a file by its name, and what it is of
pub record File : Type 0 where
  pub name : List ℕ
  pub kind : Kind

abbrev pub file_of : List ℕ → Kind → File
file_of name kind = record { name = name; kind = kind }

abbrev pub outline_file : List ℕ → File
outline_file name = file_of name Outline

abbrev pub derivation_file : List ℕ → File
derivation_file name = file_of name Derivation

abbrev pub schedule_file : List ℕ → File
schedule_file name = file_of name Schedule

-- the most bytes that a file may have
abbrev pub longest : Kind → ℕ
longest Outline = 1048576
longest Derivation = 67108864
longest Schedule = 4194304

abbrev pub limit : File → ℕ
limit file = longest file.kind

-- the bytes stand for an outline
pub record IsOutlineText (bytes : List ℕ) : Type 0 where
  pub outline : OutlineTable
  pub stands : StandsFor bytes outline

-- ---- documents, which are read beside an outline

abbrev pub trees_numbered : Result (List (List Node)) DocFault → Result DerivationTable DocFault
trees_numbered (Ok trees) = Ok (numbered trees)
trees_numbered (Err fault) = Err fault

-- the derivation that the bytes are, with the numbers of its lines, or their first fault
abbrev pub derivation_in : List ℕ → Result DerivationTable DocFault
derivation_in bytes = trees_numbered (derivation_of bytes)

-- the schedule that they stand for, or their first fault
abbrev pub schedule_in : List ℕ → Result ScheduleTable DocFault
schedule_in bytes = schedule bytes

-- the bytes are read as a document
pub record IsDocumentText {A : Type 0} (read : List ℕ → Result A DocFault) (bytes : List ℕ) : Type 0 where
  pub document : A
  pub is : read bytes ≡ Ok document

-- what the bytes of a file are to be
abbrev pub IsTextOf : Kind → List ℕ → Type 0
IsTextOf Outline bytes = IsOutlineText bytes
IsTextOf Derivation bytes = IsDocumentText derivation_in bytes
IsTextOf Schedule bytes = IsDocumentText schedule_in bytes
