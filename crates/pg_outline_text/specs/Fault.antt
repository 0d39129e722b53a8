-- The first fault of a text: of its tokens or of its version, in the order of the text; then of the program, then of the
-- outline.
use Rattle.std.specs.Prelude.{◌≡◌, ℕ, ◌==◌, if◌then◌else◌, List, Option, Some, None, option_map, Result, Ok, Err}
use Rattle.pg_lex.specs.declared.fault.TextFault.{TextFault}
use Rattle.pg_lex.specs.declared.fault.TextFault.TheVariants.{At, NoMemory as text_no_memory}
use Rattle.pg_program.specs.Fault as program
use Rattle.pg_outline.specs.declared.fault.OutlineFault.{OutlineFault}
use Rattle.pg_outline.specs.declared.fault.OutlineFault.TheVariants.{ValueOutOfDomain, UnknownThread, CrashLocations, CrashNodes, NoMemory as outline_no_memory}
use Rattle.pg_outline.specs.Fault as outline
use Rattle.pg_assertion_text.specs.Input.{Outcome}
use Rattle.pg_outline_text.specs.declared.fault.FileFault.{FileFault}
use Rattle.pg_outline_text.specs.declared.fault.FileFault.TheVariants.{Text, Version, Program, Outline, NoMemory}
use Rattle.pg_outline_text.specs.Limits.{known_version}
use Rattle.pg_outline_text.specs.Source.{Source, program_of, draft}
use Rattle.pg_outline_text.specs.Reading.{version, whole}
use Rattle.pg_outline_text.specs.Reading as reading

-- a fault with what it keeps, where a name is its bytes
pub data Fault : Type 0 where
  of_text : TextFault → Fault
  other_version : ℕ → Fault
  of_program : program.Fault → Fault
  of_outline : OutlineFault → Fault

-- a fault of the tokens is one of the file; want of memory is none
abbrev pub plain_text_fault : TextFault → Option Fault
plain_text_fault (At place kind) = Some (of_text (At place kind))
plain_text_fault text_no_memory = None

-- a fault of the formulas is one of the file; want of memory is none
abbrev pub plain_outline_fault : OutlineFault → Option Fault
plain_outline_fault outline_no_memory = None
plain_outline_fault (ValueOutOfDomain v) = Some (of_outline (ValueOutOfDomain v))
plain_outline_fault (UnknownThread t) = Some (of_outline (UnknownThread t))
plain_outline_fault (CrashLocations n) = Some (of_outline (CrashLocations n))
plain_outline_fault (CrashNodes n) = Some (of_outline (CrashNodes n))

-- the fault that an answer tells, if it is one of the file
abbrev pub plain_fault : FileFault → Option Fault
plain_fault (Text f) = plain_text_fault f
plain_fault (Version n) = Some (other_version n)
plain_fault (Program f) = option_map of_program (program.plain_fault f)
plain_fault (Outline f) = plain_outline_fault f
plain_fault NoMemory = None

-- an answer that tells no fault is want of memory
abbrev pub IsFaultOrMemory : FileFault → Type 0
IsFaultOrMemory e = plain_fault e ≡ None → e ≡ NoMemory

abbrev pub source_in : Outcome Source → Result Source Fault
source_in (Ok p) = Ok p.0
source_in (Err f) = Err (of_text f)

-- no token after another version is looked at
abbrev pub behind_version : Outcome ℕ → Result Source Fault
behind_version (Ok p) = if p.0 == known_version then source_in (reading.outline p.1) else Err (other_version p.0)
behind_version (Err f) = Err (of_text f)

-- what a text is read as, or its first fault
unfoldable pub source_of : List ℕ → Result Source Fault
source_of bytes = behind_version (version (whole bytes))

-- the first of two faults
abbrev pub first_of : Option Fault → Option Fault → Option Fault
first_of (Some f) g = Some f
first_of None g = g

-- the first fault of what was read
abbrev pub fault_in : Source → Option Fault
fault_in s = first_of (option_map of_program (program.first_fault s.names (program_of s).threads)) (option_map of_outline (outline.first_fault (draft s)))

abbrev pub fault_of : Result Source Fault → Option Fault
fault_of (Ok s) = fault_in s
fault_of (Err f) = Some f

-- the first fault of a text
abbrev pub first_fault : List ℕ → Option Fault
first_fault bytes = fault_of (source_of bytes)
