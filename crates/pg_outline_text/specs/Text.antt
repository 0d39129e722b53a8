-- What a text of an outline stands for.
use Rattle.std.specs.Prelude.{◌≡◌, List, ℕ, None, Some, IfSome}
use Rattle.pg_program.specs.Fault as program
use Rattle.pg_outline.specs.Outline.{OutlineTable}
use Rattle.pg_outline.specs.Fault as outline
use Rattle.pg_outline_text.specs.declared.fault.FileFault.{FileFault}
use Rattle.pg_outline_text.specs.Source.{Source, program_of, draft, IsMadeOf}
use Rattle.pg_outline_text.specs.Ready.{IsReady}
use Rattle.pg_outline_text.specs.Grammar.{IsSourceText}
use Rattle.pg_outline_text.specs.Fault.{plain_fault, first_fault}

-- the bytes are a text of the grammar, and the outline is made of it
pub record StandsFor (bytes : List ℕ) (o : OutlineTable) : Type 0 where
  pub source : Source
  pub text : IsSourceText bytes source
  pub made : IsMadeOf source o

-- a text stands for at most one outline
abbrev pub HasOneReading : Type 0
HasOneReading = (bytes : List ℕ) (a b : OutlineTable) → StandsFor bytes a → StandsFor bytes b → a ≡ b

-- a text that stands for an outline has no fault
abbrev pub HasNoFault : Type 0
HasNoFault = (bytes : List ℕ) (o : OutlineTable) → StandsFor bytes o → first_fault bytes ≡ None

-- what a text without a fault is read as
pub record IsFaultless (bytes : List ℕ) : Type 0 where
  pub source : Source
  pub text : IsSourceText bytes source
  pub ready : IsReady source
  pub program : program.first_fault source.names (program_of source).threads ≡ None
  pub outline : outline.first_fault (draft source) ≡ None

-- a text without a fault is one of the grammar, of which an outline can be made
abbrev pub FaultlessTextsAreReady : Type 0
FaultlessTextsAreReady = (bytes : List ℕ) → first_fault bytes ≡ None → IsFaultless bytes

-- a refusal tells the first fault, unless memory ran out
abbrev pub Tells : List ℕ → FileFault → Type 0
Tells bytes e = IfSome (plain_fault e) (λ f. first_fault bytes ≡ Some f)
