-- What is answered for a text: the outline that it stands for, or its first fault.
use Rattle.std.proofs.Common.{◌≡◌, ℕ, List, Ok, Err, Some, None, refl, ap, sym, ◌∙◌}
use Rattle.std.specs.Result.{result_unwrap_or}
use Rattle.std.specs.Prelude.{Option, option_map, Result, IfOk, IfErr, IfSome, MatchResult}
use Rattle.pg_program.specs.Fault as program
use Rattle.pg_outline.specs.declared.fault.OutlineFault.{OutlineFault}
use Rattle.pg_outline.specs.Outline.{OutlineTable}
use Rattle.pg_outline.specs.Fault as outline
use Rattle.pg_outline_text.specs.declared.fault.FileFault.{FileFault}
use Rattle.pg_outline_text.specs.declared.fault.FileFault.TheVariants.{NoMemory}
use Rattle.pg_outline_text.specs.Source.{Source, program_of, draft, IsMadeOf}
use Rattle.pg_outline_text.specs.Fault.{Fault, of_program, of_outline, plain_fault, first_of, fault_in, fault_of, source_of, IsFaultOrMemory}
use Rattle.pg_outline_text.specs.Text.{StandsFor, HasOneReading, HasNoFault, IsFaultless, FaultlessTextsAreReady}
use Rattle.pg_outline_text.proofs.TextSound.{source_found}
use Rattle.pg_outline_text.proofs.TextComplete.{source_reads}
use Rattle.pg_outline_text.proofs.OneDraft.{one_outline}
use Rattle.pg_outline_text.proofs.ReadyTexts.{source_ready}

-- an outline, or a fault of what was read
abbrev pub Makes : Source → Result OutlineTable FileFault → Type 0
Makes s r = MatchResult r (IsMadeOf s) (λ e. IfSome (plain_fault e) (λ f. fault_in s ≡ Some f))

pub answer_found : (bytes : List ℕ) (s : Source) (r : Result OutlineTable FileFault) → source_of bytes ≡ Ok s → Makes s r → IfOk r (λ o. StandsFor bytes o)
answer_found bytes s (Ok o) is made = record { source = s; text = source_found bytes s is; made = made }
answer_found bytes s (Err e) is made = tt

-- what an outline is made of has no fault
faultless : (s : Source) (o : OutlineTable) → IsMadeOf s o → fault_in s ≡ None
faultless s o made =
    ap (λ f. first_of (option_map of_program f) (option_map of_outline (outline.first_fault (draft s)))) made.program ∙ ap (option_map of_outline) made.outline

-- ---- what only an answer can be

module _ (bytes : List ℕ) (s : Source) where
  source_is : (o : OutlineTable) (st : StandsFor bytes o) → source_of bytes ≡ Ok s → st.source ≡ s
  source_is o st is =
      let value : Result Source Fault → Source = λ r. result_unwrap_or r s in
      ap value (sym (source_reads bytes st.source st.text) ∙ is)

  no_fault : (o : OutlineTable) (st : StandsFor bytes o) → source_of bytes ≡ Ok s → fault_in s ≡ None
  no_fault o st is = ap fault_in (sym (source_is o st is)) ∙ faultless st.source o st.made

  tells_none : (e : FileFault) (g : Option Fault) → IfSome g (λ f. fault_in s ≡ Some f) → fault_in s ≡ None → g ≡ None
  tells_none e None h none = refl
  tells_none e (Some f) h none = cc

  pub answer_only : (r : Result OutlineTable FileFault) → source_of bytes ≡ Ok s → Makes s r → IfErr r IsFaultOrMemory → (o : OutlineTable) → StandsFor bytes o
      → MatchResult r (λ p. p ≡ o) (λ e. e ≡ NoMemory)
  answer_only (Ok p) is made memory o st = one_outline p o (made.parts ∙ ap draft (sym (source_is o st is)) ∙ sym st.made.parts)
  answer_only (Err e) is made memory o st = memory (tells_none e (plain_fault e) made (no_fault o st is))

-- a text that stands for something has no fault of its tokens
pub reading_only : (bytes : List ℕ) (e : FileFault) → IfSome (plain_fault e) (λ f. source_of bytes ≡ Err f) → IsFaultOrMemory e → (o : OutlineTable) → StandsFor bytes o → e ≡ NoMemory
reading_only bytes e fails memory o st = memory (by (plain_fault e) fails)
  where
    by : (g : Option Fault) → IfSome g (λ f. source_of bytes ≡ Err f) → g ≡ None
    by None h = refl
    by (Some f) h = let reads = source_reads bytes st.source st.text in cc

-- ---- the laws

pub one_reading : HasOneReading
one_reading bytes a b first second =
    let same = source_is bytes first.source b second (source_reads bytes first.source first.text) in
    one_outline a b (first.made.parts ∙ ap draft (sym same) ∙ sym second.made.parts)

pub no_fault_told : HasNoFault
no_fault_told bytes o st = ap fault_of (source_reads bytes st.source st.text) ∙ faultless st.source o st.made

none_of : (a : Option program.Fault) (b : Option OutlineFault) → first_of (option_map of_program a) (option_map of_outline b) ≡ None → (a ≡ None) × (b ≡ None)
none_of None None h = (refl, refl)
none_of None (Some f) h = cc
none_of (Some f) b h = cc

pub faultless_is_ready : FaultlessTextsAreReady
faultless_is_ready bytes none = by (source_of bytes) refl none
  where
    by : (r : Result Source Fault) → source_of bytes ≡ r → fault_of r ≡ None → IsFaultless bytes
    by (Ok s) is h =
        let text = source_found bytes s is in
        let clauses = none_of (program.first_fault s.names (program_of s).threads) (outline.first_fault (draft s)) h in
        record { source = s; text = text; ready = source_ready bytes s text; program = clauses.0; outline = clauses.1 }
    by (Err f) is h = cc
