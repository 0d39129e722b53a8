-- What is made of a source that is ready: its program and its outline, or the first fault.
use Rattle.std.proofs.Common.{◌≡◌, List, map, Some, None, ap, sym, ◌∙◌, subst}
use Rattle.std.specs.Prelude.{◌≢◌, Option, option_map, IfSome}
use Rattle.std.proofs.lemmas.Simd.{map-map}
use Rattle.pg_program.specs.declared.syntax.Stmt.{Stmt}
use Rattle.pg_program.specs.Program.{ProgramTable, AreThreads}
use Rattle.pg_program.specs.Fault as program
use Rattle.pg_assertion.specs.declared.atom.RawAtom.{RawAtom}
use Rattle.pg_assertion.specs.Formula.{Plain}
use Rattle.pg_program_text.specs.Thread.{Lines}
use Rattle.pg_program_text.specs.declared.thread.ThreadText.{ThreadText}
use Rattle.pg_program_text.specs.Text.{lines}
use Rattle.pg_outline.specs.declared.fault.OutlineFault.{OutlineFault}
use Rattle.pg_outline.specs.declared.fault.OutlineFault.TheVariants.{ValueOutOfDomain, UnknownThread, CrashLocations, CrashNodes, NoMemory}
use Rattle.pg_outline.specs.Outline.{OutlineTable, Draft, IsDraft, draft_of}
use Rattle.pg_outline.specs.Fault as outline
use Rattle.pg_outline_text.specs.Source.{Source, program_of, draft, IsMadeOf}
use Rattle.pg_outline_text.specs.Ready.{IsReady}
use Rattle.pg_outline_text.specs.Fault.{of_program, of_outline, first_of, fault_in, plain_outline_fault}

-- the statements and the notes of bodies that were read
pub stmts_of : (ts : List ThreadText) → map (λ t. (lines t).stmts) ts ≡ map (λ l. l.stmts) (map lines ts)
stmts_of ts = sym (map-map (λ (l : Lines). l.stmts) lines ts)

pub notes_of : (ts : List ThreadText) → map (λ t. (lines t).notes) ts ≡ map (λ l. l.notes) (map lines ts)
notes_of ts = sym (map-map (λ (l : Lines). l.notes) lines ts)

module _ (s : Source) where
  abbrev program_fault : Option program.Fault
  program_fault = program.first_fault s.names (program_of s).threads

  pub build_threads : (ts : List (List Stmt)) → IsReady s → ts ≡ (program_of s).threads → AreThreads s.names ts
  build_threads ts ready is = subst (AreThreads s.names) (sym is) ready.threads

  pub parts_of : (p : ProgramTable) (notes : List (List (Plain RawAtom))) → p ≡ program_of s → notes ≡ (draft s).notes
      → ◌≡◌ {A = Draft} (record { program = p; pre = s.pre; crash = s.crash; notes = notes }) (draft s)
  parts_of p notes is same =
      ap (λ p. record { program = p; pre = s.pre; crash = s.crash; notes = notes }) is
      ∙ ap (λ ns. record { program = program_of s; pre = s.pre; crash = s.crash; notes = ns }) same

  pub is_draft : (d : Draft) → IsReady s → d ≡ draft s → program_fault ≡ None → IsDraft d
  is_draft d ready is faultless = subst IsDraft (sym is) (record {
    program = record { threads = ready.threads; faultless = faultless };
    pre = ready.pre;
    crash = ready.crash;
    notes = ready.notes;
    points = ready.points;
  })

  pub is_made : (o : OutlineTable) (d : Draft) → d ≡ draft s → draft_of o ≡ d → program_fault ≡ None → outline.first_fault d ≡ None → IsMadeOf s o
  is_made o d is parts faultless none = record { parts = parts ∙ is; program = faultless; outline = ap outline.first_fault (sym is) ∙ none }

  pub program_told : (f : Option program.Fault) → IfSome f (λ f. program_fault ≡ Some f) → IfSome (option_map of_program f) (λ f. fault_in s ≡ Some f)
  program_told None h = h
  program_told (Some f) h = ap (λ o. first_of (option_map of_program o) (option_map of_outline (outline.first_fault (draft s)))) h

  outline_fails : (d : Draft) (e : OutlineFault) → d ≡ draft s → program_fault ≡ None → outline.first_fault d ≡ Some e → fault_in s ≡ Some (of_outline e)
  outline_fails d e is faultless h =
      ap (λ o. first_of (option_map of_program o) (option_map of_outline (outline.first_fault (draft s)))) faultless
      ∙ ap (option_map of_outline) (ap outline.first_fault (sym is) ∙ h)

  pub outline_tells : (d : Draft) (e : OutlineFault) → d ≡ draft s → program_fault ≡ None → (e ≢ NoMemory → outline.first_fault d ≡ Some e)
      → IfSome (plain_outline_fault e) (λ f. fault_in s ≡ Some f)
  outline_tells d NoMemory is faultless h = tt
  outline_tells d (ValueOutOfDomain v) is faultless h = outline_fails d (ValueOutOfDomain v) is faultless (h (λ (e : ValueOutOfDomain v ≡ NoMemory). cc))
  outline_tells d (UnknownThread t) is faultless h = outline_fails d (UnknownThread t) is faultless (h (λ (e : UnknownThread t ≡ NoMemory). cc))
  outline_tells d (CrashLocations n) is faultless h = outline_fails d (CrashLocations n) is faultless (h (λ (e : CrashLocations n ≡ NoMemory). cc))
  outline_tells d (CrashNodes n) is faultless h = outline_fails d (CrashNodes n) is faultless (h (λ (e : CrashNodes n ≡ NoMemory). cc))
