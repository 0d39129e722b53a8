-- What a line shows is what its parts show.
use Rattle.std.proofs.Common.{◌≡◌, ℕ, ◌<◌, ◌⊎◌, List, length, Option, Ok, Err, inl, inr, refl, sym, ap, subst, ◌∙◌}
use Rattle.pg_io.specs.Written.{appended, AppendsPart}
use Rattle.pg_assertion.specs.declared.atom.CrashAtom.{CrashAtom}
use Rattle.pg_assertion.specs.declared.atom.CrashAtom.TheVariants as crash_atom
use Rattle.pg_assertion.specs.Formula.{Plain, top, bottom, atom, neg, both, either, implies, AllAtoms}
use Rattle.pg_program.specs.Program.{ProgramTable}
use Rattle.pg_machine.specs.declared.event.Event.{Event}
use Rattle.pg_machine.specs.declared.fault.StepFault.{StepFault}
use Rattle.pg_machine.specs.declared.fault.StepFault.TheVariants as step_fault
use Rattle.pg_machine.specs.Fault.{IsFault}
use Rattle.pg_machine.specs.State.{State}
use Rattle.pg_views.specs.declared.fault.CrashFault.{CrashFault}
use Rattle.pg_views.specs.declared.fault.CrashFault.TheVariants as crash_fault
use Rattle.pg_views.specs.Fault.{IsCrashFault}
use Rattle.pg_views.specs.Crash.{IsCrashChoice, crash_memory}
use Rattle.pg_views.specs.Formula.{IsCrashAtom}
use Rattle.pg_outline.specs.Outline.{OutlineTable}
use Rattle.pg_outline.specs.Speaks.{IsCrashOver}
use Rattle.pg_schedule.specs.Schedule.{step, crash}
use Rattle.pg_replay.specs.declared.answer.Replayed.{Replayed}
use Rattle.pg_replay.specs.declared.fault.ReplayFault.TheVariants as fault
use Rattle.pg_replay.specs.declared.moves.Moves.{Moves}
use Rattle.pg_replay.specs.Violation.{state_violation, crash_violation}
use Rattle.pg_replay.specs.Trace.{moves, step_text, crash_text}
use Rattle.pg_replay.specs.Replay.{Answer, Takes, Refuses, joined}
use Rattle.pg_replay.specs.Parts.{Shows, ReplaysLine}

pub step_shown : (o : OutlineTable) (p : ProgramTable) (n : ℕ) (e : Event) (found : Replayed) (s next : State) (m : Moves) (r : Answer) (old new : Option (List ℕ)) (before now : ℕ)
    → p ≡ o.program → Takes p s (step e) next → m ≡ moves p s e next
    → Shows (step_text n m) (joined found (record { steps = 1; first_violation = state_violation o n next })) r old new before now
    → ReplaysLine o n (step e) found s next r old new before now
step_shown o p n e found s next m r old new before now same takes is h =
    by r (subst (λ (q : ProgramTable). Takes q s (step e) next) same takes) (is ∙ ap (λ (q : ProgramTable). moves q s e next) same) h
  where
    by : (r : Answer) → Takes o.program s (step e) next → m ≡ moves o.program s e next
        → Shows (step_text n m) (joined found (record { steps = 1; first_violation = state_violation o n next })) r old new before now
        → ReplaysLine o n (step e) found s next r old new before now
    by (Ok q) takes is h = (takes, h.0, h.1 ∙ ap (λ (x : Moves). appended old (step_text n x)) is)
    by (Err fault.Write) takes is h = (takes, subst (λ (x : Moves). AppendsPart old new (step_text n x)) is h.0, h.1)
    by (Err fault.NoMemory) takes is h = h
    by (Err (fault.Step k f)) takes is h = absurd h
    by (Err (fault.Crash k f)) takes is h = absurd h

-- a fault that is not want of memory is the machine's
pub step_refused : (o : OutlineTable) (p : ProgramTable) (n : ℕ) (e : Event) (s : State) (f : StepFault) → p ≡ o.program → IsFault p s e f ⊎ (f ≡ step_fault.NoMemory)
    → (f ≡ step_fault.NoMemory → ⊥) → Refuses o.program s n (step e) (fault.Step n f)
step_refused o p n e s f same (inl h) other = (f, subst (λ (q : ProgramTable). IsFault q s e f) same h, refl)
step_refused o p n e s f same (inr h) other = absurd (other h)

pub crash_refused : (o : OutlineTable) (n : ℕ) (at : List ℕ) (s : State) (f : CrashFault) → IsCrashFault s at f ⊎ ((f ≡ crash_fault.NoMemory) × IsCrashChoice s at)
    → (f ≡ crash_fault.NoMemory → ⊥) → Refuses o.program s n (crash at) (fault.Crash n f)
crash_refused o n at s f (inl h) other = (f, h, refl)
crash_refused o n at s f (inr h) other = absurd (other h.0)

pub crash_shown : (o : OutlineTable) (n : ℕ) (at : List ℕ) (found : Replayed) (s : State) (memory : List ℕ) (r : Answer) (old new : Option (List ℕ)) (before now : ℕ)
    → IsCrashChoice s at → memory ≡ crash_memory s at
    → Shows (crash_text o.program.names n memory) (joined found (record { steps = 0; first_violation = crash_violation o n s memory })) r old new before now
    → ReplaysLine o n (crash at) found s s r old new before now
crash_shown o n at found s memory (Ok q) old new before now choice is h = (
  (choice, refl),
  h.0 ∙ ap (λ (x : List ℕ). joined found (record { steps = 0; first_violation = crash_violation o n s x })) is,
  h.1 ∙ ap (λ (x : List ℕ). appended old (crash_text o.program.names n x)) is,
)
crash_shown o n at found s memory (Err fault.Write) old new before now choice is h =
    ((choice, refl), subst (λ (x : List ℕ). AppendsPart old new (crash_text o.program.names n x)) is h.0, h.1)
crash_shown o n at found s memory (Err fault.NoMemory) old new before now choice is h = h
crash_shown o n at found s memory (Err (fault.Step k f)) old new before now choice is h = absurd h
crash_shown o n at found s memory (Err (fault.Crash k f)) old new before now choice is h = absurd h

-- ---- crash formulas

-- what a crash formula of the outline speaks of is there in a state and in a memory that a crash leaves of it
pub crash_atoms : (o : OutlineTable) (locations scalars : ℕ) (f : Plain CrashAtom) → locations ≡ length o.program.names.locations → scalars ≡ length o.program.names.scalars
    → IsCrashOver o.program f → AllAtoms (IsCrashAtom locations scalars) f
crash_atoms o locations scalars top xs rs h = tt
crash_atoms o locations scalars bottom xs rs h = tt
crash_atoms o locations scalars (atom (crash_atom.Scalar r k)) xs rs h = subst (λ (n : ℕ). r < n) (sym rs) h.0
crash_atoms o locations scalars (atom (crash_atom.Location x v)) xs rs h = subst (λ (n : ℕ). x < n) (sym xs) h.0
crash_atoms o locations scalars (neg f) xs rs h = crash_atoms o locations scalars f xs rs h
crash_atoms o locations scalars (both f g) xs rs h = (crash_atoms o locations scalars f xs rs h.0, crash_atoms o locations scalars g xs rs h.1)
crash_atoms o locations scalars (either f g) xs rs h = (crash_atoms o locations scalars f xs rs h.0, crash_atoms o locations scalars g xs rs h.1)
crash_atoms o locations scalars (implies f g) xs rs h = (crash_atoms o locations scalars f xs rs h.0, crash_atoms o locations scalars g xs rs h.1)
