-- The line of a file's fault, put on the sink, is the answer to the file.
use Rattle.std.proofs.Common.{◌≡◌, ◌≢◌, ℕ, inl, inr, List, Option, None, Some, IsSome, IfSome, refl}
use Rattle.pg_io.specs.Counts.{Rose}
use Rattle.pg_io.specs.Written.{appended, AppendsPart}
use Rattle.pg_outline_text.specs.declared.fault.FileFault.{FileFault}
use Rattle.pg_outline_text.specs.declared.fault.FileFault.TheVariants.{NoMemory}
use Rattle.pg_outline_text.specs.Fault.{Fault, plain_fault, first_fault, IsFaultOrMemory}
use Rattle.pg_report.specs.Refusal.{refusal, line_of}
use Rattle.pg_app.specs.Answer.{IsRefusal}
use Rattle.pg_app.specs.Put.{Puts}

some_fault : (t : Option Fault) → (t ≡ None → ⊥) → IsSome t
some_fault None h = absurd (h refl)
some_fault (Some f) h = refl

pub tells_some : (e : FileFault) → e ≢ NoMemory → IsFaultOrMemory e → IsSome (plain_fault e)
tells_some e real is = some_fault (plain_fault e) (λ none. real (is none))

refused : (bytes : List ℕ) (f : Fault) → first_fault bytes ≡ Some f → IsRefusal bytes 3 (refusal f)
refused bytes f first = record { fault = f; first = first; status_is = refl; text_is = refl }

pub fault_put : {old new : Option (List ℕ)} {before now : ℕ} (bytes : List ℕ) (t : Option Fault) → IsSome t → IfSome t (λ f. first_fault bytes ≡ Some f) → new ≡ appended old (line_of t) → Puts (IsRefusal bytes) 3 old new before now
fault_put bytes None some tells written = cc
fault_put bytes (Some f) some tells written = inl (record { text = refusal f; due = refused bytes f tells; written = written })

pub fault_cut : {old new : Option (List ℕ)} {before now : ℕ} (bytes : List ℕ) (t : Option Fault) → IsSome t → IfSome t (λ f. first_fault bytes ≡ Some f) → AppendsPart old new (line_of t) → Rose before now → Puts (IsRefusal bytes) 7 old new before now
fault_cut bytes None some tells part rose = cc
fault_cut bytes (Some f) some tells part rose =
    inr (inl (record { status_is = refl; rose = rose; part = record { status = 3; text = refusal f; due = refused bytes f tells; written = part } }))
