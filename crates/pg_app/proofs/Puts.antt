-- What is put for one reason is put for another.
use Rattle.std.proofs.Common.{◌≡◌, ℕ, ◌⊎◌, inl, inr, List, length, Option, refl}
use Rattle.std.specs.Prelude.{Result, Ok, Err}
use Rattle.std.proofs.Math.Seq.{take-length}
use Rattle.pg_io.specs.Written.{appended, AppendsPart}
use Rattle.pg_report.specs.declared.fault.ReportFault.{ReportFault}
use Rattle.pg_report.specs.declared.fault.ReportFault.TheVariants.{Write, NoMemory}
use Rattle.pg_report.specs.Reported.{Reports, ReportsLines}
use Rattle.pg_app.specs.Put.{IsPart, Puts, status_after}

-- the whole of a text is a part of it
pub whole_is_part : (old new : Option (List ℕ)) (text : List ℕ) → new ≡ appended old text → AppendsPart old new text
whole_is_part old new text e = (length text, rw take-length e)

module _ (P Q : ℕ → List ℕ → Type 0) (f : (s : ℕ) (text : List ℕ) → P s text → Q s text) where
  part_map : (old new : Option (List ℕ)) → IsPart P old new → IsPart Q old new
  part_map old new part = record { status = part.status; text = part.text; due = f part.status part.text part.due; written = part.written }

  rest_map : (old new : Option (List ℕ)) → (new ≡ old) ⊎ IsPart P old new → (new ≡ old) ⊎ IsPart Q old new
  rest_map old new (inl kept) = inl kept
  rest_map old new (inr part) = inr (part_map old new part)

  -- what is due for one reason is due for another
  pub puts_map : (status : ℕ) (old new : Option (List ℕ)) (before now : ℕ) → Puts P status old new before now → Puts Q status old new before now
  puts_map status old new before now (inl whole) = inl (record { text = whole.text; due = f status whole.text whole.due; written = whole.written })
  puts_map status old new before now (inr (inl cut)) = inr (inl (record { status_is = cut.status_is; rose = cut.rose; part = part_map old new cut.part }))
  puts_map status old new before now (inr (inr spent)) = inr (inr (record { status_is = spent.status_is; part = rest_map old new spent.part }))

-- what a report of a line leaves is a put of its text
pub line_puts : (text : List ℕ) (report : Result (Unit {0}) ReportFault) (status : ℕ) (old new : Option (List ℕ)) (before now : ℕ) → Reports text report old new before now
    → Puts (λ due line. (due ≡ status) × (line ≡ text)) (status_after report status) old new before now
line_puts text (Ok u) status old new before now left = inl (record { text = text; due = (refl, refl); written = left })
line_puts text (Err Write) status old new before now left =
    inr (inl (record { status_is = refl; rose = left.1; part = record { status = status; text = text; due = (refl, refl); written = left.0 } }))
line_puts text (Err NoMemory) status old new before now left = inr (inr (record { status_is = refl; part = inl left }))

-- and of lines
pub report_puts : (text : List ℕ) (report : Result (Unit {0}) ReportFault) (status : ℕ) (old new : Option (List ℕ)) (before now : ℕ) → ReportsLines text report old new before now
    → Puts (λ due line. (due ≡ status) × (line ≡ text)) (status_after report status) old new before now
report_puts text (Ok u) status old new before now left = inl (record { text = text; due = (refl, refl); written = left })
report_puts text (Err Write) status old new before now left =
    inr (inl (record { status_is = refl; rose = left.1; part = record { status = status; text = text; due = (refl, refl); written = left.0 } }))
report_puts text (Err NoMemory) status old new before now left =
    inr (inr (record { status_is = refl; part = inr (record { status = status; text = text; due = (refl, refl); written = left }) }))
