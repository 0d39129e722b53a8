-- What a report leaves on a sink. `old` and `new` are what the sink tells that it has written, `before` and `now` its counts of
-- faults.
use Rattle.std.specs.Prelude.{◌≡◌, ℕ, List, Option, Result, Ok, Err}
use Rattle.pg_io.specs.Counts.{Rose}
use Rattle.pg_io.specs.Written.{appended, AppendsPart}
use Rattle.pg_report.specs.declared.fault.ReportFault.{ReportFault}
use Rattle.pg_report.specs.declared.fault.ReportFault.TheVariants.{Write, NoMemory}

-- of one line: the whole text; or a part of it, where the count of faults rose; or, where memory ran out, nothing
abbrev pub Reports : List ℕ → Result (Unit {0}) ReportFault → Option (List ℕ) → Option (List ℕ) → ℕ → ℕ → Type 0
Reports text (Ok u) old new before now = new ≡ appended old text
Reports text (Err Write) old new before now = AppendsPart old new text × Rose before now
Reports text (Err NoMemory) old new before now = new ≡ old

-- of several lines, put one by one: the same, but that memory may run out after some of them
abbrev pub ReportsLines : List ℕ → Result (Unit {0}) ReportFault → Option (List ℕ) → Option (List ℕ) → ℕ → ℕ → Type 0
ReportsLines text (Ok u) old new before now = new ≡ appended old text
ReportsLines text (Err Write) old new before now = AppendsPart old new text × Rose before now
ReportsLines text (Err NoMemory) old new before now = AppendsPart old new text
