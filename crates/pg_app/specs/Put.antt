-- How a text with its status comes to be put on a sink. `Due status text` says which statuses and
-- texts are due; `old` and `new` are what the sink tells it has written, and `before` and `now` are
-- its counts of faults.
use Rattle.std.specs.Prelude.{◌≡◌, ℕ, Bool, true, false, ◌⊎◌, List, Option, Some, None, Result, Ok, Err}
use Rattle.pg_io.specs.Counts.{Rose}
use Rattle.pg_io.specs.Written.{appended, AppendsPart}
use Rattle.pg_derive.specs.declared.fault.VerifyFault.{VerifyFault}
use Rattle.pg_derive.specs.declared.fault.VerifyFault.TheVariants as verifying
use Rattle.pg_replay.specs.declared.fault.ReplayFault.TheVariants as replaying
use Rattle.pg_replay.specs.Replay.{Answer}
use Rattle.pg_report.specs.declared.fault.ReportFault.{ReportFault}
use Rattle.pg_report.specs.declared.fault.ReportFault.TheVariants.{Write, NoMemory}

-- the text was written whole, and its status is the answer
pub record IsWhole (Due : ℕ → List ℕ → Type 0) (status : ℕ) (old new : Option (List ℕ)) : Type 0 where
  pub text : List ℕ
  pub due : Due status text
  pub written : new ≡ appended old text

-- a prefix of a text that is due was written
pub record IsPart (Due : ℕ → List ℕ → Type 0) (old new : Option (List ℕ)) : Type 0 where
  pub status : ℕ
  pub text : List ℕ
  pub due : Due status text
  pub written : AppendsPart old new text

-- a fault cut the text short
pub record IsCut (Due : ℕ → List ℕ → Type 0) (status : ℕ) (old new : Option (List ℕ)) (before now : ℕ) : Type 0 where
  pub status_is : status ≡ 7
  pub rose : Rose before now
  pub part : IsPart Due old new

-- memory ran out before anything was written, or between two lines
pub record IsSpent (Due : ℕ → List ℕ → Type 0) (status : ℕ) (old new : Option (List ℕ)) : Type 0 where
  pub status_is : status ≡ 9
  pub part : (new ≡ old) ⊎ IsPart Due old new

abbrev pub Puts : (ℕ → List ℕ → Type 0) → ℕ → Option (List ℕ) → Option (List ℕ) → ℕ → ℕ → Type 0
Puts Due status old new before now =
    IsWhole Due status old new ⊎ (IsCut Due status old new before now ⊎ IsSpent Due status old new)

-- the status after a report, where this is that of its text
abbrev pub status_after : Result (Unit {0}) ReportFault → ℕ → ℕ
status_after (Ok u) status = status
status_after (Err Write) status = 7
status_after (Err NoMemory) status = 9

-- memory ran out before a derivation was checked
abbrev pub ran_out : Result ℕ VerifyFault → Bool
ran_out (Ok n) = false
ran_out (Err (verifying.Tree i fault)) = false
ran_out (Err (verifying.Missing i)) = false
ran_out (Err (verifying.Extra i)) = false
ran_out (Err verifying.NoMemory) = true

-- the status of a replay that was cut short
abbrev pub cut_status : Answer → Option ℕ
cut_status (Ok found) = None
cut_status (Err (replaying.Step line fault)) = None
cut_status (Err (replaying.Crash line fault)) = None
cut_status (Err replaying.Write) = Some 7
cut_status (Err replaying.NoMemory) = Some 9
