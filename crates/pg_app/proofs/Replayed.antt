-- A trace, and the line of its answer put behind it, are the answer to a schedule.
use Rattle.std.proofs.Common.{◌≡◌, ℕ, ◌≤◌, inl, inr, List, ◌++◌, Option, None, Some, refl}
use Rattle.std.specs.Prelude.{Ok, Err}
use Rattle.pg_outline.specs.Outline.{OutlineTable}
use Rattle.pg_schedule.specs.Schedule.{ScheduleTable}
use Rattle.pg_replay.specs.declared.fault.ReplayFault.TheVariants.{Step, Crash, Write, NoMemory}
use Rattle.pg_replay.specs.Put as trace
use Rattle.pg_replay.specs.Put.{IsTraced, IsTracePart}
use Rattle.pg_replay.specs.Replay.{Answer, IsReplay}
use Rattle.pg_report.specs.Replayed.{replayed_line}
use Rattle.pg_app.specs.Answer.{IsReplayed, replayed_status}
use Rattle.pg_app.specs.Put.{IsPart, Puts, cut_status}
use Rattle.pg_app.proofs.Behind.{part_front, behind_puts}

module _ (o : OutlineTable) (lines : ScheduleTable) where
  replayed : (answer : Answer) (text : List ℕ) → IsReplay o lines answer text → IsReplayed lines o (replayed_status answer) (text ++ replayed_line o.program.names answer)
  replayed answer text is = record { answer = answer; trace = text; is = is; status_is = refl; text_is = refl }

  -- a trace that was cut short
  cut_part : (old new : Option (List ℕ)) → IsTracePart o lines old new → IsPart (IsReplayed lines o) old new
  cut_part old new part = record {
    status = replayed_status part.answer;
    text = part.trace ++ replayed_line o.program.names part.answer;
    due = replayed part.answer part.trace part.is;
    written = part_front old new part.trace (replayed_line o.program.names part.answer) part.part;
  }

  pub cut_puts : {old new : Option (List ℕ)} {before now : ℕ} (answer : Answer) (status : ℕ) → trace.Puts o lines answer old new before now → Some status ≡ cut_status answer
      → Puts (IsReplayed lines o) status old new before now
  cut_puts (Ok found) status put e = cc
  cut_puts (Err (Step line fault)) status put e = cc
  cut_puts (Err (Crash line fault)) status put e = cc
  cut_puts {old} {new} (Err Write) status put e = let is : status ≡ 7 = cc in inr (inl (record { status_is = is; rose = put.1; part = cut_part old new put.0 }))
  cut_puts {old} {new} (Err NoMemory) status put e = let is : status ≡ 9 = cc in inr (inr (record { status_is = is; part = inr (cut_part old new put) }))

  -- and one that is whole
  whole_trace : {old new : Option (List ℕ)} (before now : ℕ) (answer : Answer) → trace.Puts o lines answer old new before now → None ≡ cut_status answer → IsTraced o lines answer old new
  whole_trace before now (Ok found) put e = put
  whole_trace before now (Err (Step line fault)) put e = put
  whole_trace before now (Err (Crash line fault)) put e = put
  whole_trace before now (Err Write) put e = cc
  whole_trace before now (Err NoMemory) put e = cc

  pub replayed_puts : {old mid new : Option (List ℕ)} {before between now : ℕ} (answer : Answer) (status : ℕ) → trace.Puts o lines answer old mid before between → None ≡ cut_status answer → before ≤ between
      → Puts (λ due text. (due ≡ replayed_status answer) × (text ≡ replayed_line o.program.names answer)) status mid new between now → Puts (IsReplayed lines o) status old new before now
  replayed_puts {before = before} {between = between} answer status put e le puts =
      let traced = whole_trace before between answer put e in
      behind_puts traced.trace (replayed_line o.program.names answer) (replayed_status answer) (replayed answer traced.trace traced.is) traced.written status le puts
