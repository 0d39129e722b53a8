-- Where an outline is safe, a replay whose lines are all taken shows no violation.
use Rattle.std.proofs.Common.{◌≡◌, ℕ, zero, suc, ◌+◌, ◌≤◌, cond, List, [], ◌∷◌, length, map, Option, Some, None, Ok, Err, inl, inr, refl, sym, ap, ap₂, subst, ◌∙◌, arith}
use Rattle.std.specs.Option.{option_or}
use Rattle.std.specs.List.{All, range_with_len}
use Rattle.std.proofs.lemmas.List.Elements.{All-head, All-tail}
use Rattle.pg_machine.specs.declared.event.Event.{Event}
use Rattle.pg_machine.specs.State.{State, point_of, fresh}
use Rattle.pg_machine.specs.Step.{IsStep}
use Rattle.pg_views.specs.Crash.{IsCrashChoice, crash_memory}
use Rattle.pg_views.specs.Execution.{Leads}
use Rattle.pg_outline.specs.Outline.{OutlineTable}
use Rattle.pg_obligations.specs.Safe.{IsSafeIn}
use Rattle.pg_schedule.specs.Schedule.{Act, step, crash, ScheduleTable}
use Rattle.pg_replay.specs.declared.answer.Violation.{Violation}
use Rattle.pg_replay.specs.declared.answer.Violation.TheVariants.{Assertion, Crash}
use Rattle.pg_replay.specs.declared.answer.Replayed.{Replayed}
use Rattle.pg_replay.specs.Violation.{assertion_violation, first_of, state_violation, crash_violation}
use Rattle.pg_replay.specs.Replay.{Answer, Takes, shown, nothing, joined, behind, shown_at_first, Replays}
use Rattle.pg_replay.specs.Laws.{SafeShowsNoViolation}

-- the outline is safe in every state that steps lead to
record IsSafeFrom (o : OutlineTable) (s : State) : Type 0 where
  along : (events : List Event) (states : List State) → Leads o.program s events states → All (IsSafeIn o) (s ∷ states)

safe-here : (o : OutlineTable) (s : State) → IsSafeFrom o s → IsSafeIn o s
safe-here o s h = All-head (IsSafeIn o) s [] (h.along [] [] tt)

safe-next : (o : OutlineTable) (s : State) (e : Event) (next : State) → IsSafeFrom o s → IsStep o.program s e next → IsSafeFrom o next
safe-next o s e next h is = record { along = λ events states leads. All-tail (IsSafeIn o) s (next ∷ states) (h.along (e ∷ events) (next ∷ states) (is, leads)) }

-- ---- one state

threads-hold : (o : OutlineTable) (n : ℕ) (s : State) → IsSafeIn o s → (t k : ℕ) → 1 ≤ t → t + k ≤ length o.program.threads + 1
    → first_of (map (assertion_violation o n s) (range_with_len t k)) ≡ None
threads-hold o n s h t zero low high = refl
threads-hold o n s h t (suc k) low high =
    let here = ap (λ b. cond b None (Some (Assertion n (record { thread = t; point = point_of s t })))) (h.assertions t low (omega (arith, high))) in
    let rest = threads-hold o n s h (t + 1) k (omega (arith, low)) (omega (arith, high)) in
    ap₂ (λ (v w : Option Violation). option_or v w) here rest

state-holds : (o : OutlineTable) (n : ℕ) (s : State) → IsSafeIn o s → state_violation o n s ≡ None
state-holds o n s h = threads-hold o n s h 1 (length o.program.threads) (omega arith) (omega arith)

crash-holds : (o : OutlineTable) (n : ℕ) (s : State) (at : List ℕ) → IsSafeIn o s → IsCrashChoice s at → crash_violation o n s (crash_memory s at) ≡ None
crash-holds o n s at h is = ap (λ b. cond b None (Some (Crash n))) (h.crash at is)

-- ---- lines

shows-none : (o : OutlineTable) (s : State) (n : ℕ) (a : Act) (next : State) → IsSafeFrom o s → Takes o.program s a next → (shown o s n a next).first_violation ≡ None
shows-none o s n (step e) next h k = state-holds o n next (safe-here o next (safe-next o s e next h k.0))
shows-none o s n (crash at) next h k = crash-holds o n s at (safe-here o s h) k.0

stays-safe : (o : OutlineTable) (s : State) (a : Act) (next : State) → IsSafeFrom o s → Takes o.program s a next → IsSafeFrom o next
stays-safe o s (step e) next h k = safe-next o s e next h k.0
stays-safe o s (crash at) next h k = subst (IsSafeFrom o) (sym k.1) h

-- an answer is of lines that are all taken only where the later one is
record IsBehind (a : Replayed) (later : Answer) (r : Replayed) : Type 0 where
  rest : Replayed
  later_is : later ≡ Ok rest
  is : r ≡ joined a rest

is_behind : (a : Replayed) (later : Answer) (r : Replayed) → Ok r ≡ behind a later → IsBehind a later r
is_behind a (Ok b) r h = record { rest = b; later_is = refl; is = cc }
is_behind a (Err f) r h = cc

both-none : (v w : Option Violation) → v ≡ None → w ≡ None → option_or v w ≡ None
both-none v w h k = ap₂ (λ (x y : Option Violation). option_or x y) h k

lines_show_none : (o : OutlineTable) (lines : ScheduleTable) (s : State) (r : Replayed) (t : List ℕ) → IsSafeFrom o s → Replays o s lines (Ok r) t → r.first_violation ≡ None
lines_show_none o [] s r t safe h = let e : r ≡ nothing = let same = h.0 in cc in ap (λ (x : Replayed). x.first_violation) e
lines_show_none o (line ∷ lines) s r t safe (inl h) = let e = h.answer_is in cc
lines_show_none o (line ∷ lines) s r t safe (inr h) =
    let b = is_behind (shown o s line.number line.act h.next) h.later r h.answer_is in
    let others = subst (λ (l : Answer). Replays o h.next lines l h.later_trace) b.later_is h.others in
    let here = shows-none o s line.number line.act h.next safe h.takes in
    let rest = lines_show_none o lines h.next b.rest h.later_trace (stays-safe o s line.act h.next safe h.takes) others in
    ap (λ (x : Replayed). x.first_violation) b.is ∙ both-none (shown o s line.number line.act h.next).first_violation b.rest.first_violation here rest

pub safe_shows_none : SafeShowsNoViolation
safe_shows_none o lines r t safe start h =
    let from : IsSafeFrom o (fresh o.program) = record { along = λ events states leads. safe (fresh o.program) events states (record { start = start; steps = leads }) } in
    let b = is_behind (shown_at_first o) h.later r h.answer_is in
    let others = subst (λ (l : Answer). Replays o (fresh o.program) lines l t) b.later_is h.replays in
    ap (λ (x : Replayed). x.first_violation) b.is
    ∙ both-none (shown_at_first o).first_violation b.rest.first_violation (state-holds o 1 (fresh o.program) (safe-here o (fresh o.program) from)) (lines_show_none o lines (fresh o.program) b.rest t from others)
