-- A replay that goes on: what was found and put, and which lines are still to come.
use Rattle.std.proofs.Common.{◌≡◌, ℕ, zero, suc, ◌+◌, ◌<◌, ◌≤◌, List, [], ◌∷◌, ◌++◌, length, drop, Option, None, Some, Ok, Err, inl, inr, refl, sym, ap, ap₂, subst, ◌∙◌, arith, append_assoc}
use Rattle.std.specs.Option.{option_or}
use Rattle.std.proofs.lemmas.List.{append-nil}
use Rattle.pg_io.specs.Written.{appended, AppendsPart}
use Rattle.pg_machine.specs.Limits.{most_messages}
use Rattle.pg_machine.specs.State.{State, IsWellFormed, fresh}
use Rattle.pg_outline.specs.Outline.{OutlineTable}
use Rattle.pg_schedule.specs.Schedule.{Act, step, crash, ScheduleTable, act_at, number_at}
use Rattle.pg_replay.specs.declared.answer.Violation.{Violation}
use Rattle.pg_replay.specs.declared.answer.Replayed.{Replayed}
use Rattle.pg_replay.specs.declared.fault.ReplayFault.{ReplayFault}
use Rattle.pg_replay.specs.declared.fault.ReplayFault.TheVariants as fault
use Rattle.pg_replay.specs.Violation.{state_violation}
use Rattle.pg_replay.specs.Replay.{Answer, Takes, Refuses, shown, line_text, nothing, joined, behind, shown_at_first, Replays, IsReplay}
use Rattle.pg_replay.specs.Put.{IsTraced, IsTracePart, Puts}
use Rattle.pg_replay.specs.Parts.{ReplaysLine}
use Rattle.pg_replay.proofs.Written.{appended-nothing, appended-twice, part_behind, done_is_part}
use Rattle.pg_replay.proofs.Decided.{lines_answered, has_answer}

-- ---- what is shown one after the other

or-assoc : (u v w : Option Violation) → option_or (option_or u v) w ≡ option_or u (option_or v w)
or-assoc None v w = refl
or-assoc (Some x) v w = refl

or-none : (v : Option Violation) → option_or v None ≡ v
or-none None = refl
or-none (Some x) = refl

behind-joined : (a b : Replayed) (l : Answer) → behind (joined a b) l ≡ behind a (behind b l)
behind-joined a b (Err f) = refl
behind-joined a b (Ok c) =
    let steps : a.steps + b.steps + c.steps ≡ a.steps + (b.steps + c.steps) = omega arith in
    ap₂ (λ (n : ℕ) (v : Option Violation). let r : Replayed = record { steps = n; first_violation = v } in let x : Answer = Ok r in x) steps
    (or-assoc a.first_violation b.first_violation c.first_violation)

behind-nothing : (a : Replayed) → behind a (Ok nothing) ≡ Ok a
behind-nothing a =
    let steps : a.steps + 0 ≡ a.steps = omega arith in
    ap₂ (λ (n : ℕ) (v : Option Violation). let r : Replayed = record { steps = n; first_violation = v } in let x : Answer = Ok r in x) steps (or-none a.first_violation)

-- ---- the lines that are left

lines-at : (lines : ScheduleTable) (k : ℕ) → k < length lines → drop k lines ≡ record { number = number_at lines k; act = act_at lines k } ∷ drop (suc k) lines
lines-at [] k lt = absurd (omega arith)
lines-at (l ∷ ls) zero lt = refl
lines-at (l ∷ ls) (suc k) lt = lines-at ls k (omega arith)

pub lines-past : (lines : ScheduleTable) (k : ℕ) → length lines ≤ k → drop k lines ≡ []
lines-past [] zero le = refl
lines-past [] (suc k) le = refl
lines-past (l ∷ ls) zero le = absurd (omega arith)
lines-past (l ∷ ls) (suc k) le = lines-past ls k (omega arith)

-- what is said of a line by its number and its act
pub said_at : (o : OutlineTable) (lines : ScheduleTable) (k n : ℕ) (a : Act) (found : Replayed) (s next : State) (r : Answer) (mid new : Option (List ℕ)) (between now : ℕ)
    → n ≡ number_at lines k → a ≡ act_at lines k → ReplaysLine o n a found s next r mid new between now
    → ReplaysLine o (number_at lines k) (act_at lines k) found s next r mid new between now
said_at o lines k n a found s next r mid new between now number act h =
    subst (λ (b : Act). ReplaysLine o (number_at lines k) b found s next r mid new between now) act
    (subst (λ (m : ℕ). ReplaysLine o m a found s next r mid new between now) number h)

-- ---- a replay that goes on

-- Before the lines from place k on, in the state s, with this found and put so far: what is answered to these lines completes the
-- answer to all.
pub record IsGoing (o : OutlineTable) (lines : ScheduleTable) (k : ℕ) (s : State) (found : Replayed) (old mid : Option (List ℕ)) (before now : ℕ) : Type 0 where
  pub formed : IsWellFormed o.program s
  pub few : length s.memory.messages ≤ most_messages
  pub steps : found.steps ≤ k
  pub faults : before ≤ now
  pub done : List ℕ
  pub written : mid ≡ appended old done
  pub completes : (later : Answer) (trace : List ℕ) → Replays o s (drop k lines) later trace → IsReplay o lines (behind found later) (done ++ trace)

pub going-first : (o : OutlineTable) (lines : ScheduleTable) (s : State) (found : Replayed) (old : Option (List ℕ)) (before : ℕ) → IsWellFormed o.program s → s ≡ fresh o.program
    → found ≡ record { steps = 0; first_violation = state_violation o 1 s } → IsGoing o lines 0 s found old old before before
going-first o lines s found old before formed is same =
    let first : found ≡ shown_at_first o = same ∙ ap (λ (x : State). let r : Replayed = record { steps = 0; first_violation = state_violation o 1 x } in r) is in
    record {
      formed = formed;
      few = subst (λ (x : State). length x.memory.messages ≤ most_messages) (sym is) (omega arith);
      steps = let none = ap (λ (x : Replayed). x.steps) first in omega (arith, none);
      faults = omega arith;
      done = [];
      written = sym (appended-nothing old);
      completes = λ later trace h. record {
        later = later;
        replays = subst (λ (x : State). Replays o x lines later trace) is h;
        answer_is = ap (λ (x : Replayed). behind x later) first;
      };
    }

-- what is left begins with line k
next_line : (o : OutlineTable) (lines : ScheduleTable) (k : ℕ) (s : State) (later : Answer) (trace : List ℕ) → k < length lines
    → Replays o s (record { number = number_at lines k; act = act_at lines k } ∷ drop (suc k) lines) later trace → Replays o s (drop k lines) later trace
next_line o lines k s later trace lt h = subst (λ (l : ScheduleTable). Replays o s l later trace) (sym (lines-at lines k lt)) h

-- the line is taken, and the rest of the lines is replayed from the next state on
taken_on : (o : OutlineTable) (lines : ScheduleTable) (k : ℕ) (s next : State) (later : Answer) (trace : List ℕ) → k < length lines → Takes o.program s (act_at lines k) next
    → Replays o next (drop (suc k) lines) later trace
    → Replays o s (drop k lines) (behind (shown o s (number_at lines k) (act_at lines k) next) later) (line_text o.program s (number_at lines k) (act_at lines k) next ++ trace)
taken_on o lines k s next later trace lt takes h =
    next_line o lines k s _ _ lt (inr (record { next = next; takes = takes; later = later; later_trace = trace; others = h; answer_is = refl; trace_is = refl }))

messages-few : (o : OutlineTable) (s : State) (a : Act) (next : State) → length s.memory.messages ≤ most_messages → Takes o.program s a next → length next.memory.messages ≤ most_messages
messages-few o s (step e) next few h = h.1
messages-few o s (crash at) next few h = subst (λ (x : State). length x.memory.messages ≤ most_messages) (sym h.1) few

pub going-next : {o : OutlineTable} {lines : ScheduleTable} {k : ℕ} {s next : State} {found : Replayed} {old mid new : Option (List ℕ)} {before between now : ℕ} (r : Replayed)
    → IsGoing o lines k s found old mid before between → k < length lines
    → ReplaysLine o (number_at lines k) (act_at lines k) found s next (Ok r) mid new between now → between ≤ now → IsWellFormed o.program next → r.steps ≤ found.steps + 1
    → IsGoing o lines (k + 1) next r old new before now
going-next {o} {lines} {k} {s} {next} {found} {old} {mid} {new} {before} {between} {now} r h lt said later formed steps =
    let n = number_at lines k in
    let a = act_at lines k in
    let faults = h.faults in
    let so_far = h.steps in
    let e : k + 1 ≡ suc k = omega arith in
    record {
      formed = formed;
      few = messages-few o s a next h.few said.0;
      steps = omega (arith, so_far, steps);
      faults = omega (arith, faults, later);
      done = h.done ++ line_text o.program s n a next;
      written = said.2 ∙ (ap (λ (x : Option (List ℕ)). appended x (line_text o.program s n a next)) h.written ∙ appended-twice old h.done (line_text o.program s n a next));
      completes = λ rest trace is.
          let on = taken_on o lines k s next rest trace lt said.0 (subst (λ (i : ℕ). Replays o next (drop i lines) rest trace) e is) in
          let all = h.completes (behind (shown o s n a next) rest) (line_text o.program s n a next ++ trace) on in
          let same : behind r rest ≡ behind found (behind (shown o s n a next) rest) = ap (λ (x : Replayed). behind x rest) said.1 ∙ behind-joined found (shown o s n a next) rest in
          subst (λ (x : Answer). IsReplay o lines x ((h.done ++ line_text o.program s n a next) ++ trace)) (sym same)
          (subst (λ (t : List ℕ). IsReplay o lines (behind found (behind (shown o s n a next) rest)) t) (sym (append_assoc h.done (line_text o.program s n a next) trace)) all);
    }

-- ---- how a replay ends

pub going-end : {o : OutlineTable} {lines : ScheduleTable} {k : ℕ} {s : State} {found : Replayed} {old mid : Option (List ℕ)} {before now : ℕ} → IsGoing o lines k s found old mid before now
    → drop k lines ≡ [] → Puts o lines (Ok found) old mid before now
going-end {o} {lines} {k} {s} {found} {old} {mid} h none =
    let left : Replays o s (drop k lines) (Ok nothing) [] = subst (λ (l : ScheduleTable). Replays o s l (Ok nothing) []) (sym none) (refl, refl) in
    let all = h.completes (Ok nothing) [] left in
    record {
      trace = h.done ++ [];
      is = subst (λ (x : Answer). IsReplay o lines x (h.done ++ [])) (behind-nothing found) all;
      written = h.written ∙ ap (appended old) (sym (append-nil h.done));
    }

-- the whole trace, of which a part was put
stopped : {o : OutlineTable} {lines : ScheduleTable} {k : ℕ} {s : State} {found : Replayed} {old mid : Option (List ℕ)} {before now : ℕ} (new : Option (List ℕ))
    → IsGoing o lines k s found old mid before now → new ≡ mid → IsTracePart o lines old new
stopped {o} {lines} {k} {s} {found} {old} {mid} new h same =
    let rest = lines_answered o (drop k lines) s h.few in
    record {
      answer = behind found rest.answer;
      trace = h.done ++ rest.trace;
      is = h.completes rest.answer rest.trace rest.is;
      part = done_is_part old new h.done rest.trace (same ∙ h.written);
    }

cut : {o : OutlineTable} {lines : ScheduleTable} {k : ℕ} {s : State} {found : Replayed} {old mid : Option (List ℕ)} {before now : ℕ} (next : State) (new : Option (List ℕ))
    → IsGoing o lines k s found old mid before now → k < length lines → Takes o.program s (act_at lines k) next
    → AppendsPart mid new (line_text o.program s (number_at lines k) (act_at lines k) next) → IsTracePart o lines old new
cut {o} {lines} {k} {s} {found} {old} {mid} next new h lt takes part =
    let n = number_at lines k in
    let a = act_at lines k in
    let rest = lines_answered o (drop (suc k) lines) next (messages-few o s a next h.few takes) in
    let on = taken_on o lines k s next rest.answer rest.trace lt takes rest.is in
    record {
      answer = behind found (behind (shown o s n a next) rest.answer);
      trace = h.done ++ (line_text o.program s n a next ++ rest.trace);
      is = h.completes (behind (shown o s n a next) rest.answer) (line_text o.program s n a next ++ rest.trace) on;
      part = part_behind old mid new h.done (line_text o.program s n a next) rest.trace h.written part;
    }

refused : {o : OutlineTable} {lines : ScheduleTable} {k : ℕ} {s : State} {found : Replayed} {old mid : Option (List ℕ)} {before now : ℕ} (f : ReplayFault) (new : Option (List ℕ))
    → IsGoing o lines k s found old mid before now → k < length lines → Refuses o.program s (number_at lines k) (act_at lines k) f → new ≡ mid → IsTraced o lines (Err f) old new
refused {o} {lines} {k} {s} {found} {old} {mid} f new h lt refuses same =
    let left = next_line o lines k s (Err f) [] lt (inl (record { refusal = f; refuses = refuses; answer_is = refl; trace_is = refl })) in
    record {
      trace = h.done ++ [];
      is = h.completes (Err f) [] left;
      written = same ∙ (h.written ∙ ap (appended old) (sym (append-nil h.done)));
    }

pub going-fault : (o : OutlineTable) (lines : ScheduleTable) (k : ℕ) (s next : State) (found : Replayed) (old mid new : Option (List ℕ)) (before between now : ℕ) (f : ReplayFault)
    → IsGoing o lines k s found old mid before between → k < length lines
    → ReplaysLine o (number_at lines k) (act_at lines k) found s next (Err f) mid new between now → Puts o lines (Err f) old new before now
going-fault o lines k s next found old mid new before between now (fault.Step n f) h lt said = refused (fault.Step n f) new h lt said.0 said.1
going-fault o lines k s next found old mid new before between now (fault.Crash n f) h lt said = refused (fault.Crash n f) new h lt said.0 said.1
going-fault o lines k s next found old mid new before between now fault.Write h lt said =
    let faults = h.faults in
    let rose = said.2 in
    (cut next new h lt said.0 said.1, omega (arith, faults, rose))
going-fault o lines k s next found old mid new before between now fault.NoMemory h lt said = stopped new h said

-- memory ran out before the first line
pub unbegun : (o : OutlineTable) (lines : ScheduleTable) (old : Option (List ℕ)) → IsTracePart o lines old old
unbegun o lines old =
    let all = has_answer o lines in
    record { answer = all.answer; trace = all.trace; is = all.is; part = done_is_part old old [] all.trace (sym (appended-nothing old)) }
