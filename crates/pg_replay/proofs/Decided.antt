-- An event leads to a next state or has a fault, and positions are a crash choice or have a fault. So a schedule has an answer.
use Rattle.std.proofs.Common.{◌≡◌, ℕ, suc, ◌<◌, ◌≤◌, ◌⊎◌, Bool, true, false, not, ◌&&◌, nat_le, List, [], ◌∷◌, ◌++◌, length, slice_index, slice_set, Option, Some, None, IsSome, Ok, Err, inl, inr, refl, sym, ap, subst, ◌∙◌, arith}
use Rattle.std.proofs.lemmas.Bool.{cases_lt, cases_eq, and_from, le-leb, true≢false, false≢true}
use Rattle.std.proofs.lemmas.List.{length_push}
use Rattle.pg_program.specs.declared.syntax.Expr.{Expr}
use Rattle.pg_program.specs.declared.syntax.Stmt.{Stmt}
use Rattle.pg_program.specs.declared.syntax.Act as machine
use Rattle.pg_program.specs.declared.syntax.Act.TheOpen.{Act-F, Assign, Store, Load, Cas, Mfence, Sfence, Flush, Flushopt, If, While}
use Rattle.pg_program.specs.declared.point.Step.{Step}
use Rattle.pg_program.specs.Expr.{value}
use Rattle.pg_program.specs.Graph.{step_of}
use Rattle.pg_program.specs.Program.{ProgramTable, stmt_at, steps_at}
use Rattle.pg_machine.specs.declared.event.Event.{Event}
use Rattle.pg_machine.specs.declared.fault.StepFault.{StepFault}
use Rattle.pg_machine.specs.declared.fault.StepFault.TheVariants.{NoThread, Ended, NoChoice, ChoiceMissing, NotAPosition, BelowCoherence, Hidden, CasMustDiffer, CasNotLast, MessagesFull}
use Rattle.pg_machine.specs.Limits.{most_messages}
use Rattle.pg_machine.specs.Memory.{line_of, is_at, hides, is_clear, reaches, value_at, last_value}
use Rattle.pg_machine.specs.State.{State, coh_of, maxcoh, point_of, fresh}
use Rattle.pg_machine.specs.Moves.{Seen, can_read, loaded, stored, swapped, missed, fenced, store_fenced, flushed, flush_begun}
use Rattle.pg_machine.specs.Step.{Left, leaves, Row, HasThread, seen_by, act_of, bracket_of, bracket_done, branch_taken, moved, IsStep}
use Rattle.pg_machine.specs.Fault.{IsLeastHiding, ChoiceFault, RowFault, ActFault, IsFault}
use Rattle.pg_machine.proofs.EveryBelow.{every_below-all}
use Rattle.pg_machine.proofs.Formed.{leads_on}
use Rattle.pg_views.specs.declared.fault.CrashFault.{CrashFault}
use Rattle.pg_views.specs.declared.fault.CrashFault.TheVariants as crash_fault
use Rattle.pg_views.specs.Crash.{cut, survives, IsCrashChoice}
use Rattle.pg_views.specs.Fault.{PositionFault, IsFirstFault, IsCrashFault}
use Rattle.pg_outline.specs.Outline.{OutlineTable}
use Rattle.pg_schedule.specs.Schedule.{Act, step, crash, Line, ScheduleTable}
use Rattle.pg_replay.specs.declared.fault.ReplayFault.{ReplayFault}
use Rattle.pg_replay.specs.declared.fault.ReplayFault.TheVariants as fault
use Rattle.pg_replay.specs.Replay.{Answer, Takes, Refuses, shown, line_text, nothing, behind, shown_at_first, Replays, IsReplay}
use Rattle.pg_replay.proofs.Least.{IsLeast, least_below}

-- ---- positions

-- no message hides the position, or a least one does
hiding_decided : (ms : List (ℕ × ℕ)) (x p b : ℕ) → (is_clear ms x p b ≡ true) ⊎ ((later : ℕ) × IsLeastHiding ms x p b later)
hiding_decided ms x p b = by (least_below (hides ms x p b) (suc (length ms)))
  where
    by : ((q : ℕ) → q < suc (length ms) → hides ms x p b q ≡ false) ⊎ ((least : ℕ) × IsLeast (hides ms x p b) (suc (length ms)) least)
        → (is_clear ms x p b ≡ true) ⊎ ((later : ℕ) × IsLeastHiding ms x p b later)
    by (inl none) = inl (every_below-all (λ q. not (hides ms x p b q)) (suc (length ms)) (λ q lt. ap not (none q lt)))
    by (inr h) = inr (h.0, record { hiding = h.1.here; least = h.1.before })

-- an act is none of these two faults, which an event has without a statement
abbrev has_statement : StepFault → Bool
has_statement (NoThread t) = false
has_statement Ended = false
has_statement f = true

record Has (Faults : StepFault → Type 0) : Type 0 where
  fault : StepFault
  is : Faults fault
  stands : has_statement fault ≡ true

choice_decided : (n : Seen) (x p b : ℕ) → (reaches n.memory.messages x (coh_of n.views x) b p ≡ true) ⊎ Has (ChoiceFault n x p b)
choice_decided n x p b = at (is_at n.memory.messages x p) refl
  where
    clear : is_at n.memory.messages x p ≡ true → coh_of n.views x ≤ p → (is_clear n.memory.messages x p b ≡ true) ⊎ ((later : ℕ) × IsLeastHiding n.memory.messages x p b later)
        → (reaches n.memory.messages x (coh_of n.views x) b p ≡ true) ⊎ Has (ChoiceFault n x p b)
    clear e from (inl c) =
        inl (and_from (is_at n.memory.messages x p) (nat_le (coh_of n.views x) p && is_clear n.memory.messages x p b) e
        (and_from (nat_le (coh_of n.views x) p) (is_clear n.memory.messages x p b) (le-leb (coh_of n.views x) p from) c))
    clear e from (inr h) = inr (record { fault = Hidden p h.0; is = (refl, e, from, h.1); stands = refl })

    at : (a : Bool) → is_at n.memory.messages x p ≡ a → (reaches n.memory.messages x (coh_of n.views x) b p ≡ true) ⊎ Has (ChoiceFault n x p b)
    at false e = inr (record { fault = NotAPosition p; is = (refl, e); stands = refl })
    at true e = elim (cases_lt p (coh_of n.views x)) [
      | inl low ↦ inr (record { fault = BelowCoherence p (coh_of n.views x); is = (refl, refl, e, low); stands = refl })
      | inr from ↦ clear e from (hiding_decided n.memory.messages x p b)
    ]

-- ---- rows

-- the act may be taken, and leaves no more messages than may be
record Goes (d : ℕ) (n : Seen) (r : List ℕ) (a : Act-F machine.Act Stmt) (c : Option ℕ) : Type 0 where
  left : Left
  row : Row d n r a c left
  few : length left.seen.memory.messages ≤ most_messages

one_more : (ms : List (ℕ × ℕ)) (m : ℕ × ℕ) → length ms < most_messages → length (ms ++ m ∷ []) ≤ most_messages
one_more ms m lt = let more = length_push ms m in omega (arith, lt, more)

load_decided : (d : ℕ) (n : Seen) (r : List ℕ) (q x p : ℕ) → length n.memory.messages ≤ most_messages → Goes d n r (Load q x) (Some p) ⊎ Has (RowFault d n r (Load q x) (Some p))
load_decided d n r q x p few = by (choice_decided n x p n.views.vrn)
  where
    by : (reaches n.memory.messages x (coh_of n.views x) n.views.vrn p ≡ true) ⊎ Has (ChoiceFault n x p n.views.vrn) → Goes d n r (Load q x) (Some p) ⊎ Has (RowFault d n r (Load q x) (Some p))
    by (inl can) = inl (record { left = leaves (loaded n x p) (slice_set r q (value_at n.memory x p)); row = (can, refl); few = few })
    by (inr h) = inr (record { fault = h.fault; is = h.is; stands = h.stands })

miss_decided : (d : ℕ) (n : Seen) (r : List ℕ) (q x p : ℕ) (e f : Expr) → length n.memory.messages ≤ most_messages → Goes d n r (Cas q x e f) (Some p) ⊎ Has (RowFault d n r (Cas q x e f) (Some p))
miss_decided d n r q x p e f few = by (choice_decided n x p (maxcoh n.views))
  where
    other : can_read (fenced n) x p ≡ true → (value_at n.memory x p ≡ value r d e) ⊎ (value_at n.memory x p ≡ value r d e → ⊥)
        → Goes d n r (Cas q x e f) (Some p) ⊎ Has (RowFault d n r (Cas q x e f) (Some p))
    other can (inl same) = inr (record { fault = CasMustDiffer (value_at n.memory x p); is = inr (can, same, refl); stands = refl })
    other can (inr apart) = inl (record { left = leaves (missed n x p) (slice_set r q (value_at n.memory x p)); row = (can, apart, refl); few = few })

    by : (reaches n.memory.messages x (coh_of n.views x) (maxcoh n.views) p ≡ true) ⊎ Has (ChoiceFault n x p (maxcoh n.views))
        → Goes d n r (Cas q x e f) (Some p) ⊎ Has (RowFault d n r (Cas q x e f) (Some p))
    by (inl can) = other can (cases_eq (value_at n.memory x p) (value r d e))
    by (inr h) = inr (record { fault = h.fault; is = inl h.is; stands = h.stands })

swap_decided : (d : ℕ) (n : Seen) (r : List ℕ) (q x : ℕ) (e f : Expr) → Goes d n r (Cas q x e f) None ⊎ Has (RowFault d n r (Cas q x e f) None)
swap_decided d n r q x e f = by (cases_eq (last_value n.memory x) (value r d e)) (cases_lt (length n.memory.messages) most_messages)
  where
    by : (last_value n.memory x ≡ value r d e) ⊎ (last_value n.memory x ≡ value r d e → ⊥) → (length n.memory.messages < most_messages) ⊎ (most_messages ≤ length n.memory.messages)
        → Goes d n r (Cas q x e f) None ⊎ Has (RowFault d n r (Cas q x e f) None)
    by (inr apart) room = inr (record { fault = CasNotLast (last_value n.memory x); is = inl (apart, refl); stands = refl })
    by (inl same) (inl lt) =
        inl (record { left = leaves (swapped n x (value r d f)) (slice_set r q (value r d e)); row = (same, refl); few = one_more n.memory.messages (x, value r d f) lt })
    by (inl same) (inr full) = inr (record { fault = MessagesFull; is = inr (same, full, refl); stands = refl })

store_decided : (d : ℕ) (n : Seen) (r : List ℕ) (x : ℕ) (e : Expr) → Goes d n r (Store x e) None ⊎ Has (RowFault d n r (Store x e) None)
store_decided d n r x e = by (cases_lt (length n.memory.messages) most_messages)
  where
    by : (length n.memory.messages < most_messages) ⊎ (most_messages ≤ length n.memory.messages) → Goes d n r (Store x e) None ⊎ Has (RowFault d n r (Store x e) None)
    by (inl lt) = inl (record { left = leaves (stored n x (value r d e)) r; row = refl; few = one_more n.memory.messages (x, value r d e) lt })
    by (inr full) = inr (record { fault = MessagesFull; is = (full, refl); stands = refl })

row_decided : (d : ℕ) (n : Seen) (r : List ℕ) (a : Act-F machine.Act Stmt) (c : Option ℕ) → length n.memory.messages ≤ most_messages → Goes d n r a c ⊎ Has (RowFault d n r a c)
row_decided d n r (Load q x) None few = inr (record { fault = ChoiceMissing; is = refl; stands = refl })
row_decided d n r (Load q x) (Some p) few = load_decided d n r q x p few
row_decided d n r (Cas q x e f) (Some p) few = miss_decided d n r q x p e f few
row_decided d n r (Cas q x e f) None few = swap_decided d n r q x e f
row_decided d n r (Store x e) None few = store_decided d n r x e
row_decided d n r (Store x e) (Some p) few = inr (record { fault = NoChoice; is = refl; stands = refl })
row_decided d n r (Assign q e) None few = inl (record { left = leaves n (slice_set r q (value r d e)); row = refl; few = few })
row_decided d n r (Assign q e) (Some p) few = inr (record { fault = NoChoice; is = refl; stands = refl })
row_decided d n r Mfence None few = inl (record { left = leaves (fenced n) r; row = refl; few = few })
row_decided d n r Mfence (Some p) few = inr (record { fault = NoChoice; is = refl; stands = refl })
row_decided d n r Sfence None few = inl (record { left = leaves (store_fenced n) r; row = refl; few = few })
row_decided d n r Sfence (Some p) few = inr (record { fault = NoChoice; is = refl; stands = refl })
row_decided d n r (Flush x) None few = inl (record { left = leaves (flushed n x) r; row = refl; few = few })
row_decided d n r (Flush x) (Some p) few = inr (record { fault = NoChoice; is = refl; stands = refl })
row_decided d n r (Flushopt x) None few = inl (record { left = leaves (flush_begun n x) r; row = refl; few = few })
row_decided d n r (Flushopt x) (Some p) few = inr (record { fault = NoChoice; is = refl; stands = refl })
row_decided d n r (If t y z) None few = inl (record { left = leaves n r; row = refl; few = few })
row_decided d n r (If t y z) (Some p) few = inr (record { fault = NoChoice; is = refl; stands = refl })
row_decided d n r (While t y) None few = inl (record { left = leaves n r; row = refl; few = few })
row_decided d n r (While t y) (Some p) few = inr (record { fault = NoChoice; is = refl; stands = refl })

-- ---- events

act_is_fault : (p : ProgramTable) (s : State) (e : Event) (f : StepFault) → has_statement f ≡ true → ActFault p s e f → IsFault p s e f
act_is_fault p s e (NoThread t) stands h = absurd (false≢true stands)
act_is_fault p s e Ended stands h = absurd (false≢true stands)
act_is_fault p s e f stands h = h

pub record Steps (p : ProgramTable) (s : State) (e : Event) : Type 0 where
  pub next : State
  pub step : IsStep p s e next
  pub few : length next.memory.messages ≤ most_messages

pub record Faulty (p : ProgramTable) (s : State) (e : Event) : Type 0 where
  pub fault : StepFault
  pub is : IsFault p s e fault

some_of : {X : Type 0} (o : Option X) → IsSome o → (x : X) × (o ≡ Some x)
some_of (Some x) h = (x, refl)
some_of None h = absurd (false≢true h)

module _ (p : ProgramTable) (s : State) (e : Event) (few : length s.memory.messages ≤ most_messages) where
  stmt_decided : HasThread p e → (stmt : Stmt) → stmt_at p e.thread (point_of s e.thread) ≡ Some stmt → Steps p s e ⊎ Faulty p s e
  stmt_decided has stmt at = by (row_decided p.names.domain (seen_by s e.thread) s.scalars (act_of stmt) e.choice few)
    where
      leads : (step : Step) × (step_of (branch_taken p.names.domain s.scalars (act_of stmt)) (steps_at p e.thread (point_of s e.thread)) ≡ Some step)
      leads =
          some_of (step_of (branch_taken p.names.domain s.scalars (act_of stmt)) (steps_at p e.thread (point_of s e.thread)))
          (leads_on p e.thread (point_of s e.thread) p.names.domain s.scalars stmt at)

      by : Goes p.names.domain (seen_by s e.thread) s.scalars (act_of stmt) e.choice ⊎ Has (RowFault p.names.domain (seen_by s e.thread) s.scalars (act_of stmt) e.choice)
          → Steps p s e ⊎ Faulty p s e
      by (inl goes) =
          let left = goes.left in
          inl (record {
            next = moved s e.thread (record left { scalars = bracket_done p.names.domain (bracket_of stmt) left.scalars }) leads.0.target;
            step = (
              leads.0,
              record { thread = has; stmt = stmt; stands = at; left = goes.left; row = goes.row; taken = leads.1; becomes = refl },
            );
            few = goes.few;
          })
      by (inr h) = inr (record { fault = h.fault; is = act_is_fault p s e h.fault h.stands (record { thread = has; stmt = stmt; stands = at; row = h.is }) })

  thread_decided : HasThread p e → (o : Option Stmt) → stmt_at p e.thread (point_of s e.thread) ≡ o → Steps p s e ⊎ Faulty p s e
  thread_decided has None at = inr (record { fault = Ended; is = (has, at) })
  thread_decided has (Some stmt) at = stmt_decided has stmt at

  pub step_decided : Steps p s e ⊎ Faulty p s e
  step_decided = elim (cases_lt e.thread 1) [
    | inl low ↦ inr (record { fault = NoThread e.thread; is = (refl, inl low) })
    | inr from ↦ elim (cases_lt (length p.threads) e.thread) [
      | inl high ↦ inr (record { fault = NoThread e.thread; is = (refl, inr high) })
      | inr to ↦ thread_decided (from, to) (stmt_at p e.thread (point_of s e.thread)) refl
    ]
  ]

-- ---- positions of a crash

pub record CrashFaulty (s : State) (ps : List ℕ) : Type 0 where
  pub fault : CrashFault
  pub is : IsCrashFault s ps fault

not-false : (b : Bool) → not b ≡ false → b ≡ true
not-false true h = refl
not-false false h = absurd (true≢false h)

not-true : (b : Bool) → not b ≡ true → b ≡ false
not-true true h = absurd (false≢true h)
not-true false h = refl

position_decided : (s : State) (ps : List ℕ) (x : ℕ) → survives s ps x ≡ false → (f : CrashFault) × PositionFault s ps x f
position_decided s ps x dies = at (is_at s.memory.messages x (slice_index ps x)) refl
  where
    clear : is_at s.memory.messages x (slice_index ps x) ≡ true
        → (is_clear s.memory.messages x (slice_index ps x) (cut s ps (line_of s.memory x)) ≡ true) ⊎ ((later : ℕ) × IsLeastHiding s.memory.messages x (slice_index ps x) (cut s ps (line_of s.memory x)) later)
        → (f : CrashFault) × PositionFault s ps x f
    clear e (inl c) =
        absurd (true≢false (sym (and_from (is_at s.memory.messages x (slice_index ps x)) (nat_le 0 (slice_index ps x) && is_clear s.memory.messages x (slice_index ps x) (cut s ps (line_of s.memory x))) e
        (and_from (nat_le 0 (slice_index ps x)) (is_clear s.memory.messages x (slice_index ps x) (cut s ps (line_of s.memory x))) (le-leb 0 (slice_index ps x) (omega arith)) c)) ∙ dies))
    clear e (inr h) = (crash_fault.Overwritten x (slice_index ps x) h.0, (refl, refl, e, h.1))

    at : (a : Bool) → is_at s.memory.messages x (slice_index ps x) ≡ a → (f : CrashFault) × PositionFault s ps x f
    at false e = (crash_fault.NotAPosition x (slice_index ps x), (refl, refl, e))
    at true e = clear e (hiding_decided s.memory.messages x (slice_index ps x) (cut s ps (line_of s.memory x)))

first_is_fault : (s : State) (ps : List ℕ) (x : ℕ) (f : CrashFault) → PositionFault s ps x f → length ps ≡ length s.memory.initial → IsFirstFault s ps f → IsCrashFault s ps f
first_is_fault s ps x (crash_fault.WrongLength given wanted) h size first = absurd h
first_is_fault s ps x f h size first = (size, first)

pub crash_decided : (s : State) (ps : List ℕ) → IsCrashChoice s ps ⊎ CrashFaulty s ps
crash_decided s ps = by (cases_eq (length ps) (length s.memory.initial))
  where
    each : length ps ≡ length s.memory.initial
        → ((x : ℕ) → x < length s.memory.initial → not (survives s ps x) ≡ false) ⊎ ((least : ℕ) × IsLeast (λ x. not (survives s ps x)) (length s.memory.initial) least)
        → IsCrashChoice s ps ⊎ CrashFaulty s ps
    each size (inl none) = inl (record { size = size; positions = λ x lt. not-false (survives s ps x) (none x lt) })
    each size (inr h) =
        let found = position_decided s ps h.0 (not-true (survives s ps h.0) h.1.here) in
        let first : IsFirstFault s ps found.0 =
        record { location = h.0; declared = h.1.within; before = λ x lt. not-false (survives s ps x) (h.1.before x lt); here = found.1 } in
        inr (record { fault = found.0; is = first_is_fault s ps h.0 found.0 found.1 size first })

    by : (length ps ≡ length s.memory.initial) ⊎ (length ps ≡ length s.memory.initial → ⊥) → IsCrashChoice s ps ⊎ CrashFaulty s ps
    by (inr apart) = inr (record { fault = crash_fault.WrongLength (length ps) (length s.memory.initial); is = (refl, refl, apart) })
    by (inl size) = each size (least_below (λ x. not (survives s ps x)) (length s.memory.initial))

-- ---- schedules

-- an answer with its trace
pub record Answered (Is : Answer → List ℕ → Type 0) : Type 0 where
  pub answer : Answer
  pub trace : List ℕ
  pub is : Is answer trace

taken_further : (o : OutlineTable) (s : State) (line : Line) (lines : ScheduleTable) (next : State) → Takes o.program s line.act next → Answered (Replays o next lines) → Answered (Replays o s (line ∷ lines))
taken_further o s line lines next takes h = record {
  answer = behind (shown o s line.number line.act next) h.answer;
  trace = line_text o.program s line.number line.act next ++ h.trace;
  is = inr (record { next = next; takes = takes; later = h.answer; later_trace = h.trace; others = h.is; answer_is = refl; trace_is = refl });
}

refused : (o : OutlineTable) (s : State) (line : Line) (lines : ScheduleTable) (f : ReplayFault) → Refuses o.program s line.number line.act f → Answered (Replays o s (line ∷ lines))
refused o s line lines f h = record { answer = Err f; trace = []; is = inl (record { refusal = f; refuses = h; answer_is = refl; trace_is = refl }) }

-- what is answered to the lines behind one is known from each state
module _ (o : OutlineTable) (line : Line) (lines : ScheduleTable) (s : State) (few : length s.memory.messages ≤ most_messages) (rest : (n : State) → length n.memory.messages ≤ most_messages → Answered (Replays o n lines)) where
  stepped : (e : Event) → line.act ≡ step e → Steps o.program s e ⊎ Faulty o.program s e → Answered (Replays o s (line ∷ lines))
  stepped e is (inl h) =
      taken_further o s line lines h.next (subst (λ (a : Act). Takes o.program s a h.next) (sym is) (h.step, h.few)) (rest h.next h.few)
  stepped e is (inr h) = refused o s line lines (fault.Step line.number h.fault) (subst (λ (a : Act). Refuses o.program s line.number a (fault.Step line.number h.fault)) (sym is) (h.fault, h.is, refl))

  crashed : (at : List ℕ) → line.act ≡ crash at → IsCrashChoice s at ⊎ CrashFaulty s at → Answered (Replays o s (line ∷ lines))
  crashed at is (inl h) = taken_further o s line lines s (subst (λ (a : Act). Takes o.program s a s) (sym is) (h, refl)) (rest s few)
  crashed at is (inr h) = refused o s line lines (fault.Crash line.number h.fault) (subst (λ (a : Act). Refuses o.program s line.number a (fault.Crash line.number h.fault)) (sym is) (h.fault, h.is, refl))

  by_act : (a : Act) → line.act ≡ a → Answered (Replays o s (line ∷ lines))
  by_act (step e) is = stepped e is (step_decided o.program s e few)
  by_act (crash at) is = crashed at is (crash_decided s at)

pub lines_answered : (o : OutlineTable) (lines : ScheduleTable) (s : State) → length s.memory.messages ≤ most_messages → Answered (Replays o s lines)
lines_answered o [] s few = record { answer = Ok nothing; trace = []; is = (refl, refl) }
lines_answered o (line ∷ lines) s few = by_act o line lines s few (λ n h. lines_answered o lines n h) line.act refl

pub has_answer : (o : OutlineTable) (lines : ScheduleTable) → Answered (IsReplay o lines)
has_answer o lines =
    let h = lines_answered o lines (fresh o.program) (omega arith) in
    record { answer = behind (shown_at_first o) h.answer; trace = h.trace; is = record { later = h.answer; replays = h.is; answer_is = refl } }
