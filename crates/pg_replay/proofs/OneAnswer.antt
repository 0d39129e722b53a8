-- A schedule has one answer on an outline, and one trace.
use Rattle.std.proofs.Common.{◌≡◌, ℕ, List, [], ◌∷◌, ◌++◌, Option, Some, None, Err, inl, inr, sym, ap, ap₂, subst, ◌∙◌}
use Rattle.pg_program.specs.Program.{ProgramTable, stmt_at, steps_at}
use Rattle.pg_program.specs.declared.syntax.Stmt.{Stmt}
use Rattle.pg_program.specs.declared.syntax.Act as machine
use Rattle.pg_program.specs.declared.syntax.Act.TheOpen.{Act-F, Assign, Store, Load, Cas, Mfence, Sfence, Flush, Flushopt, If, While}
use Rattle.pg_program.specs.declared.point.Step.{Step}
use Rattle.pg_program.specs.Graph.{step_of}
use Rattle.pg_machine.specs.declared.event.Event.{Event}
use Rattle.pg_machine.specs.Moves.{Seen}
use Rattle.pg_machine.specs.State.{State, point_of, fresh}
use Rattle.pg_machine.specs.Step.{Left, Row, seen_by, act_of, bracket_of, bracket_done, branch_taken, moved, IsStep}
use Rattle.pg_machine.proofs.Faults.{one_fault, fault_has_no_step}
use Rattle.pg_views.proofs.CrashFaults.{crash_fault-one, crash_fault-no_choice}
use Rattle.pg_outline.specs.Outline.{OutlineTable}
use Rattle.pg_schedule.specs.Schedule.{Act, step, crash, ScheduleTable}
use Rattle.pg_replay.specs.declared.fault.ReplayFault.{ReplayFault}
use Rattle.pg_replay.specs.declared.fault.ReplayFault.TheVariants as fault
use Rattle.pg_replay.specs.Replay.{Answer, Takes, Refuses, shown, line_text, behind, shown_at_first, Replays}
use Rattle.pg_replay.specs.Laws.{AreSame, HasOneAnswer}

-- ---- steps

row-one : (d : ℕ) (n : Seen) (r : List ℕ) (a : Act-F machine.Act Stmt) (c : Option ℕ) (u v : Left) → Row d n r a c u → Row d n r a c v → u ≡ v
row-one d n r (Load q x) None u v h k = absurd h
row-one d n r (Load q x) (Some p) u v h k = h.1 ∙ sym k.1
row-one d n r (Cas q x e f) (Some p) u v h k = h.2 ∙ sym k.2
row-one d n r (Cas q x e f) None u v h k = h.1 ∙ sym k.1
row-one d n r (Store x e) None u v h k = h ∙ sym k
row-one d n r (Store x e) (Some p) u v h k = absurd h
row-one d n r (Assign q e) None u v h k = h ∙ sym k
row-one d n r (Assign q e) (Some p) u v h k = absurd h
row-one d n r Mfence None u v h k = h ∙ sym k
row-one d n r Mfence (Some p) u v h k = absurd h
row-one d n r Sfence None u v h k = h ∙ sym k
row-one d n r Sfence (Some p) u v h k = absurd h
row-one d n r (Flush x) None u v h k = h ∙ sym k
row-one d n r (Flush x) (Some p) u v h k = absurd h
row-one d n r (Flushopt x) None u v h k = h ∙ sym k
row-one d n r (Flushopt x) (Some p) u v h k = absurd h
row-one d n r (If t a b) None u v h k = h ∙ sym k
row-one d n r (If t a b) (Some p) u v h k = absurd h
row-one d n r (While t a) None u v h k = h ∙ sym k
row-one d n r (While t a) (Some p) u v h k = absurd h

some-one : {X : Type 0} (o : Option X) (x y : X) → o ≡ Some x → o ≡ Some y → x ≡ y
some-one o x y h k = cc

one_step : (p : ProgramTable) (s : State) (e : Event) (x y : State) → IsStep p s e x → IsStep p s e y → x ≡ y
one_step p s e x y h k =
    let d = p.names.domain in
    let stmt = some-one (stmt_at p e.thread (point_of s e.thread)) h.1.stmt k.1.stmt h.1.stands k.1.stands in
    let row = subst (λ (q : Stmt). Row d (seen_by s e.thread) s.scalars (act_of q) e.choice h.1.left) stmt h.1.row in
    let left = row-one d (seen_by s e.thread) s.scalars (act_of k.1.stmt) e.choice h.1.left k.1.left row k.1.row in
    let steps = steps_at p e.thread (point_of s e.thread) in
    let taken = subst (λ (q : Stmt). step_of (branch_taken d s.scalars (act_of q)) steps ≡ Some h.0) stmt h.1.taken in
    let through = some-one (step_of (branch_taken d s.scalars (act_of k.1.stmt)) steps) h.0 k.0 taken k.1.taken in
    let after : Stmt → Left → Left = λ q l. record l { scalars = bracket_done d (bracket_of q) l.scalars } in
    h.1.becomes
    ∙ (ap (λ (q : Stmt). moved s e.thread (after q h.1.left) h.0.target) stmt
    ∙ (ap (λ (l : Left). moved s e.thread (after k.1.stmt l) h.0.target) left
    ∙ (ap (λ (t : Step). moved s e.thread (after k.1.stmt k.1.left) t.target) through ∙ sym k.1.becomes)))

-- ---- one line

takes-one : (p : ProgramTable) (s : State) (a : Act) (x y : State) → Takes p s a x → Takes p s a y → x ≡ y
takes-one p s (step e) x y h k = one_step p s e x y h.0 k.0
takes-one p s (crash at) x y h k = h.1 ∙ sym k.1

refuses-one : (p : ProgramTable) (s : State) (n : ℕ) (a : Act) (f g : ReplayFault) → Refuses p s n a f → Refuses p s n a g → f ≡ g
refuses-one p s n (step e) f g h k = h.2 ∙ (ap (fault.Step n) (one_fault p s e h.0 k.0 h.1 k.1) ∙ sym k.2)
refuses-one p s n (crash at) f g h k = h.2 ∙ (ap (fault.Crash n) (crash_fault-one s at h.0 k.0 h.1 k.1) ∙ sym k.2)

refused-not_taken : (p : ProgramTable) (s : State) (n : ℕ) (a : Act) (f : ReplayFault) (next : State) → Refuses p s n a f → Takes p s a next → ⊥
refused-not_taken p s n (step e) f next h k = fault_has_no_step p s e h.0 next h.1 k.0 k.1
refused-not_taken p s n (crash at) f next h k = crash_fault-no_choice s at h.0 h.1 k.0

-- ---- lines

pub lines_one : (o : OutlineTable) (lines : ScheduleTable) (s : State) (a b : Answer) (t u : List ℕ) → Replays o s lines a t → Replays o s lines b u → AreSame a b t u
lines_one o [] s a b t u h k = record { answer = h.0 ∙ sym k.0; trace = h.1 ∙ sym k.1 }
lines_one o (line ∷ lines) s a b t u (inl h) (inl k) = record {
  answer = h.answer_is ∙ (ap (λ (f : ReplayFault). let r : Answer = Err f in r) (refuses-one o.program s line.number line.act h.refusal k.refusal h.refuses k.refuses) ∙ sym k.answer_is);
  trace = h.trace_is ∙ sym k.trace_is;
}
lines_one o (line ∷ lines) s a b t u (inl h) (inr k) = absurd (refused-not_taken o.program s line.number line.act h.refusal k.next h.refuses k.takes)
lines_one o (line ∷ lines) s a b t u (inr h) (inl k) = absurd (refused-not_taken o.program s line.number line.act k.refusal h.next k.refuses h.takes)
lines_one o (line ∷ lines) s a b t u (inr h) (inr k) =
    let same = takes-one o.program s line.act h.next k.next h.takes k.takes in
    let others = subst (λ (n : State). Replays o n lines h.later h.later_trace) same h.others in
    let rest = lines_one o lines k.next h.later k.later h.later_trace k.later_trace others k.others in
    record {
      answer = h.answer_is ∙ (ap₂ (λ (n : State) (l : Answer). behind (shown o s line.number line.act n) l) same rest.answer ∙ sym k.answer_is);
      trace = h.trace_is ∙ (ap₂ (λ (n : State) (l : List ℕ). line_text o.program s line.number line.act n ++ l) same rest.trace ∙ sym k.trace_is);
    }

pub one_answer : HasOneAnswer
one_answer o lines a b t u h k =
    let same = lines_one o lines (fresh o.program) h.later k.later t u h.replays k.replays in
    record { answer = h.answer_is ∙ (ap (behind (shown_at_first o)) same.answer ∙ sym k.answer_is); trace = same.trace }
