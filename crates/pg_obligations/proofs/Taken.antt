-- An event leads through a step of the program.
use Rattle.std.proofs.Common.{◌≡◌, suc, Bool, true, false, cond, List, [], ◌∷◌, Option, Some, sym, ap, ◌∙◌, arith}
use Rattle.std.specs.List.{Contains}
use Rattle.std.proofs.lemmas.Option.{none-some}
use Rattle.std.proofs.lemmas.List.Elements.{All-contains}
use Rattle.pg_program.specs.declared.point.Step.{Step}
use Rattle.pg_program.specs.declared.point.Branch.{Branch}
use Rattle.pg_program.specs.Graph.{is_branch, step_of}
use Rattle.pg_program.specs.Program.{ProgramTable, points, steps_at}
use Rattle.pg_program.specs.Laws.{LeadsWithin}
use Rattle.pg_program.proofs.GraphLaws.{steps_lead_within}
use Rattle.pg_machine.specs.declared.event.Event.{Event}
use Rattle.pg_machine.specs.State.{State, IsWellFormed, point_of}
use Rattle.pg_machine.specs.Step.{IsStepThrough, bracket_done, bracket_of, act_of, branch_taken}
use Rattle.pg_machine.proofs.Moved.{own-point}

found_by : (c : Bool) (s t : Step) (ss : List Step) (rest : Option Step) → (rest ≡ Some t → Contains ss t) → cond c (Some s) rest ≡ Some t → Contains (s ∷ ss) t
found_by true s t ss rest go h = (0, omega arith, cc)
found_by false s t ss rest go h = let f = go h in (suc f.0, omega (arith, f.1), f.2)

-- the step of a branch is one of the steps
found : (b : Branch) (ss : List Step) (t : Step) → step_of b ss ≡ Some t → Contains ss t
found b [] t h = absurd (none-some t h)
found b (s ∷ ss) t h = found_by (is_branch b s.branch) s t ss (step_of b ss) (found b ss t) h

-- the step is one of those from the point of the event's thread, and leads to the thread's next point
pub record Takes (p : ProgramTable) (s : State) (e : Event) (step : Step) (next : State) : Type 0 where
  pub one : Contains (steps_at p e.thread (point_of s e.thread)) step
  pub thread : step.thread ≡ e.thread
  pub point : step.point ≡ point_of s e.thread
  pub target : step.target ≡ point_of next e.thread

pub taken : (p : ProgramTable) (s : State) (e : Event) (step : Step) (next : State) → IsWellFormed p s → IsStepThrough p s e step next → Takes p s e step next
taken p s e step next formed is =
    let at = formed.points e.thread is.thread.0 is.thread.1 in
    let one = found (branch_taken p.names.domain s.scalars (act_of is.stmt)) (steps_at p e.thread (point_of s e.thread)) step is.taken in
    let w = All-contains (LeadsWithin e.thread (point_of s e.thread) (points p e.thread)) _ step (steps_lead_within p e.thread (point_of s e.thread) at.0) one in
    let left = record is.left { scalars = bracket_done p.names.domain (bracket_of is.stmt) is.left.scalars } in
    let goes : point_of next e.thread ≡ step.target =
    ap (λ n. point_of n e.thread) is.becomes ∙ own-point s e.thread step.target left is.thread.0 (omega (arith, formed.pointed, is.thread.1)) in
    record { one = one; thread = w.thread; point = w.point; target = sym goes }
