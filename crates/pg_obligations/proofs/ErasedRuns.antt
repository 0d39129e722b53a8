-- The executions of the erasure are those of the program with the auxiliaries forgotten.
use Rattle.std.proofs.Common.{◌≡◌, ℕ, zero, suc, ◌+◌, ◌-◌, ◌<◌, ◌≤◌, Bool, true, false, cond, List, [], ◌∷◌, length, map, get_or, slice_get, Option, Some, None, option_map, refl, sym, ap, ap₂, subst, ◌∙◌, arith}
use Rattle.std.specs.List.{All, find}
use Rattle.std.proofs.lemmas.List.{length-map}
use Rattle.std.proofs.lemmas.List.Elements.{All-nil, All-cons}
use Rattle.pg_program.specs.declared.point.PointId.{PointId}
use Rattle.pg_program.specs.declared.point.Step.{Step}
use Rattle.pg_program.specs.declared.syntax.Stmt.{Stmt}
use Rattle.pg_program.specs.Block.{block}
use Rattle.pg_program.specs.Fault.{Fault, in_thread, in_threads, no_auxiliaries}
use Rattle.pg_program.specs.Graph.{size, statements, step_of}
use Rattle.pg_program.specs.NameTable.{NameTable, is_auxiliary}
use Rattle.pg_program.specs.Program.{ProgramTable, IsProgram, thread_of, points, stmt_at}
use Rattle.pg_program.specs.Words.{outside}
use Rattle.pg_program.proofs.GraphLemmas.{length-statements}
use Rattle.pg_program.proofs.ProgramLemmas.{none_of, faultless, stmt_of, has_values}
use Rattle.pg_machine.specs.declared.event.Event.{Event}
use Rattle.pg_machine.specs.State.{State, IsWellFormed, point_of}
use Rattle.pg_machine.specs.Step.{Left, Row, IsStep, IsStepThrough, act_of, bracket_of, bracket_done, branch_taken, moved, seen_by}
use Rattle.pg_machine.proofs.WellFormed.{step_keeps}
use Rattle.pg_views.specs.Execution.{Leads}
use Rattle.pg_outline.specs.Erasure.{erased, erased_stmt, new_place}
use Rattle.pg_outline.proofs.EraseStmts.{act_is, no_bracket, moved_act, statements_erased}
use Rattle.pg_outline.proofs.EraseGraph.{statements_are_erased, steps_stay}
use Rattle.pg_outline.proofs.LocationLines.{owned}
use Rattle.pg_obligations.specs.Forgotten.{registers_of, forgotten, ExecutionsAreErased, ErasedExecutionsAreOf}
use Rattle.pg_obligations.proofs.Registers.{length-registers_of, all-registers_of, filled, length-filled, all-filled, registers_of-filled}
use Rattle.pg_obligations.proofs.ErasedSteps.{same_branch, row_down, row_up, bracket_forgotten}

-- ---- a statement of a program reads and writes registers outside its bracket

at_thread : (C : PointId → Stmt → Option Fault) (t : ℕ) (threads : List (List Stmt)) (i : ℕ) → in_threads C t threads ≡ None → i < length threads
    → (u : ℕ) × (in_thread C u 1 (statements (block (get_or threads i []))) ≡ None)
at_thread C t [] i h lt = absurd (omega (arith, lt))
at_thread C t (ss ∷ threads) zero h lt = (t, (none_of (in_thread C t 1 (statements (block ss))) (in_threads C (t + 1) threads) h).0)
at_thread C t (ss ∷ threads) (suc i) h lt =
    at_thread C (t + 1) threads i (none_of (in_thread C t 1 (statements (block ss))) (in_threads C (t + 1) threads) h).1 (omega (arith, lt))

at_stmt : (C : PointId → Stmt → Option Fault) (t k : ℕ) (ss : List Stmt) (i : ℕ) (s : Stmt) → in_thread C t k ss ≡ None → slice_get ss i ≡ Some s
    → (at : PointId) × (C at s ≡ None)
at_stmt C t k [] i s h is = cc
at_stmt C t k (u ∷ ss) zero s h is =
    let same : u ≡ s = cc in
    (record { thread = t; point = k }, sym (ap (C (record { thread = t; point = k })) same) ∙ (none_of (C (record { thread = t; point = k }) u) (in_thread C t (k + 1) ss) h).0)
at_stmt C t k (u ∷ ss) (suc i) s h is = at_stmt C t (k + 1) ss i s (none_of (C (record { thread = t; point = k }) u) (in_thread C t (k + 1) ss) h).1 is

none_mapped : {X Y : Type 0} (f : X → Y) (o : Option X) → option_map f o ≡ None → o ≡ None
none_mapped f None h = refl
none_mapped f (Some x) h = cc

none_found : (p : ℕ → Bool) (rs : List ℕ) → find p rs ≡ None → All (λ r. p r ≡ false) rs
none_found p [] h = All-nil (λ r. p r ≡ false)
none_found p (r ∷ rs) h = by (none_found p rs) (p r) refl h
  where
    by : (find p rs ≡ None → All (λ q. p q ≡ false) rs) → (b : Bool) → p r ≡ b → cond b (Some r) (find p rs) ≡ None → All (λ q. p q ≡ false) (r ∷ rs)
    by rest true e k = cc
    by rest false e k = All-cons (λ q. p q ≡ false) r rs e (rest k)

own : (p : ProgramTable) → IsProgram p → (t k : ℕ) (s : Stmt) → 1 ≤ t → t ≤ length p.threads → stmt_at p t k ≡ Some s → All (λ r. is_auxiliary p.names r ≡ false) (outside s)
own p h t k s low high is =
    let C = no_auxiliaries p.names in
    let thread = at_thread C 1 p.threads (t - 1) (faultless p.names p.threads h.faultless).bare (omega (arith, low, high)) in
    let here = at_stmt C thread.0 1 (statements (block (thread_of p t))) (k - 1) s thread.1 is in
    none_found (is_auxiliary p.names) (outside s) (none_mapped _ (find (is_auxiliary p.names) (outside s)) here.1)

-- ---- well-formed states

points_stay : (p : ProgramTable) (t : ℕ) → points (erased p) t ≡ points p t
points_stay p t =
    let place = new_place p.names in
    let ss = thread_of p t in
    ap (λ (l : List Stmt). size (block l) + 1) (erased_thread p.threads (t - 1))
    ∙ ap (λ n. n + 1) (sym (length-statements (block (map (erased_stmt place) ss))) ∙ ap length (statements_erased place ss) ∙ length-map (statements (block ss)) (erased_stmt place) ∙ length-statements (block ss))
  where
    erased_thread : (ts : List (List Stmt)) (i : ℕ) → get_or (map (map (erased_stmt (new_place p.names))) ts) i [] ≡ map (erased_stmt (new_place p.names)) (get_or ts i [])
    erased_thread [] i = refl
    erased_thread (ss ∷ ts) zero = refl
    erased_thread (ss ∷ ts) (suc i) = erased_thread ts i

threads_stay : (p : ProgramTable) → length (erased p).threads ≡ length p.threads
threads_stay p = length-map p.threads (map (erased_stmt (new_place p.names)))

formed_down : (p : ProgramTable) (s : State) → IsWellFormed p s → IsWellFormed (erased p) (forgotten p.names s)
formed_down p s h = record {
  memory = record { initial = h.memory.initial; lines = h.memory.lines; values = h.memory.values; messages = h.memory.messages };
  threads = h.threads ∙ sym (threads_stay p);
  views = h.views;
  scalars = (length-registers_of p.names.scalars s.scalars h.scalars.0, all-registers_of (λ v. v < p.names.domain) p.names.scalars s.scalars h.scalars.1);
  pointed = h.pointed ∙ sym (threads_stay p);
  points = λ t from to.
      let at = h.points t from (omega (arith, to, threads_stay p)) in
      (at.0, omega (arith, at.1, points_stay p t));
}

-- the state with these registers and 0 for each auxiliary
remembered : NameTable → State → State
remembered names u = record u { scalars = filled names.scalars u.scalars }

formed_up : (p : ProgramTable) (u : State) → IsProgram p → IsWellFormed (erased p) u → IsWellFormed p (record u { scalars = filled p.names.scalars u.scalars })
formed_up p u built h = record {
  memory = record { initial = h.memory.initial; lines = h.memory.lines; values = h.memory.values; messages = h.memory.messages };
  threads = h.threads ∙ threads_stay p;
  views = h.views;
  scalars = (length-filled p.names.scalars u.scalars, all-filled (λ v. v < p.names.domain) p.names.scalars u.scalars (has_values p built) h.scalars.1);
  pointed = h.pointed ∙ threads_stay p;
  points = λ t from to.
      let at = h.points t from (omega (arith, to, threads_stay p)) in
      (at.0, omega (arith, at.1, points_stay p t));
}

-- ---- steps

module _ (p : ProgramTable) (built : IsProgram p) where
  abbrev place : ℕ → ℕ
  place = new_place p.names

  abbrev forget : State → State
  forget s = forgotten p.names s

  -- the bracket of a statement is forgotten
  bracket_is : (s : Stmt) (t k : ℕ) (vs : List ℕ) → 1 ≤ t → t ≤ length p.threads → stmt_at p t k ≡ Some s
      → registers_of p.names.scalars (bracket_done p.names.domain (bracket_of s) vs) ≡ registers_of p.names.scalars vs
  bracket_is s t k vs low high is =
      bracket_forgotten p.names p.names.domain vs (bracket_of s) vs (stmt_of p built t k s low high is).targets

  step_down : (s : State) (e : Event) (step : Step) (next : State) → IsWellFormed p s → IsStepThrough p s e step next → IsStepThrough (erased p) (forget s) e step (forget next)
  step_down s e step next formed is =
      let at = point_of s e.thread in
      let registers = own p built e.thread at is.stmt is.thread.0 is.thread.1 is.stands in
      let less : Left = record is.left { scalars = registers_of p.names.scalars is.left.scalars } in
      let bare = no_bracket place is.stmt in
      let act = act_is place is.stmt in
      record {
        thread = (is.thread.0, omega (arith, is.thread.1, threads_stay p));
        stmt = erased_stmt place is.stmt;
        stands = statements_are_erased p e.thread at ∙ ap (option_map (erased_stmt place)) is.stands;
        left = less;
        row = subst (λ a. Row p.names.domain (seen_by s e.thread) (registers_of p.names.scalars s.scalars) a e.choice less) (sym act)
            (row_down p.names s.scalars p.names.domain formed.scalars.0 (seen_by s e.thread) (act_of is.stmt) e.choice is.left registers is.row);
        taken = ap₂ step_of
            (ap (branch_taken p.names.domain (registers_of p.names.scalars s.scalars)) act ∙ same_branch p.names s.scalars p.names.domain formed.scalars.0 (act_of is.stmt) registers)
            (steps_stay p e.thread at)
            ∙ is.taken;
        becomes = ap (forgotten p.names) is.becomes
            ∙ ap (λ vs. moved (forgotten p.names s) e.thread (record is.left { scalars = vs }) step.target)
            (bracket_is is.stmt e.thread at is.left.scalars is.thread.0 is.thread.1 is.stands
            ∙ ap (λ bracket. bracket_done p.names.domain bracket (registers_of p.names.scalars is.left.scalars)) (sym bare));
      }

  -- a step of the program that is this one of the erasure
  record StepsTo (s : State) (e : Event) (u : State) : Type 0 where
    next : State
    steps : IsStep p s e next
    same : forgotten p.names next ≡ u

  step_up : (s : State) (e : Event) (step : Step) (u : State) → IsWellFormed p s → IsStepThrough (erased p) (forget s) e step u → StepsTo s e u
  step_up s e step u formed is =
      let at = point_of s e.thread in
      let high : e.thread ≤ length p.threads = omega (arith, is.thread.1, threads_stay p) in
      let found = owned (erased_stmt place) (stmt_at p e.thread at) is.stmt (sym (statements_are_erased p e.thread at) ∙ is.stands) in
      let stmt = found.0 in
      let stands = found.1 in
      let registers = own p built e.thread at stmt is.thread.0 high stands in
      let act : act_of is.stmt ≡ moved_act place (act_of stmt) = ap act_of (sym found.2) ∙ act_is place stmt in
      let bare : bracket_of is.stmt ≡ [] = ap bracket_of (sym found.2) ∙ no_bracket place stmt in
      let row = row_up p.names s.scalars p.names.domain formed.scalars.0 (seen_by s e.thread) (act_of stmt) e.choice is.left registers
      (subst (λ a. Row p.names.domain (seen_by s e.thread) (registers_of p.names.scalars s.scalars) a e.choice is.left) act is.row) in
      record {
        next = moved s e.thread (record row.left { scalars = bracket_done p.names.domain (bracket_of stmt) row.left.scalars }) step.target;
        steps = (
          step,
          record {
            thread = (is.thread.0, high);
            stmt = stmt;
            stands = stands;
            left = row.left;
            row = row.row;
            taken = sym (ap₂ step_of
                (ap (branch_taken p.names.domain (registers_of p.names.scalars s.scalars)) act ∙ same_branch p.names s.scalars p.names.domain formed.scalars.0 (act_of stmt) registers)
                (steps_stay p e.thread at))
                ∙ is.taken;
            becomes = refl;
          },
        );
        same = ap (λ vs. moved (forgotten p.names s) e.thread (record row.left { scalars = vs }) step.target)
            (bracket_is stmt e.thread at row.left.scalars is.thread.0 high stands)
            ∙ ap (λ left. moved (forgotten p.names s) e.thread left step.target) row.same
            ∙ ap (λ bracket. moved (forgotten p.names s) e.thread (record is.left { scalars = bracket_done p.names.domain bracket is.left.scalars }) step.target) (sym bare)
            ∙ sym is.becomes;
      }

  -- ---- executions

  leads_down : (s : State) (events : List Event) (states : List State) → IsWellFormed p s → Leads p s events states → Leads (erased p) (forget s) events (map (forgotten p.names) states)
  leads_down s [] [] formed h = tt
  leads_down s [] (next ∷ states) formed h = absurd h
  leads_down s (e ∷ events) [] formed h = absurd h
  leads_down s (e ∷ events) (next ∷ states) formed h =
      ((h.0.0, step_down s e h.0.0 next formed h.0.1), leads_down next events states (step_keeps p s e next built formed h.0) h.1)

  -- states that the events lead to, which are these with the auxiliaries forgotten
  record LeadsTo (s : State) (events : List Event) (us : List State) : Type 0 where
    states : List State
    leads : Leads p s events states
    are : map (forgotten p.names) states ≡ us

  leads_up : (s u : State) (events : List Event) (us : List State) → forgotten p.names s ≡ u → IsWellFormed p s → Leads (erased p) u events us → LeadsTo s events us
  leads_up s u [] [] same formed h = record { states = []; leads = tt; are = refl }
  leads_up s u [] (v ∷ us) same formed h = absurd h
  leads_up s u (e ∷ events) [] same formed h = absurd h
  leads_up s u (e ∷ events) (v ∷ us) same formed h =
      let one = step_up s e h.0.0 v formed (subst (λ (w : State). IsStepThrough (erased p) w e h.0.0 v) (sym same) h.0.1) in
      let rest = leads_up one.next v events us one.same (step_keeps p s e one.next built formed one.steps) h.1 in
      record { states = one.next ∷ rest.states; leads = (one.steps, rest.leads); are = ap₂ (λ w ws. w ∷ ws) one.same rest.are }

pub executions_are_erased : ExecutionsAreErased
executions_are_erased p built first events states run = record {
  start = record { formed = formed_down p first run.start.formed; first = run.start.first; meets = refl };
  steps = leads_down p built first events states run.start.formed run.steps;
}

pub erased_executions_are_of : ErasedExecutionsAreOf
erased_executions_are_of p built first events states run =
    let formed = run.start.formed in
    let begins : State = record first { scalars = filled p.names.scalars first.scalars } in
    let same : forgotten p.names begins ≡ first = ap (λ vs. record first { scalars = vs }) (registers_of-filled p.names.scalars first.scalars formed.scalars.0) in
    let to = leads_up p built begins first events states same (formed_up p first built formed) run.steps in
    record {
      begins = begins;
      goes_on = to.states;
      runs = record { start = record { formed = formed_up p first built formed; first = run.start.first; meets = refl }; steps = to.leads };
      is_first = same;
      are = to.are;
    }
