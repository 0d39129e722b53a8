-- A step that is taken in parts is a step of the state.
use Rattle.std.proofs.Common.{◌≡◌, ℕ, ◌-◌, ◌≤◌, List, [], ◌++◌, length, take, drop, get_or, set, Option, Some, inl, inr, sym, ap, subst, ◌∙◌, arith}
use Rattle.std.proofs.Math.Seq.{take-append_seam}
use Rattle.std.proofs.lemmas.List.{get_or_default, set-get_or}
use Rattle.pg_program.specs.declared.syntax.Stmt.{Stmt}
use Rattle.pg_program.specs.declared.point.Branch.{Branch}
use Rattle.pg_program.specs.declared.point.Step.{Step}
use Rattle.pg_program.specs.Graph.{step_of}
use Rattle.pg_program.specs.NameTable.{NameTable}
use Rattle.pg_program.specs.Program.{ProgramTable, stmt_at, steps_at}
use Rattle.pg_machine.specs.declared.event.Event.{Event}
use Rattle.pg_machine.specs.declared.fault.StepFault.{StepFault}
use Rattle.pg_machine.specs.Memory.{Memory}
use Rattle.pg_machine.specs.State.{Views, State, point_of}
use Rattle.pg_machine.specs.Moves.{Seen}
use Rattle.pg_machine.specs.Step.{Left, leaves, act_of, branch_taken, views_of, seen_by, moved, IsStep}
use Rattle.pg_machine.specs.Fault.{RowFault, ActFault}
use Rattle.pg_machine.specs.Held.{Held, HeldMemory}
use Rattle.pg_machine.specs.Refusal.{IsRefusal}
use Rattle.pg_machine.specs.StepParts.{seen_in, Does}

-- the slice of a vector, written back
pub refill : {X : Type 0} (n : ℕ) (new old : List X) → length new ≡ n → take n (new ++ drop (length new) old) ≡ new
refill n new old e = subst (λ (m : ℕ). take m (new ++ drop (length new) old) ≡ new) e (take-append_seam new (drop (length new) old))

-- what the parts of a step know of the state
pub record Parts (p : ProgramTable) (s : State) (t k : ℕ) (stmt : Stmt) (d : ℕ) (m : HeldMemory) (w : Views) (r : List ℕ) : Type 0 where
  pub low : 1 ≤ t
  pub high : t ≤ length p.threads
  pub point : k ≡ point_of s t
  pub stands : stmt_at p t k ≡ Some stmt
  pub domain : d ≡ p.names.domain
  pub memory : m.memory ≡ s.memory
  pub views : w ≡ views_of s t
  pub scalars : r ≡ s.scalars

same_seen : (m : Memory) (s : State) (w : Views) (t : ℕ) → m ≡ s.memory → w ≡ views_of s t → (let n : Seen = record { memory = m; views = w } in n) ≡ seen_by s t
same_seen m s w t e f =
    ap (λ (x : Memory). let n : Seen = record { memory = x; views = w } in n) e ∙ ap (λ (x : Views). let n : Seen = record { memory = s.memory; views = x } in n) f

pub taken : (p : ProgramTable) (s : State) (t k : ℕ) (stmt : Stmt) (d : ℕ) (m : HeldMemory) (w : Views) (r : List ℕ) (choice : Option ℕ) (b : Branch) (q : List ℕ) (steps : List Step) (step : Step) (after : Left)
    → Parts p s t k stmt d m w r → Does d (seen_in m w) r stmt choice after → q ≡ s.scalars → b ≡ branch_taken d q (act_of stmt) → steps ≡ steps_at p t k → step_of b steps ≡ Some step
    → IsStep p s (record { thread = t; choice = choice }) (moved s t after step.target)
taken p s t k stmt d m w r choice b q steps step after h does qs bs ss leads =
    let e : Event = record { thread = t; choice = choice } in
    let seen = same_seen m.memory s w t h.memory h.views in
    let a = subst (λ (n : ℕ). Does n (seen_in m w) r stmt choice after) h.domain does in
    let c = subst (λ (n : Seen). Does p.names.domain n r stmt choice after) seen a in
    let does' = subst (λ (l : List ℕ). Does p.names.domain (seen_by s t) l stmt choice after) h.scalars c in
    let branch : b ≡ branch_taken p.names.domain s.scalars (act_of stmt) =
    bs ∙ (ap (λ (n : ℕ). branch_taken n q (act_of stmt)) h.domain ∙ ap (λ (l : List ℕ). branch_taken p.names.domain l (act_of stmt)) qs) in
    let at : steps ≡ steps_at p t (point_of s t) = ss ∙ ap (steps_at p t) h.point in (
      step,
      record {
        thread = (h.low, h.high);
        stmt = stmt;
        stands = ap (stmt_at p t) (sym h.point) ∙ h.stands;
        left = does'.left;
        row = does'.row;
        taken = sym (ap (λ (x : Branch). step_of x steps) branch ∙ ap (step_of (branch_taken p.names.domain s.scalars (act_of stmt))) at) ∙ leads;
        becomes = ap (λ (l : Left). moved s t l step.target) does'.becomes;
      },
    )

pub refused : (p : ProgramTable) (s : State) (t k : ℕ) (stmt : Stmt) (d : ℕ) (m : HeldMemory) (w : Views) (r : List ℕ) (choice : Option ℕ) (fault : StepFault)
    → Parts p s t k stmt d m w r → RowFault d (seen_in m w) r (act_of stmt) choice fault → ActFault p s (record { thread = t; choice = choice }) fault
refused p s t k stmt d m w r choice fault h row =
    let seen = same_seen m.memory s w t h.memory h.views in
    let a = subst (λ (n : ℕ). RowFault n (seen_in m w) r (act_of stmt) choice fault) h.domain row in
    let c = subst (λ (n : Seen). RowFault p.names.domain n r (act_of stmt) choice fault) seen a in
    record {
      thread = (h.low, h.high);
      stmt = stmt;
      stands = ap (stmt_at p t) (sym h.point) ∙ h.stands;
      row = subst (λ (l : List ℕ). RowFault p.names.domain (seen_by s t) l (act_of stmt) choice fault) h.scalars c;
    }

-- the next state, as it is written field by field
pub same_state : (s : State) (t : ℕ) (memory : Memory) (w : Views) (scalars new : List ℕ) (views : List Views) (points : List ℕ) (i k : ℕ)
    → views ≡ s.views → points ≡ s.points → i ≡ t → scalars ≡ new
    → moved s t (leaves (record { memory = memory; views = w }) new) k ≡ record { memory = memory; views = set views (i - 1) w; scalars = scalars; points = set points (i - 1) k }
same_state s t memory w scalars new views points i k vs ps is rs =
    let made : List Views → List ℕ → List ℕ → State = λ v r q. record { memory = memory; views = v; scalars = r; points = q } in
    sym (ap (λ (n : ℕ). made (set views (n - 1) w) scalars (set points (n - 1) k)) is
    ∙ (ap (λ (v : List Views). made (set v (t - 1) w) scalars (set points (t - 1) k)) vs
    ∙ (ap (λ (q : List ℕ). made (set s.views (t - 1) w) scalars (set q (t - 1) k)) ps ∙ ap (λ (r : List ℕ). made (set s.views (t - 1) w) r (set s.points (t - 1) k)) rs)))

-- the parts, as the code reads them from its fields
pub parts_of : (p : ProgramTable) (s : Held) (memory : HeldMemory) (views : List Views) (scalars points : List ℕ) (names : NameTable) (t k u d : ℕ) (stmt : Stmt) (w : Views) (r : List ℕ)
    → (let h : Held = record { state = record { memory = memory.memory; views = views; scalars = scalars; points = points }; spare = memory.spare } in h) ≡ s
    → 1 ≤ t → t ≤ length p.threads → length s.state.views ≡ length p.threads → k ≡ point_of s.state t → stmt_at p t k ≡ Some stmt
    → d ≡ names.domain → names ≡ p.names → u ≡ t → w ≡ get_or views (u - 1) w → r ≡ scalars → Parts p s.state t k stmt d memory w r
parts_of p s memory views scalars points names t k u d stmt w r is low high threads point stands domain named ut here rs = record {
  low = low;
  high = high;
  point = point;
  stands = stands;
  domain = domain ∙ ap (λ (n : NameTable). n.domain) named;
  memory = ap (λ (h : Held). h.state.memory) is;
  views = here
      ∙ (ap (λ (n : ℕ). get_or views (n - 1) w) ut
      ∙ (ap (λ (l : List Views). get_or l (t - 1) w) (ap (λ (h : Held). h.state.views) is)
      ∙ get_or_default s.state.views (t - 1) w (record { coh = []; vrn = 0; vpr = 0; vpa = []; vpc = [] }) (omega (arith, threads, low, high))));
  scalars = rs ∙ ap (λ (h : Held). h.state.scalars) is;
}

unrefused : (p : ProgramTable) (s : State) (t k : ℕ) (stmt : Stmt) (d : ℕ) (m : HeldMemory) (w : Views) (r : List ℕ) (choice : Option ℕ) (fault : StepFault)
    → Parts p s t k stmt d m w r → ActFault p s (record { thread = t; choice = choice }) fault → RowFault d (seen_in m w) r (act_of stmt) choice fault
unrefused p s t k stmt d m w r choice fault h f =
    let seen = same_seen m.memory s w t h.memory h.views in
    let at : stmt_at p t (point_of s t) ≡ Some stmt = ap (stmt_at p t) (sym h.point) ∙ h.stands in
    let same : f.stmt ≡ stmt = let e = sym f.stands ∙ at in cc in
    let a = subst (λ (x : Stmt). RowFault p.names.domain (seen_by s t) s.scalars (act_of x) choice fault) same f.row in
    let b = subst (λ (l : List ℕ). RowFault p.names.domain (seen_by s t) l (act_of stmt) choice fault) (sym h.scalars) a in
    let c = subst (λ (n : Seen). RowFault p.names.domain n r (act_of stmt) choice fault) (sym seen) b in
    subst (λ (n : ℕ). RowFault n (seen_in m w) r (act_of stmt) choice fault) (sym h.domain) c

pub refusal : (p : ProgramTable) (s : Held) (t k : ℕ) (stmt : Stmt) (d : ℕ) (m : HeldMemory) (w : Views) (r : List ℕ) (choice : Option ℕ) (fault : StepFault)
    → Parts p s.state t k stmt d m w r → m.spare ≡ s.spare → IsRefusal (RowFault d (seen_in m w) r (act_of stmt) choice) m.spare fault
    → IsRefusal (ActFault p s.state (record { thread = t; choice = choice })) s.spare fault
refusal p s t k stmt d m w r choice fault h e (inl row) = inl (refused p s.state t k stmt d m w r choice fault h row)
refusal p s t k stmt d m w r choice fault h e (inr (is, none, free)) = inr (is, sym e ∙ none, λ f act. free f (unrefused p s.state t k stmt d m w r choice f h act))

-- ---- a refusal, which leaves all as it was

-- views that are written back as they were
pub same_views : (views : List Views) (i : ℕ) (w v : Views) → w ≡ v → v ≡ get_or views i v → set views i w ≡ views
same_views views i w v same here = ap (set views i) (same ∙ here) ∙ set-get_or views i v

pub stays : (s : State) (m memory : Memory) (vs views : List Views) (qs scalars points : List ℕ) → (let n : State = record { memory = memory; views = views; scalars = scalars; points = points } in n) ≡ s
    → m ≡ memory → vs ≡ views → qs ≡ scalars → (let n : State = record { memory = m; views = vs; scalars = qs; points = points } in n) ≡ s
stays s m memory vs views qs scalars points is ms ws rs = rw (ms, ws, rs) is
