-- The fresh state is well formed, and a step keeps a state so.
use Rattle.std.proofs.Common.{◌≡◌, ℕ, zero, suc, ◌+◌, ◌-◌, ◌<◌, ◌≤◌, Bool, true, false, cond, List, [], ◌∷◌, length, map, get_or, set, Option, Some, None, Result, Ok, Err, OnOk, OnErr, inl, inr, refl, sym, ap, subst, ◌∙◌, arith}
use Rattle.std.specs.List.{All}
use Rattle.std.proofs.lemmas.Bool.{cases_eq}
use Rattle.std.proofs.lemmas.List.{length-map, length-set, get_or-set_same, get_or-set_other}
use Rattle.std.proofs.lemmas.List.Elements.{All-nil, All-cons, All-head, All-tail, All-get_or, All-weaker, All-set, All-push}
use Rattle.pg_program.specs.declared.syntax.AuxAssign.{AuxAssign}
use Rattle.pg_program.specs.declared.syntax.Expr.{Expr, out-Expr, fold_out-Expr}
use Rattle.pg_program.specs.declared.syntax.Expr.TheOpen.{Expr-F, Value, Scalar, Add, Sub, Mul}
use Rattle.pg_program.specs.declared.syntax.Expr.TheFolds.{map-Expr}
use Rattle.pg_program.specs.declared.syntax.Stmt.{Stmt}
use Rattle.pg_program.specs.declared.syntax.Act.{Act}
use Rattle.pg_program.specs.declared.syntax.Act.TheOpen.{Act-F, Assign, Store, Load, Cas, Mfence, Sfence, Flush, Flushopt, If, While}
use Rattle.pg_program.specs.declared.point.Branch.{Branch}
use Rattle.pg_program.specs.declared.point.Step.{Step}
use Rattle.pg_program.specs.NameTable.{NameTable, Location, initial, lines, line_count}
use Rattle.pg_program.specs.Words.{locations_in}
use Rattle.pg_program.specs.Expr.{value, value_step}
use Rattle.pg_program.specs.Graph.{step_of, is_branch}
use Rattle.pg_program.specs.Laws.{LeadsWithin}
use Rattle.pg_program.specs.Program.{ProgramTable, IsProgram, points, steps_at}
use Rattle.pg_program.proofs.ProgramLemmas.{has_values, initial_inside}
use Rattle.pg_program.proofs.GraphLaws.{steps_lead_within}
use Rattle.pg_machine.specs.declared.event.Event.{Event}
use Rattle.pg_machine.specs.declared.fault.StepFault.{StepFault}
use Rattle.pg_machine.specs.Memory.{Memory, line_of, value_at, message_appended}
use Rattle.pg_machine.specs.State.{Views, State, coh_of, point_of, AreSized, AreViews, IsMemory, IsWellFormed, fresh, fresh_views}
use Rattle.pg_machine.specs.Moves.{Seen, can_read, mfence_seen, sfence_seen, flush_seen, flushopt_seen, load_seen, store_seen, swap_seen, fenced, SwapIsStoreThenFence}
use Rattle.pg_machine.specs.Step.{Left, leaves, Row, act_of, bracket_of, bracket_done, assigned, branch_taken, seen_by, moved, IsStep}
use Rattle.pg_machine.proofs.Scan.{is_at-within}
use Rattle.pg_machine.proofs.Uses.{value-below, get-below}
use Rattle.pg_machine.proofs.Faults.{is_reached}
use Rattle.pg_machine.proofs.Formed.{stmt_locations}
use Rattle.pg_machine.proofs.ViewsKept.{fresh_are_views, mfence_views, sfence_views, flush_views, flushopt_views, load_views, views_stay, store_views, swap_is}

-- ---- the fresh state

pub All-constant : {X Y : Type 0} (P : Y → Type 0) → (c : Y) (xs : List X) → P c → All P (map (λ x. c) xs)
All-constant P c [] h = All-nil P
All-constant P c (x ∷ xs) h = All-cons P c (map (λ y. c) xs) h (All-constant P c xs h)

get-constant : {X : Type 0} (c : ℕ) (xs : List X) (i : ℕ) → i < length xs → get_or (map (λ x. c) xs) i 0 ≡ c
get-constant c [] i lt = absurd (omega arith)
get-constant c (x ∷ xs) zero lt = refl
get-constant c (x ∷ xs) (suc i) lt = get-constant c xs i (omega arith)

pub fresh_is_well_formed : (p : ProgramTable) → IsProgram p → IsWellFormed p (fresh p)
fresh_is_well_formed p h =
    let names = p.names in
    let memory = (fresh p).memory in
    let n = length names.locations in
    let on = line_count (lines names) in
    let size : length (initial names) ≡ n = length-map names.locations (λ (l : Location). l.init) in
    record {
      memory = record {
        initial = size;
        lines = refl;
        values = initial_inside p h;
        messages = All-nil (λ (s : ℕ × ℕ). (s.0 < length (initial names)) × (s.1 < names.domain));
      };
      threads = length-map p.threads (λ (t : List Stmt). fresh_views n on);
      views = All-constant (AreViews memory) (fresh_views n on) p.threads (fresh_are_views memory n on size refl);
      scalars = (length-map names.scalars (λ e. 0), All-constant (λ (v : ℕ). v < names.domain) 0 names.scalars (has_values p h));
      pointed = length-map p.threads (λ (t : List Stmt). 1);
      points = λ t low high.
          let at : point_of (fresh p) t ≡ 1 = get-constant 1 p.threads (t - 1) (omega (arith, low, high)) in
          (omega (arith, at), omega (arith, at));
    }

-- ---- values

step-inside : (d : ℕ) (r : List ℕ) → 0 < d → All (λ v. v < d) r → (e : Expr-F ℕ) → value_step r d e < d
step-inside d r some h (Value v) = omega arith
step-inside d r some h (Scalar q) = get-below d r q some h
step-inside d r some h (Add a b) = omega arith
step-inside d r some h (Sub a b) = omega arith
step-inside d r some h (Mul a b) = omega arith

value-inside : (d : ℕ) (r : List ℕ) (e : Expr) → 0 < d → All (λ v. v < d) r → value r d e < d
value-inside d r e some h =
    subst (λ (n : ℕ). n < d) (sym (fold_out-Expr ℕ (value_step r d) e)) (step-inside d r some h (map-Expr Expr ℕ (value r d) (out-Expr e)))

assigned-size : (d : ℕ) (seen : List ℕ) (bracket : List AuxAssign) (r : List ℕ) → length (assigned d seen bracket r) ≡ length r
assigned-size d seen [] r = refl
assigned-size d seen (a ∷ rest) r = assigned-size d seen rest (set r a.target (value seen d a.expr)) ∙ length-set r a.target (value seen d a.expr)

assigned-inside : (d : ℕ) (seen : List ℕ) (bracket : List AuxAssign) (r : List ℕ) → 0 < d → All (λ v. v < d) seen → All (λ v. v < d) r → All (λ v. v < d) (assigned d seen bracket r)
assigned-inside d seen [] r some h k = k
assigned-inside d seen (a ∷ rest) r some h k =
    assigned-inside d seen rest (set r a.target (value seen d a.expr)) some h
    (All-set (λ (v : ℕ). v < d) r a.target (value seen d a.expr) (value-inside d seen a.expr some h) k)

-- ---- what each row keeps

record Keeps (names : NameTable) (n : Seen) (r : List ℕ) (left : Left) : Type 0 where
  memory : IsMemory names left.seen.memory
  own : AreViews left.seen.memory left.seen.views
  others : (w : Views) → AreViews n.memory w → AreViews left.seen.memory w
  size : length left.scalars ≡ length r
  values : All (λ v. v < names.domain) left.scalars

-- what is well formed before the row
record Before (names : NameTable) (n : Seen) (r : List ℕ) : Type 0 where
  some : 0 < names.domain
  memory : IsMemory names n.memory
  own : AreViews n.memory n.views
  values : All (λ v. v < names.domain) r

moves : (names : NameTable) (n : Seen) (r : List ℕ) (w : Views) → Before names n r → AreViews n.memory w → Keeps names n r (leaves (record { memory = n.memory; views = w }) r)
moves names n r w h own = record { memory = h.memory; own = own; others = λ v k. k; size = refl; values = h.values }

moves-set : (names : NameTable) (n : Seen) (r : List ℕ) (w : Views) (q v : ℕ) → Before names n r → AreViews n.memory w → v < names.domain
    → Keeps names n r (leaves (record { memory = n.memory; views = w }) (set r q v))
moves-set names n r w q v h own low = record {
  memory = h.memory;
  own = own;
  others = λ u k. k;
  size = length-set r q v;
  values = All-set (λ (k : ℕ). k < names.domain) r q v low h.values;
}

longer : (names : NameTable) (m : Memory) (x v : ℕ) → IsMemory names m → x < length m.initial → v < names.domain → IsMemory names (message_appended m (x, v))
longer names m x v h inside low = record {
  initial = h.initial;
  lines = h.lines;
  values = h.values;
  messages = All-push (λ (s : ℕ × ℕ). (s.0 < length m.initial) × (s.1 < names.domain)) m.messages (x, v) h.messages (inside, low);
}

appends : (names : NameTable) (n : Seen) (r new : List ℕ) (w : Views) (x v : ℕ) → Before names n r → x < length n.memory.initial → v < names.domain → AreViews (message_appended n.memory (x, v)) w
    → length new ≡ length r → All (λ k. k < names.domain) new → Keeps names n r (leaves (record { memory = message_appended n.memory (x, v); views = w }) new)
appends names n r new w x v h inside low own size values = record {
  memory = longer names n.memory x v h.memory inside low;
  own = own;
  others = λ u k. views_stay n.memory (x, v) u k;
  size = size;
  values = values;
}

read-inside : (names : NameTable) (n : Seen) (r : List ℕ) (x p : ℕ) → Before names n r → value_at n.memory x p < names.domain
read-inside names n r x p h =
    value-below names.domain n.memory x p h.some h.memory.values
    (All-weaker (λ (s : ℕ × ℕ). (s.0 < length n.memory.initial) × (s.1 < names.domain)) (λ (s : ℕ × ℕ). s.1 < names.domain) (λ s k. k.1) n.memory.messages h.memory.messages)

reads-views : (n : Seen) (x p : ℕ) → AreViews n.memory n.views → x < length n.memory.initial → can_read n x p ≡ true → AreViews n.memory (load_seen n.views x p)
reads-views n x p own inside read =
    let at = is_reached n.memory.messages x (coh_of n.views x) n.views.vrn p read in
    load_views n.memory n.views x p own inside at.at (is_at-within n.memory.messages x p at.at) at.from

pub swap_is_store_then_fence : SwapIsStoreThenFence
swap_is_store_then_fence n x v own inside =
    ap (λ (w : Views). let s : Seen = record { memory = message_appended n.memory (x, v); views = w } in s) (swap_is n.memory x n.views own inside)

swap_views : (n : Seen) (x v : ℕ) → AreViews n.memory n.views → x < length n.memory.initial → AreViews (message_appended n.memory (x, v)) (swap_seen n.views x (length n.memory.messages + 1))
swap_views n x v own inside =
    subst (AreViews (message_appended n.memory (x, v))) (sym (swap_is n.memory x n.views own inside))
    (mfence_views (message_appended n.memory (x, v)) (store_seen n.views x (length n.memory.messages + 1)) (store_views n.memory x v n.views own inside))

miss_views : (n : Seen) (x p : ℕ) → AreViews n.memory n.views → x < length n.memory.initial → can_read (fenced n) x p ≡ true → AreViews n.memory (mfence_seen (load_seen (mfence_seen n.views) x p))
miss_views n x p own inside read =
    mfence_views n.memory (load_seen (mfence_seen n.views) x p) (reads-views (fenced n) x p (mfence_views n.memory n.views own) inside read)

row_keeps : (names : NameTable) (n : Seen) (r : List ℕ) (a : Act-F Act Stmt) (c : Option ℕ) (left : Left) → Before names n r → All (λ x. x < length n.memory.initial) (locations_in a)
    → Row names.domain n r a c left → Keeps names n r left
row_keeps names n r (Assign q e) None left h locs row = subst (Keeps names n r) (sym row) (moves-set names n r n.views q (value r names.domain e) h h.own (value-inside names.domain r e h.some h.values))
row_keeps names n r (Store x e) None left h locs row =
    let inside = All-head (λ (y : ℕ). y < length n.memory.initial) x [] locs in
    let v = value r names.domain e in
    subst (Keeps names n r) (sym row) (appends names n r r (store_seen n.views x (length n.memory.messages + 1)) x v h inside (value-inside names.domain r e h.some h.values) (store_views n.memory x v n.views h.own inside) refl h.values)
row_keeps names n r (Load q x) (Some p) left h locs row =
    let inside = All-head (λ (y : ℕ). y < length n.memory.initial) x [] locs in
    subst (Keeps names n r) (sym row.1) (moves-set names n r (load_seen n.views x p) q (value_at n.memory x p) h (reads-views n x p h.own inside row.0) (read-inside names n r x p h))
row_keeps names n r (Cas q x e f) None left h locs row =
    let inside = All-head (λ (y : ℕ). y < length n.memory.initial) x [] locs in
    let v = value r names.domain f in
    let u = value r names.domain e in
    subst (Keeps names n r) (sym row.1)
    (appends names n r (set r q u) (swap_seen n.views x (length n.memory.messages + 1)) x v h inside (value-inside names.domain r f h.some h.values) (swap_views n x v h.own inside)
    (length-set r q u) (All-set (λ (k : ℕ). k < names.domain) r q u (value-inside names.domain r e h.some h.values) h.values))
row_keeps names n r (Cas q x e f) (Some p) left h locs row =
    let inside = All-head (λ (y : ℕ). y < length n.memory.initial) x [] locs in
    subst (Keeps names n r) (sym row.2) (moves-set names n r (mfence_seen (load_seen (mfence_seen n.views) x p)) q (value_at n.memory x p) h (miss_views n x p h.own inside row.0) (read-inside names n r x p h))
row_keeps names n r Mfence None left h locs row = subst (Keeps names n r) (sym row) (moves names n r (mfence_seen n.views) h (mfence_views n.memory n.views h.own))
row_keeps names n r Sfence None left h locs row = subst (Keeps names n r) (sym row) (moves names n r (sfence_seen n.views) h (sfence_views n.memory n.views h.own))
row_keeps names n r (Flush x) None left h locs row = subst (Keeps names n r) (sym row) (moves names n r (flush_seen n.views (line_of n.memory x)) h (flush_views n.memory n.views (line_of n.memory x) h.own))
row_keeps names n r (Flushopt x) None left h locs row = subst (Keeps names n r) (sym row) (moves names n r (flushopt_seen n.memory.lines n.views (line_of n.memory x)) h (flushopt_views n.memory n.views n.memory.lines (line_of n.memory x) h.own))
row_keeps names n r (If t y z) None left h locs row = subst (Keeps names n r) (sym row) (moves names n r n.views h h.own)
row_keeps names n r (While t y) None left h locs row = subst (Keeps names n r) (sym row) (moves names n r n.views h h.own)
row_keeps names n r (Load q x) None left h locs row = absurd row
row_keeps names n r (Assign q e) (Some p) left h locs row = absurd row
row_keeps names n r (Store x e) (Some p) left h locs row = absurd row
row_keeps names n r Mfence (Some p) left h locs row = absurd row
row_keeps names n r Sfence (Some p) left h locs row = absurd row
row_keeps names n r (Flush x) (Some p) left h locs row = absurd row
row_keeps names n r (Flushopt x) (Some p) left h locs row = absurd row
row_keeps names n r (If t y z) (Some p) left h locs row = absurd row
row_keeps names n r (While t y) (Some p) left h locs row = absurd row

-- ---- a step

-- the step of a branch leads to one of the thread's points
pub step_within : (b : Branch) (t k n : ℕ) (ss : List Step) (m : Step) → All (LeadsWithin t k n) ss → step_of b ss ≡ Some m → LeadsWithin t k n m
step_within b t k n [] m h e = cc
step_within b t k n (s ∷ ss) m h e = by (is_branch b s.branch) (step_within b t k n ss m (All-tail (LeadsWithin t k n) s ss h)) e
  where
    by : (b' : Bool) → (step_of b ss ≡ Some m → LeadsWithin t k n m) → cond b' (Some s) (step_of b ss) ≡ Some m → LeadsWithin t k n m
    by true rest q =
        let same : s ≡ m = cc in
        subst (LeadsWithin t k n) same (All-head (LeadsWithin t k n) s ss h)
    by false rest q = rest q

pub step_keeps : (p : ProgramTable) (s : State) (e : Event) (next : State) → IsProgram p → IsWellFormed p s → IsStep p s e next → IsWellFormed p next
step_keeps p s e next built h is =
    let t = e.thread in
    let low = is.1.thread.0 in
    let high = is.1.thread.1 in
    let k = point_of s t in
    let threads = h.threads in
    let pointed = h.pointed in
    let d = p.names.domain in
    let mine = All-get_or (λ (w : Views). AreViews s.memory w) s.views (t - 1) (record { coh = []; vrn = 0; vpr = 0; vpa = []; vpc = [] }) (omega (arith, threads, low, high)) h.views in
    let before : Before p.names (seen_by s t) s.scalars = record { some = has_values p built; memory = h.memory; own = mine; values = h.scalars.1 } in
    let keeps = row_keeps p.names (seen_by s t) s.scalars (act_of is.1.stmt) e.choice is.1.left before (stmt_locations p s built h t k is.1.stmt low high is.1.stands) is.1.row in
    let left = is.1.left in
    let at = step_within (branch_taken d s.scalars (act_of is.1.stmt)) t k (points p t) (steps_at p t k) is.0 (steps_lead_within p t k (h.points t low high).0) is.1.taken in
    let after : Left = record left { scalars = bracket_done d (bracket_of is.1.stmt) left.scalars } in
    let new = moved s t after is.0.target in
    let moves_to : point_of new t ≡ is.0.target = get_or-set_same s.points (t - 1) is.0.target 0 (omega (arith, pointed, low, high)) in
    subst (IsWellFormed p) (sym is.1.becomes)
    (record {
      memory = keeps.memory;
      threads = length-set s.views (t - 1) left.seen.views ∙ threads;
      views = All-set (AreViews left.seen.memory) s.views (t - 1) left.seen.views keeps.own (All-weaker (AreViews s.memory) (AreViews left.seen.memory) keeps.others s.views h.views);
      scalars = (
        assigned-size d left.scalars (bracket_of is.1.stmt) left.scalars ∙ (keeps.size ∙ h.scalars.0),
        assigned-inside d left.scalars (bracket_of is.1.stmt) left.scalars (has_values p built) keeps.values keeps.values,
      );
      pointed = length-set s.points (t - 1) is.0.target ∙ pointed;
      points = λ u from to. elim (cases_eq u t) [
        | inl e ↦ subst (λ (k : ℕ). (1 ≤ point_of new k) × (point_of new k ≤ points p k)) (sym e)
            (let a = at.from in let b = at.to in (omega (arith, moves_to, a), omega (arith, moves_to, b)))
        | inr ne ↦
            let apart : (u - 1 ≡ t - 1) → ⊥ = λ q. ne (let k : u ≡ t = omega (arith, from, low, q) in k) in
            let stays : point_of new u ≡ point_of s u = get_or-set_other s.points (t - 1) (u - 1) is.0.target 0 apart in
            subst (λ (k : ℕ). (1 ≤ k) × (k ≤ points p u)) (sym stays) (h.points u from to)
      ];
    })

-- so it leaves each thread views of each location and line
pub step_sizes : (p : ProgramTable) (s : State) (e : Event) (next : State) → IsProgram p → IsWellFormed p s → IsStep p s e next → All (AreSized next.memory) next.views
step_sizes p s e next built h is = All-weaker (AreViews next.memory) (AreSized next.memory) (λ w v. v.size) next.views (step_keeps p s e next built h is).views

pub answered_kept : (p : ProgramTable) (s : State) (e : Event) (new : State) (r : Result (Unit {0}) StepFault) → IsProgram p → IsWellFormed p s → OnOk r (IsStep p s e new) → OnErr r (new ≡ s) → IsWellFormed p new
answered_kept p s e new (Ok u) built h is same = step_keeps p s e new built h is
answered_kept p s e new (Err f) built h is same = subst (IsWellFormed p) (sym same) h
