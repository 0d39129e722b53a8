-- What the step of an event leaves: to the thread that acts, to each other thread, and of what was committed.
use Rattle.std.proofs.Common.{◌≡◌, ◌≢◌, ℕ, zero, suc, ◌-◌, ◌<◌, ◌≤◌, max, Bool, true, false, cond, List, [], ◌∷◌, length, map, get_or, set, Option, Some, refl, sym, ap, subst, ◌∙◌, arith}
use Rattle.std.specs.List.{All}
use Rattle.std.proofs.lemmas.List.{length-map, map-set, get_or-map}
use Rattle.pg_program.specs.declared.syntax.Stmt.{Stmt}
use Rattle.pg_program.specs.declared.point.Branch.{Branch}
use Rattle.pg_program.specs.declared.point.Branch.TheVariants.{Plain, Yes, No}
use Rattle.pg_program.specs.declared.point.Step.{Step}
use Rattle.pg_program.specs.Graph.{step_of, is_branch}
use Rattle.pg_program.specs.Laws.{LeadsWithin}
use Rattle.pg_program.specs.NameTable.{lines}
use Rattle.pg_program.specs.Words.{locations_of, scalars_of}
use Rattle.pg_program.specs.Program.{ProgramTable, IsProgram, points, stmt_at, steps_at}
use Rattle.pg_program.proofs.GraphLaws.{steps_lead_within}
use Rattle.pg_assertion.specs.declared.step_atom.StepAtom.{StepAtom}
use Rattle.pg_machine.specs.declared.event.Event.{Event}
use Rattle.pg_machine.specs.State.{Views, State, IsWellFormed, AreViews, greatest, vpc_of, committed, point_of}
use Rattle.pg_machine.specs.Moves.{Seen}
use Rattle.pg_machine.specs.Step.{Left, Row, IsStepThrough, act_of, bracket_of, bracket_done, branch_taken, moved, seen_by, views_of}
use Rattle.pg_machine.proofs.Formed.{stmt_locations, stmt_scalars}
use Rattle.pg_machine.proofs.Moved.{Grows, thread-views, own-views, other-views, step-grows, step-commits}
use Rattle.pg_machine.proofs.WellFormed.{step_keeps, step_within}
use Rattle.pg_views.specs.Valuation.{step_atom_holds, valuation, valuation_at}
use Rattle.pg_views.proofs.Found.{lines-count}

-- ---- what was committed, by the thread that acts and by the others

abbrev no_views : Views
no_views = record { coh = []; vrn = 0; vpr = 0; vpa = []; vpc = [] }

-- the greatest committed view of the line l of the threads other than t
abbrev pub others : State → ℕ → ℕ → ℕ
others s t l = greatest (set (map (λ w. vpc_of w l) s.views) (t - 1) 0)

-- the greatest of some positions is that at one place, or is among the others
pub greatest-set : (ps : List ℕ) (i c : ℕ) → i < length ps → greatest (set ps i c) ≡ max c (greatest (set ps i 0))
greatest-set [] i c lt = absurd (omega arith)
greatest-set (p ∷ ps) zero c lt = omega arith
greatest-set (p ∷ ps) (suc i) c lt = let rest = greatest-set ps i c (omega arith) in omega (arith, rest)

pub greatest-at : (ps : List ℕ) (i : ℕ) → i < length ps → greatest ps ≡ max (get_or ps i 0) (greatest (set ps i 0))
greatest-at [] i lt = absurd (omega arith)
greatest-at (p ∷ ps) zero lt = omega arith
greatest-at (p ∷ ps) (suc i) lt = let rest = greatest-at ps i (omega arith) in omega (arith, rest)

committed-at : (s : State) (t l : ℕ) → 1 ≤ t → t ≤ length s.views → committed s l ≡ max (vpc_of (views_of s t) l) (others s t l)
committed-at s t l low high =
    let of : Views → ℕ = λ (w : Views). vpc_of w l in
    let size = length-map s.views of in
    let mine : get_or (map of s.views) (t - 1) 0 ≡ vpc_of (views_of s t) l = get_or-map of s.views (t - 1) no_views 0 (omega (arith, low, high)) in
    greatest-at (map of s.views) (t - 1) (omega (arith, size, low, high)) ∙ ap (λ (c : ℕ). max c (others s t l)) mine

committed-left : (s : State) (t k l : ℕ) (left : Left) → 1 ≤ t → t ≤ length s.views → committed (moved s t left k) l ≡ max (vpc_of left.seen.views l) (others s t l)
committed-left s t k l left low high =
    let of : Views → ℕ = λ (w : Views). vpc_of w l in
    let size = length-map s.views of in
    ap greatest (map-set of s.views (t - 1) left.seen.views) ∙ greatest-set (map of s.views) (t - 1) (vpc_of left.seen.views l) (omega (arith, size, low, high))

-- ---- the step that is taken

same_branch : (b c : Branch) → is_branch b c ≡ true → c ≡ b
same_branch Plain Plain h = refl
same_branch Yes Yes h = refl
same_branch No No h = refl
same_branch Plain Yes h = cc
same_branch Plain No h = cc
same_branch Yes Plain h = cc
same_branch Yes No h = cc
same_branch No Plain h = cc
same_branch No Yes h = cc

branch-is : (b : Branch) (ss : List Step) (m : Step) → step_of b ss ≡ Some m → m.branch ≡ b
branch-is b [] m h = cc
branch-is b (s ∷ ss) m h = by (is_branch b s.branch) refl (branch-is b ss m) h
  where
    by : (c : Bool) → is_branch b s.branch ≡ c → (step_of b ss ≡ Some m → m.branch ≡ b) → cond c (Some s) (step_of b ss) ≡ Some m → m.branch ≡ b
    by true is rest e = let same : s ≡ m = cc in sym (ap (λ (k : Step). k.branch) same) ∙ same_branch b s.branch is
    by false is rest e = rest e

-- ---- what a step leaves

-- The event's thread stands at a statement, whose act leaves these, and goes by this step. The thread sees what its act left,
-- and each other thread sees the new memory through the views that it had.
pub record Stepped (p : ProgramTable) (s : State) (e : Event) (step : Step) (next : State) (stmt : Stmt) (left : Left) : Type 0 where
  pub built : IsProgram p
  pub formed : IsWellFormed p s
  pub formed_next : IsWellFormed p next
  pub low : 1 ≤ e.thread
  pub high : e.thread ≤ length p.threads
  pub thread : step.thread ≡ e.thread
  pub point : step.point ≡ point_of s e.thread
  pub branch : step.branch ≡ branch_taken p.names.domain s.scalars (act_of stmt)
  pub stands : stmt_at p e.thread (point_of s e.thread) ≡ Some stmt
  pub row : Row p.names.domain (seen_by s e.thread) s.scalars (act_of stmt) e.choice left
  -- its scalars and locations are those of the state
  pub over_scalars : All (λ r. r < length s.scalars) (scalars_of stmt)
  pub over_locations : All (λ x. x < length s.memory.initial) (locations_of stmt)
  -- what each thread sees
  pub own : seen_by next e.thread ≡ left.seen
  pub other : (t : ℕ) → 1 ≤ t → t ≢ e.thread → seen_by next t ≡ record { memory = left.seen.memory; views = views_of s t }
  pub memory : next.memory ≡ left.seen.memory
  pub scalars : next.scalars ≡ bracket_done p.names.domain (bracket_of stmt) left.scalars
  -- the views of each thread before the step, over the memory before it and after it
  pub own_views : AreViews s.memory (views_of s e.thread)
  pub left_views : AreViews left.seen.memory left.seen.views
  pub views : (t : ℕ) → 1 ≤ t → t ≤ length p.threads → AreViews s.memory (views_of s t)
  pub other_views : (t : ℕ) → 1 ≤ t → t ≤ length p.threads → t ≢ e.thread → AreViews left.seen.memory (views_of s t)
  pub grows : Grows (views_of s e.thread) left.seen.views
  -- the lines of the locations
  pub on_lines : s.memory.lines ≡ lines p.names
  pub on_lines_left : left.seen.memory.lines ≡ lines p.names
  pub lined : length s.memory.lines ≡ length s.memory.initial
  pub located : length s.memory.initial ≡ length p.names.locations
  -- what was committed to each line, before the step and after it
  pub committed_before : (l : ℕ) → committed s l ≡ max (vpc_of (views_of s e.thread) l) (others s e.thread l)
  pub committed_after : (l : ℕ) → committed next l ≡ max (vpc_of left.seen.views l) (others s e.thread l)
  pub commits : (l : ℕ) → committed next l ≡ max (committed s l) (vpc_of left.seen.views l)

module _ (p : ProgramTable) (s : State) (e : Event) (step : Step) (next : State) (built : IsProgram p) (formed : IsWellFormed p s) (is : IsStepThrough p s e step next) where
  inside : e.thread ≤ length s.views
  inside = let threads = formed.threads in let high = is.thread.1 in omega (arith, threads, high)

  leads : LeadsWithin e.thread (point_of s e.thread) (points p e.thread) step
  leads =
      let k = point_of s e.thread in
      let b = branch_taken p.names.domain s.scalars (act_of is.stmt) in
      let within = steps_lead_within p e.thread k (formed.points e.thread is.thread.0 is.thread.1).0 in
      step_within b e.thread k (points p e.thread) (steps_at p e.thread k) step within is.taken

  kept : IsWellFormed p next
  kept = step_keeps p s e next built formed (step, is)

  sees : seen_by next e.thread ≡ is.left.seen
  sees =
      ap (λ (q : State). seen_by q e.thread) is.becomes
      ∙ ap (λ (w : Views). let n : Seen = record { memory = is.left.seen.memory; views = w } in n) (own-views s e.thread step.target is.left is.thread.0 inside)

  other-sees : (t : ℕ) → 1 ≤ t → t ≢ e.thread → seen_by next t ≡ record { memory = is.left.seen.memory; views = views_of s t }
  other-sees t from other =
      ap (λ (q : State). seen_by q t) is.becomes
      ∙ ap (λ (w : Views). let n : Seen = record { memory = is.left.seen.memory; views = w } in n) (other-views s e.thread t step.target is.left is.thread.0 from other)

  remembered : next.memory ≡ is.left.seen.memory
  remembered = ap (λ (q : State). q.memory) is.becomes

  pub stepped : Stepped p s e step next is.stmt is.left
  stepped = record {
    built = built;
    formed = formed;
    formed_next = kept;
    low = is.thread.0;
    high = is.thread.1;
    thread = leads.thread;
    point = leads.point;
    branch = branch-is (branch_taken p.names.domain s.scalars (act_of is.stmt)) (steps_at p e.thread (point_of s e.thread)) step is.taken;
    stands = is.stands;
    row = is.row;
    over_scalars = stmt_scalars p s built formed e.thread (point_of s e.thread) is.stmt is.thread.0 is.thread.1 is.stands;
    over_locations = stmt_locations p s built formed e.thread (point_of s e.thread) is.stmt is.thread.0 is.thread.1 is.stands;
    own = sees;
    other = other-sees;
    memory = remembered;
    scalars = ap (λ (q : State). q.scalars) is.becomes;
    own_views = thread-views p s e.thread formed is.thread.0 is.thread.1;
    left_views = subst (λ (n : Seen). AreViews n.memory n.views) sees (thread-views p next e.thread kept is.thread.0 is.thread.1);
    views = λ t from to. thread-views p s t formed from to;
    other_views = λ t from to other. subst (λ (n : Seen). AreViews n.memory n.views) (other-sees t from other) (thread-views p next t kept from to);
    grows = step-grows p s e next built formed (step, is);
    on_lines = formed.memory.lines;
    on_lines_left = sym (ap (λ m. m.lines) remembered) ∙ kept.memory.lines;
    lined = lines-count p s formed;
    located = formed.memory.initial;
    committed_before = λ l. committed-at s e.thread l is.thread.0 inside;
    committed_after = λ l. ap (λ (q : State). committed q l) is.becomes ∙ committed-left s e.thread step.target l is.left is.thread.0 inside;
    commits = λ l. step-commits p s e next built formed (step, is) l;
  }

-- the valuation of a step is that of the act of the statement at which its thread stands
pub valuation-is : (p : ProgramTable) (s : State) (e : Event) (step : Step) (next : State) (stmt : Stmt) (left : Left) → Stepped p s e step next stmt left
    → (a : StepAtom) → valuation p e s next a ≡ step_atom_holds p.names.domain (act_of stmt) e.choice s next a
valuation-is p s e step next stmt left h a = ap (λ (o : Option Stmt). valuation_at p o e s next a) h.stands
