-- Each obligation of a program speaks of its threads, points and steps.
use Rattle.std.proofs.Common.{◌≡◌, ℕ, zero, suc, ◌+◌, ◌<◌, ◌≤◌, ◌==◌, Bool, true, false, cond, List, [], ◌∷◌, ◌++◌, length, map, Option, Some, None, refl, sym, ap, subst, ◌∙◌, arith}
use Rattle.std.specs.List.{All, Contains, flat_map, range_with_len}
use Rattle.std.proofs.lemmas.List.Elements.{All-nil, All-cons, All-head, All-tail, All-append, All-contains}
use Rattle.pg_program.specs.declared.point.Step.{Step}
use Rattle.pg_program.specs.declared.point.Branch.{Branch}
use Rattle.pg_program.specs.declared.point.Branch.TheVariants.{Plain, Yes, No}
use Rattle.pg_program.specs.declared.syntax.Stmt.{Stmt}
use Rattle.pg_program.specs.Graph.{is_branch, step_of, is_test, branches}
use Rattle.pg_program.specs.Program.{ProgramTable, points, steps_at, stmt_at}
use Rattle.pg_program.specs.Laws.{LeadsWithin}
use Rattle.pg_program.proofs.GraphLaws.{steps_lead_within, steps_of_statements}
use Rattle.pg_obligations.specs.declared.obligation.Obligation.{Obligation}
use Rattle.pg_obligations.specs.declared.obligation.Obligation.TheVariants.{Fresh, Entry, EntryCrash, Local, Crash, Interfere}
use Rattle.pg_obligations.specs.Obligations.{threads_of, points_of, against, of_step, of_point, of_thread, obligations}
use Rattle.pg_layers.specs.Members.{LeadsOn, IsObligationOf}

-- ---- the step of a branch

-- no branch stands twice
abbrev Apart : List Branch → Type 0
Apart [] = Unit {0}
Apart (b ∷ bs) = All (λ c. is_branch c b ≡ false) bs × Apart bs

is-itself : (b : Branch) → is_branch b b ≡ true
is-itself Plain = refl
is-itself Yes = refl
is-itself No = refl

by_branch : (steps : List Step) → Apart (map (λ s. s.branch) steps) → All (λ s. step_of s.branch steps ≡ Some s) steps
by_branch [] h = All-nil (λ (s : Step). step_of s.branch [] ≡ Some s)
by_branch (s ∷ steps) h =
    All-cons (λ (t : Step). step_of t.branch (s ∷ steps) ≡ Some t) s steps
    (ap (λ (b : Bool). cond b (Some s) (step_of s.branch steps)) (is-itself s.branch))
    (later steps (by_branch steps h.1) h.0)
  where
    later : (ts : List Step) → All (λ t. step_of t.branch steps ≡ Some t) ts → All (λ c. is_branch c s.branch ≡ false) (map (λ t. t.branch) ts) → All (λ t. step_of t.branch (s ∷ steps) ≡ Some t) ts
    later [] a b = All-nil (λ (t : Step). step_of t.branch (s ∷ steps) ≡ Some t)
    later (t ∷ ts) a b =
        All-cons (λ (u : Step). step_of u.branch (s ∷ steps) ≡ Some u) t ts
        (ap (λ (c : Bool). cond c (Some s) (step_of t.branch steps)) (All-head (λ (c : Branch). is_branch c s.branch ≡ false) t.branch (map (λ u. u.branch) ts) b)
        ∙ All-head (λ (u : Step). step_of u.branch steps ≡ Some u) t ts a)
        (later ts (All-tail (λ (u : Step). step_of u.branch steps ≡ Some u) t ts a) (All-tail (λ (c : Branch). is_branch c s.branch ≡ false) t.branch (map (λ u. u.branch) ts) b))

nothing : All (λ c. is_branch c Plain ≡ false) []
nothing = All-nil (λ (c : Branch). is_branch c Plain ≡ false)

branches-apart : (o : Option Stmt) → Apart (branches o)
branches-apart None = tt
branches-apart (Some s) = by (is_test s)
  where
    by : (b : Bool) → Apart (cond b (Yes ∷ No ∷ []) (Plain ∷ []))
    by true = (All-cons (λ (c : Branch). is_branch c Yes ≡ false) No [] refl (All-nil (λ (c : Branch). is_branch c Yes ≡ false)), (All-nil (λ (c : Branch). is_branch c No ≡ false), tt))
    by false = (nothing, tt)

module _ (p : ProgramTable) where
  both : (t k : ℕ) → (1 ≤ t) × (t ≤ length p.threads) → (1 ≤ k) × (k ≤ points p t) → (steps : List Step) → steps ≡ steps_at p t k
      → (ss : List Step) → All (LeadsWithin t k (points p t)) ss → All (λ s. step_of s.branch steps ≡ Some s) ss → All (LeadsOn p) ss
  both t k thread point steps is [] a b = All-nil (LeadsOn p)
  both t k thread point steps is (s ∷ ss) a b =
      let w = All-head (LeadsWithin t k (points p t)) s ss a in
      let found = All-head (λ (u : Step). step_of u.branch steps ≡ Some u) s ss b in
      let at : steps ≡ steps_at p s.thread s.point = is ∙ ap (λ (n : ℕ). steps_at p n k) (sym w.thread) ∙ ap (λ (n : ℕ). steps_at p s.thread n) (sym w.point) in
      All-cons (LeadsOn p) s ss
      (record {
        is = record {
          thread = subst (λ (n : ℕ). (1 ≤ n) × (n ≤ length p.threads)) (sym w.thread) thread;
          point = subst (λ (n : ℕ). (1 ≤ s.point) × (s.point ≤ points p n)) (sym w.thread) (subst (λ (n : ℕ). (1 ≤ n) × (n ≤ points p t)) (sym w.point) point);
          leads = ap (step_of s.branch) (sym at) ∙ found;
        };
        target = record {
          thread = subst (λ (n : ℕ). (1 ≤ n) × (n ≤ length p.threads)) (sym w.thread) thread;
          point = subst (λ (n : ℕ). (1 ≤ s.target) × (s.target ≤ points p n)) (sym w.thread) (w.from, w.to);
        };
      })
      (both t k thread point steps is ss (All-tail (LeadsWithin t k (points p t)) s ss a) (All-tail (λ (u : Step). step_of u.branch steps ≡ Some u) s ss b))

  steps_are : (t k : ℕ) → (1 ≤ t) × (t ≤ length p.threads) → (1 ≤ k) × (k ≤ points p t) → All (LeadsOn p) (steps_at p t k)
  steps_are t k thread point =
      both t k thread point (steps_at p t k) refl (steps_at p t k) (steps_lead_within p t k point.0)
      (by_branch (steps_at p t k) (subst Apart (sym (steps_of_statements p t k)) (branches-apart (stmt_at p t k))))

  -- ---- the list

  abbrev Is : Obligation → Type 0
  Is ob = IsObligationOf p ob

  flat : (f : ℕ → List Obligation) (a n : ℕ) → ((k : ℕ) → a ≤ k → k < a + n → All Is (f k)) → All Is (flat_map f (range_with_len a n))
  flat f a zero h = All-nil Is
  flat f a (suc n) h = All-append Is (f a) (flat_map f (range_with_len (a + 1) n)) (h a (omega arith) (omega arith)) (flat f (a + 1) n (λ k from to. h k (omega (arith, from)) (omega (arith, to))))

  mapped : (f : ℕ → Obligation) (a n : ℕ) → ((k : ℕ) → a ≤ k → k < a + n → Is (f k)) → All Is (map f (range_with_len a n))
  mapped f a zero h = All-nil Is
  mapped f a (suc n) h = All-cons Is (f a) (map f (range_with_len (a + 1) n)) (h a (omega arith) (omega arith)) (mapped f (a + 1) n (λ k from to. h k (omega (arith, from)) (omega (arith, to))))

  thread_in : (t : ℕ) → 1 ≤ t → t < 1 + length p.threads → (1 ≤ t) × (t ≤ length p.threads)
  thread_in t from to = (from, omega (arith, to))

  of_steps : (ss : List Step) → All (LeadsOn p) ss → All Is (flat_map (of_step p) ss)
  of_steps [] h = All-nil Is
  of_steps (s ∷ ss) h =
      let one = All-head (LeadsOn p) s ss h in
      All-append Is (of_step p s) (flat_map (of_step p) ss)
      (All-cons Is (Local s) (Crash s ∷ flat_map (against p s) (threads_of p)) one
      (All-cons Is (Crash s) (flat_map (against p s) (threads_of p)) one (flat (against p s) 1 (length p.threads) (λ u from to. others s one u (u == s.thread) (thread_in u from to)))))
      (of_steps ss (All-tail (LeadsOn p) s ss h))
    where
      others : (s : Step) → LeadsOn p s → (u : ℕ) (b : Bool) → (1 ≤ u) × (u ≤ length p.threads) → All Is (cond b [] (map (λ k. Interfere s (record { thread = u; point = k })) (points_of p u)))
      others s one u true at = All-nil Is
      others s one u false at =
          mapped (λ k. Interfere s (record { thread = u; point = k })) 1 (points p u) (λ k from to. (one, record { thread = at; point = (from, omega (arith, to)) }))

  pub obligations_are : All Is (obligations p)
  obligations_are =
      All-cons Is Fresh (map (λ t. Entry t) (threads_of p) ++ (EntryCrash ∷ flat_map (of_thread p) (threads_of p))) tt
      (All-append Is (map (λ t. Entry t) (threads_of p)) (EntryCrash ∷ flat_map (of_thread p) (threads_of p))
      (mapped (λ t. Entry t) 1 (length p.threads) (λ t from to. record { thread = thread_in t from to; point = (omega arith, omega arith) }))
      (All-cons Is EntryCrash (flat_map (of_thread p) (threads_of p)) tt
      (flat (of_thread p) 1 (length p.threads) (λ t from to.
      flat (of_point p t) 1 (points p t) (λ k low high.
      of_steps (steps_at p t k) (steps_are t k (thread_in t from to) (low, omega (arith, high))))))))

  pub is_obligation : (ob : Obligation) → Contains (obligations p) ob → IsObligationOf p ob
  is_obligation ob h = All-contains Is (obligations p) ob obligations_are h
