-- The laws of the graph, by induction on the nesting.
use Rattle.std.proofs.Common.{◌≡◌, ℕ, zero, suc, ◌+◌, ◌-◌, ◌≤◌, Bool, true, false, cond, List, [], ◌∷◌, ◌++◌, length, map, get_or, Some, slice_get, ap, refl, sym, subst, ◌∙◌, length-append, arith}
use Rattle.std.specs.List.{All}
use Rattle.std.proofs.lemmas.List.Elements.{All-nil, All-cons}
use Rattle.pg_program.specs.declared.syntax.Stmt.{Stmt}
use Rattle.pg_program.specs.declared.point.Branch.TheVariants.{Plain, Yes, No}
use Rattle.pg_program.specs.declared.point.Step.{Step}
use Rattle.pg_program.specs.Block.{Block, done, node, block}
use Rattle.pg_program.specs.Graph.{size, statements, into, exit_of, own_steps, is_test, is_loop, steps, branches}
use Rattle.pg_program.specs.Program.{thread_of, points}
use Rattle.pg_program.specs.Laws.{EachStatementHasSteps, StepsAreOfStatements, StepsLeadWithin, LeadsWithin}
use Rattle.pg_program.proofs.GraphLemmas.{length-statements}

length-steps : (t first exit : ℕ) (b : Block) → length (steps t first exit b) ≡ size b
length-steps t first exit done = refl
length-steps t first exit (node s a b rest) =
    let second = first + 1 + size a in
    let later = second + size b in
    let next = into rest later exit in
    let back = exit_of (is_loop s) first next in
    let one = length-append (steps t (first + 1) back a) (steps t second next b ++ steps t later exit rest) in
    let two = length-append (steps t second next b) (steps t later exit rest) in
    let la = length-steps t (first + 1) back a in
    let lb = length-steps t second next b in
    let lr = length-steps t later exit rest in
    omega (arith, one, two, la, lb, lr)

pub each_has_steps : EachStatementHasSteps
each_has_steps t ss = length-steps t 1 (size (block ss) + 1) (block ss) ∙ sym (length-statements (block ss))

-- ---- the branches

-- each list of steps is that of the statement at its place
abbrev HasBranches : List (List Step) → List Stmt → Type 0
HasBranches [] [] = Unit {0}
HasBranches [] (s ∷ ss) = ⊥
HasBranches (l ∷ ls) [] = ⊥
HasBranches (l ∷ ls) (s ∷ ss) = (map (λ x. x.branch) l ≡ branches (Some s)) × HasBranches ls ss

branches-append : (ls ms : List (List Step)) (ss us : List Stmt) → HasBranches ls ss → HasBranches ms us → HasBranches (ls ++ ms) (ss ++ us)
branches-append [] ms [] us h k = k
branches-append [] ms (s ∷ ss) us h k = absurd h
branches-append (l ∷ ls) ms [] us h k = absurd h
branches-append (l ∷ ls) ms (s ∷ ss) us h k = (h.0, branches-append ls ms ss us h.1 k)

own_branches : (t k first second next : ℕ) (s : Stmt) (test : Bool) → is_test s ≡ test → map (λ x. x.branch) (own_steps test t k first second next) ≡ branches (Some s)
own_branches t k first second next s true h = sym (ap (λ (b : Bool). cond b (Yes ∷ No ∷ []) (Plain ∷ [])) h)
own_branches t k first second next s false h = sym (ap (λ (b : Bool). cond b (Yes ∷ No ∷ []) (Plain ∷ [])) h)

steps-branches : (t first exit : ℕ) (b : Block) → HasBranches (steps t first exit b) (statements b)
steps-branches t first exit done = tt
steps-branches t first exit (node s a b rest) =
    let second = first + 1 + size a in
    let later = second + size b in
    let next = into rest later exit in
    let back = exit_of (is_loop s) first next in (
      own_branches t first (into a (first + 1) back) (into b second next) next s (is_test s) refl,
      branches-append (steps t (first + 1) back a) (steps t second next b ++ steps t later exit rest) (statements a) (statements b ++ statements rest)
          (steps-branches t (first + 1) back a)
          (branches-append (steps t second next b) (steps t later exit rest) (statements b) (statements rest) (steps-branches t second next b) (steps-branches t later exit rest)),
    )

branches-at : (ls : List (List Step)) (ss : List Stmt) (i : ℕ) → HasBranches ls ss → map (λ x. x.branch) (get_or ls i []) ≡ branches (slice_get ss i)
branches-at [] [] i h = refl
branches-at [] (s ∷ ss) i h = absurd h
branches-at (l ∷ ls) [] i h = absurd h
branches-at (l ∷ ls) (s ∷ ss) zero h = h.0
branches-at (l ∷ ls) (s ∷ ss) (suc i) h = branches-at ls ss i h.1

pub steps_of_statements : StepsAreOfStatements
steps_of_statements p t k =
    let b = block (thread_of p t) in
    branches-at (steps t 1 (size b + 1) b) (statements b) (k - 1) (steps-branches t 1 (size b + 1) b)

-- ---- the targets

-- these are the steps from the points from k on, each to one of n points
abbrev AreWithin : ℕ → ℕ → ℕ → List (List Step) → Type 0
AreWithin t k n [] = Unit {0}
AreWithin t k n (l ∷ ls) = All (LeadsWithin t k n) l × AreWithin t (k + 1) n ls

within-append : (t k n m : ℕ) (ls ms : List (List Step)) → AreWithin t k n ls → k + length ls ≡ m → AreWithin t m n ms → AreWithin t k n (ls ++ ms)
within-append t k n m [] ms h e u = subst (λ (j : ℕ). AreWithin t j n ms) (let q : m ≡ k = omega arith in q) u
within-append t k n m (l ∷ ls) ms h e u = (h.0, within-append t (k + 1) n m ls ms h.1 (omega arith) u)

into-within : (b : Block) (first exit n : ℕ) → 1 ≤ first → first + size b ≤ n → 1 ≤ exit → exit ≤ n → (1 ≤ into b first exit) × (into b first exit ≤ n)
into-within done first exit n low high from to = (from, to)
into-within (node s a b rest) first exit n low high from to = (low, omega arith)

own-within : (t k first second next n : ℕ) (test : Bool) → (1 ≤ first) × (first ≤ n) → (1 ≤ second) × (second ≤ n) → (1 ≤ next) × (next ≤ n)
    → All (LeadsWithin t k n) (own_steps test t k first second next)
own-within t k first second next n true f s e =
    let P : Step → Type 0 = LeadsWithin t k n in
    let y : Step = record { thread = t; point = k; branch = Yes; target = first } in
    let z : Step = record { thread = t; point = k; branch = No; target = second } in
    All-cons P y (z ∷ []) (record { thread = refl; point = refl; from = f.0; to = f.1 })
    (All-cons P z [] (record { thread = refl; point = refl; from = s.0; to = s.1 }) (All-nil P))
own-within t k first second next n false f s e =
    let P : Step → Type 0 = LeadsWithin t k n in
    let y : Step = record { thread = t; point = k; branch = Plain; target = next } in
    All-cons P y [] (record { thread = refl; point = refl; from = e.0; to = e.1 }) (All-nil P)

exit-within : (loop : Bool) (k next n : ℕ) → (1 ≤ k) × (k ≤ n) → (1 ≤ next) × (next ≤ n) → (1 ≤ exit_of loop k next) × (exit_of loop k next ≤ n)
exit-within true k next n h e = h
exit-within false k next n h e = e

steps-within : (t first exit n : ℕ) (b : Block) → 1 ≤ first → first + size b ≤ n → 1 ≤ exit → exit ≤ n → AreWithin t first n (steps t first exit b)
steps-within t first exit n done low high from to = tt
steps-within t first exit n (node s a b rest) low high from to =
    let second = first + 1 + size a in
    let later = second + size b in
    let next = into rest later exit in
    let back = exit_of (is_loop s) first next in
    let nexts : (1 ≤ next) × (next ≤ n) = into-within rest later exit n (omega arith) (omega arith) from to in
    let backs : (1 ≤ back) × (back ≤ n) = exit-within (is_loop s) first next n (low, omega arith) nexts in
    let la = length-steps t (first + 1) back a in
    let lb = length-steps t second next b in (
      own-within t first (into a (first + 1) back) (into b second next) next n (is_test s)
          (into-within a (first + 1) back n (omega arith) (omega arith) backs.0 backs.1)
          (into-within b second next n (omega arith) (omega arith) nexts.0 nexts.1) nexts,
      within-append t (first + 1) n second (steps t (first + 1) back a) (steps t second next b ++ steps t later exit rest)
          (steps-within t (first + 1) back n a (omega arith) (omega arith) backs.0 backs.1) (omega (arith, la))
          (within-append t second n later (steps t second next b) (steps t later exit rest)
          (steps-within t second next n b (omega arith) (omega arith) nexts.0 nexts.1) (omega (arith, lb))
          (steps-within t later exit n rest (omega arith) (omega arith) from to)),
    )

within-at : (t k n : ℕ) (ls : List (List Step)) (i j : ℕ) → AreWithin t k n ls → j ≡ k + i → All (LeadsWithin t j n) (get_or ls i [])
within-at t k n [] i j h e = All-nil (LeadsWithin t j n)
within-at t k n (l ∷ ls) zero j h e = subst (λ (q : ℕ). All (LeadsWithin t q n) l) (let q : k ≡ j = omega arith in q) h.0
within-at t k n (l ∷ ls) (suc i) j h e = within-at t (k + 1) n ls i j h.1 (omega arith)

pub steps_lead_within : StepsLeadWithin
steps_lead_within p t k low =
    let b = block (thread_of p t) in
    within-at t 1 (points p t) (steps t 1 (size b + 1) b) (k - 1) k (steps-within t 1 (size b + 1) (size b + 1) b (omega arith) (omega arith) (omega arith) (omega arith)) (omega arith)
