-- The steps of a thread lead as the rule of the flow says, by induction on the nesting.
use Rattle.std.proofs.Common.{◌≡◌, ℕ, zero, suc, ◌+◌, ◌-◌, Bool, true, false, List, [], ◌∷◌, ◌++◌, length, get_or, ap, refl, sym, subst, ◌∙◌, length-append, arith}
use Rattle.std.specs.List.{All}
use Rattle.std.proofs.lemmas.List.Elements.{All-nil, All-cons}
use Rattle.pg_program.specs.declared.syntax.Stmt.{Stmt}
use Rattle.pg_program.specs.declared.point.Branch.{Branch}
use Rattle.pg_program.specs.declared.point.Branch.TheVariants.{Plain, Yes, No}
use Rattle.pg_program.specs.declared.point.Step.{Step}
use Rattle.pg_program.specs.Block as tree
use Rattle.pg_program.specs.Block.{Block, block}
use Rattle.pg_program.specs.Graph.{size, into, exit_of, own_steps, is_test, is_loop, steps}
use Rattle.pg_program.specs.Program.{thread_of}
use Rattle.pg_program.specs.Flow.{Pointed, done, node, bare, in_order, CountFrom, entry, Leads, statement, if_yes, while_yes, test_no, within_yes, within_body, within_no, later, StepsFlow}

-- ---- the points of a block, from point k on

abbrev with_points : ℕ → Block → Pointed
with_points k tree.done = done
with_points k (tree.node s a b rest) =
    node k s (with_points (k + 1) a) (with_points (k + 1 + size a) b) (with_points (k + 1 + size a + size b) rest)

bare_points : (k : ℕ) (b : Block) → bare (with_points k b) ≡ b
bare_points k tree.done = refl
bare_points k (tree.node s a b rest) =
    let x = bare_points (k + 1) a in
    let y = bare_points (k + 1 + size a) b in
    let z = bare_points (k + 1 + size a + size b) rest in
    cc

length-in_order : (k : ℕ) (b : Block) → length (in_order (with_points k b)) ≡ size b
length-in_order k tree.done = refl
length-in_order k (tree.node s a b rest) =
    let one = length-append (in_order (with_points (k + 1) a)) (in_order (with_points (k + 1 + size a) b) ++ in_order (with_points (k + 1 + size a + size b) rest)) in
    let two = length-append (in_order (with_points (k + 1 + size a) b)) (in_order (with_points (k + 1 + size a + size b) rest)) in
    let x = length-in_order (k + 1) a in
    let y = length-in_order (k + 1 + size a) b in
    let z = length-in_order (k + 1 + size a + size b) rest in
    omega arith

count-append : (k m : ℕ) (xs ys : List ℕ) → CountFrom k xs → k + length xs ≡ m → CountFrom m ys → CountFrom k (xs ++ ys)
count-append k m [] ys h e u = subst (λ (j : ℕ). CountFrom j ys) (let q : m ≡ k = omega arith in q) u
count-append k m (x ∷ xs) ys h e u = (h.0, count-append (k + 1) m xs ys h.1 (omega arith) u)

counted : (k : ℕ) (b : Block) → CountFrom k (in_order (with_points k b))
counted k tree.done = tt
counted k (tree.node s a b rest) =
    let x = length-in_order (k + 1) a in
    let y = length-in_order (k + 1 + size a) b in (
      refl,
      count-append (k + 1) (k + 1 + size a) (in_order (with_points (k + 1) a)) (in_order (with_points (k + 1 + size a) b) ++ in_order (with_points (k + 1 + size a + size b) rest))
          (counted (k + 1) a) (omega arith)
          (count-append (k + 1 + size a) (k + 1 + size a + size b) (in_order (with_points (k + 1 + size a) b)) (in_order (with_points (k + 1 + size a + size b) rest))
          (counted (k + 1 + size a) b) (omega arith) (counted (k + 1 + size a + size b) rest)),
    )

entry_is : (first exit : ℕ) (b : Block) → entry (with_points first b) exit ≡ into b first exit
entry_is first exit tree.done = refl
entry_is first exit (tree.node s a b rest) = refl

-- ---- the steps

-- each step of each list
abbrev Each : (Step → Type 0) → List (List Step) → Type 0
Each P [] = Unit {0}
Each P (l ∷ ls) = All P l × Each P ls

each-append : (P : Step → Type 0) (ls ms : List (List Step)) → Each P ls → Each P ms → Each P (ls ++ ms)
each-append P [] ms h k = k
each-append P (l ∷ ls) ms h k = (h.0, each-append P ls ms h.1 k)

each-weaker : (P Q : Step → Type 0) → ((s : Step) → P s → Q s) → (ls : List (List Step)) → Each P ls → Each Q ls
each-weaker P Q w [] h = tt
each-weaker P Q w (l ∷ ls) h = (λ k d lt. w (get_or l k d) (h.0 k d lt), each-weaker P Q w ls h.1)

each-at : (P : Step → Type 0) (ls : List (List Step)) (i : ℕ) → Each P ls → All P (get_or ls i [])
each-at P [] i h = All-nil P
each-at P (l ∷ ls) zero h = h.0
each-at P (l ∷ ls) (suc i) h = each-at P ls i h.1

-- as the rule says, in this block
abbrev AsSaid : Pointed → ℕ → Step → Type 0
AsSaid b end s = Leads b end s.branch s.point s.target

own_as_said : (t k end first second next : ℕ) (s : Stmt) (a b rest : Pointed) (test loop : Bool) → is_test s ≡ test → is_loop s ≡ loop
    → first ≡ entry a (exit_of loop k (entry rest end)) → second ≡ entry b (entry rest end) → next ≡ entry rest end
    → All (AsSaid (node k s a b rest) end) (own_steps test t k first second next)
own_as_said t k end first second next s a b rest false loop is of f g h =
    let P = AsSaid (node k s a b rest) end in
    let y : Step = record { thread = t; point = k; branch = Plain; target = next } in
    All-cons P y [] (subst (λ (x : ℕ). Leads (node k s a b rest) end Plain k x) (sym h) (statement k end s a b rest is)) (All-nil P)
own_as_said t k end first second next s a b rest true false is of f g h =
    let P = AsSaid (node k s a b rest) end in
    let y : Step = record { thread = t; point = k; branch = Yes; target = first } in
    let z : Step = record { thread = t; point = k; branch = No; target = second } in
    All-cons P y (z ∷ []) (subst (λ (x : ℕ). Leads (node k s a b rest) end Yes k x) (sym f) (if_yes k end s a b rest is of))
    (All-cons P z [] (subst (λ (x : ℕ). Leads (node k s a b rest) end No k x) (sym g) (test_no k end s a b rest is)) (All-nil P))
own_as_said t k end first second next s a b rest true true is of f g h =
    let P = AsSaid (node k s a b rest) end in
    let y : Step = record { thread = t; point = k; branch = Yes; target = first } in
    let z : Step = record { thread = t; point = k; branch = No; target = second } in
    All-cons P y (z ∷ []) (subst (λ (x : ℕ). Leads (node k s a b rest) end Yes k x) (sym f) (while_yes k end s a b rest is of))
    (All-cons P z [] (subst (λ (x : ℕ). Leads (node k s a b rest) end No k x) (sym g) (test_no k end s a b rest is)) (All-nil P))

-- within the first block, whose end leads back to a loop or on
within_first : (k end : ℕ) (s : Stmt) (a b rest : Pointed) (branch : Branch) (from to : ℕ) (loop : Bool) → is_loop s ≡ loop
    → Leads a (exit_of loop k (entry rest end)) branch from to → Leads (node k s a b rest) end branch from to
within_first k end s a b rest branch from to true is h = within_body k end s a b rest branch from to is h
within_first k end s a b rest branch from to false is h = within_yes k end s a b rest branch from to is h

as_said : (t first exit : ℕ) (b : Block) → Each (AsSaid (with_points first b) exit) (steps t first exit b)
as_said t first exit tree.done = tt
as_said t first exit (tree.node s a b rest) =
    let second = first + 1 + size a in
    let third = second + size b in
    let next = into rest third exit in
    let back = exit_of (is_loop s) first next in
    let A = with_points (first + 1) a in
    let B = with_points second b in
    let R = with_points third rest in
    let P : Step → Type 0 = AsSaid (node first s A B R) exit in
    let e : entry R exit ≡ next = entry_is third exit rest in
    let back_is : exit_of (is_loop s) first (entry R exit) ≡ back = ap (exit_of (is_loop s) first) e in (
      own_as_said t first exit (into a (first + 1) back) (into b second next) next s A B R (is_test s) (is_loop s) refl refl
          (sym (ap (entry A) back_is ∙ entry_is (first + 1) back a)) (sym (ap (entry B) e ∙ entry_is second next b)) (sym e),
      each-append P (steps t (first + 1) back a) (steps t second next b ++ steps t third exit rest)
          (each-weaker (AsSaid A back) P (λ x h. within_first first exit s A B R x.branch x.point x.target (is_loop s) refl
          (subst (λ (n : ℕ). Leads A n x.branch x.point x.target) (sym back_is) h)) (steps t (first + 1) back a) (as_said t (first + 1) back a))
          (each-append P (steps t second next b) (steps t third exit rest)
          (each-weaker (AsSaid B next) P (λ x h. within_no first exit s A B R x.branch x.point x.target
          (subst (λ (n : ℕ). Leads B n x.branch x.point x.target) (sym e) h)) (steps t second next b) (as_said t second next b))
          (each-weaker (AsSaid R exit) P (λ x h. later first exit s A B R x.branch x.point x.target h) (steps t third exit rest) (as_said t third exit rest))),
    )

pub steps_flow : StepsFlow
steps_flow p t =
    let b = block (thread_of p t) in record {
      pointed = with_points 1 b;
      bare_is = bare_points 1 b;
      counted = counted 1 b;
      leads = λ k. each-at (AsSaid (with_points 1 b) (size b + 1)) (steps t 1 (size b + 1) b) (k - 1) (as_said t 1 (size b + 1) b);
    }
