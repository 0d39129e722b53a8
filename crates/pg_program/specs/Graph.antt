-- The graph of a thread: its points, one before each statement in the order of the text and one at the end, and the
-- steps from each point.
use Rattle.std.specs.Prelude.{ℕ, ◌+◌, Bool, true, false, if◌then◌else◌, List, [], ◌∷◌, ◌++◌, Option, Some, None}
use Rattle.pg_program.specs.declared.syntax.Stmt.{Stmt, out-Stmt}
use Rattle.pg_program.specs.declared.syntax.Act.{out-Act}
use Rattle.pg_program.specs.declared.syntax.Act.TheOpen.{Act-F, If, While}
use Rattle.pg_program.specs.declared.point.Branch.{Branch}
use Rattle.pg_program.specs.declared.point.Branch.TheVariants.{Plain, Yes, No}
use Rattle.pg_program.specs.declared.point.Step.{Step}
use Rattle.pg_program.specs.Block.{Block, done, node, block}

-- the number of statements of a block, with those of the blocks within it
abbrev pub size : Block → ℕ
size done = 0
size (node s a b rest) = 1 + (size a + (size b + size rest))

-- these statements in the order of the text
abbrev pub statements : Block → List Stmt
statements done = []
statements (node s a b rest) = s ∷ (statements a ++ (statements b ++ statements rest))

-- `if` and `while` are tests, and a `while` is a loop
abbrev pub is_test_in : {A S : Type 0} → Act-F A S → Bool
is_test_in (If test a b) = true
is_test_in (While test a) = true
is_test_in _ = false

abbrev pub is_loop_in : {A S : Type 0} → Act-F A S → Bool
is_loop_in (While test a) = true
is_loop_in _ = false

abbrev pub is_test : Stmt → Bool
is_test s = is_test_in (out-Act (out-Stmt s).act)

abbrev pub is_loop : Stmt → Bool
is_loop s = is_loop_in (out-Act (out-Stmt s).act)

-- where control goes that comes to a block: to its first point, or, where it is empty, to where it would end
abbrev pub into : Block → ℕ → ℕ → ℕ
into done first exit = exit
into (node s a b rest) first exit = first

-- the steps from point k of thread t: of a test to the blocks within it, and of another statement to what follows it
abbrev pub own_steps : Bool → ℕ → ℕ → ℕ → ℕ → ℕ → List Step
own_steps true t k first second next =
    record { thread = t; point = k; branch = Yes; target = first } ∷ record { thread = t; point = k; branch = No; target = second } ∷ []
own_steps false t k first second next = record { thread = t; point = k; branch = Plain; target = next } ∷ []

-- where a first block ends, control goes back to its loop, or on to what follows its `if`
abbrev pub exit_of : Bool → ℕ → ℕ → ℕ
exit_of true k next = k
exit_of false k next = next

-- The steps from each point of a block of thread t, in the order of the points. The block begins at point `first`, and
-- where it ends control goes to point `exit`. The first block within a statement begins after the statement, the second
-- one after the first, and the rest of the block after both.
abbrev pub steps : ℕ → ℕ → ℕ → Block → List (List Step)
steps t first exit done = []
steps t first exit (node s a b rest) =
    let second = first + 1 + size a in
    let later = second + size b in
    let next = into rest later exit in
    let back = exit_of (is_loop s) first next in
    own_steps (is_test s) t first (into a (first + 1) back) (into b second next) next
    ∷ (steps t (first + 1) back a ++ (steps t second next b ++ steps t later exit rest))

-- a thread's points are numbered from 1, and where its text ends control is at its last point
abbrev pub thread_steps : ℕ → List Stmt → List (List Step)
thread_steps t ss = steps t 1 (size (block ss) + 1) (block ss)

-- the branches that a point has: none at the end, one at a statement, and yes and no at a test
abbrev pub branches : Option Stmt → List Branch
branches None = []
branches (Some s) = if is_test s then Yes ∷ No ∷ [] else Plain ∷ []

-- the steps of each thread, from thread t on
abbrev pub graphs : ℕ → List (List Stmt) → List (List (List Step))
graphs t [] = []
graphs t (ss ∷ threads) = thread_steps t ss ∷ graphs (t + 1) threads

-- whether two branches are the same
abbrev pub is_branch : Branch → Branch → Bool
is_branch Plain Plain = true
is_branch Yes Yes = true
is_branch No No = true
is_branch b c = false

-- the step of a branch, if there is one
abbrev pub step_of : Branch → List Step → Option Step
step_of b [] = None
step_of b (s ∷ ss) = if is_branch b s.branch then Some s else step_of b ss
