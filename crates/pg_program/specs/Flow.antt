-- Where the steps of a thread lead, as a rule over its points. A statement leads to the next point of its block. At a block's
-- end control goes to the point after the `if`, or back to the point of the `while`. An empty branch leads to where its
-- block would end, and an empty loop to itself.
use Rattle.std.specs.Prelude.{◌≡◌, ℕ, ◌+◌, true, false, List, [], ◌∷◌, ◌++◌, All}
use Rattle.pg_program.specs.declared.syntax.Stmt.{Stmt}
use Rattle.pg_program.specs.declared.point.Branch.{Branch}
use Rattle.pg_program.specs.declared.point.Branch.TheVariants.{Plain, Yes, No}
use Rattle.pg_program.specs.Block as tree
use Rattle.pg_program.specs.Block.{Block}
use Rattle.pg_program.specs.Graph.{is_test, is_loop}
use Rattle.pg_program.specs.Program.{ProgramTable, thread_of, points, steps_at}

-- a block with the point before each of its statements
pub data Pointed : Type 0 where
  done : Pointed
  node : ℕ → Stmt → Pointed → Pointed → Pointed → Pointed

-- the block without its points
abbrev pub bare : Pointed → Block
bare done = tree.done
bare (node k s a b rest) = tree.node s (bare a) (bare b) (bare rest)

-- the points in the order of the text
abbrev pub in_order : Pointed → List ℕ
in_order done = []
in_order (node k s a b rest) = k ∷ (in_order a ++ (in_order b ++ in_order rest))

-- these numbers count up from k
abbrev pub CountFrom : ℕ → List ℕ → Type 0
CountFrom k [] = Unit {0}
CountFrom k (n ∷ ns) = (n ≡ k) × CountFrom (k + 1) ns

-- where control goes that comes to a block whose end leads to point `end`: to its first point, or else to its end
abbrev pub entry : Pointed → ℕ → ℕ
entry done end = end
entry (node k s a b rest) end = k

-- In a block whose end leads to point `end`, a step of this branch leads from the one point to the other.
pub data Leads : Pointed → ℕ → Branch → ℕ → ℕ → Type 0 where
  -- a statement that is no test leads to the next point of its block
  statement : (k end : ℕ) (s : Stmt) (a b rest : Pointed) → is_test s ≡ false → Leads (node k s a b rest) end Plain k (entry rest end)
  -- an `if` leads into its yes block, whose end leads to the point after the `if`
  if_yes : (k end : ℕ) (s : Stmt) (a b rest : Pointed) → is_test s ≡ true → is_loop s ≡ false → Leads (node k s a b rest) end Yes k (entry a (entry rest end))
  -- a `while` leads into its body, whose end leads back to the `while`
  while_yes : (k end : ℕ) (s : Stmt) (a b rest : Pointed) → is_test s ≡ true → is_loop s ≡ true → Leads (node k s a b rest) end Yes k (entry a k)
  -- an `if` that fails leads into its no block, and a `while` that fails, whose second block is empty, to the point after it
  test_no : (k end : ℕ) (s : Stmt) (a b rest : Pointed) → is_test s ≡ true → Leads (node k s a b rest) end No k (entry b (entry rest end))
  -- so it is within the blocks of an `if`, within the body of a `while`, and in the rest of the block
  within_yes : (k end : ℕ) (s : Stmt) (a b rest : Pointed) (branch : Branch) (from to : ℕ) → is_loop s ≡ false
      → Leads a (entry rest end) branch from to → Leads (node k s a b rest) end branch from to
  within_body : (k end : ℕ) (s : Stmt) (a b rest : Pointed) (branch : Branch) (from to : ℕ) → is_loop s ≡ true
      → Leads a k branch from to → Leads (node k s a b rest) end branch from to
  within_no : (k end : ℕ) (s : Stmt) (a b rest : Pointed) (branch : Branch) (from to : ℕ)
      → Leads b (entry rest end) branch from to → Leads (node k s a b rest) end branch from to
  later : (k end : ℕ) (s : Stmt) (a b rest : Pointed) (branch : Branch) (from to : ℕ)
      → Leads rest end branch from to → Leads (node k s a b rest) end branch from to

-- The points of a thread count up from 1 in the order of the text, the end of its block leads to its last point, and each
-- step leads as the rule says.
pub record Flows (p : ProgramTable) (t : ℕ) : Type 0 where
  pub pointed : Pointed
  pub bare_is : bare pointed ≡ tree.block (thread_of p t)
  pub counted : CountFrom 1 (in_order pointed)
  pub leads : (k : ℕ) → All (λ s. Leads pointed (points p t) s.branch s.point s.target) (steps_at p t k)

abbrev pub StepsFlow : Type 0
StepsFlow = (p : ProgramTable) (t : ℕ) → Flows p t
