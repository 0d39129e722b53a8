-- What is kept from line to line.
use Rattle.std.specs.Prelude.{◌≡◌, ℕ, Bool, true, List}
use Rattle.pg_region.specs.Literal.{Literal}
use Rattle.pg_derivation.specs.Derivation.{TreeLine}
use Rattle.pg_tree.specs.Fault.{lines_fault, tree_fault}
use Rattle.pg_tree.specs.Path.{AreMarks, to_come}

-- the first fault of all lines is that of the lines that are left, and marks stand on the path while the tree is open
pub record Checking (n : ℕ) (cs : List (List Literal)) (xs : List TreeLine) (ls : List Literal) (ms : List ℕ) (is_open : Bool) (last : ℕ) (rest : List TreeLine) : Type 0 where
  pub marks : is_open ≡ true → AreMarks ls ms
  pub is : tree_fault n cs xs ≡ lines_fault n cs last (to_come is_open ls ms) rest
