-- The line of a verified derivation: how many trees are valid; or the first tree that is not, with the line of its fault; or the first
-- obligation without a tree, or the first tree without an obligation.
use Rattle.std.specs.Prelude.{ℕ, List, [], ◌++◌, codes, decimal, Option, Some, None, Result, Ok, Err}
use Rattle.pg_tree.specs.declared.fault.TreeFault.{TreeFault}
use Rattle.pg_tree.specs.declared.fault.TreeFault.TheVariants.{TrailFull, BadLiteral, BadClause, NotUnit, NoConflict, EndsEarly, TooMuch}
use Rattle.pg_derive.specs.declared.fault.VerifyFault.{VerifyFault}
use Rattle.pg_derive.specs.declared.fault.VerifyFault.TheVariants.{Tree, Missing, Extra, NoMemory}

-- a label and a number, on a line of their own
abbrev pub numbered_line : List ℕ → ℕ → List ℕ
numbered_line label n = label ++ (decimal n ++ codes "\n")

-- the line that a fault is on, and what it is called; want of room has no text
abbrev pub tree_fault : TreeFault → Option (ℕ × List ℕ)
tree_fault (TrailFull n) = None
tree_fault (BadLiteral line) = Some (line, codes "bad literal")
tree_fault (BadClause line n) = Some (line, codes "bad clause " ++ decimal n)
tree_fault (NotUnit line n) = Some (line, codes "not unit " ++ decimal n)
tree_fault (NoConflict line) = Some (line, codes "no conflict")
tree_fault (EndsEarly line) = Some (line, codes "ends early")
tree_fault (TooMuch line) = Some (line, codes "too much")

-- a fault on a line
abbrev pub on_line : ℕ × List ℕ → List ℕ
on_line fault = codes "line " ++ (decimal fault.0 ++ (codes " " ++ (fault.1 ++ codes "\n")))

-- tree i is refused
abbrev pub tree_line : ℕ → Option (ℕ × List ℕ) → List ℕ
tree_line i (Some fault) = codes "refused " ++ (decimal i ++ (codes " " ++ on_line fault))
tree_line i None = []

-- want of memory has no line
abbrev pub verified_line : Result ℕ VerifyFault → List ℕ
verified_line (Ok n) = numbered_line (codes "verified ") n
verified_line (Err (Tree i fault)) = tree_line i (tree_fault fault)
verified_line (Err (Missing i)) = numbered_line (codes "missing ") i
verified_line (Err (Extra i)) = numbered_line (codes "extra ") i
verified_line (Err NoMemory) = []
