-- What a derivation keeps of its trees: the numbers of all leaves one after the other, the nodes, and where each tree ends.
use Rattle.std.specs.Prelude.{◌≡◌, ℕ, ◌+◌, ◌<◌, ◌≤◌, ◌^◌, List, [], ◌∷◌, length, map, slice_range}
use Rattle.std.specs.List.{AllByRecursion}
use Rattle.pg_derivation.specs.declared.kept.Kept.{Kept}
use Rattle.pg_derivation.specs.declared.kept.Kept.TheVariants as kept
use Rattle.pg_region.specs.Pieces.{pieces}
use Rattle.pg_derivation.specs.Derivation.{Node, split, leaf, IsNumber, TreeTable, DerivationTable, lines_from, numbered}

-- a node, whose numbers stand among these
abbrev pub node_in : List ℕ → Kept → Node
node_in numbers (kept.Split l) = split l
node_in numbers (kept.Leaf from to) = leaf (slice_range numbers from to)

abbrev pub nodes_in : List ℕ → List Kept → List Node
nodes_in numbers ks = map (node_in numbers) ks

abbrev pub IsWithin : List ℕ → Kept → Type 0
IsWithin numbers (kept.Split l) = IsNumber l.atom
IsWithin numbers (kept.Leaf from to) = (from < to) × (to ≤ length numbers)

pub record IsKept (numbers : List ℕ) (ks : List Kept) : Type 0 where
  pub each_number : AllByRecursion IsNumber numbers
  pub each_node : AllByRecursion (IsWithin numbers) ks

-- ---- trees

-- a tree whose first node stands on the line with this number
abbrev pub tree_in : List ℕ → List Kept → ℕ → TreeTable
tree_in numbers ks first = lines_from first (nodes_in numbers ks)

pub record IsInTree (numbers : List ℕ) (ks : List Kept) (first : ℕ) : Type 0 where
  pub kept : IsKept numbers ks
  pub some : 1 ≤ length ks
  pub few : first + length ks < 2 ^ 32

-- trees that end at these places of the nodes
abbrev pub derivation_in : List ℕ → List Kept → List ℕ → DerivationTable
derivation_in numbers ks ends = numbered (pieces (nodes_in numbers ks) 0 ends)

-- places that rise from `from` to n, each by 1 at least
abbrev pub Rise : ℕ → List ℕ → ℕ → Type 0
Rise from [] n = from ≡ n
Rise from (e ∷ es) n = (from < e) × Rise e es n

pub record IsInDerivation (numbers : List ℕ) (ks : List Kept) (ends : List ℕ) : Type 0 where
  pub kept : IsKept numbers ks
  pub ends_rise : Rise 0 ends (length ks)
  pub few_lines : length ks + length ends + 2 < 2 ^ 32
  pub few_trees : length ends < 2 ^ 31
