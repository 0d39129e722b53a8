-- A derivation: for each obligation a tree, as the nodes that its lines say, in preorder.
use Rattle.std.specs.Prelude.{◌≡◌, ℕ, ◌+◌, ◌-◌, ◌^◌, ◌<◌, ◌≤◌, ◌⊎◌, Bool, List, [], ◌∷◌, length, map, slice_index_or, refl}
use Rattle.std.specs.List.{AllByRecursion}
use Rattle.std.specs.Coded.{Coded, code_by, coded×, coded⊎, coded_ℕ, coded_bool, coded_list}
use Rattle.std.proofs.Common.{inl, inr}
use Rattle.pg_region.specs.Literal.{Literal}

-- what a line of a tree says: a split at a literal, or a leaf with the numbers of its clauses
pub data Node : Type 0 where
  split : Literal → Node
  leaf : List ℕ → Node

-- a line of a tree: its number in the file, from 1 on, and its node
pub record TreeLine : Type 0 where
  pub number : ℕ
  pub node : Node

abbrev pub TreeTable : Type 0
TreeTable = List TreeLine

abbrev pub DerivationTable : Type 0
DerivationTable = List TreeTable

-- the tree with a number, and the line with a number among those of a tree, both from 1 on
abbrev pub tree_at : DerivationTable → ℕ → TreeTable
tree_at d i = slice_index_or d (i - 1) []

abbrev pub no_line : TreeLine
no_line = record { number = 0; node = leaf [] }

abbrev pub line_at : TreeTable → ℕ → TreeLine
line_at t k = slice_index_or t (k - 1) no_line

-- ---- what every derivation meets

-- the numbers of atoms and of clauses that a text can say
abbrev pub IsNumber : ℕ → Type 0
IsNumber n = (1 ≤ n) × (n < 2 ^ 31)

-- a leaf has a clause at least
abbrev pub IsNode : Node → Type 0
IsNode (split l) = IsNumber l.atom
IsNode (leaf ns) = (1 ≤ length ns) × AllByRecursion IsNumber ns

-- a tree has a line at least
abbrev pub AreNodes : List Node → Type 0
AreNodes nodes = (1 ≤ length nodes) × AllByRecursion IsNode nodes

abbrev pub AreTrees : List (List Node) → Type 0
AreTrees trees = (length trees < 2 ^ 31) × AllByRecursion AreNodes trees

abbrev pub nodes_of : TreeTable → List Node
nodes_of t = map (λ l. l.node) t

abbrev pub trees_of : DerivationTable → List (List Node)
trees_of d = map nodes_of d

abbrev pub IsTree : TreeTable → Type 0
IsTree t = AreNodes (nodes_of t)

-- ---- the numbers of lines

-- nodes one line after the other, the first on the line with this number
abbrev pub lines_from : ℕ → List Node → TreeTable
lines_from n [] = []
lines_from n (node ∷ nodes) = record { number = n; node = node } ∷ lines_from (n + 1) nodes

-- trees behind the line with this number: in front of the nodes of each there is one line more
abbrev pub trees_behind : ℕ → List (List Node) → DerivationTable
trees_behind n [] = []
trees_behind n (nodes ∷ trees) = lines_from (n + 2) nodes ∷ trees_behind (n + 1 + length nodes) trees

-- the trees of a file, whose first line is its header
abbrev pub numbered : List (List Node) → DerivationTable
numbered trees = trees_behind 1 trees

-- a derivation has such trees, and its lines are numbered so
abbrev pub IsDerivation : DerivationTable → Type 0
IsDerivation d = AreTrees (trees_of d) × (d ≡ numbered (trees_of d))

-- ---- how values are told apart

abbrev pub node_parts : Node → Literal ⊎ List ℕ
node_parts (split l) = inl l
node_parts (leaf ns) = inr ns

abbrev pub node_from : Literal ⊎ List ℕ → Node
node_from (inl l) = split l
node_from (inr ns) = leaf ns

pub node_again : (n : Node) → node_from (node_parts n) ≡ n
node_again (split l) = refl
node_again (leaf ns) = refl

abbrev pub coded_literal : Coded Literal
coded_literal = code_by (ℕ × Bool) (coded× coded_ℕ coded_bool) (λ l. (l.atom, l.positive)) (λ p. record { atom = p.0; positive = p.1 }) (λ _. refl)

abbrev pub coded_node : Coded Node
coded_node = code_by (Literal ⊎ List ℕ) (coded⊎ coded_literal (coded_list coded_ℕ)) node_parts node_from node_again

abbrev pub coded_line : Coded TreeLine
coded_line = code_by (ℕ × Node) (coded× coded_ℕ coded_node) (λ l. (l.number, l.node)) (λ p. record { number = p.0; node = p.1 }) (λ _. refl)

abbrev pub coded_tree : Coded TreeTable
coded_tree = coded_list coded_line

abbrev pub coded_derivation : Coded DerivationTable
coded_derivation = coded_list coded_tree
