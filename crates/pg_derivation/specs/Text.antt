-- The one spelling of a derivation: a header, for each obligation its line and the lines of its tree, and a last line.
use Rattle.std.specs.Prelude.{ℕ, ◌+◌, Bool, true, false, List, [], ◌∷◌, ◌++◌, codes, decimal}
use Rattle.pg_region.specs.Literal.{Literal}
use Rattle.pg_derivation.specs.Derivation.{Node, split, leaf}

-- ---- the lines, each with its newline

abbrev pub header_text : List ℕ
header_text = codes "derivation 1\n"

abbrev pub obligation_text : ℕ → List ℕ
obligation_text i = codes "obligation " ++ (decimal i ++ codes "\n")

-- `-` in front of what is meant to be false
abbrev pub sign_text : Bool → List ℕ
sign_text true = []
sign_text false = codes "-"

abbrev pub literal_text : Literal → List ℕ
literal_text l = sign_text l.positive ++ decimal l.atom

abbrev pub split_text : Literal → List ℕ
split_text l = codes "split " ++ (literal_text l ++ codes "\n")

-- each number with the blank in front of it
abbrev pub numbers_text : List ℕ → List ℕ
numbers_text [] = []
numbers_text (n ∷ ns) = codes " " ++ (decimal n ++ numbers_text ns)

abbrev pub leaf_text : List ℕ → List ℕ
leaf_text ns = codes "leaf" ++ (numbers_text ns ++ codes "\n")

abbrev pub end_text : List ℕ
end_text = codes "end\n"

-- ---- trees

abbrev pub node_text : Node → List ℕ
node_text (split l) = split_text l
node_text (leaf ns) = leaf_text ns

abbrev pub nodes_text : List Node → List ℕ
nodes_text [] = []
nodes_text (node ∷ nodes) = node_text node ++ nodes_text nodes

-- the trees from the obligation with this number on
abbrev pub trees_text : ℕ → List (List Node) → List ℕ
trees_text i [] = []
trees_text i (nodes ∷ trees) = obligation_text i ++ (nodes_text nodes ++ trees_text (i + 1) trees)

abbrev pub text_of : List (List Node) → List ℕ
text_of trees = header_text ++ (trees_text 1 trees ++ end_text)
