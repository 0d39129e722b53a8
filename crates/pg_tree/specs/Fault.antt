-- The first fault of the lines of a tree.
use Rattle.std.specs.Prelude.{ℕ, ◌-◌, nat_le, nat_lt, Bool, true, ◌&&◌, ◌||◌, if◌then◌else◌, Option, Some, None, List, [], ◌∷◌, length}
use Rattle.pg_region.specs.Literal.{Literal, same, negated}
use Rattle.pg_region.specs.Region.{clause_at}
use Rattle.pg_decider.specs.Assignment.{Assignment, on, added}
use Rattle.pg_decider.specs.Split.{free, first_free}
use Rattle.pg_derivation.specs.Derivation.{Node, split, leaf, TreeLine}
use Rattle.pg_tree.specs.declared.fault.TreeFault.{TreeFault}
use Rattle.pg_tree.specs.declared.fault.TreeFault.TheVariants.{TrailFull, BadLiteral, BadClause, NotUnit, NoConflict, EndsEarly, TooMuch}

-- each literal of a clause is false, and each but l
abbrev pub all_false : Assignment → List Literal → Bool
all_false s [] = true
all_false s (m ∷ c) = s (negated m) && all_false s c

abbrev pub others_false : Assignment → Literal → List Literal → Bool
others_false s l [] = true
others_false s l (m ∷ c) = (same m l || s (negated m)) && others_false s l c

-- the one literal of a clause without a value, where all others are false
abbrev pub alone : Assignment → List Literal → Option Literal → Option Literal
alone s c None = None
alone s c (Some l) = if others_false s l c then Some l else None

abbrev pub unit : Assignment → List Literal → Option Literal
unit s c = alone s c (first_free s c)

-- a clause has the number n
abbrev pub is_number : List (List Literal) → ℕ → Bool
is_number cs n = nat_le 1 n && nat_le n (length cs)

-- the fault of a clause that has to be a unit, or what its literal leads to
abbrev pub unit_fault : ℕ → ℕ → Option Literal → (Literal → Option TreeFault) → Option TreeFault
unit_fault line n None f = Some (NotUnit line n)
unit_fault line n (Some l) f = f l

-- a leaf, clause by clause
abbrev pub leaf_fault : List (List Literal) → ℕ → Assignment → List ℕ → Option TreeFault
leaf_fault cs line s [] = Some (NoConflict line)
leaf_fault cs line s (n ∷ []) =
    if is_number cs n then (if all_false s (clause_at cs (n - 1)) then None else Some (NoConflict line)) else Some (BadClause line n)
leaf_fault cs line s (n ∷ m ∷ ns) =
    if is_number cs n then unit_fault line n (unit s (clause_at cs (n - 1))) (λ l. leaf_fault cs line (added l s) (m ∷ ns)) else Some (BadClause line n)

-- a literal may be split at: its atom is one of n atoms, and has no value
abbrev pub may_split : ℕ → Assignment → Literal → Bool
may_split n s l = nat_le 1 l.atom && (nat_le l.atom n && free s l)

abbrev pub or_fault : Option TreeFault → Option TreeFault → Option TreeFault
or_fault None o = o
or_fault (Some f) o = Some f

abbrev pub on_node : Node → (Literal → Option TreeFault) → (List ℕ → Option TreeFault) → Option TreeFault
on_node (split l) f g = f l
on_node (leaf ns) f g = g ns

-- Lines, one by one. The sets are those of the nodes that are still to come, the next first, and the line before had the number
-- `last`.
abbrev pub lines_fault : ℕ → List (List Literal) → ℕ → List Assignment → List TreeLine → Option TreeFault
lines_fault n cs last [] [] = None
lines_fault n cs last [] (x ∷ xs) = Some (TooMuch x.number)
lines_fault n cs last (s ∷ more) [] = Some (EndsEarly last)
lines_fault n cs last (s ∷ more) (x ∷ xs) =
    on_node x.node
    (λ l. if may_split n s l then lines_fault n cs x.number (added l s ∷ added (negated l) s ∷ more) xs else Some (BadLiteral x.number))
    (λ ns. or_fault (leaf_fault cs x.number s ns) (lines_fault n cs x.number more xs))

-- the lines of a tree for clauses over n atoms, whose root has no literal
abbrev pub tree_fault : ℕ → List (List Literal) → List TreeLine → Option TreeFault
tree_fault n cs xs = lines_fault n cs 0 (on [] ∷ []) xs

-- the same with a trail for so many atoms
abbrev pub check_fault : ℕ → ℕ → List (List Literal) → List TreeLine → Option TreeFault
check_fault room n cs xs = if nat_lt room n then Some (TrailFull room) else tree_fault n cs xs
