-- What stands in a statement, as lists in the order of the text: the scalars, the numbers and the locations.
use Rattle.std.specs.Prelude.{ℕ, ◌==◌, Bool, nat_lt, if◌then◌else◌, List, [], ◌∷◌, ◌++◌, length, map, Option, Some, None}
use Rattle.std.specs.List.{list_any}
use Rattle.pg_program.specs.declared.syntax.AuxAssign.{AuxAssign}
use Rattle.pg_program.specs.declared.syntax.Stmt.{Stmt, out-Stmt}
use Rattle.pg_program.specs.declared.syntax.Act.{Act, out-Act}
use Rattle.pg_program.specs.declared.syntax.Act.TheOpen.{Act-F, Assign, Store, Load, Cas, Flush, Flushopt, If, While}
use Rattle.pg_program.specs.Limits.{most_names}
use Rattle.pg_program.specs.Expr.{reads, numbers}

-- the scalars outside its bracket: the one that it writes, and those that its expressions read
abbrev pub outside_in : Act-F Act Stmt → List ℕ
outside_in (Assign r e) = r ∷ reads e
outside_in (Store x e) = reads e
outside_in (Load r x) = r ∷ []
outside_in (Cas r x e d) = r ∷ (reads e ++ reads d)
outside_in (If test a b) = reads test.left ++ reads test.right
outside_in (While test a) = reads test.left ++ reads test.right
outside_in _ = []

abbrev pub outside : Stmt → List ℕ
outside s = outside_in (out-Act (out-Stmt s).act)

-- the scalars of a bracket
abbrev pub bracket_scalars : List AuxAssign → List ℕ
bracket_scalars [] = []
bracket_scalars (a ∷ rest) = a.target ∷ (reads a.expr ++ bracket_scalars rest)

abbrev pub scalars_of : Stmt → List ℕ
scalars_of s = outside s ++ bracket_scalars (out-Stmt s).aux

-- the targets of its bracket
abbrev pub targets : Stmt → List ℕ
targets s = map (λ a. a.target) (out-Stmt s).aux

-- the numbers of its expressions, those of the bracket last
abbrev pub numbers_in : Act-F Act Stmt → List ℕ
numbers_in (Assign r e) = numbers e
numbers_in (Store x e) = numbers e
numbers_in (Cas r x e d) = numbers e ++ numbers d
numbers_in (If test a b) = numbers test.left ++ numbers test.right
numbers_in (While test a) = numbers test.left ++ numbers test.right
numbers_in _ = []

abbrev pub bracket_numbers : List AuxAssign → List ℕ
bracket_numbers [] = []
bracket_numbers (a ∷ rest) = numbers a.expr ++ bracket_numbers rest

abbrev pub numbers_of : Stmt → List ℕ
numbers_of s = numbers_in (out-Act (out-Stmt s).act) ++ bracket_numbers (out-Stmt s).aux

-- the names that are counted together: those of both sides of a test, and those of each other expression
abbrev pub groups_in : Act-F Act Stmt → List (List ℕ)
groups_in (Assign r e) = reads e ∷ []
groups_in (Store x e) = reads e ∷ []
groups_in (Cas r x e d) = reads e ∷ reads d ∷ []
groups_in (If test a b) = (reads test.left ++ reads test.right) ∷ []
groups_in (While test a) = (reads test.left ++ reads test.right) ∷ []
groups_in _ = []

abbrev pub groups : Stmt → List (List ℕ)
groups s = groups_in (out-Act (out-Stmt s).act) ++ map (λ a. reads a.expr) (out-Stmt s).aux

-- its locations
abbrev pub locations_in : Act-F Act Stmt → List ℕ
locations_in (Store x e) = x ∷ []
locations_in (Load r x) = x ∷ []
locations_in (Cas r x e d) = x ∷ []
locations_in (Flush x) = x ∷ []
locations_in (Flushopt x) = x ∷ []
locations_in _ = []

abbrev pub locations_of : Stmt → List ℕ
locations_of s = locations_in (out-Act (out-Stmt s).act)

-- ---- numbers in lists

-- whether a number is one of a list
abbrev pub is_in : ℕ → List ℕ → Bool
is_in r rs = list_any (λ q. q == r) rs

-- the first number of a list that stands among those before it
abbrev pub repeated : List ℕ → List ℕ → Option ℕ
repeated before [] = None
repeated before (r ∷ rs) = if is_in r before then Some r else repeated (before ++ r ∷ []) rs

-- the different numbers of a list, each where it stands last
abbrev pub different : List ℕ → List ℕ
different [] = []
different (r ∷ rs) = if is_in r rs then different rs else r ∷ different rs

-- more different names than may stand together
abbrev pub is_wide : List ℕ → Bool
is_wide rs = nat_lt most_names (length (different rs))
