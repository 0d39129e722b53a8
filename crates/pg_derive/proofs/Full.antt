-- Lines of a tree are never refused for want of room on the trail.
use Rattle.std.proofs.Common.{◌≡◌, ℕ, ◌-◌, Bool, true, false, cond, Option, Some, None, List, [], ◌∷◌, refl, sym, subst}
use Rattle.std.specs.Prelude.{Result, Ok, Err}
use Rattle.std.specs.Result.{IsErrAnd}
use Rattle.pg_region.specs.Literal.{Literal, negated}
use Rattle.pg_region.specs.Region.{clause_at}
use Rattle.pg_decider.specs.Assignment.{Assignment, on, added}
use Rattle.pg_derivation.specs.Derivation.{Node, split, leaf, TreeLine, TreeTable, DerivationTable, tree_at}
use Rattle.pg_tree.specs.Fault.{all_false, unit, is_number, unit_fault, leaf_fault, may_split, or_fault, on_node, lines_fault, tree_fault}
use Rattle.pg_tree.specs.declared.fault.TreeFault.{TreeFault}
use Rattle.pg_tree.specs.declared.fault.TreeFault.TheVariants.{TrailFull, BadLiteral, BadClause, NoConflict}
use Rattle.pg_outline.specs.Outline.{OutlineTable}
use Rattle.pg_layers.specs.Clauses.{obligation, obligation_clauses, obligation_atoms}
use Rattle.pg_derive.specs.declared.fault.VerifyFault.{VerifyFault}
use Rattle.pg_derive.specs.declared.fault.VerifyFault.TheVariants.{Tree, Missing, Extra, NoMemory}
use Rattle.pg_derive.specs.Verified.{fault_for, IsAnswer, IsNeverFull, AreChecked}
use Rattle.pg_derive.proofs.Desks.{checked-answer}

-- no fault, or one of the lines
abbrev IsOfLines : Option TreeFault → Type 0
IsOfLines None = Unit {0}
IsOfLines (Some (TrailFull room)) = ⊥
IsOfLines (Some f) = Unit {0}

by-test : (b : Bool) (f g : Option TreeFault) → IsOfLines f → IsOfLines g → IsOfLines (cond b f g)
by-test true f g h k = h
by-test false f g h k = k

both-of-lines : (f g : Option TreeFault) → IsOfLines f → IsOfLines g → IsOfLines (or_fault f g)
both-of-lines None g h k = k
both-of-lines (Some f) g h k = h

unit-of-lines : (line n : ℕ) (l : Option Literal) (f : Literal → Option TreeFault) → ((m : Literal) → IsOfLines (f m)) → IsOfLines (unit_fault line n l f)
unit-of-lines line n None f h = tt
unit-of-lines line n (Some l) f h = h l

leaf-of-lines : (cs : List (List Literal)) (line : ℕ) (s : Assignment) (ns : List ℕ) → IsOfLines (leaf_fault cs line s ns)
leaf-of-lines cs line s [] = tt
leaf-of-lines cs line s (n ∷ []) = by-test (is_number cs n) _ (Some (BadClause line n)) (by-test (all_false s (clause_at cs (n - 1))) None (Some (NoConflict line)) tt tt) tt
leaf-of-lines cs line s (n ∷ m ∷ ns) =
    let rest = λ (l : Literal). leaf_fault cs line (added l s) (m ∷ ns) in
    by-test (is_number cs n) (unit_fault line n (unit s (clause_at cs (n - 1))) rest) (Some (BadClause line n))
    (unit-of-lines line n (unit s (clause_at cs (n - 1))) rest (λ l. leaf-of-lines cs line (added l s) (m ∷ ns))) tt

node-of-lines : (node : Node) (f : Literal → Option TreeFault) (g : List ℕ → Option TreeFault) → ((l : Literal) → IsOfLines (f l)) → ((ns : List ℕ) → IsOfLines (g ns)) → IsOfLines (on_node node f g)
node-of-lines (split l) f g h k = h l
node-of-lines (leaf ns) f g h k = k ns

all-of-lines : (n : ℕ) (cs : List (List Literal)) (last : ℕ) (sets : List Assignment) (xs : List TreeLine) → IsOfLines (lines_fault n cs last sets xs)
all-of-lines n cs last [] [] = tt
all-of-lines n cs last [] (x ∷ xs) = tt
all-of-lines n cs last (s ∷ more) [] = tt
all-of-lines n cs last (s ∷ more) (x ∷ xs) =
    node-of-lines x.node _ _
    (λ l. by-test (may_split n s l) (lines_fault n cs x.number (added l s ∷ added (negated l) s ∷ more) xs) (Some (BadLiteral x.number))
    (all-of-lines n cs x.number (added l s ∷ added (negated l) s ∷ more) xs) tt)
    (λ ns. both-of-lines (leaf_fault cs x.number s ns) (lines_fault n cs x.number more xs) (leaf-of-lines cs x.number s ns) (all-of-lines n cs x.number more xs))

tree-not-full : (n : ℕ) (cs : List (List Literal)) (xs : TreeTable) (room : ℕ) → tree_fault n cs xs ≡ Some (TrailFull room) → ⊥
tree-not-full n cs xs room e = subst IsOfLines e (all-of-lines n cs 0 (on [] ∷ []) xs)

same-fault : (r : Result ℕ VerifyFault) (i j : ℕ) (f g : TreeFault) → r ≡ Err (Tree i f) → r ≡ Err (Tree j g) → f ≡ g
same-fault r i j f g a b = cc

never-full : (o : OutlineTable) (d : DerivationTable) (r : Result ℕ VerifyFault) → IsAnswer o d r → IsNeverFull r
never-full o d (Ok n) h i room e = cc
never-full o d (Err (Tree j f)) h i room e =
    tree-not-full (obligation_atoms o (obligation o j)) (obligation_clauses o (obligation o j)) (tree_at d j) room
    (subst (λ (g : TreeFault). fault_for o j (tree_at d j) ≡ Some g) (same-fault (Err (Tree j f)) j i f (TrailFull room) refl e) h.fault)
never-full o d (Err (Missing j)) h i room e = cc
never-full o d (Err (Extra j)) h i room e = cc
never-full o d (Err NoMemory) h i room e = cc

-- what is answered of a fault of the first trees
pub checked-never-full : (o : OutlineTable) (d : DerivationTable) (k : ℕ) (f : VerifyFault) (r : Result ℕ VerifyFault) → AreChecked o d k (Err f) → IsErrAnd r (λ g. g ≡ f) → IsNeverFull r
checked-never-full o d k f (Ok n) h is = absurd is
checked-never-full o d k f (Err g) h is = subst (λ (x : VerifyFault). IsNeverFull (Err x)) (sym is) (never-full o d (Err f) (checked-answer o d k f h))
