-- Valid trees keep the limits of the grammar, where there are few atoms and few clauses.
use Rattle.std.proofs.Common.{ℕ, suc, ◌<◌, ◌≤◌, ◌^◌, List, [], ◌∷◌, length, get_or, subst, arith}
use Rattle.std.specs.List.{AllByRecursion}
use Rattle.pg_region.specs.Literal.{Literal, negated}
use Rattle.pg_decider.specs.Assignment.{Assignment, on, added}
use Rattle.pg_derivation.specs.Derivation.{Node, IsNumber, IsNode, AreNodes}
use Rattle.pg_derivation.proofs.Lists.{each-append}
use Rattle.pg_tree.specs.Valid.{SplitTree, closing, fork, IsClosing, IsValid, preorder, AreValid}

pub each-from : {A : Type 0} (P : A → Type 0) (xs : List A) (d : A) → ((k : ℕ) → k < length xs → P (get_or xs k d)) → AllByRecursion P xs
each-from P [] d h = tt
each-from P (x ∷ xs) d h = (h 0 (omega arith), each-from P xs d (λ k lt. h (suc k) (omega (arith, lt))))

module _ (n : ℕ) (cs : List (List Literal)) (atoms : n < 2 ^ 31) (clauses : length cs < 2 ^ 31) where
  numbers-fit : (s : Assignment) (ns : List ℕ) → IsClosing cs s ns → AllByRecursion IsNumber ns
  numbers-fit s [] h = absurd h
  numbers-fit s (k ∷ []) h = ((h.0, omega (arith, h.1, clauses)), tt)
  numbers-fit s (k ∷ m ∷ ns) h = ((h.1.0.positive, omega (arith, h.1.0.within, clauses)), numbers-fit (added h.0 s) (m ∷ ns) h.1.1)

  some-number : (s : Assignment) (ns : List ℕ) → IsClosing cs s ns → 1 ≤ length ns
  some-number s [] h = absurd h
  some-number s (k ∷ ns) h = omega arith

  nodes-fit : (s : Assignment) (t : SplitTree) → IsValid n cs s t → AllByRecursion IsNode (preorder t)
  nodes-fit s (closing ns) h = ((some-number s ns h, numbers-fit s ns h), tt)
  nodes-fit s (fork l a b) h =
      ((h.0.positive, omega (arith, h.0.within, atoms)), each-append IsNode (preorder a) (preorder b) (nodes-fit (added l s) a h.1.0) (nodes-fit (added (negated l) s) b h.1.1))

  some-node : (t : SplitTree) → 1 ≤ length (preorder t)
  some-node (closing ns) = omega arith
  some-node (fork l a b) = omega arith

  pub valid-fits : (nodes : List Node) → AreValid n cs nodes → AreNodes nodes
  valid-fits nodes h = subst AreNodes h.whole (some-node h.tree, nodes-fit (on []) h.tree h.valid)
