-- How many clauses the expressions of a step have at most. A clause of n literals weighs g n.
use Rattle.std.proofs.Common.{◌≡◌, ℕ, zero, suc, ◌+◌, ◌*◌, ◌≤◌, List, [], ◌∷◌, ◌++◌, map, length, subst, ap, arith, length-append}
use Rattle.std.specs.Prelude.{replicate, slice_set}
use Rattle.std.proofs.lemmas.List.{length-map}
use Rattle.std.proofs.Math.Nat.{mul-le-mul_right}
use Rattle.pg_assertion.specs.declared.atom.ViewAtom.TheVariants.{Scalar}
use Rattle.pg_assertion.specs.declared.layout.Side.{Side}
use Rattle.pg_assertion.specs.declared.step_atom.StepAtom.{StepAtom}
use Rattle.pg_assertion.specs.declared.step_atom.StepAtom.TheVariants.{On}
use Rattle.pg_assertion.specs.Layout.{Sizes}
use Rattle.pg_program.specs.declared.point.Branch.{Branch}
use Rattle.pg_program.specs.declared.point.Branch.TheVariants.{Plain, Yes, No}
use Rattle.pg_program.specs.declared.syntax.AuxAssign.{AuxAssign}
use Rattle.pg_program.specs.declared.syntax.Cond.{Cond}
use Rattle.pg_program.specs.declared.syntax.Expr.{Expr}
use Rattle.pg_program.specs.Expr.{reads}
use Rattle.pg_program.specs.Limits.{most_scalars, most_names}
use Rattle.pg_program.specs.NameTable.{NameTable}
use Rattle.pg_tables.specs.declared.clause.Case.TheVariants.{Succeeds}
use Rattle.pg_tables.specs.declared.clause.StepLiteral.{StepLiteral}
use Rattle.pg_tables.specs.Clause.{implies, yes, no}
use Rattle.pg_tables.specs.Bound.{AreWithin}
use Rattle.pg_tables.proofs.Bounds.{IsAtMost, pairs, most-none, most-cons, most-append, most-under, most-values}
use Rattle.pg_tables.proofs.OneValue.{most-exactly_one}
use Rattle.pg_rules_access.specs.Values.{per_tuple, in_order, tuples, AreFew, value_rules, expects_last, says_test, taken, test_rules, assign_rules, bracket_rules, AreAssigns, all_before, bracket_side}

said : (given : List StepAtom) (x : StepLiteral) → length (implies given [] ++ (x ∷ [])) ≡ suc (length given)
said given x = omega (arith, length-append (implies given []) (x ∷ []), length-append (map no given) (map yes []), length-map given no)

pushed : (given : List StepAtom) (a : StepAtom) → length (given ++ (a ∷ [])) ≡ suc (length given)
pushed given a = omega (arith, length-append given (a ∷ []))

module _ (g : ℕ → ℕ) (d : ℕ) where
  -- by how many scalars are still read, and how many stand in front
  abbrev pub tuples_most : ℕ → ℕ → ℕ
  tuples_most zero c = g (suc c)
  tuples_most (suc n) c = d * tuples_most n (suc c)

  abbrev pub tuples_bound : ℕ
  tuples_bound = tuples_most most_names 0

  abbrev pub value_bound : ℕ
  value_bound = tuples_bound + (g d + pairs d * g 2)

module _ (g : ℕ → ℕ) (up : (m n : ℕ) → m ≤ n → g m ≤ g n) {l m : Sizes} (w : AreWithin l m) (some : 1 ≤ m.domain) where
  least : (n c : ℕ) → g (suc c) ≤ tuples_most g m.domain n c
  least zero c = omega arith
  least (suc n) c =
      let one : 1 * tuples_most g m.domain n (suc c) ≤ m.domain * tuples_most g m.domain n (suc c) = mul-le-mul_right (tuples_most g m.domain n (suc c)) some in
      omega (arith, least n (suc c), up (suc c) (suc (suc c)) (omega arith), one)

  most-per_tuple : (side : ℕ → Side) (says : List ℕ → StepLiteral) (names : List ℕ) (n : ℕ) (given : List StepAtom) (values : List ℕ) → length names ≤ n
      → IsAtMost g (per_tuple l side says names given values) (tuples_most g m.domain n (length given))
  most-per_tuple side says [] n given values h =
      let clause = implies given [] ++ (says values ∷ []) in
      let size = ap g (said given (says values)) in
      record { bound = omega (arith, (most-cons g clause [] 0 (most-none g)).bound, size, least n (length given)) }
  most-per_tuple side says (r ∷ rs) zero given values h = absurd (omega (arith, h))
  most-per_tuple side says (r ∷ rs) (suc n) given values h =
      most-values g w (λ k.
      let a = On (Scalar r k) (side r) in
      subst (λ (c : ℕ). IsAtMost g (per_tuple l side says rs (given ++ (a ∷ [])) (slice_set values r k)) (tuples_most g m.domain n c)) (pushed given a)
      (most-per_tuple side says rs n (given ++ (a ∷ [])) (slice_set values r k) (omega (arith, h))))

  pub most-tuples : (side : ℕ → Side) (rs : List ℕ) (says : List ℕ → StepLiteral) → AreFew l rs → IsAtMost g (tuples l side rs says) (tuples_bound g m.domain)
  most-tuples side rs says few = most-per_tuple side says (in_order l rs) most_names [] (replicate most_scalars 0) few

  pub most-value_rules : (e : Expr) (a : ℕ → StepAtom) → AreFew l (reads e) → IsAtMost g (value_rules l e a) (value_bound g m.domain)
  most-value_rules e a few = most-append g _ _ _ _ (most-tuples all_before (reads e) _ few) (most-exactly_one g up w a)

  pub most-expects_last : (x : ℕ) → IsAtMost g (expects_last l x) (m.domain * g 3)
  most-expects_last x = most-under g Succeeds _ _ (most-values (λ k. g (suc k)) w (λ v. record { bound = omega arith }))

  most-taken : (branch : Branch) → IsAtMost g (taken branch) (g 1)
  most-taken Yes = record { bound = omega arith }
  most-taken No = record { bound = omega arith }
  most-taken Plain = record { bound = omega arith }

  pub most-test_rules : (test : Cond) (branch : Branch) → AreFew l (reads test.left ++ reads test.right) → IsAtMost g (test_rules l test branch) (tuples_bound g m.domain + g 1)
  most-test_rules test branch few = most-append g _ _ _ _ (most-tuples all_before (reads test.left ++ reads test.right) (says_test l test) few) (most-taken branch)

  -- ---- a bracket

  assigned : (names : NameTable) (n : ℕ) → ((a : AuxAssign) → AreFew l (reads a.expr) → IsAtMost g (assign_rules l names a) n) → (aux : List AuxAssign) → AreAssigns l aux
      → IsAtMost g (bracket_rules l names aux) (length aux * n)
  assigned names n each [] h = record { bound = omega arith }
  assigned names n each (a ∷ rest) h =
      let t = most-append g (assign_rules l names a) (bracket_rules l names rest) n (length rest * n) (each a h.2) (assigned names n each rest h.3) in
      record { bound = omega (arith, t.bound) }

  pub most-bracket : (names : NameTable) (aux : List AuxAssign) → AreAssigns l aux → IsAtMost g (bracket_rules l names aux) (length aux * tuples_bound g m.domain)
  most-bracket names aux h = assigned names (tuples_bound g m.domain) (λ a few. most-tuples (bracket_side names) (reads a.expr) _ few) aux h
