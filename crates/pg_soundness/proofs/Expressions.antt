-- What the rules say of the expressions of a step is true: which value it stores or expects, and whether its test holds.
use Rattle.std.proofs.Common.{◌≡◌, ℕ, ◌<◌, ◌≤◌, ◌==◌, Bool, true, false, cond, not, List, [], ◌∷◌, ◌++◌, get_or, refl, sym, ap, ap₂, subst, ◌∙◌, arith}
use Rattle.std.specs.List.{All}
use Rattle.std.proofs.lemmas.Bool.{eqb-true, eq-eqb, true≢false}
use Rattle.pg_program.specs.declared.syntax.Expr.{Expr, out-Expr, fold_out-Expr}
use Rattle.pg_program.specs.declared.syntax.Expr.TheFolds.{map-Expr}
use Rattle.pg_program.specs.declared.syntax.Expr.TheOpen as expr
use Rattle.pg_program.specs.declared.syntax.Cond.{Cond}
use Rattle.pg_program.specs.declared.point.Branch.{Branch}
use Rattle.pg_program.specs.declared.point.Branch.TheVariants.{Yes, No}
use Rattle.pg_program.specs.Expr.{reads, value, value_step, agrees, test_holds}
use Rattle.pg_program.specs.Limits.{most_scalars}
use Rattle.pg_program.proofs.ExprLemmas.{All-front, All-behind}
use Rattle.pg_assertion.specs.declared.atom.ViewAtom.TheVariants.{Scalar, Last}
use Rattle.pg_assertion.specs.declared.layout.Side.TheVariants.{Before}
use Rattle.pg_assertion.specs.declared.step_atom.StepAtom.{StepAtom}
use Rattle.pg_assertion.specs.declared.step_atom.StepAtom.TheVariants.{On, Expected, Success, Taken}
use Rattle.pg_assertion.specs.Layout.{Sizes}
use Rattle.pg_tables.specs.Clause.{yes, no}
use Rattle.pg_tables.specs.Shapes.{before}
use Rattle.pg_tables.specs.Truth.{AllTrue, literal_true}
use Rattle.pg_tables.proofs.Truth.{all-one, all-append, all-values, all-succeeds, all-always, all-never}
use Rattle.pg_tables.proofs.OneValue.{all-exactly_one}
use Rattle.pg_machine.proofs.Uses.{get-below}
use Rattle.pg_rules_access.specs.Values.{value_rules, expects_last, says_test, taken, test_rules, all_before}
use Rattle.pg_soundness.proofs.Rows.{gives}
use Rattle.pg_soundness.proofs.Tuples.{Agrees, same_value, all-tuples}

-- ---- values are in the domain

step-below : (d : ℕ) (r : List ℕ) → 0 < d → All (λ v. v < d) r → (e : expr.Expr-F ℕ) → value_step r d e < d
step-below d r some h (expr.Value v) = omega arith
step-below d r some h (expr.Scalar q) = get-below d r q some h
step-below d r some h (expr.Add a b) = omega arith
step-below d r some h (expr.Sub a b) = omega arith
step-below d r some h (expr.Mul a b) = omega arith

pub value-below : (d : ℕ) (r : List ℕ) (e : Expr) → 0 < d → All (λ v. v < d) r → value r d e < d
value-below d r e some h =
    subst (λ (n : ℕ). n < d) (sym (fold_out-Expr ℕ (value_step r d) e)) (step-below d r some h (map-Expr Expr ℕ (value r d) (out-Expr e)))

-- ---- expressions over the scalars before the step

-- Before the step the scalars have the values r, each in the domain, and no more of them are declared than there may be.
pub record AreBefore (val : StepAtom → Bool) (l : Sizes) (r : List ℕ) : Type 0 where
  pub some : 0 < l.domain
  pub few : l.scalars ≤ most_scalars
  pub inside : All (λ v. v < l.domain) r
  pub is : (q k : ℕ) → val (On (Scalar q k) Before) ≡ (get_or r q 0 == k)

module _ (val : StepAtom → Bool) (l : Sizes) (r : List ℕ) (h : AreBefore val l r) where
  one_before : (q k : ℕ) → val (On (Scalar q k) Before) ≡ true → k ≡ get_or r q 0
  one_before q k holds = sym (eqb-true (get_or r q 0) k (sym (h.is q k) ∙ holds))

  -- an expression has its value, and no other
  pub true_value : (e : Expr) (a : ℕ → StepAtom) → All (λ q. q < l.scalars) (reads e) → ((v : ℕ) → val (a v) ≡ (value r l.domain e == v)) → AllTrue val (value_rules l e a)
  true_value e a over is =
      let v = value r l.domain e in
      all-append val _ _
      (all-tuples val l all_before (λ values. yes (a (value values l.domain e))) (reads e) r (λ q k here holds. one_before q k holds)
      (λ values agree. is (value values l.domain e) ∙ eq-eqb v (value values l.domain e) (sym (same_value l.domain values r e agree))) h.few over)
      (all-exactly_one val l a v (value-below l.domain r e h.some h.inside) (is v ∙ eq-eqb v v refl) (λ w holds. sym (eqb-true v w (sym (is w) ∙ holds))))

  same_test : (values : List ℕ) (t : Cond) → All (λ q. get_or values q 0 ≡ get_or r q 0) (reads t.left ++ reads t.right) → test_holds values l.domain t ≡ test_holds r l.domain t
  same_test values t agree =
      ap₂ (λ (a b : ℕ). agrees t.equal (a == b))
      (same_value l.domain values r t.left (All-front (Agrees l.domain values r) (reads t.left) (reads t.right) agree))
      (same_value l.domain values r t.right (All-behind (Agrees l.domain values r) (reads t.left) (reads t.right) agree))

  says : (b c : Bool) → val Taken ≡ c → b ≡ c → literal_true val (cond b (yes Taken) (no Taken)) ≡ true
  says true true is same = is
  says false false is same = ap not is
  says true false is same = absurd (true≢false same)
  says false true is same = absurd (true≢false (sym same))

  goes : (b : Bool) (branch : Branch) → val Taken ≡ b → branch ≡ cond b Yes No → AllTrue val (taken branch)
  goes true branch is same = subst (λ (c : Branch). AllTrue val (taken c)) (sym same) (all-always val Taken is)
  goes false branch is same = subst (λ (c : Branch). AllTrue val (taken c)) (sym same) (all-never val Taken is)

  -- a test holds or it does not, and the step takes the branch of its truth
  pub true_test : (t : Cond) (branch : Branch) → All (λ q. q < l.scalars) (reads t.left ++ reads t.right) → val Taken ≡ test_holds r l.domain t
      → branch ≡ cond (test_holds r l.domain t) Yes No → AllTrue val (test_rules l t branch)
  true_test t branch over is same =
      all-append val _ _
      (all-tuples val l all_before (says_test l t) (reads t.left ++ reads t.right) r (λ q k here holds. one_before q k holds)
      (λ values agree. says (test_holds values l.domain t) (test_holds r l.domain t) is (same_test values t agree)) h.few over)
      (goes (test_holds r l.domain t) branch is same)

-- a cas that succeeds expects the last value
pub true_expects : (val : StepAtom → Bool) (l : Sizes) (x : ℕ) → (val Success ≡ true → (k : ℕ) → val (Expected k) ≡ true → val (before (Last x k)) ≡ true)
    → AllTrue val (expects_last l x)
true_expects val l x h =
    all-succeeds val _ (λ is. all-values val l (λ k ik. all-one val _ (gives val (Expected k ∷ []) (before (Last x k)) (λ t. h is k t.0))))
