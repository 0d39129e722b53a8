-- What is said for each tuple of values of some scalars is true where it is true of the values that they have.
use Rattle.std.proofs.Common.{◌≡◌, ℕ, zero, suc, ◌+◌, ◌%◌, ◌-◌, ◌*◌, ◌<◌, ◌≤◌, ◌==◌, Bool, true, false, cond, not, List, [], ◌∷◌, ◌++◌, length, replicate, get_or, set, inl, inr, refl, sym, ap, ap₂, subst, ◌∙◌, arith}
use Rattle.std.specs.List.{All, filter, range_with_len}
use Rattle.std.proofs.lemmas.Bool.{cases_eq, eqb-true, eq-eqb, ne_eqb, or_from, or_left, or_right, or_cases, true≢false}
use Rattle.std.proofs.lemmas.List.{length-set, length-replicate, get_or-set_same, get_or-set_other}
use Rattle.std.proofs.lemmas.List.Elements.{All-nil, All-cons, All-head, All-tail, All-weaker, filter_passes}
use Rattle.pg_program.specs.declared.syntax.Expr.{Expr, roll-Expr, fold-roll-Expr}
use Rattle.pg_program.specs.declared.syntax.Expr.TheFolds.{ind-Expr, map-Expr}
use Rattle.pg_program.specs.declared.syntax.Expr.TheOpen as expr
use Rattle.pg_program.specs.Expr.{reads, reads_step, value, value_step}
use Rattle.pg_program.specs.Limits.{most_scalars}
use Rattle.pg_program.specs.Words.{is_in}
use Rattle.pg_program.proofs.ExprLemmas.{All-front, All-behind}
use Rattle.pg_assertion.specs.declared.atom.ViewAtom.TheVariants.{Scalar}
use Rattle.pg_assertion.specs.declared.layout.Side.{Side}
use Rattle.pg_assertion.specs.declared.step_atom.StepAtom.{StepAtom}
use Rattle.pg_assertion.specs.declared.step_atom.StepAtom.TheVariants.{On}
use Rattle.pg_assertion.specs.Layout.{Sizes}
use Rattle.pg_tables.specs.declared.clause.StepLiteral.{StepLiteral}
use Rattle.pg_tables.specs.Clause.{implies}
use Rattle.pg_tables.specs.Truth.{AllTrue, clause_true, literal_true}
use Rattle.pg_tables.proofs.Truth.{by_truth, all-one, all-values, AllOf}
use Rattle.pg_rules_access.specs.Values.{per_tuple, in_order, tuples}
use Rattle.pg_rules_access.proofs.TupleLists.{in_order_known}

-- ---- numbers in lists

pub all-in : (P : ℕ → Type 0) → (rs : List ℕ) → ((r : ℕ) → is_in r rs ≡ true → P r) → All P rs
all-in P [] h = All-nil P
all-in P (r ∷ rs) h =
    All-cons P r rs (h r (or_left (r == r) (is_in r rs) (eq-eqb r r refl)))
    (all-in P rs (λ q is. h q (or_right (r == q) (is_in q rs) is)))

pub in-all : (P : ℕ → Type 0) → (rs : List ℕ) (r : ℕ) → All P rs → is_in r rs ≡ true → P r
in-all P [] r h is = absurd (true≢false (sym is))
in-all P (q ∷ rs) r h is = elim (or_cases (q == r) (is_in r rs) is) [
  | inl here ↦ subst P (eqb-true q r here) (All-head P q rs h)
  | inr later ↦ in-all P rs r (All-tail P q rs h) later
]

in_filter : (p : ℕ → Bool) (r a n : ℕ) → p r ≡ true → a ≤ r → r < a + n → is_in r (filter p (range_with_len a n)) ≡ true
in_filter p r a zero h low high = absurd (omega arith)
in_filter p r a (suc n) h low high = elim (cases_eq a r) [
  | inl e ↦
      ap (λ (b : Bool). is_in r (cond b (a ∷ filter p (range_with_len (a + 1) n)) (filter p (range_with_len (a + 1) n)))) (ap p e ∙ h)
      ∙ or_left (a == r) (is_in r (filter p (range_with_len (a + 1) n))) (eq-eqb a r e)
  | inr other ↦ by (p a) (in_filter p r (a + 1) n h (omega (arith, low, other)) (omega (arith, high)))
]
  where
    by : (b : Bool) → is_in r (filter p (range_with_len (a + 1) n)) ≡ true → is_in r (cond b (a ∷ filter p (range_with_len (a + 1) n)) (filter p (range_with_len (a + 1) n))) ≡ true
    by true k = or_right (a == r) (is_in r (filter p (range_with_len (a + 1) n))) k
    by false k = k

-- ---- an expression has one value where the scalars that it reads have one value each

module _ (d : ℕ) (a b : List ℕ) where
  abbrev pub Agrees : ℕ → Type 0
  Agrees r = get_or a r 0 ≡ get_or b r 0

  abbrev Same : Expr → Type 0
  Same e = All Agrees (reads e) → value a d e ≡ value b d e

  abbrev Proved : Type 0
  Proved = (e : Expr) × Same e

  reads_roll : (x : expr.Expr-F Expr) → reads (roll-Expr x) ≡ reads_step (map-Expr Expr (List ℕ) reads x)
  reads_roll = fold-roll-Expr (List ℕ) reads_step

  value_roll : (r : List ℕ) (x : expr.Expr-F Expr) → value r d (roll-Expr x) ≡ value_step r d (map-Expr Expr ℕ (value r d) x)
  value_roll r = fold-roll-Expr ℕ (value_step r d)

  both : (x y : Proved) (rs : List ℕ) → rs ≡ reads x.0 ++ reads y.0 → All Agrees rs → (value a d x.0 ≡ value b d x.0) × (value a d y.0 ≡ value b d y.0)
  both x y rs is all =
      let h = subst (All Agrees) is all in
      (x.1 (All-front Agrees (reads x.0) (reads y.0) h), y.1 (All-behind Agrees (reads x.0) (reads y.0) h))

  same_layer : (y : expr.Expr-F Proved) → Same (roll-Expr (map-Expr Proved Expr (λ e. e.0) y))
  same_layer (expr.Value v) all = value_roll a (expr.Value v) ∙ sym (value_roll b (expr.Value v))
  same_layer (expr.Scalar r) all =
      value_roll a (expr.Scalar r) ∙ (All-head Agrees r [] (subst (All Agrees) (reads_roll (expr.Scalar r)) all) ∙ sym (value_roll b (expr.Scalar r)))
  same_layer (expr.Add x y) all =
      let h = both x y (reads (roll-Expr (expr.Add x.0 y.0))) (reads_roll (expr.Add x.0 y.0)) all in
      value_roll a (expr.Add x.0 y.0) ∙ (ap₂ (λ (m n : ℕ). (m + n) % d) h.0 h.1 ∙ sym (value_roll b (expr.Add x.0 y.0)))
  same_layer (expr.Sub x y) all =
      let h = both x y (reads (roll-Expr (expr.Sub x.0 y.0))) (reads_roll (expr.Sub x.0 y.0)) all in
      value_roll a (expr.Sub x.0 y.0) ∙ (ap₂ (λ (m n : ℕ). (m + (d - n)) % d) h.0 h.1 ∙ sym (value_roll b (expr.Sub x.0 y.0)))
  same_layer (expr.Mul x y) all =
      let h = both x y (reads (roll-Expr (expr.Mul x.0 y.0))) (reads_roll (expr.Mul x.0 y.0)) all in
      value_roll a (expr.Mul x.0 y.0) ∙ (ap₂ (λ (m n : ℕ). (m * n) % d) h.0 h.1 ∙ sym (value_roll b (expr.Mul x.0 y.0)))

  pub same_value : (e : Expr) → Same e
  same_value = ind-Expr Same (λ x y is. subst (λ (z : expr.Expr-F Expr). Same (roll-Expr z)) is (same_layer y))

-- ---- tuples

-- a clause is true that says something where its left side holds
behind : (val : StepAtom → Bool) (given : List StepAtom) (x : StepLiteral) → (AllOf val given → literal_true val x ≡ true)
    → clause_true val (implies given [] ++ (x ∷ [])) ≡ true
behind val [] x h = or_left (literal_true val x) false (h tt)
behind val (g ∷ given) x h = by_truth (val g)
    (λ is. or_right (not (val g)) (clause_true val (implies given [] ++ (x ∷ []))) (behind val given x (λ t. h (is, t))))
    (λ is. or_left (not (val g)) (clause_true val (implies given [] ++ (x ∷ []))) (ap not is))

split : (val : StepAtom → Bool) (given : List StepAtom) (g : StepAtom) → AllOf val (given ++ (g ∷ [])) → AllOf val given × (val g ≡ true)
split val [] g h = (tt, h.0)
split val (b ∷ given) g h = let rest = split val given g h.1 in ((h.0, rest.0), rest.1)

-- The scalars `wanted` have their values in `real`, and where each tuple of values agrees with it, what is said of it holds.
module _ (val : StepAtom → Bool) (l : Sizes) (side : ℕ → Side) (says : List ℕ → StepLiteral) (wanted real : List ℕ)
    (one : (r k : ℕ) → is_in r wanted ≡ true → val (On (Scalar r k) (side r)) ≡ true → k ≡ get_or real r 0)
    (said : (values : List ℕ) → All (λ r. get_or values r 0 ≡ get_or real r 0) wanted → literal_true val (says values) ≡ true) where
  -- the scalars but those that are still to come have their values
  abbrev Known : List ℕ → List ℕ → Type 0
  Known names values = (r : ℕ) → is_in r wanted ≡ true → is_in r names ≡ false → get_or values r 0 ≡ get_or real r 0

  known-more : (r k : ℕ) (names values : List ℕ) → length values ≡ most_scalars → r < most_scalars → is_in r wanted ≡ true → Known (r ∷ names) values → val (On (Scalar r k) (side r)) ≡ true
      → Known names (set values r k)
  known-more r k names values size low mine known is q here out = elim (cases_eq q r) [
    | inl e ↦ ap (λ (j : ℕ). get_or (set values r k) j 0) e ∙ (get_or-set_same values r k 0 (omega (arith, size, low)) ∙ (one r k mine is ∙ ap (λ (j : ℕ). get_or real j 0) (sym e)))
    | inr other ↦
        get_or-set_other values r q k 0 other
        ∙ known q here (or_from (r == q) (is_in q names) (ne_eqb r q (λ e. other (sym e))) out)
  ]

  all-per_tuple : (names : List ℕ) (given : List StepAtom) (values : List ℕ) → length values ≡ most_scalars → All (λ r. r < most_scalars) names → All (λ r. is_in r wanted ≡ true) names
      → (AllOf val given → Known names values) → AllTrue val (per_tuple l side says names given values)
  all-per_tuple [] given values size low mine known =
      all-one val (implies given [] ++ (says values ∷ [])) (behind val given (says values) (λ all. said values (all-in _ wanted (λ r is. known all r is refl))))
  all-per_tuple (r ∷ names) given values size low mine known =
      all-values val l (λ k ik. all-per_tuple names (given ++ (On (Scalar r k) (side r) ∷ [])) (set values r k)
      (length-set values r k ∙ size) (All-tail (λ (q : ℕ). q < most_scalars) r names low) (All-tail (λ (q : ℕ). is_in q wanted ≡ true) r names mine)
      (λ all. let parts = split val given (On (Scalar r k) (side r)) all in
      known-more r k names values size (All-head (λ (q : ℕ). q < most_scalars) r names low) (All-head (λ (q : ℕ). is_in q wanted ≡ true) r names mine) (known parts.0) parts.1))

  pub all-tuples : l.scalars ≤ most_scalars → All (λ r. r < l.scalars) wanted → AllTrue val (tuples l side wanted says)
  all-tuples few over =
      all-per_tuple (in_order l wanted) [] (replicate most_scalars 0) (length-replicate {A = ℕ} most_scalars 0)
      (All-weaker (λ (r : ℕ). r < l.scalars) (λ (r : ℕ). r < most_scalars) (λ r lt. omega (arith, lt, few)) (in_order l wanted) (in_order_known l wanted))
      (filter_passes (λ r. is_in r wanted) (range_with_len 0 l.scalars))
      (λ all r is out.
      let inside = in-all (λ (q : ℕ). q < l.scalars) wanted r over is in
      absurd (true≢false (sym (in_filter (λ q. is_in q wanted) r 0 l.scalars is (omega arith) (omega (arith, inside))) ∙ out)))
