-- What an expression has is what its tree has.
use Rattle.std.proofs.Common.{◌≡◌, ℕ, ◌<◌, List, [], ◌∷◌, ◌++◌, length, refl, sym, ap, ap₂, subst, ◌∙◌}
use Rattle.std.proofs.lemmas.List.Elements.{All-head}
use Rattle.pg_program.specs.declared.syntax.Expr.{Expr, roll-Expr, fold-roll-Expr}
use Rattle.pg_program.specs.declared.syntax.Expr.TheFolds.{ind-Expr, map-Expr}
use Rattle.pg_program.specs.declared.syntax.Expr.TheOpen.{Expr-F, Value, Scalar, Add, Sub, Mul}
use Rattle.pg_program.specs.declared.syntax.Expr.TheVariants as e
use Rattle.pg_program.specs.NameTable.{NameTable}
use Rattle.pg_program.specs.Expr.{reads, reads_step}
use Rattle.pg_program.proofs.ExprLemmas.{All-front, All-behind, AreBelow}
use Rattle.pg_program_text.specs.Spelling.{Tree, number, name, sum, difference, product, tree, tree_step}
use Rattle.pg_program_text.specs.DeclaredNames.{Declared, IsDeclared}

module _ {A : Type 0} (f : Expr → A) (step : Expr-F A → A) (g : Tree → A)
    (f_rolls : (x : Expr-F Expr) → f (roll-Expr x) ≡ step (map-Expr Expr A f x))
    (g_steps : (z : Expr-F Tree) → g (tree_step z) ≡ step (map-Expr Tree A g z)) where
  abbrev Same : Expr → Type 0
  Same x = g (tree x) ≡ f x

  abbrev Proved : Type 0
  Proved = (x : Expr) × Same x

  layer : (y : Expr-F Proved) → map-Expr Tree A g (map-Expr Expr Tree tree (map-Expr Proved Expr (λ w. w.0) y)) ≡ map-Expr Expr A f (map-Expr Proved Expr (λ w. w.0) y)
  layer (Value v) = refl
  layer (Scalar r) = refl
  layer (Add a b) = ap₂ (λ (m n : A). let w : Expr-F A = Add m n in w) a.1 b.1
  layer (Sub a b) = ap₂ (λ (m n : A). let w : Expr-F A = Sub m n in w) a.1 b.1
  layer (Mul a b) = ap₂ (λ (m n : A). let w : Expr-F A = Mul m n in w) a.1 b.1

  pub same : (x : Expr) → Same x
  same = ind-Expr Same (λ x y is.
      let inner : map-Expr Tree A g (map-Expr Expr Tree tree x) ≡ map-Expr Expr A f x = subst (λ (z : Expr-F Expr). map-Expr Tree A g (map-Expr Expr Tree tree z) ≡ map-Expr Expr A f z) is (layer y) in
      ap g (fold-roll-Expr Tree tree_step x) ∙ g_steps (map-Expr Expr Tree tree x) ∙ ap step inner ∙ sym (f_rolls x))

-- ---- the scalars, the numbers, and the expression again

abbrev pub tree_reads : Tree → List ℕ
tree_reads (number v) = []
tree_reads (name r) = r ∷ []
tree_reads (sum a b) = tree_reads a ++ tree_reads b
tree_reads (difference a b) = tree_reads a ++ tree_reads b
tree_reads (product a b) = tree_reads a ++ tree_reads b

reads_steps : (z : Expr-F Tree) → tree_reads (tree_step z) ≡ reads_step (map-Expr Tree (List ℕ) tree_reads z)
reads_steps (Value v) = refl
reads_steps (Scalar r) = refl
reads_steps (Add a b) = refl
reads_steps (Sub a b) = refl
reads_steps (Mul a b) = refl

pub reads_are : (x : Expr) → tree_reads (tree x) ≡ reads x
reads_are = same reads reads_step tree_reads (fold-roll-Expr (List ℕ) reads_step) reads_steps

abbrev pub expr_of : Tree → Expr
expr_of (number v) = e.Value v
expr_of (name r) = e.Scalar r
expr_of (sum a b) = e.Add (expr_of a) (expr_of b)
expr_of (difference a b) = e.Sub (expr_of a) (expr_of b)
expr_of (product a b) = e.Mul (expr_of a) (expr_of b)

whole_rolls : (x : Expr-F Expr) → roll-Expr x ≡ roll-Expr (map-Expr Expr Expr (λ a. a) x)
whole_rolls (Value v) = refl
whole_rolls (Scalar r) = refl
whole_rolls (Add a b) = refl
whole_rolls (Sub a b) = refl
whole_rolls (Mul a b) = refl

whole_steps : (z : Expr-F Tree) → expr_of (tree_step z) ≡ roll-Expr (map-Expr Tree Expr expr_of z)
whole_steps (Value v) = sym (e.rolls-Value v)
whole_steps (Scalar r) = sym (e.rolls-Scalar r)
whole_steps (Add a b) = sym (e.rolls-Add (expr_of a) (expr_of b))
whole_steps (Sub a b) = sym (e.rolls-Sub (expr_of a) (expr_of b))
whole_steps (Mul a b) = sym (e.rolls-Mul (expr_of a) (expr_of b))

pub whole_is : (x : Expr) → expr_of (tree x) ≡ x
whole_is = same (λ x. x) roll-Expr expr_of whole_rolls whole_steps

-- ---- what is declared

module _ (names : NameTable) where
  tree_declared : (t : Tree) → AreBelow (length names.scalars) (tree_reads t) → Declared names t
  unfolding Declared
  tree_declared (number v) h = tt
  tree_declared (name r) h = All-head (λ (q : ℕ). q < length names.scalars) r [] h
  tree_declared (sum a b) h =
      (tree_declared a (All-front (λ (q : ℕ). q < length names.scalars) (tree_reads a) (tree_reads b) h), tree_declared b (All-behind (λ (q : ℕ). q < length names.scalars) (tree_reads a) (tree_reads b) h))
  tree_declared (difference a b) h =
      (tree_declared a (All-front (λ (q : ℕ). q < length names.scalars) (tree_reads a) (tree_reads b) h), tree_declared b (All-behind (λ (q : ℕ). q < length names.scalars) (tree_reads a) (tree_reads b) h))
  tree_declared (product a b) h =
      (tree_declared a (All-front (λ (q : ℕ). q < length names.scalars) (tree_reads a) (tree_reads b) h), tree_declared b (All-behind (λ (q : ℕ). q < length names.scalars) (tree_reads a) (tree_reads b) h))

  pub expr_declared : (x : Expr) → AreBelow (length names.scalars) (reads x) → IsDeclared names x
  expr_declared x h = tree_declared (tree x) (subst (AreBelow (length names.scalars)) (sym (reads_are x)) h)
