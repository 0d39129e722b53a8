-- What an expression reads is what its parts read, and so are its numbers.
use Rattle.std.proofs.Common.{◌≡◌, ℕ, ◌<◌, List, [], ◌∷◌, ◌++◌, ap, sym, subst, ◌∙◌, ◌⊎◌, inl, inr, rules}
use Rattle.std.specs.List.{All}
use Rattle.std.proofs.lemmas.List.Elements.{All-nil, All-cons, All-head, All-tail}
use Rattle.pg_program.specs.declared.syntax.Expr.{Expr, fold-roll-Expr, size-Expr, the_lemmas}
use Rattle.pg_program.specs.declared.syntax.Expr.TheOpen as open_expr
use Rattle.pg_program.specs.declared.syntax.Expr.TheVariants.{Value, Scalar, Add, Sub, Mul, rolls-Value, rolls-Scalar, rolls-Add, rolls-Sub, rolls-Mul}
use Rattle.pg_program.specs.declared.syntax.Stmt.{Stmt, out-Stmt}
use Rattle.pg_program.specs.declared.syntax.Act.{Act, out-Act}
use Rattle.pg_program.specs.declared.syntax.Act.TheOpen.{Act-F}
use Rattle.pg_program.specs.Words.{outside, outside_in}
use Rattle.pg_program.specs.Expr.{reads, reads_step, numbers, numbers_step}

-- what holds of each item of two lists holds of each item of either
pub All-front : {X : Type 0} (P : X → Type 0) → (xs ys : List X) → All P (xs ++ ys) → All P xs
All-front P [] ys h = All-nil P
All-front P (x ∷ xs) ys h = All-cons P x xs (All-head P x (xs ++ ys) h) (All-front P xs ys (All-tail P x (xs ++ ys) h))

pub All-behind : {X : Type 0} (P : X → Type 0) → (xs ys : List X) → All P (xs ++ ys) → All P ys
All-behind P [] ys h = h
All-behind P (x ∷ xs) ys h = All-behind P xs ys (All-tail P x (xs ++ ys) h)

abbrev pub AreBelow : ℕ → List ℕ → Type 0
AreBelow n rs = All (λ (r : ℕ). r < n) rs

reads-Value : (v : ℕ) → reads (Value v) ≡ []
reads-Value v = ap reads (sym (rolls-Value v)) ∙ fold-roll-Expr (List ℕ) reads_step (open_expr.Value v)

reads-Scalar : (r : ℕ) → reads (Scalar r) ≡ r ∷ []
reads-Scalar r = ap reads (sym (rolls-Scalar r)) ∙ fold-roll-Expr (List ℕ) reads_step (open_expr.Scalar r)

reads-Add : (a b : Expr) → reads (Add a b) ≡ reads a ++ reads b
reads-Add a b = ap reads (sym (rolls-Add a b)) ∙ fold-roll-Expr (List ℕ) reads_step (open_expr.Add a b)

reads-Sub : (a b : Expr) → reads (Sub a b) ≡ reads a ++ reads b
reads-Sub a b = ap reads (sym (rolls-Sub a b)) ∙ fold-roll-Expr (List ℕ) reads_step (open_expr.Sub a b)

reads-Mul : (a b : Expr) → reads (Mul a b) ≡ reads a ++ reads b
reads-Mul a b = ap reads (sym (rolls-Mul a b)) ∙ fold-roll-Expr (List ℕ) reads_step (open_expr.Mul a b)

pub below-scalar : (e : Expr) (r n : ℕ) → e ≡ Scalar r → AreBelow n (reads e) → r < n
below-scalar e r n is h = All-head (λ (q : ℕ). q < n) r [] (subst (AreBelow n) (ap reads is ∙ reads-Scalar r) h)

pub below-add : (e a b : Expr) (n : ℕ) → e ≡ Add a b → AreBelow n (reads e) → AreBelow n (reads a) × AreBelow n (reads b)
below-add e a b n is h =
    let both = subst (AreBelow n) (ap reads is ∙ reads-Add a b) h in
    (All-front (λ (q : ℕ). q < n) (reads a) (reads b) both, All-behind (λ (q : ℕ). q < n) (reads a) (reads b) both)

pub below-sub : (e a b : Expr) (n : ℕ) → e ≡ Sub a b → AreBelow n (reads e) → AreBelow n (reads a) × AreBelow n (reads b)
below-sub e a b n is h =
    let both = subst (AreBelow n) (ap reads is ∙ reads-Sub a b) h in
    (All-front (λ (q : ℕ). q < n) (reads a) (reads b) both, All-behind (λ (q : ℕ). q < n) (reads a) (reads b) both)

pub below-mul : (e a b : Expr) (n : ℕ) → e ≡ Mul a b → AreBelow n (reads e) → AreBelow n (reads a) × AreBelow n (reads b)
below-mul e a b n is h =
    let both = subst (AreBelow n) (ap reads is ∙ reads-Mul a b) h in
    (All-front (λ (q : ℕ). q < n) (reads a) (reads b) both, All-behind (λ (q : ℕ). q < n) (reads a) (reads b) both)

-- ---- an expression and its parts, as a match on it names them

-- these are the two parts of an expression
abbrev pub HasParts : Expr → Expr → Expr → Type 0
HasParts e a b = (e ≡ Add a b) ⊎ ((e ≡ Sub a b) ⊎ (e ≡ Mul a b))

pub first_smaller : (e a b x : Expr) → HasParts e a b → x ≡ a → size-Expr x < size-Expr e
first_smaller e a b x (inl is) same = search (rules, the_lemmas)
first_smaller e a b x (inr (inl is)) same = search (rules, the_lemmas)
first_smaller e a b x (inr (inr is)) same = search (rules, the_lemmas)

pub second_smaller : (e a b x : Expr) → HasParts e a b → x ≡ b → size-Expr x < size-Expr e
second_smaller e a b x (inl is) same = search (rules, the_lemmas)
second_smaller e a b x (inr (inl is)) same = search (rules, the_lemmas)
second_smaller e a b x (inr (inr is)) same = search (rules, the_lemmas)

pub reads_of_value : (e : Expr) (v : ℕ) → e ≡ Value v → reads e ≡ []
reads_of_value e v is = ap reads is ∙ reads-Value v

pub reads_of_scalar : (e : Expr) (r : ℕ) → e ≡ Scalar r → reads e ≡ r ∷ []
reads_of_scalar e r is = ap reads is ∙ reads-Scalar r

pub reads_of_parts : (e a b x y : Expr) → HasParts e a b → x ≡ a → y ≡ b → reads e ≡ reads x ++ reads y
reads_of_parts e a b x y is p q = by is ∙ cc
  where
    by : HasParts e a b → reads e ≡ reads a ++ reads b
    by (inl s) = ap reads s ∙ reads-Add a b
    by (inr (inl s)) = ap reads s ∙ reads-Sub a b
    by (inr (inr s)) = ap reads s ∙ reads-Mul a b

pub numbers_of_scalar : (e : Expr) (r : ℕ) → e ≡ Scalar r → numbers e ≡ []
numbers_of_scalar e r is = ap numbers (is ∙ sym (rolls-Scalar r)) ∙ fold-roll-Expr (List ℕ) numbers_step (open_expr.Scalar r)

pub numbers_of_parts : (e a b x y : Expr) → HasParts e a b → x ≡ a → y ≡ b → numbers e ≡ numbers x ++ numbers y
numbers_of_parts e a b x y is p q = by is ∙ cc
  where
    by : HasParts e a b → numbers e ≡ numbers a ++ numbers b
    by (inl s) = ap numbers (s ∙ sym (rolls-Add a b)) ∙ fold-roll-Expr (List ℕ) numbers_step (open_expr.Add a b)
    by (inr (inl s)) = ap numbers (s ∙ sym (rolls-Sub a b)) ∙ fold-roll-Expr (List ℕ) numbers_step (open_expr.Sub a b)
    by (inr (inr s)) = ap numbers (s ∙ sym (rolls-Mul a b)) ∙ fold-roll-Expr (List ℕ) numbers_step (open_expr.Mul a b)

-- ---- what stands in an act, as a match on it names it

pub outside_at : (s : Stmt) (v : Act) (o : Act-F Act Stmt) → (out-Stmt s).act ≡ v → out-Act v ≡ o → outside s ≡ outside_in o
outside_at s v o is out = ap (λ a. outside_in (out-Act a)) is ∙ ap outside_in out
