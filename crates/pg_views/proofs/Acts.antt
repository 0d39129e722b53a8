-- The truth of a test, by the act that has it.
use Rattle.std.proofs.Common.{◌≡◌, ℕ, List, refl, ap, ◌∙◌}
use Rattle.pg_program.specs.declared.syntax.Cond.{Cond}
use Rattle.pg_program.specs.declared.syntax.Stmt.{Stmt}
use Rattle.pg_program.specs.declared.syntax.Act.{Act, out-Act, If, While}
use Rattle.pg_program.specs.Expr.{test_holds}
use Rattle.pg_views.specs.Valuation.{is_taken}

if_test : (d : ℕ) (r : List ℕ) (t : Cond) (x y : List Stmt) → is_taken d r (out-Act (If t x y)) ≡ test_holds r d t
unfolding out-Act denote.Hole.Carrier.out
if_test d r t x y = refl

while_test : (d : ℕ) (r : List ℕ) (t : Cond) (x : List Stmt) → is_taken d r (out-Act (While t x)) ≡ test_holds r d t
unfolding out-Act denote.Hole.Carrier.out
while_test d r t x = refl

pub if_taken : (d : ℕ) (r : List ℕ) (a : Act) (t : Cond) (x y : List Stmt) → a ≡ If t x y → is_taken d r (out-Act a) ≡ test_holds r d t
if_taken d r a t x y is = ap (λ (b : Act). is_taken d r (out-Act b)) is ∙ if_test d r t x y

pub while_taken : (d : ℕ) (r : List ℕ) (a : Act) (t : Cond) (x : List Stmt) → a ≡ While t x → is_taken d r (out-Act a) ≡ test_holds r d t
while_taken d r a t x is = ap (λ (b : Act). is_taken d r (out-Act b)) is ∙ while_test d r t x
