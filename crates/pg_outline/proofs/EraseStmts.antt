-- What stands in an erased statement, and in an erased block.
use Rattle.std.proofs.Common.{◌≡◌, ℕ, zero, suc, ◌+◌, ◌≤◌, List, [], ◌∷◌, ◌++◌, map, refl, sym, ap, ap₂, subst, ◌∙◌, arith}
use Rattle.std.proofs.lemmas.List.{map-append}
use Rattle.pg_program.specs.declared.syntax.Expr.{Expr, roll-Expr, fold-roll-Expr}
use Rattle.pg_program.specs.declared.syntax.Expr.TheFolds.{ind-Expr, map-Expr}
use Rattle.pg_program.specs.declared.syntax.Expr.TheOpen.{Expr-F, Value, Scalar, Add, Sub, Mul}
use Rattle.pg_program.specs.declared.syntax.Stmt.{Stmt, out-Stmt, out-roll-Stmt}
use Rattle.pg_program.specs.declared.syntax.Act.{Act, out-Act, out-roll-Act}
use Rattle.pg_program.specs.declared.syntax.Act.TheOpen.{Act-F, Stmt-F, Assign, Store, Load, Cas, Mfence, Sfence, Flush, Flushopt, If, While}
use Rattle.pg_program.specs.declared.syntax.Act.TheFolds.{map-Act, fold_out-Act, fold_out-Stmt}
use Rattle.pg_program.specs.Expr.{reads, reads_step, numbers, numbers_step}
use Rattle.pg_program.specs.Block.{Block, block, first_in, second_in, first_list, second_list}
use Rattle.pg_program.specs.Graph.{size, statements}
use Rattle.pg_program.specs.Words.{outside_in, numbers_in, groups_in, locations_in}
use Rattle.pg_program.proofs.BlockLemmas.{block-nests}
use Rattle.pg_outline.specs.Erasure.{moved, moved_step, moved_test, act_step, stmt_step, erased_act, erased_stmt}

-- ---- expressions

reads_roll : (x : Expr-F Expr) → reads (roll-Expr x) ≡ reads_step (map-Expr Expr (List ℕ) reads x)
reads_roll = fold-roll-Expr (List ℕ) reads_step

numbers_roll : (x : Expr-F Expr) → numbers (roll-Expr x) ≡ numbers_step (map-Expr Expr (List ℕ) numbers x)
numbers_roll = fold-roll-Expr (List ℕ) numbers_step

module _ (place : ℕ → ℕ) where
  moved_roll : (x : Expr-F Expr) → moved place (roll-Expr x) ≡ moved_step place (map-Expr Expr Expr (moved place) x)
  moved_roll = fold-roll-Expr Expr (moved_step place)

  -- it reads the registers at their new places
  abbrev Reads : Expr → Type 0
  Reads e = reads (moved place e) ≡ map place (reads e)

  abbrev Reading : Type 0
  Reading = (e : Expr) × Reads e

  two_reads : (a b : Reading) (x y : Expr-F Expr) → moved place (roll-Expr x) ≡ roll-Expr y → reads (roll-Expr y) ≡ reads (moved place a.0) ++ reads (moved place b.0) → reads (roll-Expr x) ≡ reads a.0 ++ reads b.0 → Reads (roll-Expr x)
  two_reads a b x y is new old =
      ap reads is ∙ new ∙ ap₂ (λ (l m : List ℕ). l ++ m) a.1 b.1 ∙ sym (map-append place (reads a.0) (reads b.0)) ∙ sym (ap (map place) old)

  reads_layer : (y : Expr-F Reading) → Reads (roll-Expr (map-Expr Reading Expr (λ e. e.0) y))
  reads_layer (Value v) = ap reads (moved_roll (Value v)) ∙ reads_roll (Value v) ∙ sym (ap (map place) (reads_roll (Value v)))
  reads_layer (Scalar r) = ap reads (moved_roll (Scalar r)) ∙ reads_roll (Scalar (place r)) ∙ sym (ap (map place) (reads_roll (Scalar r)))
  reads_layer (Add a b) = two_reads a b (Add a.0 b.0) (Add (moved place a.0) (moved place b.0)) (moved_roll (Add a.0 b.0)) (reads_roll (Add (moved place a.0) (moved place b.0))) (reads_roll (Add a.0 b.0))
  reads_layer (Sub a b) = two_reads a b (Sub a.0 b.0) (Sub (moved place a.0) (moved place b.0)) (moved_roll (Sub a.0 b.0)) (reads_roll (Sub (moved place a.0) (moved place b.0))) (reads_roll (Sub a.0 b.0))
  reads_layer (Mul a b) = two_reads a b (Mul a.0 b.0) (Mul (moved place a.0) (moved place b.0)) (moved_roll (Mul a.0 b.0)) (reads_roll (Mul (moved place a.0) (moved place b.0))) (reads_roll (Mul a.0 b.0))

  pub reads_moved : (e : Expr) → Reads e
  reads_moved = ind-Expr Reads (λ x y is. subst (λ (z : Expr-F Expr). Reads (roll-Expr z)) is (reads_layer y))

  -- and it has the same numbers
  abbrev Counts : Expr → Type 0
  Counts e = numbers (moved place e) ≡ numbers e

  abbrev Counting : Type 0
  Counting = (e : Expr) × Counts e

  two_numbers : (a b : Counting) (x y : Expr-F Expr) → moved place (roll-Expr x) ≡ roll-Expr y → numbers (roll-Expr y) ≡ numbers (moved place a.0) ++ numbers (moved place b.0) → numbers (roll-Expr x) ≡ numbers a.0 ++ numbers b.0 → Counts (roll-Expr x)
  two_numbers a b x y is new old = ap numbers is ∙ new ∙ ap₂ (λ (l m : List ℕ). l ++ m) a.1 b.1 ∙ sym old

  numbers_layer : (y : Expr-F Counting) → Counts (roll-Expr (map-Expr Counting Expr (λ e. e.0) y))
  numbers_layer (Value v) = ap numbers (moved_roll (Value v))
  numbers_layer (Scalar r) = ap numbers (moved_roll (Scalar r)) ∙ numbers_roll (Scalar (place r)) ∙ sym (numbers_roll (Scalar r))
  numbers_layer (Add a b) = two_numbers a b (Add a.0 b.0) (Add (moved place a.0) (moved place b.0)) (moved_roll (Add a.0 b.0)) (numbers_roll (Add (moved place a.0) (moved place b.0))) (numbers_roll (Add a.0 b.0))
  numbers_layer (Sub a b) = two_numbers a b (Sub a.0 b.0) (Sub (moved place a.0) (moved place b.0)) (moved_roll (Sub a.0 b.0)) (numbers_roll (Sub (moved place a.0) (moved place b.0))) (numbers_roll (Sub a.0 b.0))
  numbers_layer (Mul a b) = two_numbers a b (Mul a.0 b.0) (Mul (moved place a.0) (moved place b.0)) (moved_roll (Mul a.0 b.0)) (numbers_roll (Mul (moved place a.0) (moved place b.0))) (numbers_roll (Mul a.0 b.0))

  pub numbers_moved : (e : Expr) → Counts e
  numbers_moved = ind-Expr Counts (λ x y is. subst (λ (z : Expr-F Expr). Counts (roll-Expr z)) is (numbers_layer y))

  -- ---- statements

  -- what an act is made of
  abbrev pub moved_act : Act-F Act Stmt → Act-F Act Stmt
  moved_act (Assign r e) = Assign (place r) (moved place e)
  moved_act (Store x e) = Store x (moved place e)
  moved_act (Load r x) = Load (place r) x
  moved_act (Cas r x e d) = Cas (place r) x (moved place e) (moved place d)
  moved_act Mfence = Mfence
  moved_act Sfence = Sfence
  moved_act (Flush x) = Flush x
  moved_act (Flushopt x) = Flushopt x
  moved_act (If test a b) = If (moved_test place test) (map (erased_stmt place) a) (map (erased_stmt place) b)
  moved_act (While test a) = While (moved_test place test) (map (erased_stmt place) a)

  out_step : (x : Act-F Act Stmt) → out-Act (act_step place (map-Act Act Stmt Act Stmt (erased_act place) (erased_stmt place) x)) ≡ moved_act x
  out_step (Assign r e) = out-roll-Act (Assign (place r) (moved place e))
  out_step (Store x e) = out-roll-Act (Store x (moved place e))
  out_step (Load r x) = out-roll-Act (Load (place r) x)
  out_step (Cas r x e d) = out-roll-Act (Cas (place r) x (moved place e) (moved place d))
  out_step Mfence = out-roll-Act Mfence
  out_step Sfence = out-roll-Act Sfence
  out_step (Flush x) = out-roll-Act (Flush x)
  out_step (Flushopt x) = out-roll-Act (Flushopt x)
  out_step (If test a b) = out-roll-Act (If (moved_test place test) (map (erased_stmt place) a) (map (erased_stmt place) b))
  out_step (While test a) = out-roll-Act (While (moved_test place test) (map (erased_stmt place) a))

  out_act : (a : Act) → out-Act (erased_act place a) ≡ moved_act (out-Act a)
  out_act a = ap out-Act (fold_out-Act Act Stmt (act_step place) stmt_step a) ∙ out_step (out-Act a)

  out_stmt : (s : Stmt) → out-Stmt (erased_stmt place s) ≡ record { act = erased_act place (out-Stmt s).act; aux = [] }
  out_stmt s = ap out-Stmt (fold_out-Stmt Act Stmt (act_step place) stmt_step s) ∙ out-roll-Stmt (record { act = erased_act place (out-Stmt s).act; aux = [] })

  pub act_is : (s : Stmt) → out-Act (out-Stmt (erased_stmt place s)).act ≡ moved_act (out-Act (out-Stmt s).act)
  act_is s = ap (λ (y : Stmt-F Act Stmt). out-Act y.act) (out_stmt s) ∙ out_act (out-Stmt s).act

  pub no_bracket : (s : Stmt) → (out-Stmt (erased_stmt place s)).aux ≡ []
  no_bracket s = ap (λ (y : Stmt-F Act Stmt). y.aux) (out_stmt s)

  -- ---- the parts of an act

  two_sides : (a b : Expr) → reads (moved place a) ++ reads (moved place b) ≡ map place (reads a ++ reads b)
  two_sides a b = ap₂ (λ (l m : List ℕ). l ++ m) (reads_moved a) (reads_moved b) ∙ sym (map-append place (reads a) (reads b))

  pub outside_moved : (x : Act-F Act Stmt) → outside_in (moved_act x) ≡ map place (outside_in x)
  outside_moved (Assign r e) = ap (λ (l : List ℕ). place r ∷ l) (reads_moved e)
  outside_moved (Store x e) = reads_moved e
  outside_moved (Load r x) = refl
  outside_moved (Cas r x e d) = ap (λ (l : List ℕ). place r ∷ l) (two_sides e d)
  outside_moved Mfence = refl
  outside_moved Sfence = refl
  outside_moved (Flush x) = refl
  outside_moved (Flushopt x) = refl
  outside_moved (If test a b) = two_sides test.left test.right
  outside_moved (While test a) = two_sides test.left test.right

  pub numbers_stay : (x : Act-F Act Stmt) → numbers_in (moved_act x) ≡ numbers_in x
  numbers_stay (Assign r e) = numbers_moved e
  numbers_stay (Store x e) = numbers_moved e
  numbers_stay (Load r x) = refl
  numbers_stay (Cas r x e d) = ap₂ (λ (l m : List ℕ). l ++ m) (numbers_moved e) (numbers_moved d)
  numbers_stay Mfence = refl
  numbers_stay Sfence = refl
  numbers_stay (Flush x) = refl
  numbers_stay (Flushopt x) = refl
  numbers_stay (If test a b) = ap₂ (λ (l m : List ℕ). l ++ m) (numbers_moved test.left) (numbers_moved test.right)
  numbers_stay (While test a) = ap₂ (λ (l m : List ℕ). l ++ m) (numbers_moved test.left) (numbers_moved test.right)

  pub groups_moved : (x : Act-F Act Stmt) → groups_in (moved_act x) ≡ map (map place) (groups_in x)
  groups_moved (Assign r e) = ap (λ (l : List ℕ). l ∷ []) (reads_moved e)
  groups_moved (Store x e) = ap (λ (l : List ℕ). l ∷ []) (reads_moved e)
  groups_moved (Load r x) = refl
  groups_moved (Cas r x e d) = ap₂ (λ (l m : List ℕ). l ∷ m ∷ []) (reads_moved e) (reads_moved d)
  groups_moved Mfence = refl
  groups_moved Sfence = refl
  groups_moved (Flush x) = refl
  groups_moved (Flushopt x) = refl
  groups_moved (If test a b) = ap (λ (l : List ℕ). l ∷ []) (two_sides test.left test.right)
  groups_moved (While test a) = ap (λ (l : List ℕ). l ∷ []) (two_sides test.left test.right)

  pub locations_stay : (x : Act-F Act Stmt) → locations_in (moved_act x) ≡ locations_in x
  locations_stay (Assign r e) = refl
  locations_stay (Store x e) = refl
  locations_stay (Load r x) = refl
  locations_stay (Cas r x e d) = refl
  locations_stay Mfence = refl
  locations_stay Sfence = refl
  locations_stay (Flush x) = refl
  locations_stay (Flushopt x) = refl
  locations_stay (If test a b) = refl
  locations_stay (While test a) = refl

  -- ---- blocks

  first_moved : (x : Act-F Act Stmt) → first_in (moved_act x) ≡ map (erased_stmt place) (first_in x)
  first_moved (Assign r e) = refl
  first_moved (Store x e) = refl
  first_moved (Load r x) = refl
  first_moved (Cas r x e d) = refl
  first_moved Mfence = refl
  first_moved Sfence = refl
  first_moved (Flush x) = refl
  first_moved (Flushopt x) = refl
  first_moved (If test a b) = refl
  first_moved (While test a) = refl

  second_moved : (x : Act-F Act Stmt) → second_in (moved_act x) ≡ map (erased_stmt place) (second_in x)
  second_moved (Assign r e) = refl
  second_moved (Store x e) = refl
  second_moved (Load r x) = refl
  second_moved (Cas r x e d) = refl
  second_moved Mfence = refl
  second_moved Sfence = refl
  second_moved (Flush x) = refl
  second_moved (Flushopt x) = refl
  second_moved (If test a b) = refl
  second_moved (While test a) = refl

  pub first_is : (s : Stmt) → first_list (erased_stmt place s) ≡ map (erased_stmt place) (first_list s)
  first_is s = ap (λ (x : Act-F Act Stmt). first_in x) (act_is s) ∙ first_moved (out-Act (out-Stmt s).act)

  pub second_is : (s : Stmt) → second_list (erased_stmt place s) ≡ map (erased_stmt place) (second_list s)
  second_is s = ap (λ (x : Act-F Act Stmt). second_in x) (act_is s) ∙ second_moved (out-Act (out-Stmt s).act)

  abbrev erase : List Stmt → List Stmt
  erase ss = map (erased_stmt place) ss

  -- a block of more than its first statement
  joined : (s : Stmt) (a b rest : List Stmt) → erase (s ∷ (a ++ (b ++ rest))) ≡ erased_stmt place s ∷ (erase a ++ (erase b ++ erase rest))
  joined s a b rest =
      ap (λ (l : List Stmt). erased_stmt place s ∷ l)
      (map-append (erased_stmt place) a (b ++ rest) ∙ ap (λ (l : List Stmt). erase a ++ l) (map-append (erased_stmt place) b rest))

  -- by the number of its statements
  by_size : (n : ℕ) (ss : List Stmt) → size (block ss) ≤ n → statements (block (erase ss)) ≡ erase (statements (block ss))
  by_size n [] h = refl
  by_size zero (s ∷ ss) h = absurd (omega arith)
  by_size (suc n) (s ∷ ss) h =
      let first = first_list s in
      let second = second_list s in
      let few : size (block (s ∷ ss)) ≡ 1 + (size (block first) + (size (block second) + size (block ss))) = ap size (block-nests s ss) in
      let one : statements (block (first_list (erased_stmt place s))) ≡ erase (statements (block first)) = ap (λ (l : List Stmt). statements (block l)) (first_is s) ∙ by_size n first (omega arith) in
      let two : statements (block (second_list (erased_stmt place s))) ≡ erase (statements (block second)) = ap (λ (l : List Stmt). statements (block l)) (second_is s) ∙ by_size n second (omega arith) in
      ap statements (block-nests (erased_stmt place s) (erase ss))
      ∙ ap₂ (λ (l m : List Stmt). erased_stmt place s ∷ (l ++ m)) one (ap₂ (λ (l m : List Stmt). l ++ m) two (by_size n ss (omega arith)))
      ∙ sym (joined s (statements (block first)) (statements (block second)) (statements (block ss)))
      ∙ sym (ap (λ (b : Block). erase (statements b)) (block-nests s ss))

  -- its statements are those of the block, erased
  pub statements_erased : (ss : List Stmt) → statements (block (erase ss)) ≡ erase (statements (block ss))
  statements_erased ss = by_size (size (block ss)) ss (omega arith)
