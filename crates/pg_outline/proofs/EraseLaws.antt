-- The erasure has no auxiliary and no bracket, and a program without them is its own erasure.
use Rattle.std.proofs.Common.{◌≡◌, ℕ, zero, suc, ◌+◌, ◌<◌, ◌≤◌, false, List, [], ◌∷◌, ◌++◌, length, map, take, slice_get, refl, sym, ap, ap₂, subst, ◌∙◌, arith}
use Rattle.std.specs.List.{All}
use Rattle.std.proofs.lemmas.List.Elements.{All-nil, All-cons, All-head, All-tail}
use Rattle.pg_program.specs.declared.name_table.ScalarKind.{ScalarKind}
use Rattle.pg_program.specs.declared.name_table.ScalarKind.TheVariants as scalar
use Rattle.pg_program.specs.declared.syntax.AuxAssign.{AuxAssign}
use Rattle.pg_program.specs.declared.syntax.Expr.{Expr, roll-Expr, fold-roll-Expr}
use Rattle.pg_program.specs.declared.syntax.Expr.TheFolds.{ind-Expr, map-Expr}
use Rattle.pg_program.specs.declared.syntax.Expr.TheOpen.{Expr-F, Value, Scalar, Add, Sub, Mul}
use Rattle.pg_program.specs.declared.syntax.Cond.{Cond}
use Rattle.pg_program.specs.declared.syntax.Stmt.{Stmt, out-Stmt, roll-Stmt, roll-out-Stmt}
use Rattle.pg_program.specs.declared.syntax.Act.{Act, out-Act, roll-Act, roll-out-Act}
use Rattle.pg_program.specs.declared.syntax.Act.TheOpen.{Act-F, Assign, Store, Load, Cas, Mfence, Sfence, Flush, Flushopt, If, While}
use Rattle.pg_program.specs.declared.syntax.Act.TheFolds.{map-Act, fold_out-Act, fold_out-Stmt}
use Rattle.pg_program.specs.NameTable.{NameTable, is_auxiliary_kind}
use Rattle.pg_program.specs.Expr.{reads, reads_step}
use Rattle.pg_program.specs.Block.{block, first_in, second_in, first_list, second_list}
use Rattle.pg_program.specs.Graph.{size, statements}
use Rattle.pg_program.specs.Words.{outside, outside_in, bracket_scalars}
use Rattle.pg_program.specs.Program.{ProgramTable, IsStmt, IsThread}
use Rattle.pg_program.proofs.BlockLemmas.{block-nests}
use Rattle.pg_program.proofs.ExprLemmas.{All-front, All-behind}
use Rattle.pg_outline.specs.Erasure.{registers, new_place, moved, moved_step, moved_test, act_step, stmt_step, erased_act, erased_stmt}
use Rattle.pg_outline.specs.ErasureLaws.{ErasureIsBare, BareStays}
use Rattle.pg_outline.proofs.EraseNames.{none_auxiliary}
use Rattle.pg_outline.proofs.EraseStmts.{no_bracket, statements_erased}
use Rattle.pg_outline.proofs.EraseThreads.{erased_is_program}

abbrev NoBracket : Stmt → Type 0
NoBracket s = (out-Stmt s).aux ≡ []

abbrev NoBrackets : List Stmt → Type 0
NoBrackets ss = All NoBracket (statements (block ss))

-- ---- the erasure is bare

module _ (place : ℕ → ℕ) where
  bare_stmts : (ss : List Stmt) → All NoBracket (map (erased_stmt place) ss)
  bare_stmts [] = All-nil NoBracket
  bare_stmts (s ∷ ss) = All-cons NoBracket (erased_stmt place s) (map (erased_stmt place) ss) (no_bracket place s) (bare_stmts ss)

  bare_threads : (ts : List (List Stmt)) → All NoBrackets (map (map (erased_stmt place)) ts)
  bare_threads [] = All-nil NoBrackets
  bare_threads (ss ∷ ts) =
      All-cons NoBrackets (map (erased_stmt place) ss) (map (map (erased_stmt place)) ts)
      (subst (All NoBracket) (sym (statements_erased place ss)) (bare_stmts (statements (block ss)))) (bare_threads ts)

pub erasure_is_bare : ErasureIsBare
erasure_is_bare p h = (erased_is_program p h, record { scalars = none_auxiliary p.names.scalars; brackets = bare_threads (new_place p.names) p.threads })

-- ---- registers alone

all_registers : (es : List (List ℕ × ScalarKind)) → ((r : ℕ) → is_auxiliary_kind (slice_get es r) ≡ false) → registers es ≡ es
all_registers [] h = refl
all_registers ((name, scalar.Register o) ∷ es) h = ap (λ (l : List (List ℕ × ScalarKind)). (name, scalar.Register o) ∷ l) (all_registers es (λ r. h (suc r)))
all_registers ((name, scalar.Auxiliary) ∷ es) h = let e = h zero in cc

same_place : (es : List (List ℕ × ScalarKind)) → ((r : ℕ) → is_auxiliary_kind (slice_get es r) ≡ false) → (r : ℕ) → r < length es → length (registers (take r es)) ≡ r
same_place [] h r lt = absurd (omega arith)
same_place (e ∷ es) h zero lt = refl
same_place ((name, scalar.Register o) ∷ es) h (suc r) lt = ap suc (same_place es (λ q. h (suc q)) r (omega arith))
same_place ((name, scalar.Auxiliary) ∷ es) h (suc r) lt = let e = h zero in cc

-- ---- expressions and statements whose registers stay

module _ (place : ℕ → ℕ) where
  abbrev Stays : ℕ → Type 0
  Stays r = place r ≡ r

  abbrev Same : Expr → Type 0
  Same e = All Stays (reads e) → moved place e ≡ e

  abbrev Proved : Type 0
  Proved = (e : Expr) × Same e

  reads_roll : (x : Expr-F Expr) → reads (roll-Expr x) ≡ reads_step (map-Expr Expr (List ℕ) reads x)
  reads_roll = fold-roll-Expr (List ℕ) reads_step

  moved_roll : (x : Expr-F Expr) → moved place (roll-Expr x) ≡ moved_step place (map-Expr Expr Expr (moved place) x)
  moved_roll = fold-roll-Expr Expr (moved_step place)

  both : (a b : Proved) (l : List ℕ) → l ≡ reads a.0 ++ reads b.0 → All Stays l → (moved place a.0 ≡ a.0) × (moved place b.0 ≡ b.0)
  both a b l is all =
      let h = subst (All Stays) is all in
      (a.1 (All-front Stays (reads a.0) (reads b.0) h), b.1 (All-behind Stays (reads a.0) (reads b.0) h))

  same_layer : (y : Expr-F Proved) → Same (roll-Expr (map-Expr Proved Expr (λ e. e.0) y))
  same_layer (Value v) all = moved_roll (Value v)
  same_layer (Scalar r) all = moved_roll (Scalar r) ∙ ap (λ (q : ℕ). roll-Expr (Scalar q)) (All-head Stays r [] (subst (All Stays) (reads_roll (Scalar r)) all))
  same_layer (Add a b) all =
      let h = both a b (reads (roll-Expr (Add a.0 b.0))) (reads_roll (Add a.0 b.0)) all in
      moved_roll (Add a.0 b.0) ∙ ap₂ (λ (x y : Expr). roll-Expr (Add x y)) h.0 h.1
  same_layer (Sub a b) all =
      let h = both a b (reads (roll-Expr (Sub a.0 b.0))) (reads_roll (Sub a.0 b.0)) all in
      moved_roll (Sub a.0 b.0) ∙ ap₂ (λ (x y : Expr). roll-Expr (Sub x y)) h.0 h.1
  same_layer (Mul a b) all =
      let h = both a b (reads (roll-Expr (Mul a.0 b.0))) (reads_roll (Mul a.0 b.0)) all in
      moved_roll (Mul a.0 b.0) ∙ ap₂ (λ (x y : Expr). roll-Expr (Mul x y)) h.0 h.1

  same_expr : (e : Expr) → Same e
  same_expr = ind-Expr Same (λ x y is. subst (λ (z : Expr-F Expr). Same (roll-Expr z)) is (same_layer y))

  same_test : (c : Cond) → All Stays (reads c.left ++ reads c.right) → moved_test place c ≡ c
  same_test c all =
      ap₂ (λ (a b : Expr). let d : Cond = record { left = a; right = b; equal = c.equal } in d)
      (same_expr c.left (All-front Stays (reads c.left) (reads c.right) all)) (same_expr c.right (All-behind Stays (reads c.left) (reads c.right) all))

  abbrev erase : List Stmt → List Stmt
  erase ss = map (erased_stmt place) ss

  same_act : (x : Act-F Act Stmt) → All Stays (outside_in x) → erase (first_in x) ≡ first_in x → erase (second_in x) ≡ second_in x
      → act_step place (map-Act Act Stmt Act Stmt (erased_act place) (erased_stmt place) x) ≡ roll-Act x
  same_act (Assign r e) all first second =
      ap₂ (λ (q : ℕ) (a : Expr). roll-Act (Assign q a)) (All-head Stays r (reads e) all) (same_expr e (All-tail Stays r (reads e) all))
  same_act (Store x e) all first second = ap (λ (a : Expr). roll-Act (Store x a)) (same_expr e all)
  same_act (Load r x) all first second = ap (λ (q : ℕ). roll-Act (Load q x)) (All-head Stays r [] all)
  same_act (Cas r x e d) all first second =
      let rest = All-tail Stays r (reads e ++ reads d) all in
      ap (λ (q : ℕ). roll-Act (Cas q x (moved place e) (moved place d))) (All-head Stays r (reads e ++ reads d) all)
      ∙ ap₂ (λ (a b : Expr). roll-Act (Cas r x a b)) (same_expr e (All-front Stays (reads e) (reads d) rest)) (same_expr d (All-behind Stays (reads e) (reads d) rest))
  same_act Mfence all first second = refl
  same_act Sfence all first second = refl
  same_act (Flush x) all first second = refl
  same_act (Flushopt x) all first second = refl
  same_act (If test a b) all first second =
      ap (λ (c : Cond). roll-Act (If c (erase a) (erase b))) (same_test test all) ∙ ap₂ (λ (l m : List Stmt). roll-Act (If test l m)) first second
  same_act (While test a) all first second = ap₂ (λ (c : Cond) (l : List Stmt). roll-Act (While c l)) (same_test test all) first

  same_stmt : (s : Stmt) → NoBracket s → All Stays (outside s) → erase (first_list s) ≡ first_list s → erase (second_list s) ≡ second_list s → erased_stmt place s ≡ s
  same_stmt s bare all first second =
      let a = (out-Stmt s).act in
      let act : erased_act place a ≡ a = fold_out-Act Act Stmt (act_step place) stmt_step a ∙ same_act (out-Act a) all first second ∙ roll-out-Act a in
      fold_out-Stmt Act Stmt (act_step place) stmt_step s
      ∙ ap₂ (λ (b : Act) (aux : List AuxAssign). roll-Stmt (record { act = b; aux = aux })) act (sym bare)
      ∙ roll-out-Stmt s

  -- ---- blocks

  abbrev Plainly : Stmt → Type 0
  Plainly s = NoBracket s × All Stays (outside s)

  by_size : (n : ℕ) (ss : List Stmt) → size (block ss) ≤ n → All Plainly (statements (block ss)) → erase ss ≡ ss
  by_size n [] h all = refl
  by_size zero (s ∷ ss) h all = absurd (omega arith)
  by_size (suc n) (s ∷ ss) h all =
      let first = first_list s in
      let second = second_list s in
      let few : size (block (s ∷ ss)) ≡ 1 + (size (block first) + (size (block second) + size (block ss))) = ap size (block-nests s ss) in
      let a = statements (block first) in
      let b = statements (block second) in
      let rest = statements (block ss) in
      let each : All Plainly (s ∷ (a ++ (b ++ rest))) = subst (All Plainly) (ap statements (block-nests s ss)) all in
      let here = All-head Plainly s (a ++ (b ++ rest)) each in
      let inner = All-tail Plainly s (a ++ (b ++ rest)) each in
      let behind = All-behind Plainly a (b ++ rest) inner in
      ap₂ (λ (t : Stmt) (l : List Stmt). t ∷ l)
      (same_stmt s here.0 here.1 (by_size n first (omega arith) (All-front Plainly a (b ++ rest) inner)) (by_size n second (omega arith) (All-front Plainly b rest behind)))
      (by_size n ss (omega arith) (All-behind Plainly b rest behind))

  same_block : (ss : List Stmt) → All Plainly (statements (block ss)) → erase ss ≡ ss
  same_block ss all = by_size (size (block ss)) ss (omega arith) all

-- ---- programs

module _ (names : NameTable) (none : (r : ℕ) → is_auxiliary_kind (slice_get names.scalars r) ≡ false) where
  stay_all : (rs : List ℕ) → All (λ r. r < length names.scalars) rs → All (Stays (new_place names)) rs
  stay_all [] all = All-nil (Stays (new_place names))
  stay_all (r ∷ rs) all =
      All-cons (Stays (new_place names)) r rs (same_place names.scalars none r (All-head (λ (q : ℕ). q < length names.scalars) r rs all))
      (stay_all rs (All-tail (λ (q : ℕ). q < length names.scalars) r rs all))

  plain_all : (ss : List Stmt) → All (IsStmt names) ss → All NoBracket ss → All (Plainly (new_place names)) ss
  plain_all [] are bare = All-nil (Plainly (new_place names))
  plain_all (s ∷ ss) are bare =
      let mine = All-front (λ (r : ℕ). r < length names.scalars) (outside s) (bracket_scalars (out-Stmt s).aux) (All-head (IsStmt names) s ss are).scalars in
      All-cons (Plainly (new_place names)) s ss (All-head NoBracket s ss bare, stay_all (outside s) mine) (plain_all ss (All-tail (IsStmt names) s ss are) (All-tail NoBracket s ss bare))

  same_threads : (ts : List (List Stmt)) → All (IsThread names) ts → All NoBrackets ts → map (map (erased_stmt (new_place names))) ts ≡ ts
  same_threads [] are bare = refl
  same_threads (ss ∷ ts) are bare =
      ap₂ (λ (l : List Stmt) (m : List (List Stmt)). l ∷ m)
      (same_block (new_place names) ss (plain_all (statements (block ss)) (All-head (IsThread names) ss ts are).stmts (All-head NoBrackets ss ts bare)))
      (same_threads ts (All-tail (IsThread names) ss ts are) (All-tail NoBrackets ss ts bare))

pub bare_stays : BareStays
bare_stays p h bare =
    ap₂ (λ (l : List (List ℕ × ScalarKind)) (ts : List (List Stmt)).
    let names : NameTable = record p.names { scalars = l } in
    let q : ProgramTable = record { names = names; threads = ts } in
    q)
    (all_registers p.names.scalars bare.scalars) (same_threads p.names bare.scalars p.threads h.threads.each bare.brackets)
