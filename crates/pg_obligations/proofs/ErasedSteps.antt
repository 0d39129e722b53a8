-- A step of the erasure is a step of the program with the auxiliaries forgotten.
use Rattle.std.proofs.Common.{◌≡◌, ℕ, ◌+◌, ◌-◌, ◌*◌, ◌%◌, ◌==◌, Bool, true, false, cond, List, [], ◌∷◌, ◌++◌, length, map, set, Option, Some, None, refl, sym, ap, ap₂, subst, ◌∙◌}
use Rattle.std.specs.List.{All}
use Rattle.std.proofs.lemmas.List.Elements.{All-head, All-tail}
use Rattle.pg_program.specs.declared.syntax.AuxAssign.{AuxAssign}
use Rattle.pg_program.specs.declared.syntax.Cond.{Cond}
use Rattle.pg_program.specs.declared.syntax.Expr.{Expr, roll-Expr, fold-roll-Expr}
use Rattle.pg_program.specs.declared.syntax.Expr.TheFolds.{ind-Expr, map-Expr}
use Rattle.pg_program.specs.declared.syntax.Expr.TheOpen.{Expr-F, Value, Scalar, Add, Sub, Mul}
use Rattle.pg_program.specs.declared.syntax.Stmt.{Stmt}
use Rattle.pg_program.specs.declared.syntax.Act.{Act}
use Rattle.pg_program.specs.declared.syntax.Act.TheOpen.{Act-F, Assign, Store, Load, Cas, Mfence, Sfence, Flush, Flushopt, If, While}
use Rattle.pg_program.specs.declared.point.Branch.TheVariants.{Yes, No}
use Rattle.pg_program.specs.Expr.{reads, reads_step, value, value_step, agrees, test_holds}
use Rattle.pg_program.specs.NameTable.{NameTable, is_auxiliary}
use Rattle.pg_program.specs.Words.{outside_in}
use Rattle.pg_program.proofs.ExprLemmas.{All-front, All-behind}
use Rattle.pg_machine.specs.Memory.{value_at}
use Rattle.pg_machine.specs.Moves.{Seen, stored, loaded, fenced, swapped, missed}
use Rattle.pg_machine.specs.Step.{Left, leaves, Row, branch_taken, assigned}
use Rattle.pg_outline.specs.Erasure.{moved, moved_step, moved_test, new_place}
use Rattle.pg_outline.proofs.EraseStmts.{moved_act}
use Rattle.pg_obligations.specs.Forgotten.{registers_of}
use Rattle.pg_obligations.proofs.Registers.{get_or-registers_of, set-registers_of, set-auxiliary}

module _ (names : NameTable) where
  abbrev place : ℕ → ℕ
  place = new_place names

  abbrev pub keep : List ℕ → List ℕ
  keep vs = registers_of names.scalars vs

  -- these are registers
  abbrev pub AreRegisters : List ℕ → Type 0
  AreRegisters rs = All (λ r. is_auxiliary names r ≡ false) rs

  -- ---- expressions

  reads_roll : (x : Expr-F Expr) → reads (roll-Expr x) ≡ reads_step (map-Expr Expr (List ℕ) reads x)
  reads_roll = fold-roll-Expr (List ℕ) reads_step

  moved_roll : (x : Expr-F Expr) → moved place (roll-Expr x) ≡ moved_step place (map-Expr Expr Expr (moved place) x)
  moved_roll = fold-roll-Expr Expr (moved_step place)

  module _ (vs : List ℕ) (d : ℕ) (long : length vs ≡ length names.scalars) where
    value_roll : (ws : List ℕ) (x : Expr-F Expr) → value ws d (roll-Expr x) ≡ value_step ws d (map-Expr Expr ℕ (value ws d) x)
    value_roll ws = fold-roll-Expr ℕ (value_step ws d)

    abbrev Same : Expr → Type 0
    Same e = AreRegisters (reads e) → value (keep vs) d (moved place e) ≡ value vs d e

    abbrev Saming : Type 0
    Saming = (e : Expr) × Same e

    two_same : (a b : Saming) (x y : Expr-F Expr) (op : ℕ → ℕ → ℕ) → moved place (roll-Expr x) ≡ roll-Expr y
        → value (keep vs) d (roll-Expr y) ≡ op (value (keep vs) d (moved place a.0)) (value (keep vs) d (moved place b.0))
        → value vs d (roll-Expr x) ≡ op (value vs d a.0) (value vs d b.0) → reads (roll-Expr x) ≡ reads a.0 ++ reads b.0 → Same (roll-Expr x)
    two_same a b x y op is new old both own =
        let parts = subst AreRegisters both own in
        ap (value (keep vs) d) is ∙ new
        ∙ ap₂ op (a.1 (All-front (λ r. is_auxiliary names r ≡ false) (reads a.0) (reads b.0) parts)) (b.1 (All-behind (λ r. is_auxiliary names r ≡ false) (reads a.0) (reads b.0) parts))
        ∙ sym old

    same_layer : (y : Expr-F Saming) → Same (roll-Expr (map-Expr Saming Expr (λ e. e.0) y))
    same_layer (Value v) own = ap (value (keep vs) d) (moved_roll (Value v)) ∙ value_roll (keep vs) (Value v) ∙ sym (value_roll vs (Value v))
    same_layer (Scalar r) own =
        let is = All-head (λ q. is_auxiliary names q ≡ false) r [] (subst AreRegisters (reads_roll (Scalar r)) own) in
        ap (value (keep vs) d) (moved_roll (Scalar r)) ∙ value_roll (keep vs) (Scalar (place r))
        ∙ get_or-registers_of names.scalars vs r is long ∙ sym (value_roll vs (Scalar r))
    same_layer (Add a b) own =
        two_same a b (Add a.0 b.0) (Add (moved place a.0) (moved place b.0)) (λ m n. (m + n) % d) (moved_roll (Add a.0 b.0))
        (value_roll (keep vs) (Add (moved place a.0) (moved place b.0))) (value_roll vs (Add a.0 b.0)) (reads_roll (Add a.0 b.0)) own
    same_layer (Sub a b) own =
        two_same a b (Sub a.0 b.0) (Sub (moved place a.0) (moved place b.0)) (λ m n. (m + (d - n)) % d) (moved_roll (Sub a.0 b.0))
        (value_roll (keep vs) (Sub (moved place a.0) (moved place b.0))) (value_roll vs (Sub a.0 b.0)) (reads_roll (Sub a.0 b.0)) own
    same_layer (Mul a b) own =
        two_same a b (Mul a.0 b.0) (Mul (moved place a.0) (moved place b.0)) (λ m n. (m * n) % d) (moved_roll (Mul a.0 b.0))
        (value_roll (keep vs) (Mul (moved place a.0) (moved place b.0))) (value_roll vs (Mul a.0 b.0)) (reads_roll (Mul a.0 b.0)) own

    -- an expression over registers has its value over these alone
    same_value : (e : Expr) → AreRegisters (reads e) → value (keep vs) d (moved place e) ≡ value vs d e
    same_value = ind-Expr Same (λ x y is. subst (λ (z : Expr-F Expr). Same (roll-Expr z)) is (same_layer y))

    same_test : (c : Cond) → AreRegisters (reads c.left ++ reads c.right) → test_holds (keep vs) d (moved_test place c) ≡ test_holds vs d c
    same_test c own =
        ap₂ (λ (m n : ℕ). agrees c.equal (m == n))
        (same_value c.left (All-front (λ r. is_auxiliary names r ≡ false) (reads c.left) (reads c.right) own))
        (same_value c.right (All-behind (λ r. is_auxiliary names r ≡ false) (reads c.left) (reads c.right) own))

    -- ---- acts

    pub same_branch : (a : Act-F Act Stmt) → AreRegisters (outside_in a) → branch_taken d (keep vs) (moved_act place a) ≡ branch_taken d vs a
    same_branch (Assign q e) own = refl
    same_branch (Store x e) own = refl
    same_branch (Load q x) own = refl
    same_branch (Cas q x e f) own = refl
    same_branch Mfence own = refl
    same_branch Sfence own = refl
    same_branch (Flush x) own = refl
    same_branch (Flushopt x) own = refl
    same_branch (If test a b) own = ap (λ (c : Bool). cond c Yes No) (same_test test own)
    same_branch (While test a) own = ap (λ (c : Bool). cond c Yes No) (same_test test own)

    abbrev keep_left : Left → Left
    keep_left left = record left { scalars = keep left.scalars }

    -- a value that goes to a register goes to it among the registers
    set_to : (q v w : ℕ) (n : Seen) → is_auxiliary names q ≡ false → w ≡ v → keep_left (leaves n (set vs q v)) ≡ leaves n (set (keep vs) (place q) w)
    set_to q v w n is same = ap (leaves n) (set-registers_of names.scalars vs q v is long ∙ ap (set (keep vs) (place q)) (sym same))

    -- the row of an act is that of the moved act
    pub row_down : (n : Seen) (a : Act-F Act Stmt) (c : Option ℕ) (left : Left) → AreRegisters (outside_in a) → Row d n vs a c left
        → Row d n (keep vs) (moved_act place a) c (keep_left left)
    row_down n (Assign q e) None left own h =
        ap keep_left h ∙ set_to q (value vs d e) _ n (All-head (λ r. is_auxiliary names r ≡ false) q (reads e) own) (same_value e (All-tail (λ r. is_auxiliary names r ≡ false) q (reads e) own))
    row_down n (Assign q e) (Some p) left own h = absurd h
    row_down n (Store x e) None left own h = ap keep_left h ∙ ap (λ (v : ℕ). leaves (stored n x v) (keep vs)) (sym (same_value e own))
    row_down n (Store x e) (Some p) left own h = absurd h
    row_down n (Load q x) None left own h = absurd h
    row_down n (Load q x) (Some p) left own h = (h.0, ap keep_left h.1 ∙ set_to q (value_at n.memory x p) _ (loaded n x p) (All-head (λ r. is_auxiliary names r ≡ false) q [] own) refl)
    row_down n (Cas q x e f) None left own h =
        let rest = All-tail (λ r. is_auxiliary names r ≡ false) q (reads e ++ reads f) own in
        let one = same_value e (All-front (λ r. is_auxiliary names r ≡ false) (reads e) (reads f) rest) in
        let two = same_value f (All-behind (λ r. is_auxiliary names r ≡ false) (reads e) (reads f) rest) in (
          h.0 ∙ sym one,
          ap keep_left h.1 ∙ set_to q (value vs d e) (value (keep vs) d (moved place e)) (swapped n x (value vs d f)) (All-head (λ r. is_auxiliary names r ≡ false) q (reads e ++ reads f) own) one
              ∙ ap (λ (v : ℕ). leaves (swapped n x v) (set (keep vs) (place q) (value (keep vs) d (moved place e)))) (sym two),
        )
    row_down n (Cas q x e f) (Some p) left own h =
        let one = same_value e (All-front (λ r. is_auxiliary names r ≡ false) (reads e) (reads f) (All-tail (λ r. is_auxiliary names r ≡ false) q (reads e ++ reads f) own)) in (
          h.0,
          λ same. h.1 (same ∙ one),
          ap keep_left h.2 ∙ set_to q (value_at n.memory x p) _ (missed n x p) (All-head (λ r. is_auxiliary names r ≡ false) q (reads e ++ reads f) own) refl,
        )
    row_down n Mfence None left own h = ap keep_left h
    row_down n Mfence (Some p) left own h = absurd h
    row_down n Sfence None left own h = ap keep_left h
    row_down n Sfence (Some p) left own h = absurd h
    row_down n (Flush x) None left own h = ap keep_left h
    row_down n (Flush x) (Some p) left own h = absurd h
    row_down n (Flushopt x) None left own h = ap keep_left h
    row_down n (Flushopt x) (Some p) left own h = absurd h
    row_down n (If test a b) None left own h = ap keep_left h
    row_down n (If test a b) (Some p) left own h = absurd h
    row_down n (While test a) None left own h = ap keep_left h
    row_down n (While test a) (Some p) left own h = absurd h

    -- what the moved act leaves is what the act leaves
    pub record Has (n : Seen) (a : Act-F Act Stmt) (c : Option ℕ) (less : Left) : Type 0 where
      pub left : Left
      pub row : Row d n vs a c left
      pub same : record left { scalars = keep left.scalars } ≡ less

    pub row_up : (n : Seen) (a : Act-F Act Stmt) (c : Option ℕ) (less : Left) → AreRegisters (outside_in a) → Row d n (keep vs) (moved_act place a) c less → Has n a c less
    row_up n (Assign q e) None less own h = record {
      left = leaves n (set vs q (value vs d e));
      row = refl;
      same = set_to q (value vs d e) _ n (All-head (λ r. is_auxiliary names r ≡ false) q (reads e) own) (same_value e (All-tail (λ r. is_auxiliary names r ≡ false) q (reads e) own)) ∙ sym h;
    }
    row_up n (Assign q e) (Some p) less own h = absurd h
    row_up n (Store x e) None less own h = record {
      left = leaves (stored n x (value vs d e)) vs;
      row = refl;
      same = ap (λ (v : ℕ). leaves (stored n x v) (keep vs)) (sym (same_value e own)) ∙ sym h;
    }
    row_up n (Store x e) (Some p) less own h = absurd h
    row_up n (Load q x) None less own h = absurd h
    row_up n (Load q x) (Some p) less own h = record {
      left = leaves (loaded n x p) (set vs q (value_at n.memory x p));
      row = (h.0, refl);
      same = set_to q (value_at n.memory x p) _ (loaded n x p) (All-head (λ r. is_auxiliary names r ≡ false) q [] own) refl ∙ sym h.1;
    }
    row_up n (Cas q x e f) None less own h =
        let rest = All-tail (λ r. is_auxiliary names r ≡ false) q (reads e ++ reads f) own in
        let one = same_value e (All-front (λ r. is_auxiliary names r ≡ false) (reads e) (reads f) rest) in
        let two = same_value f (All-behind (λ r. is_auxiliary names r ≡ false) (reads e) (reads f) rest) in
        record {
          left = leaves (swapped n x (value vs d f)) (set vs q (value vs d e));
          row = (h.0 ∙ one, refl);
          same = set_to q (value vs d e) (value (keep vs) d (moved place e)) (swapped n x (value vs d f)) (All-head (λ r. is_auxiliary names r ≡ false) q (reads e ++ reads f) own) one
              ∙ ap (λ (v : ℕ). leaves (swapped n x v) (set (keep vs) (place q) (value (keep vs) d (moved place e)))) (sym two)
              ∙ sym h.1;
        }
    row_up n (Cas q x e f) (Some p) less own h =
        let one = same_value e (All-front (λ r. is_auxiliary names r ≡ false) (reads e) (reads f) (All-tail (λ r. is_auxiliary names r ≡ false) q (reads e ++ reads f) own)) in
        record {
          left = leaves (missed n x p) (set vs q (value_at n.memory x p));
          row = (h.0, λ same. h.1 (same ∙ sym one), refl);
          same = set_to q (value_at n.memory x p) _ (missed n x p) (All-head (λ r. is_auxiliary names r ≡ false) q (reads e ++ reads f) own) refl ∙ sym h.2;
        }
    row_up n Mfence None less own h = record { left = leaves (fenced n) vs; row = refl; same = sym h }
    row_up n Mfence (Some p) less own h = absurd h
    row_up n Sfence None less own h = record { left = _; row = refl; same = sym h }
    row_up n Sfence (Some p) less own h = absurd h
    row_up n (Flush x) None less own h = record { left = _; row = refl; same = sym h }
    row_up n (Flush x) (Some p) less own h = absurd h
    row_up n (Flushopt x) None less own h = record { left = _; row = refl; same = sym h }
    row_up n (Flushopt x) (Some p) less own h = absurd h
    row_up n (If test a b) None less own h = record { left = leaves n vs; row = refl; same = sym h }
    row_up n (If test a b) (Some p) less own h = absurd h
    row_up n (While test a) None less own h = record { left = leaves n vs; row = refl; same = sym h }
    row_up n (While test a) (Some p) less own h = absurd h

  -- a bracket assigns no register
  pub bracket_forgotten : (d : ℕ) (seen : List ℕ) (bracket : List AuxAssign) (vs : List ℕ) → All (λ r. is_auxiliary names r ≡ true) (map (λ a. a.target) bracket)
      → keep (assigned d seen bracket vs) ≡ keep vs
  bracket_forgotten d seen [] vs h = refl
  bracket_forgotten d seen (a ∷ rest) vs h =
      bracket_forgotten d seen rest (set vs a.target (value seen d a.expr)) (All-tail (λ r. is_auxiliary names r ≡ true) a.target (map (λ b. b.target) rest) h)
      ∙ set-auxiliary names.scalars vs a.target (value seen d a.expr) (All-head (λ r. is_auxiliary names r ≡ true) a.target (map (λ b. b.target) rest) h)
