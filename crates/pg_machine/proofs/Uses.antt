-- The scalars and locations that an act uses.
use Rattle.std.proofs.Common.{◌≡◌, ◌≢◌, ℕ, zero, suc, get_or, Option, None, ◌<◌, ◌⊎◌, cond, List, [], ◌∷◌, ◌++◌, set, refl, sym, ap, subst, ◌∙◌}
use Rattle.std.specs.List.{All}
use Rattle.std.proofs.lemmas.List.Elements.{All-nil, All-cons, All-head, All-tail}
use Rattle.pg_program.specs.declared.syntax.Expr.{Expr}
use Rattle.pg_program.specs.declared.syntax.Cond.{Cond}
use Rattle.pg_program.specs.declared.syntax.AuxAssign.{AuxAssign}
use Rattle.pg_program.specs.declared.syntax.Stmt.{Stmt}
use Rattle.pg_program.specs.declared.syntax.Act.{Act, out-Act, Assign, Store, Cas, If, While}
use Rattle.pg_program.specs.declared.syntax.Act.TheOpen as opened
use Rattle.pg_program.specs.declared.point.Branch.TheVariants.{Yes, No}
use Rattle.pg_program.specs.Words.{outside_in, locations_in, bracket_scalars}
use Rattle.pg_program.specs.Expr.{reads, value, test_holds}
use Rattle.pg_machine.specs.declared.fault.StepFault.{StepFault}
use Rattle.pg_machine.specs.declared.fault.StepFault.TheVariants.{CasNotLast, MessagesFull}
use Rattle.pg_machine.specs.Memory.{Memory, value_at, last_value}
use Rattle.pg_machine.specs.Moves.{Seen}
use Rattle.pg_machine.specs.Step.{branch_taken, assigned}
use Rattle.pg_machine.specs.Fault.{IsFull, RowFault}
use Rattle.pg_machine.specs.Refusal.{IsRefusal}

pub all_left : (n : ℕ) (xs ys : List ℕ) → All (λ r. r < n) (xs ++ ys) → All (λ r. r < n) xs
all_left n [] ys h = All-nil (λ (r : ℕ). r < n)
all_left n (x ∷ xs) ys h =
    All-cons (λ (r : ℕ). r < n) x xs (All-head (λ (r : ℕ). r < n) x (xs ++ ys) h) (all_left n xs ys (All-tail (λ (r : ℕ). r < n) x (xs ++ ys) h))

pub all_right : (n : ℕ) (xs ys : List ℕ) → All (λ r. r < n) (xs ++ ys) → All (λ r. r < n) ys
all_right n [] ys h = h
all_right n (x ∷ xs) ys h = all_right n xs ys (All-tail (λ (r : ℕ). r < n) x (xs ++ ys) h)

-- ---- what each act opens to

pub out_cas : (q x : ℕ) (e f : Expr) → out-Act (Cas q x e f) ≡ opened.Cas q x e f
unfolding out-Act denote.Hole.Carrier.out
out_cas q x e f = refl

pub out_assign : (q : ℕ) (e : Expr) → out-Act (Assign q e) ≡ opened.Assign q e
unfolding out-Act denote.Hole.Carrier.out
out_assign q e = refl

pub out_store : (x : ℕ) (e : Expr) → out-Act (Store x e) ≡ opened.Store x e
unfolding out-Act denote.Hole.Carrier.out
out_store x e = refl

-- the scalars and the locations of an opened act
abbrev Uses : ℕ → opened.Act-F Act Stmt → Type 0
Uses n a = All (λ r. r < n) (outside_in a)

abbrev Touches : ℕ → opened.Act-F Act Stmt → Type 0
Touches m a = All (λ x. x < m) (locations_in a)

pub record CasUses (n q : ℕ) (e f : Expr) : Type 0 where
  pub target : q < n
  pub expected : All (λ r. r < n) (reads e)
  pub desired : All (λ r. r < n) (reads f)

pub cas_uses : (n : ℕ) (a : Act) (q x : ℕ) (e f : Expr) → a ≡ Cas q x e f → All (λ r. r < n) (outside_in (out-Act a)) → CasUses n q e f
cas_uses n a q x e f is h =
    let all = subst (Uses n) (ap out-Act is ∙ out_cas q x e f) h in
    let rest = All-tail (λ (r : ℕ). r < n) q (reads e ++ reads f) all in
    record { target = All-head (λ (r : ℕ). r < n) q (reads e ++ reads f) all; expected = all_left n (reads e) (reads f) rest; desired = all_right n (reads e) (reads f) rest }

pub cas_location : (m : ℕ) (a : Act) (q x : ℕ) (e f : Expr) → a ≡ Cas q x e f → All (λ y. y < m) (locations_in (out-Act a)) → x < m
cas_location m a q x e f is h = All-head (λ (y : ℕ). y < m) x [] (subst (Touches m) (ap out-Act is ∙ out_cas q x e f) h)

pub assign_uses : (n : ℕ) (a : Act) (q : ℕ) (e : Expr) → a ≡ Assign q e → All (λ r. r < n) (outside_in (out-Act a)) → (q < n) × All (λ r. r < n) (reads e)
assign_uses n a q e is h =
    let all = subst (Uses n) (ap out-Act is ∙ out_assign q e) h in
    (All-head (λ (r : ℕ). r < n) q (reads e) all, All-tail (λ (r : ℕ). r < n) q (reads e) all)

pub store_uses : (n : ℕ) (a : Act) (x : ℕ) (e : Expr) → a ≡ Store x e → All (λ r. r < n) (outside_in (out-Act a)) → All (λ r. r < n) (reads e)
store_uses n a x e is h = subst (Uses n) (ap out-Act is ∙ out_store x e) h

pub store_location : (m : ℕ) (a : Act) (x : ℕ) (e : Expr) → a ≡ Store x e → All (λ y. y < m) (locations_in (out-Act a)) → x < m
store_location m a x e is h = All-head (λ (y : ℕ). y < m) x [] (subst (Touches m) (ap out-Act is ∙ out_store x e) h)

-- ---- tests

if_scalars : (t : Cond) (x y : List Stmt) → outside_in (out-Act (If t x y)) ≡ reads t.left ++ reads t.right
unfolding out-Act denote.Hole.Carrier.out
if_scalars t x y = refl

while_scalars : (t : Cond) (x : List Stmt) → outside_in (out-Act (While t x)) ≡ reads t.left ++ reads t.right
unfolding out-Act denote.Hole.Carrier.out
while_scalars t x = refl

if_branch : (d : ℕ) (r : List ℕ) (t : Cond) (x y : List Stmt) → branch_taken d r (out-Act (If t x y)) ≡ cond (test_holds r d t) Yes No
unfolding out-Act denote.Hole.Carrier.out
if_branch d r t x y = refl

while_branch : (d : ℕ) (r : List ℕ) (t : Cond) (x : List Stmt) → branch_taken d r (out-Act (While t x)) ≡ cond (test_holds r d t) Yes No
unfolding out-Act denote.Hole.Carrier.out
while_branch d r t x = refl

pub record TestUses (n : ℕ) (t : Cond) : Type 0 where
  pub left : All (λ r. r < n) (reads t.left)
  pub right : All (λ r. r < n) (reads t.right)

both_sides : (n : ℕ) (t : Cond) (rs : List ℕ) → rs ≡ reads t.left ++ reads t.right → All (λ r. r < n) rs → TestUses n t
both_sides n t rs e h =
    let all = subst (λ (l : List ℕ). All (λ (r : ℕ). r < n) l) e h in
    record { left = all_left n (reads t.left) (reads t.right) all; right = all_right n (reads t.left) (reads t.right) all }

pub if_uses : (n : ℕ) (a : Act) (t : Cond) (x y : List Stmt) → a ≡ If t x y → All (λ r. r < n) (outside_in (out-Act a)) → TestUses n t
if_uses n a t x y is h = both_sides n t (outside_in (out-Act a)) (ap (λ (b : Act). outside_in (out-Act b)) is ∙ if_scalars t x y) h

pub while_uses : (n : ℕ) (a : Act) (t : Cond) (x : List Stmt) → a ≡ While t x → All (λ r. r < n) (outside_in (out-Act a)) → TestUses n t
while_uses n a t x is h = both_sides n t (outside_in (out-Act a)) (ap (λ (b : Act). outside_in (out-Act b)) is ∙ while_scalars t x) h

pub if_takes : (d : ℕ) (r : List ℕ) (a : Act) (t : Cond) (x y : List Stmt) → a ≡ If t x y → branch_taken d r (out-Act a) ≡ cond (test_holds r d t) Yes No
if_takes d r a t x y is = ap (λ (b : Act). branch_taken d r (out-Act b)) is ∙ if_branch d r t x y

pub while_takes : (d : ℕ) (r : List ℕ) (a : Act) (t : Cond) (x : List Stmt) → a ≡ While t x → branch_taken d r (out-Act a) ≡ cond (test_holds r d t) Yes No
while_takes d r a t x is = ap (λ (b : Act). branch_taken d r (out-Act b)) is ∙ while_branch d r t x

-- ---- brackets

pub assigned-snoc : (d : ℕ) (seen : List ℕ) (bracket : List AuxAssign) (a : AuxAssign) (r : List ℕ)
    → assigned d seen (bracket ++ a ∷ []) r ≡ set (assigned d seen bracket r) a.target (value seen d a.expr)
assigned-snoc d seen [] a r = refl
assigned-snoc d seen (b ∷ bracket) a r = assigned-snoc d seen bracket a (set r b.target (value seen d b.expr))

pub bracket_targets : (n : ℕ) (bracket : List AuxAssign) → All (λ r. r < n) (bracket_scalars bracket) → All (λ a. a.target < n) bracket
bracket_targets n [] h = All-nil (λ (a : AuxAssign). a.target < n)
bracket_targets n (a ∷ rest) h =
    All-cons (λ (b : AuxAssign). b.target < n) a rest (All-head (λ (r : ℕ). r < n) a.target (reads a.expr ++ bracket_scalars rest) h)
    (bracket_targets n rest (all_right n (reads a.expr) (bracket_scalars rest) (All-tail (λ (r : ℕ). r < n) a.target (reads a.expr ++ bracket_scalars rest) h)))

pub bracket_names : (n : ℕ) (bracket : List AuxAssign) → All (λ r. r < n) (bracket_scalars bracket) → All (λ a. All (λ r. r < n) (reads a.expr)) bracket
bracket_names n [] h = All-nil (λ (a : AuxAssign). All (λ (r : ℕ). r < n) (reads a.expr))
bracket_names n (a ∷ rest) h =
    let tail = All-tail (λ (r : ℕ). r < n) a.target (reads a.expr ++ bracket_scalars rest) h in
    All-cons (λ (b : AuxAssign). All (λ (r : ℕ). r < n) (reads b.expr)) a rest (all_left n (reads a.expr) (bracket_scalars rest) tail)
    (bracket_names n rest (all_right n (reads a.expr) (bracket_scalars rest) tail))

-- ---- values of the memory

pub get-below : (d : ℕ) (xs : List ℕ) (i : ℕ) → 0 < d → All (λ v. v < d) xs → get_or xs i 0 < d
get-below d [] i some h = some
get-below d (x ∷ xs) zero some h = All-head (λ (v : ℕ). v < d) x xs h
get-below d (x ∷ xs) (suc i) some h = get-below d xs i some (All-tail (λ (v : ℕ). v < d) x xs h)

message-below : (d : ℕ) (ms : List (ℕ × ℕ)) (i : ℕ) → 0 < d → All (λ m. m.1 < d) ms → (get_or ms i (0, 0)).1 < d
message-below d [] i some h = some
message-below d (m ∷ ms) zero some h = All-head (λ (v : ℕ × ℕ). v.1 < d) m ms h
message-below d (m ∷ ms) (suc i) some h = message-below d ms i some (All-tail (λ (v : ℕ × ℕ). v.1 < d) m ms h)

pub value-below : (d : ℕ) (m : Memory) (x p : ℕ) → 0 < d → All (λ v. v < d) m.initial → All (λ s. s.1 < d) m.messages → value_at m x p < d
value-below d m x zero some h k = get-below d m.initial x some h
value-below d m x (suc i) some h k = message-below d m.messages i some k

-- the refusal of a cas without a choice
pub cas_refusal : (d : ℕ) (n : Seen) (r : List ℕ) (a : Act) (c : Option ℕ) (q x : ℕ) (e f : Expr) (v spare : ℕ) (fault : StepFault) → a ≡ Cas q x e f → c ≡ None → v ≡ value r d e
    → IsRefusal (λ g. ((last_value n.memory x ≢ v) × (g ≡ CasNotLast (last_value n.memory x))) ⊎ ((last_value n.memory x ≡ v) × IsFull n.memory × (g ≡ MessagesFull))) spare fault
    → IsRefusal (RowFault d n r (out-Act a) c) spare fault
cas_refusal d n r a c q x e f v spare fault is none same h =
    let b = subst (λ (k : ℕ). IsRefusal (λ g. ((last_value n.memory x ≢ k) × (g ≡ CasNotLast (last_value n.memory x))) ⊎ ((last_value n.memory x ≡ k) × IsFull n.memory × (g ≡ MessagesFull))) spare fault) same h in
    let o = subst (λ (k : Option ℕ). IsRefusal (RowFault d n r (opened.Cas q x e f) k) spare fault) (sym none) b in
    subst (λ (k : opened.Act-F Act Stmt). IsRefusal (RowFault d n r k c) spare fault) (sym (ap out-Act is ∙ out_cas q x e f)) o
