-- A step of one thread of stores is the store at the thread's point, and leads to the next point.
use Rattle.std.proofs.Common.{◌≡◌, ℕ, zero, suc, ◌+◌, ◌-◌, ◌<◌, ◌≤◌, List, [], ◌∷◌, length, get_or, Option, Some, None, option_map, slice_get, refl, sym, ap, ap₂, subst, ◌∙◌, arith}
use Rattle.std.specs.List.{All}
use Rattle.std.proofs.Math.Nat.{mod-eq_of_lt}
use Rattle.std.proofs.lemmas.List.{length-map}
use Rattle.std.proofs.lemmas.List.Elements.{All-head, All-from_get_or}
use Rattle.pg_program.specs.declared.syntax.AuxAssign.{AuxAssign}
use Rattle.pg_program.specs.declared.syntax.Stmt.{Stmt}
use Rattle.pg_program.specs.declared.syntax.Act.{Act}
use Rattle.pg_program.specs.declared.syntax.Act.TheOpen.{Act-F, Assign, Store, Load, Cas, Mfence, Sfence, Flush, Flushopt, If, While}
use Rattle.pg_program.specs.declared.syntax.Expr.{Expr, out-Expr, fold_out-Expr}
use Rattle.pg_program.specs.declared.syntax.Expr.TheOpen.{Expr-F, Value, Scalar, Add, Sub, Mul}
use Rattle.pg_program.specs.declared.syntax.Expr.TheFolds.{map-Expr}
use Rattle.pg_program.specs.declared.point.Branch.TheVariants.{Plain}
use Rattle.pg_program.specs.NameTable.{Location, initial}
use Rattle.pg_program.specs.Graph.{step_of}
use Rattle.pg_program.specs.Expr.{value, value_step}
use Rattle.pg_program.specs.Program.{ProgramTable, IsProgram, thread_of, stmt_at, steps_at}
use Rattle.pg_program.specs.Straight.{store_of, store_in, number_in, without_bracket, stores_of, straight}
use Rattle.pg_program.proofs.ProgramLemmas.{numbers_of_stmt, stmt_of}
use Rattle.pg_program.proofs.StraightLemmas.{is_stored, stored-numbers, has_first, straight-statements, straight-steps_at}
use Rattle.pg_machine.specs.declared.event.Event.{Event}
use Rattle.pg_machine.specs.State.{State, point_of}
use Rattle.pg_machine.specs.Moves.{Seen, stored}
use Rattle.pg_machine.specs.Step.{Left, Row, IsStep, leaves, act_of, bracket_of, bracket_done, branch_taken, moved, seen_by}

-- ---- the stores of a program of one thread of them

-- the statement at a place of a thread of stores is the store at that place
store_at : (ss : List Stmt) (es : List (ℕ × ℕ)) (i : ℕ) (stmt : Stmt) → stores_of ss ≡ Some es → slice_get ss i ≡ Some stmt → (i < length es) × (store_of stmt ≡ Some (get_or es i (0, 0)))
store_at [] es i stmt are at = cc
store_at (s ∷ ss) es zero stmt are at =
    let f = has_first (store_of s) (stores_of ss) es are in
    let same : stmt ≡ s = cc in
    let long = ap length f.all in
    (omega (arith, long), ap store_of same ∙ (f.is_first ∙ ap (λ (l : List (ℕ × ℕ)). Some (get_or l 0 (0, 0))) f.all))
store_at (s ∷ ss) es (suc i) stmt are at =
    let f = has_first (store_of s) (stores_of ss) es are in
    let rest = store_at ss f.others i stmt f.are_others at in
    let less = rest.0 in
    let long = ap length f.all in
    (omega (arith, less, long), rest.1 ∙ ap (λ (l : List (ℕ × ℕ)). Some (get_or l (suc i) (0, 0))) f.all)

pub one_thread : (ts : List (List Stmt)) (es : List (ℕ × ℕ)) → straight ts ≡ Some es → (length ts ≡ 1) × (stores_of (get_or ts 0 []) ≡ Some es)
one_thread [] es are = cc
one_thread (t ∷ []) es are = (refl, are)
one_thread (t ∷ u ∷ ts) es are = cc

-- a store of a number is of a value of the domain, to a declared location
store_within : (p : ProgramTable) → IsProgram p → (t k : ℕ) (s : Stmt) (st : ℕ × ℕ) → 1 ≤ t → t ≤ length p.threads → stmt_at p t k ≡ Some s → store_of s ≡ Some st
    → (st.0 < length (initial p.names)) × (st.1 < p.names.domain)
store_within p h t k s st low high at is =
    let parts = is_stored s st is in
    let declared = All-head (λ (x : ℕ). x < length p.names.locations) st.0 [] (subst (All (λ (x : ℕ). x < length p.names.locations)) parts.locations (stmt_of p h t k s low high at).locations) in
    let long = length-map p.names.locations (λ (l : Location). l.init) in (
      omega (arith, declared, long),
      All-head (λ (v : ℕ). v < p.names.domain) st.1 [] (subst (All (λ (v : ℕ). v < p.names.domain)) (stored-numbers s st parts) (numbers_of_stmt p h t k s low high at)),
    )

-- the statement of a store of one thread of stores
record HasStore (ss : List Stmt) (i : ℕ) (st : ℕ × ℕ) : Type 0 where
  pub stmt : Stmt
  pub at : slice_get ss i ≡ Some stmt
  pub is : store_of stmt ≡ Some st

has_store : (ss : List Stmt) (es : List (ℕ × ℕ)) (i : ℕ) → stores_of ss ≡ Some es → i < length es → HasStore ss i (get_or es i (0, 0))
has_store [] es i are lt = let none : [] ≡ es = cc in let long = ap length none in absurd (omega (arith, long, lt))
has_store (s ∷ ss) es zero are lt =
    let f = has_first (store_of s) (stores_of ss) es are in
    record { stmt = s; at = refl; is = f.is_first ∙ ap (λ (l : List (ℕ × ℕ)). Some (get_or l 0 (0, 0))) f.all }
has_store (s ∷ ss) es (suc i) are lt =
    let f = has_first (store_of s) (stores_of ss) es are in
    let long = ap length f.all in
    let rest = has_store ss f.others i f.are_others (omega (arith, long, lt)) in
    record { stmt = rest.stmt; at = rest.at; is = rest.is ∙ ap (λ (l : List (ℕ × ℕ)). Some (get_or l (suc i) (0, 0))) f.all }

-- each store of one thread of stores is of a value of the domain, to a declared location
pub stores_within : (p : ProgramTable) → IsProgram p → (stores : List (ℕ × ℕ)) → straight p.threads ≡ Some stores → All (λ s. (s.0 < length (initial p.names)) × (s.1 < p.names.domain)) stores
stores_within p h stores are =
    let only = one_thread p.threads stores are in
    let one = only.0 in
    let ss = thread_of p 1 in
    All-from_get_or (λ (s : ℕ × ℕ). (s.0 < length (initial p.names)) × (s.1 < p.names.domain)) stores (0, 0) (λ i lt.
    let found = has_store ss stores i only.1 lt in
    let at : stmt_at p 1 (i + 1) ≡ Some found.stmt = ap₂ (λ (l : List Stmt) (n : ℕ). slice_get l n) (straight-statements ss stores only.1) (let q : i + 1 - 1 ≡ i = omega arith in q) ∙ found.at in
    store_within p h 1 (i + 1) found.stmt (get_or stores i (0, 0)) (omega arith) (omega (arith, one)) at found.is)

-- ---- a step

-- the state after thread t stored, from which it goes to point k
abbrev pub after_store : State → ℕ → ℕ × ℕ → ℕ → State
after_store s t st k = moved s t (leaves (stored (seen_by s t) st.0 st.1) s.scalars) k

-- the act of a store of a number: the location, and an expression that is the number
record IsStoreAct (act : Act-F Act Stmt) (st : ℕ × ℕ) : Type 0 where
  pub number : Expr
  pub is : act ≡ Store st.0 number
  pub gives : out-Expr number ≡ Value st.1

number_of : (x : ℕ) (e : Expr) (st : ℕ × ℕ) (l : Expr-F Expr) → out-Expr e ≡ l → option_map (λ v. (x, v)) (number_in l) ≡ Some st → IsStoreAct (Store x e) st
number_of x e st (Value v) is h =
    let same : (x, v) ≡ st = cc in
    record { number = e; is = ap (λ (q : ℕ × ℕ). Store q.0 e) same; gives = is ∙ ap (λ (q : ℕ × ℕ). Value q.1) same }
number_of x e st (Scalar q) is h = cc
number_of x e st (Add a b) is h = cc
number_of x e st (Sub a b) is h = cc
number_of x e st (Mul a b) is h = cc

store_act : (aux : List AuxAssign) (act : Act-F Act Stmt) (st : ℕ × ℕ) → without_bracket aux (store_in act) ≡ Some st → IsStoreAct act st
store_act [] (Store x e) st h = number_of x e st (out-Expr e) refl h
store_act [] (Assign t e) st h = cc
store_act [] (Load t x) st h = cc
store_act [] (Cas t x e d) st h = cc
store_act [] Mfence st h = cc
store_act [] Sfence st h = cc
store_act [] (Flush x) st h = cc
store_act [] (Flushopt x) st h = cc
store_act [] (If test a b) st h = cc
store_act [] (While test a) st h = cc
store_act (q ∷ aux) act st h = cc

-- the value of a number of the domain
number_value : (r : List ℕ) (d : ℕ) (e : Expr) (v : ℕ) → out-Expr e ≡ Value v → v < d → value r d e ≡ v
number_value r d e v is lt =
    fold_out-Expr ℕ (value_step r d) e ∙ (ap (λ (l : Expr-F Expr). value_step r d (map-Expr Expr ℕ (value r d) l)) is ∙ mod-eq_of_lt lt)

-- what such an act leaves
store_row : (d : ℕ) (n : Seen) (r : List ℕ) (x v : ℕ) (e : Expr) (choice : Option ℕ) (left : Left) → value r d e ≡ v → Row d n r (Store x e) choice left → left ≡ leaves (stored n x v) r
store_row d n r x v e None left same h = h ∙ ap (λ (u : ℕ). leaves (stored n x u) r) same
store_row d n r x v e (Some p) left same h = absurd h

-- the store that a step of one thread of stores takes, and the state that it leads to
pub record TakesStore (stores : List (ℕ × ℕ)) (s next : State) : Type 0 where
  pub inside : point_of s 1 - 1 < length stores
  pub becomes : next ≡ after_store s 1 (get_or stores (point_of s 1 - 1) (0, 0)) (point_of s 1 + 1)

pub step_stores : (p : ProgramTable) (stores : List (ℕ × ℕ)) (s : State) (e : Event) (next : State) → straight p.threads ≡ Some stores → All (λ s. s.1 < p.names.domain) stores → 1 ≤ point_of s 1
    → IsStep p s e next → TakesStore stores s next
step_stores p stores s e next are within from is =
    let d = p.names.domain in
    let only = one_thread p.threads stores are in
    let one = only.0 in
    let low = is.1.thread.0 in
    let high = is.1.thread.1 in
    let first : e.thread ≡ 1 = omega (arith, one, low, high) in
    let k = point_of s 1 in
    let ss = get_or p.threads 0 [] in
    let stands : slice_get ss (k - 1) ≡ Some is.1.stmt =
    sym (ap (λ (l : List Stmt). slice_get l (k - 1)) (straight-statements ss stores only.1)) ∙ subst (λ (t : ℕ). stmt_at p t (point_of s t) ≡ Some is.1.stmt) first is.1.stands in
    let found = store_at ss stores (k - 1) is.1.stmt only.1 stands in
    let inside = found.0 in
    let st = get_or stores (k - 1) (0, 0) in
    let act = store_act (bracket_of is.1.stmt) (act_of is.1.stmt) st found.1 in
    let bare = (is_stored is.1.stmt st found.1).aux in
    let below = within (k - 1) (0, 0) inside in
    let n = seen_by s 1 in
    let row = subst (λ (t : ℕ). Row d (seen_by s t) s.scalars (act_of is.1.stmt) e.choice is.1.left) first is.1.row in
    let left : is.1.left ≡ leaves (stored n st.0 st.1) s.scalars =
    store_row d n s.scalars st.0 st.1 act.number e.choice is.1.left (number_value s.scalars d act.number st.1 act.gives below)
    (subst (λ (a : Act-F Act Stmt). Row d n s.scalars a e.choice is.1.left) act.is row) in
    let plain = subst (λ (a : Act-F Act Stmt). step_of (branch_taken d s.scalars a) (steps_at p e.thread (point_of s e.thread)) ≡ Some is.0) act.is is.1.taken in
    let leads : step_of Plain (steps_at p 1 k) ≡ Some is.0 = subst (λ (t : ℕ). step_of Plain (steps_at p t (point_of s t)) ≡ Some is.0) first plain in
    let goes : k + 1 ≡ is.0.target = let e = sym (ap (step_of Plain) (straight-steps_at p stores 1 k only.1 from (omega arith))) ∙ leads in cc in
    record {
      inside = inside;
      becomes = is.1.becomes
          ∙ (ap (λ (t : ℕ). moved s t (record is.1.left { scalars = bracket_done d (bracket_of is.1.stmt) is.1.left.scalars }) is.0.target) first
          ∙ (ap (λ (b : List AuxAssign). moved s 1 (record is.1.left { scalars = bracket_done d b is.1.left.scalars }) is.0.target) bare
          ∙ (ap (λ (l : Left). moved s 1 l is.0.target) left
          ∙ ap (λ (m : ℕ). moved s 1 (leaves (stored n st.0 st.1) s.scalars) m) (sym goes))));
    }
