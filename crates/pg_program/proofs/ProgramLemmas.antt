-- What a program without a fault has: its values are in the domain, and its statements are over its names.
use Rattle.std.proofs.Common.{◌≡◌, ℕ, zero, suc, ◌+◌, ◌-◌, ◌<◌, ◌≤◌, Bool, true, false, cond, ◌&&◌, nat_le, List, [], ◌∷◌, length, get_or, Option, Some, None, option_map, slice_get, refl, sym, ap, ◌∙◌, arith}
use Rattle.std.specs.List.{All}
use Rattle.std.proofs.lemmas.Bool.{leb-true, leb-false}
use Rattle.std.proofs.lemmas.List.Elements.{All-nil, All-cons}
use Rattle.pg_program.specs.declared.syntax.Stmt.{Stmt}
use Rattle.pg_program.specs.declared.point.PointId.{PointId}
use Rattle.pg_program.specs.Limits.{largest_domain}
use Rattle.pg_program.specs.NameTable.{NameTable, initial}
use Rattle.pg_program.specs.Block.{block}
use Rattle.pg_program.specs.Graph.{statements}
use Rattle.pg_program.specs.Fault.{Fault, first_of, domain_size, unknown_thread, value_out_of_domain, first_outside, domain_fault, unknown_owner, own_registers, no_auxiliaries, distinct_targets, numbers_inside, few_names, in_thread, in_threads, first_fault}
use Rattle.pg_program.specs.Words.{numbers_of}
use Rattle.pg_program.specs.Program.{ProgramTable, IsProgram, IsStmt, IsThread, thread_of, stmt_at}
use Rattle.pg_program.proofs.ClauseLemmas.{All-slice_get}

-- ---- the first of two faults

pub none_of : (f g : Option Fault) → first_of f g ≡ None → (f ≡ None) × (g ≡ None)
none_of None g h = (refl, h)
none_of (Some x) g h = cc

pub both_none : (f g : Option Fault) → f ≡ None → g ≡ None → first_of f g ≡ None
both_none f g h k = ap (λ (o : Option Fault). first_of o g) h ∙ k

-- ---- the clauses

-- each clause has no fault
pub record Faultless (names : NameTable) (threads : List (List Stmt)) : Type 0 where
  pub domain : domain_fault names.version names.domain ≡ None
  pub owners : option_map unknown_thread (unknown_owner (length threads) names.scalars) ≡ None
  pub own : in_threads (own_registers names) 1 threads ≡ None
  pub bare : in_threads (no_auxiliaries names) 1 threads ≡ None
  pub apart : in_threads (distinct_targets names) 1 threads ≡ None
  pub initial : option_map value_out_of_domain (first_outside names.domain (initial names)) ≡ None
  pub inside : in_threads (numbers_inside names) 1 threads ≡ None
  pub few : in_threads (few_names names) 1 threads ≡ None

each_none : (a b c d e f g h : Option Fault) → first_of a (first_of b (first_of c (first_of d (first_of e (first_of f (first_of g h)))))) ≡ None
    → (a ≡ None) × (b ≡ None) × (c ≡ None) × (d ≡ None) × (e ≡ None) × (f ≡ None) × (g ≡ None) × (h ≡ None)
each_none None None None None None None None h is = (refl, refl, refl, refl, refl, refl, refl, is)
each_none (Some x) b c d e f g h is = cc
each_none None (Some x) c d e f g h is = cc
each_none None None (Some x) d e f g h is = cc
each_none None None None (Some x) e f g h is = cc
each_none None None None None (Some x) f g h is = cc
each_none None None None None None (Some x) g h is = cc
each_none None None None None None None (Some x) h is = cc

-- a program without a first fault has none of any clause
pub faultless : (names : NameTable) (threads : List (List Stmt)) → first_fault names threads ≡ None → Faultless names threads
faultless names threads h =
    let text : (PointId → Stmt → Option Fault) → Option Fault = λ C. in_threads C 1 threads in
    let e = each_none (domain_fault names.version names.domain) (option_map unknown_thread (unknown_owner (length threads) names.scalars)) (text (own_registers names))
    (text (no_auxiliaries names)) (text (distinct_targets names)) (option_map value_out_of_domain (first_outside names.domain (initial names)))
    (text (numbers_inside names)) (text (few_names names)) h in
    record { domain = e.0; owners = e.1; own = e.2; bare = e.3; apart = e.4; initial = e.5; inside = e.6; few = e.7 }

none_in : (o : Option ℕ) → option_map value_out_of_domain o ≡ None → o ≡ None
none_in None h = refl
none_in (Some v) h = cc

-- ---- values

below_all : (d : ℕ) (vs : List ℕ) → first_outside d vs ≡ None → All (λ v. v < d) vs
below_all d [] h = All-nil (λ (v : ℕ). v < d)
below_all d (v ∷ vs) h = by (below_all d vs) (nat_le d v) refl h
  where
    by : (first_outside d vs ≡ None → All (λ v. v < d) vs) → (b : Bool) → nat_le d v ≡ b → cond b (Some v) (first_outside d vs) ≡ None → All (λ v. v < d) (v ∷ vs)
    by rest true is e = cc
    by rest false is e = All-cons (λ (w : ℕ). w < d) v vs (leb-false d v is) (rest e)

domain_has : (d most : ℕ) (b : Bool) → nat_le 2 d ≡ b → cond (b && nat_le d most) None (Some (domain_size d)) ≡ None → 2 ≤ d
domain_has d most true is h = leb-true 2 d is
domain_has d most false is h = cc

-- a domain is not empty
pub has_values : (p : ProgramTable) → IsProgram p → 0 < p.names.domain
has_values p h =
    let two = domain_has p.names.domain (largest_domain p.names.version) (nat_le 2 p.names.domain) refl (faultless p.names p.threads h.faultless).domain in
    omega (arith, two)

-- each initial value is below the domain's size
pub initial_inside : (p : ProgramTable) → IsProgram p → All (λ v. v < p.names.domain) (initial p.names)
initial_inside p h =
    below_all p.names.domain (initial p.names) (none_in (first_outside p.names.domain (initial p.names)) (faultless p.names p.threads h.faultless).initial)

-- ---- statements

at_thread : (C : PointId → Stmt → Option Fault) (t : ℕ) (threads : List (List Stmt)) (i : ℕ) → in_threads C t threads ≡ None → i < length threads
    → in_thread C (t + i) 1 (statements (block (get_or threads i []))) ≡ None
at_thread C t [] i h lt = absurd (omega arith)
at_thread C t (ss ∷ threads) zero h lt =
    ap (λ (n : ℕ). in_thread C n 1 (statements (block ss))) (let q : t + zero ≡ t = omega arith in q)
    ∙ (none_of (in_thread C t 1 (statements (block ss))) (in_threads C (t + 1) threads) h).0
at_thread C t (ss ∷ threads) (suc i) h lt =
    ap (λ (n : ℕ). in_thread C n 1 (statements (block (get_or threads i [])))) (let q : t + suc i ≡ t + 1 + i = omega arith in q)
    ∙ at_thread C (t + 1) threads i (none_of (in_thread C t 1 (statements (block ss))) (in_threads C (t + 1) threads) h).1 (omega arith)

at_stmt : (C : PointId → Stmt → Option Fault) (t k : ℕ) (ss : List Stmt) (i : ℕ) (s : Stmt) → in_thread C t k ss ≡ None → slice_get ss i ≡ Some s
    → C (record { thread = t; point = k + i }) s ≡ None
at_stmt C t k [] i s h at = cc
at_stmt C t k (u ∷ ss) zero s h at =
    let same : u ≡ s = cc in
    ap (λ (n : ℕ). C (record { thread = t; point = n }) s) (let q : k + zero ≡ k = omega arith in q)
    ∙ (sym (ap (C (record { thread = t; point = k })) same) ∙ (none_of (C (record { thread = t; point = k }) u) (in_thread C t (k + 1) ss) h).0)
at_stmt C t k (u ∷ ss) (suc i) s h at =
    ap (λ (n : ℕ). C (record { thread = t; point = n }) s) (let q : k + suc i ≡ k + 1 + i = omega arith in q)
    ∙ at_stmt C t (k + 1) ss i s (none_of (C (record { thread = t; point = k }) u) (in_thread C t (k + 1) ss) h).1 at

-- each number of a statement is below the domain's size
pub numbers_of_stmt : (p : ProgramTable) → IsProgram p → (t k : ℕ) (s : Stmt) → 1 ≤ t → t ≤ length p.threads → stmt_at p t k ≡ Some s → All (λ v. v < p.names.domain) (numbers_of s)
numbers_of_stmt p h t k s low high at =
    let C = numbers_inside p.names in
    let thread = at_thread C 1 p.threads (t - 1) (faultless p.names p.threads h.faultless).inside (omega arith) in
    let here = at_stmt C (1 + (t - 1)) 1 (statements (block (thread_of p t))) (k - 1) s thread at in
    below_all p.names.domain (numbers_of s) (none_in (first_outside p.names.domain (numbers_of s)) here)

-- a thread of a program is over its names
pub thread_is : (p : ProgramTable) → IsProgram p → (t : ℕ) → 1 ≤ t → t ≤ length p.threads → IsThread p.names (thread_of p t)
thread_is p h t low high = h.threads.each (t - 1) [] (omega arith)

-- and so is each of its statements
pub stmt_of : (p : ProgramTable) → IsProgram p → (t k : ℕ) (s : Stmt) → 1 ≤ t → t ≤ length p.threads → stmt_at p t k ≡ Some s → IsStmt p.names s
stmt_of p h t k s low high at = All-slice_get (IsStmt p.names) (statements (block (thread_of p t))) (k - 1) s at (thread_is p h t low high).stmts
