-- Threads of stores of numbers: their statements, their steps and their first fault.
use Rattle.std.proofs.Common.{◌≡◌, ℕ, zero, suc, ◌+◌, ◌-◌, ◌<◌, ◌≤◌, Bool, true, false, cond, nat_le, List, [], ◌∷◌, ◌++◌, length, map, get_or, Option, Some, None, option_map, option_and_then, refl, sym, ap, ap₂, subst, ◌∙◌, arith}
use Rattle.std.specs.List.{All, find, list_any}
use Rattle.std.proofs.lemmas.List.Elements.{All-nil, All-cons, All-head, All-tail}
use Rattle.pg_program.specs.declared.syntax.AuxAssign.{AuxAssign}
use Rattle.pg_program.specs.declared.syntax.Stmt.{Stmt, out-Stmt}
use Rattle.pg_program.specs.declared.syntax.Act.{Act, out-Act}
use Rattle.pg_program.specs.declared.syntax.Act.TheOpen.{Act-F, Assign, Store, Load, Cas, Mfence, Sfence, Flush, Flushopt, If, While}
use Rattle.pg_program.specs.declared.syntax.Expr.{Expr, out-Expr, fold_out-Expr}
use Rattle.pg_program.specs.declared.syntax.Expr.TheOpen.{Expr-F, Value, Scalar, Add, Sub, Mul}
use Rattle.pg_program.specs.declared.syntax.Expr.TheFolds.{map-Expr}
use Rattle.pg_program.specs.declared.point.PointId.{PointId}
use Rattle.pg_program.specs.declared.point.Branch.TheVariants.{Plain}
use Rattle.pg_program.specs.declared.point.Step.{Step}
use Rattle.pg_program.specs.NameTable.{NameTable, initial, is_auxiliary, is_foreign, scalar_name}
use Rattle.pg_program.specs.Block.{done, node, block, first_list as first_within, second_list as second_within, first_in, second_in}
use Rattle.pg_program.specs.Graph.{size, statements, is_test, is_loop, is_test_in, is_loop_in, into, exit_of, own_steps, steps}
use Rattle.pg_program.specs.Expr.{reads, reads_step, numbers, numbers_step}
use Rattle.pg_program.specs.Fault.{Fault, value_out_of_domain, unknown_thread, first_of, first_outside, own_registers, no_auxiliaries, distinct_targets, numbers_inside, few_names, in_thread, in_threads, first_fault, domain_fault, domain_size, is_domain, unknown_owner, foreign_register, aux_in_program, aux_twice, expression_names}
use Rattle.pg_program.specs.Words.{outside, outside_in, scalars_of, bracket_scalars, targets, numbers_of, numbers_in, bracket_numbers, groups, groups_in, locations_of, locations_in, repeated, is_wide}
use Rattle.pg_program.specs.Program.{ProgramTable, IsStmt, IsThread, AreThreads, thread_of, steps_at}
use Rattle.pg_program.specs.Straight.{store_of, store_in, number_in, without_bracket, stores_of, straight, straight_fault, stored}
use Rattle.pg_program.proofs.BlockLemmas.{block-nests}

-- what a statement that stores a number is made of
pub record IsStored (s : Stmt) (st : ℕ × ℕ) : Type 0 where
  pub aux : (out-Stmt s).aux ≡ []
  pub test : is_test s ≡ false
  pub loop : is_loop s ≡ false
  pub first : first_within s ≡ []
  pub second : second_within s ≡ []
  pub outside : outside s ≡ []
  pub numbers : numbers_in (out-Act (out-Stmt s).act) ≡ st.1 ∷ []
  pub groups : groups_in (out-Act (out-Stmt s).act) ≡ [] ∷ []
  pub locations : locations_of s ≡ st.0 ∷ []

no_reads : (e : Expr) (v : ℕ) → out-Expr e ≡ Value v → reads e ≡ []
no_reads e v h = fold_out-Expr (List ℕ) reads_step e ∙ ap (λ (l : Expr-F Expr). reads_step (map-Expr Expr (List ℕ) reads l)) h

one_number : (e : Expr) (v : ℕ) → out-Expr e ≡ Value v → numbers e ≡ v ∷ []
one_number e v h = fold_out-Expr (List ℕ) numbers_step e ∙ ap (λ (l : Expr-F Expr). numbers_step (map-Expr Expr (List ℕ) numbers l)) h

value_of : (l : Expr-F Expr) (x : ℕ) (st : ℕ × ℕ) → option_map (λ v. (x, v)) (number_in l) ≡ Some st → (x ≡ st.0) × (l ≡ Value st.1)
value_of (Value v) x st h = let same : (x, v) ≡ st = cc in (ap (λ p. p.0) same, ap (λ (p : ℕ × ℕ). Value p.1) same)
value_of (Scalar r) x st h = cc
value_of (Add a b) x st h = cc
value_of (Sub a b) x st h = cc
value_of (Mul a b) x st h = cc

stored_parts : (s : Stmt) (st : ℕ × ℕ) (aux : List AuxAssign) (a : Act-F Act Stmt) → (out-Stmt s).aux ≡ aux → out-Act (out-Stmt s).act ≡ a → without_bracket aux (store_in a) ≡ Some st → IsStored s st
stored_parts s st [] (Store x e) bare is h =
    let parts = value_of (out-Expr e) x st h in
    let none = no_reads e st.1 parts.1 in
    record {
      aux = bare;
      test = ap is_test_in is;
      loop = ap is_loop_in is;
      first = ap first_in is;
      second = ap second_in is;
      outside = ap outside_in is ∙ none;
      numbers = ap numbers_in is ∙ one_number e st.1 parts.1;
      groups = ap groups_in is ∙ ap (λ (l : List ℕ). l ∷ []) none;
      locations = ap locations_in is ∙ ap (λ (l : ℕ). l ∷ []) parts.0;
    }
stored_parts s st [] (Assign t e) bare is h = cc
stored_parts s st [] (Load t x) bare is h = cc
stored_parts s st [] (Cas t x e d) bare is h = cc
stored_parts s st [] Mfence bare is h = cc
stored_parts s st [] Sfence bare is h = cc
stored_parts s st [] (Flush x) bare is h = cc
stored_parts s st [] (Flushopt x) bare is h = cc
stored_parts s st [] (If test a b) bare is h = cc
stored_parts s st [] (While test a) bare is h = cc
stored_parts s st (q ∷ aux) a bare is h = cc

pub is_stored : (s : Stmt) (st : ℕ × ℕ) → store_of s ≡ Some st → IsStored s st
is_stored s st h = stored_parts s st (out-Stmt s).aux (out-Act (out-Stmt s).act) refl refl h

module _ (s : Stmt) (st : ℕ × ℕ) (is : IsStored s st) where
  pub stored-scalars : scalars_of s ≡ []
  stored-scalars = ap₂ (λ (l : List ℕ) (a : List AuxAssign). l ++ bracket_scalars a) is.outside is.aux

  pub stored-targets : targets s ≡ []
  stored-targets = ap (map (λ (a : AuxAssign). a.target)) is.aux

  pub stored-numbers : numbers_of s ≡ st.1 ∷ []
  stored-numbers = ap₂ (λ (l : List ℕ) (a : List AuxAssign). l ++ bracket_numbers a) is.numbers is.aux

  pub stored-groups : groups s ≡ [] ∷ []
  stored-groups = ap₂ (λ (l : List (List ℕ)) (a : List AuxAssign). l ++ map (λ (x : AuxAssign). reads x.expr) a) is.groups is.aux

  stored-block : (ss : List Stmt) → block (s ∷ ss) ≡ node s done done (block ss)
  stored-block ss = block-nests s ss ∙ ap₂ (λ (a b : List Stmt). node s (block a) (block b) (block ss)) is.first is.second

  stored-stmt : (names : NameTable) → st.0 < length names.locations → IsStmt names s
  stored-stmt names lt = record {
    scalars = subst (All (λ (r : ℕ). r < length names.scalars)) (sym stored-scalars) (All-nil (λ (r : ℕ). r < length names.scalars));
    locations = subst (All (λ (x : ℕ). x < length names.locations)) (sym is.locations) (All-cons (λ (x : ℕ). x < length names.locations) st.0 [] lt (All-nil (λ (x : ℕ). x < length names.locations)));
    targets = subst (All (λ (r : ℕ). is_auxiliary names r ≡ true)) (sym stored-targets) (All-nil (λ (r : ℕ). is_auxiliary names r ≡ true));
    bare = λ h. is.aux;
  }

-- ---- the stores of a thread

-- the first store of a thread, and the others
pub record HasFirst (o : Option (ℕ × ℕ)) (p : Option (List (ℕ × ℕ))) (es : List (ℕ × ℕ)) : Type 0 where
  pub first : ℕ × ℕ
  pub others : List (ℕ × ℕ)
  pub is_first : o ≡ Some first
  pub are_others : p ≡ Some others
  pub all : first ∷ others ≡ es

pub has_first : (o : Option (ℕ × ℕ)) (p : Option (List (ℕ × ℕ))) (es : List (ℕ × ℕ)) → option_and_then (λ e. option_map (λ es. e ∷ es) p) o ≡ Some es → HasFirst o p es
has_first None p es h = cc
has_first (Some e) None es h = cc
has_first (Some e) (Some rest) es h = record { first = e; others = rest; is_first = refl; are_others = refl; all = cc }

pub length-stores : (ss : List Stmt) (es : List (ℕ × ℕ)) → stores_of ss ≡ Some es → length ss ≡ length es
length-stores [] es h = let e : [] ≡ es = cc in ap length e
length-stores (s ∷ ss) es h =
    let f = has_first (store_of s) (stores_of ss) es h in
    ap suc (length-stores ss f.others f.are_others) ∙ ap length f.all

-- such a thread has its statements and nothing within them
pub straight-statements : (ss : List Stmt) (es : List (ℕ × ℕ)) → stores_of ss ≡ Some es → statements (block ss) ≡ ss
straight-statements [] es are = refl
straight-statements (s ∷ ss) es are =
    let f = has_first (store_of s) (stores_of ss) es are in
    ap statements (stored-block s f.first (is_stored s f.first f.is_first) ss) ∙ ap (λ (l : List Stmt). s ∷ l) (straight-statements ss f.others f.are_others)

pub straight-size : (ss : List Stmt) (es : List (ℕ × ℕ)) → stores_of ss ≡ Some es → size (block ss) ≡ length es
straight-size [] es are = let none : [] ≡ es = cc in ap length none
straight-size (s ∷ ss) es are =
    let f = has_first (store_of s) (stores_of ss) es are in
    let here = ap size (stored-block s f.first (is_stored s f.first f.is_first) ss) in
    let rest = straight-size ss f.others f.are_others in
    let long = ap length f.all in
    omega (arith, here, rest, long)

straight-stmts : (names : NameTable) (ss : List Stmt) (es : List (ℕ × ℕ)) → stores_of ss ≡ Some es → All (λ s. s.0 < length names.locations) es → All (IsStmt names) ss
straight-stmts names [] es are within = All-nil (IsStmt names)
straight-stmts names (s ∷ ss) es are within =
    let f = has_first (store_of s) (stores_of ss) es are in
    let P : ℕ × ℕ → Type 0 = λ (e : ℕ × ℕ). e.0 < length names.locations in
    let all : All P (f.first ∷ f.others) = subst (All P) (sym f.all) within in
    All-cons (IsStmt names) s ss (stored-stmt s f.first (is_stored s f.first f.is_first) names (All-head P f.first f.others all))
    (straight-stmts names ss f.others f.are_others (All-tail P f.first f.others all))

straight-thread : (names : NameTable) (ss : List Stmt) (es : List (ℕ × ℕ)) → stores_of ss ≡ Some es → length es < 32 → All (λ s. s.0 < length names.locations) es → IsThread names ss
straight-thread names ss es are few within = record {
  few = let long = straight-size ss es are in omega (arith, few, long);
  stmts = subst (All (IsStmt names)) (sym (straight-statements ss es are)) (straight-stmts names ss es are within);
}

-- one thread of few stores to declared locations can be built
pub straight-threads : (names : NameTable) (threads : List (List Stmt)) (es : List (ℕ × ℕ)) → straight threads ≡ Some es → length es < 32 → All (λ s. s.0 < length names.locations) es
    → AreThreads names threads
straight-threads names [] es are few within = cc
straight-threads names (ss ∷ []) es are few within = record {
  some = omega arith;
  few = omega arith;
  each = All-cons (IsThread names) ss [] (straight-thread names ss es are few within) (All-nil (IsThread names));
}
straight-threads names (ss ∷ us ∷ threads) es are few within = cc

-- ---- its steps

abbrev pub plain_step : ℕ → ℕ → ℕ → List Step
plain_step t k n = record { thread = t; point = k; branch = Plain; target = n } ∷ []

next_point : (ss : List Stmt) (es : List (ℕ × ℕ)) (first exit : ℕ) → stores_of ss ≡ Some es → first + length ss ≡ exit → into (block ss) first exit ≡ first
next_point [] es first exit are e = let q : exit ≡ first = omega arith in q
next_point (s ∷ ss) es first exit are e = refl

-- the step from a point of such a thread leads to the next point
straight-steps : (t first exit : ℕ) (ss : List Stmt) (es : List (ℕ × ℕ)) (i : ℕ) → stores_of ss ≡ Some es → first + length ss ≡ exit → i < length ss
    → get_or (steps t first exit (block ss)) i [] ≡ plain_step t (first + i) (first + i + 1)
straight-steps t first exit [] es i are e lt = absurd (omega arith)
straight-steps t first exit (s ∷ ss) es i are e lt =
    let f = has_first (store_of s) (stores_of ss) es are in
    let is = is_stored s f.first f.is_first in
    let later = first + 1 + 0 + 0 in
    let next = into (block ss) later exit in
    let same : later ≡ first + 1 = omega arith in
    let ahead : next ≡ first + 1 = next_point ss f.others later exit f.are_others (omega arith) ∙ same in
    let opened : steps t first exit (block (s ∷ ss)) ≡ plain_step t first (first + 1) ∷ steps t (first + 1) exit (block ss) =
    ap (steps t first exit) (stored-block s f.first is ss)
    ∙ (ap (λ (b : Bool). own_steps b t first (into done (first + 1) (exit_of (is_loop s) first next)) (into done (first + 1 + 0) next) next ∷ steps t later exit (block ss)) is.test
    ∙ ap₂ (λ (n m : ℕ). plain_step t first n ∷ steps t m exit (block ss)) ahead same) in
    ap (λ (l : List (List Step)). get_or l i []) opened
    ∙ by (λ j h. straight-steps t (first + 1) exit ss f.others j f.are_others (omega arith) h) i lt
  where
    by : ((j : ℕ) → j < length ss → get_or (steps t (first + 1) exit (block ss)) j [] ≡ plain_step t (first + 1 + j) (first + 1 + j + 1))
        → (j : ℕ) → j < suc (length ss) → get_or (plain_step t first (first + 1) ∷ steps t (first + 1) exit (block ss)) j [] ≡ plain_step t (first + j) (first + j + 1)
    by rest zero h = ap (λ (n : ℕ). plain_step t n (n + 1)) (let q : first ≡ first + zero = omega arith in q)
    by rest (suc j) h = rest j (omega arith) ∙ ap (λ (n : ℕ). plain_step t n (n + 1)) (let q : first + 1 + j ≡ first + suc j = omega arith in q)

pub straight-steps_at : (p : ProgramTable) (es : List (ℕ × ℕ)) (t k : ℕ) → stores_of (thread_of p t) ≡ Some es → 1 ≤ k → k ≤ length es → steps_at p t k ≡ plain_step t k (k + 1)
straight-steps_at p es t k are low high =
    let ss = thread_of p t in
    let long = length-stores ss es are in
    let many = straight-size ss es are in
    straight-steps t 1 (size (block ss) + 1) ss es (k - 1) are (omega arith) (omega arith)
    ∙ ap (λ (n : ℕ). plain_step t n (n + 1)) (let q : 1 + (k - 1) ≡ k = omega arith in q)

-- ---- its first fault

silent : (C : PointId → Stmt → Option Fault) (t k : ℕ) (ss : List Stmt) (es : List (ℕ × ℕ)) → ((at : PointId) (s : Stmt) (st : ℕ × ℕ) → IsStored s st → C at s ≡ None) → stores_of ss ≡ Some es
    → in_thread C t k ss ≡ None
silent C t k [] es quiet are = refl
silent C t k (s ∷ ss) es quiet are =
    let f = has_first (store_of s) (stores_of ss) es are in
    ap (λ (o : Option Fault). first_of o (in_thread C t (k + 1) ss)) (quiet (record { thread = t; point = k }) s f.first (is_stored s f.first f.is_first))
    ∙ silent C t (k + 1) ss f.others quiet f.are_others

one_more : (d v : ℕ) (vs : List ℕ) (o : Option Fault) → option_map value_out_of_domain (first_outside d vs) ≡ o
    → first_of (option_map value_out_of_domain (first_outside d (v ∷ []))) o ≡ option_map value_out_of_domain (first_outside d (v ∷ vs))
one_more d v vs o h = by (nat_le d v) h
  where
    by : (b : Bool) → option_map value_out_of_domain (first_outside d vs) ≡ o
        → first_of (option_map value_out_of_domain (cond b (Some v) None)) o ≡ option_map value_out_of_domain (cond b (Some v) (first_outside d vs))
    by true k = refl
    by false k = sym k

straight-numbers : (names : NameTable) (t k : ℕ) (ss : List Stmt) (es : List (ℕ × ℕ)) → stores_of ss ≡ Some es
    → in_thread (numbers_inside names) t k ss ≡ option_map value_out_of_domain (first_outside names.domain (stored es))
straight-numbers names t k [] es are = let none : [] ≡ es = cc in ap (λ (l : List (ℕ × ℕ)). option_map value_out_of_domain (first_outside names.domain (stored l))) none
straight-numbers names t k (s ∷ ss) es are =
    let f = has_first (store_of s) (stores_of ss) es are in
    ap (λ (l : List ℕ). first_of (option_map value_out_of_domain (first_outside names.domain l)) (in_thread (numbers_inside names) t (k + 1) ss)) (stored-numbers s f.first (is_stored s f.first f.is_first))
    ∙ (one_more names.domain f.first.1 (stored f.others) (in_thread (numbers_inside names) t (k + 1) ss) (sym (straight-numbers names t (k + 1) ss f.others f.are_others))
    ∙ ap (λ (l : List (ℕ × ℕ)). option_map value_out_of_domain (first_outside names.domain (stored l))) f.all)

numbers_joined : (d : ℕ) (vs ws : List ℕ) → first_of (option_map value_out_of_domain (first_outside d vs)) (option_map value_out_of_domain (first_outside d ws)) ≡ option_map value_out_of_domain (first_outside d (vs ++ ws))
numbers_joined d [] ws = refl
numbers_joined d (v ∷ vs) ws = by (nat_le d v) (numbers_joined d vs ws)
  where
    by : (b : Bool) → first_of (option_map value_out_of_domain (first_outside d vs)) (option_map value_out_of_domain (first_outside d ws)) ≡ option_map value_out_of_domain (first_outside d (vs ++ ws))
        → first_of (option_map value_out_of_domain (cond b (Some v) (first_outside d vs))) (option_map value_out_of_domain (first_outside d ws)) ≡ option_map value_out_of_domain (cond b (Some v) (first_outside d (vs ++ ws)))
    by true k = refl
    by false k = k

alone : (f : Option Fault) → first_of f None ≡ f
alone None = refl
alone (Some x) = refl

-- a clause that no store breaks is met
quiet : (C : PointId → Stmt → Option Fault) (ss : List Stmt) (es : List (ℕ × ℕ)) → ((at : PointId) (s : Stmt) (st : ℕ × ℕ) → IsStored s st → C at s ≡ None) → stores_of ss ≡ Some es
    → in_threads C 1 (ss ∷ []) ≡ None
quiet C ss es none are =
    alone (in_thread C 1 1 (statements (block ss))) ∙ (ap (in_thread C 1 1) (straight-statements ss es are) ∙ silent C 1 1 ss es none are)

-- the first fault of one thread of stores
pub straight-fault : (names : NameTable) (threads : List (List Stmt)) (es : List (ℕ × ℕ)) → straight threads ≡ Some es → first_fault names threads ≡ straight_fault names es
straight-fault names [] es are = cc
straight-fault names (ss ∷ []) es are =
    let domain = domain_fault names.version names.domain in
    let owners = option_map unknown_thread (unknown_owner 1 names.scalars) in
    let initials = option_map value_out_of_domain (first_outside names.domain (initial names)) in
    let registers : in_threads (own_registers names) 1 (ss ∷ []) ≡ None =
    quiet (own_registers names) ss es (λ at s st is. ap (λ (l : List ℕ). option_map (λ r. foreign_register (scalar_name names r)) (find (is_foreign names at.thread) l)) (stored-scalars s st is)) are in
    let auxiliaries : in_threads (no_auxiliaries names) 1 (ss ∷ []) ≡ None =
    quiet (no_auxiliaries names) ss es (λ at s st is. ap (λ (l : List ℕ). option_map (λ r. aux_in_program (scalar_name names r)) (find (is_auxiliary names) l)) is.outside) are in
    let twice : in_threads (distinct_targets names) 1 (ss ∷ []) ≡ None =
    quiet (distinct_targets names) ss es (λ at s st is. ap (λ (l : List ℕ). option_map (λ r. aux_twice (scalar_name names r)) (repeated [] l)) (stored-targets s st is)) are in
    let wide : in_threads (few_names names) 1 (ss ∷ []) ≡ None =
    quiet (few_names names) ss es (λ at s st is. ap (λ (l : List (List ℕ)). cond (list_any is_wide l) (Some (expression_names at)) None) (stored-groups s st is)) are in
    let numbers : in_threads (numbers_inside names) 1 (ss ∷ []) ≡ option_map value_out_of_domain (first_outside names.domain (stored es)) =
    alone (in_thread (numbers_inside names) 1 1 (statements (block ss)))
    ∙ (ap (in_thread (numbers_inside names) 1 1) (straight-statements ss es are) ∙ straight-numbers names 1 1 ss es are) in
    ap (λ (f : Option Fault). first_of domain (first_of owners (first_of f (first_of (in_threads (no_auxiliaries names) 1 (ss ∷ [])) (first_of (in_threads (distinct_targets names) 1 (ss ∷ []))
    (first_of initials (first_of (in_threads (numbers_inside names) 1 (ss ∷ [])) (in_threads (few_names names) 1 (ss ∷ []))))))))) registers
    ∙ (ap (λ (f : Option Fault). first_of domain (first_of owners (first_of f (first_of (in_threads (distinct_targets names) 1 (ss ∷ []))
    (first_of initials (first_of (in_threads (numbers_inside names) 1 (ss ∷ [])) (in_threads (few_names names) 1 (ss ∷ [])))))))) auxiliaries
    ∙ (ap (λ (f : Option Fault). first_of domain (first_of owners (first_of f
    (first_of initials (first_of (in_threads (numbers_inside names) 1 (ss ∷ [])) (in_threads (few_names names) 1 (ss ∷ []))))))) twice
    ∙ (ap₂ (λ (f g : Option Fault). first_of domain (first_of owners (first_of initials (first_of f g)))) numbers wide
    ∙ (ap (λ (f : Option Fault). first_of domain (first_of owners (first_of initials f))) (alone (option_map value_out_of_domain (first_outside names.domain (stored es))))
    ∙ ap (λ (f : Option Fault). first_of domain (first_of owners f)) (numbers_joined names.domain (initial names) (stored es))))))
straight-fault names (ss ∷ us ∷ threads) es are = cc

-- the first fault, where the domain and the owners have none
pub straight_fault-numbers : (names : NameTable) (es : List (ℕ × ℕ)) (o : Option ℕ) → is_domain names.version names.domain ≡ true → unknown_owner 1 names.scalars ≡ None
    → first_outside names.domain (initial names ++ stored es) ≡ o → straight_fault names es ≡ option_map value_out_of_domain o
straight_fault-numbers names es o size owners h =
    let numbers = option_map value_out_of_domain (first_outside names.domain (initial names ++ stored es)) in
    ap (λ (b : Bool). first_of (cond b None (Some (domain_size names.domain))) (first_of (option_map unknown_thread (unknown_owner 1 names.scalars)) numbers)) size
    ∙ (ap (λ (p : Option ℕ). first_of (option_map unknown_thread p) numbers) owners ∙ ap (option_map value_out_of_domain) h)
