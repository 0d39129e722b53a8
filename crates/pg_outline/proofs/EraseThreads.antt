-- The erasure of a program is a program.
use Rattle.std.proofs.Common.{◌≡◌, ℕ, ◌+◌, List, [], ◌∷◌, length, map, Option, Some, None, option_map, refl, sym, ap, subst, ◌∙◌, arith}
use Rattle.std.specs.List.{All}
use Rattle.std.proofs.lemmas.List.{length-map}
use Rattle.std.proofs.lemmas.List.Elements.{All-nil, All-cons, All-head, All-tail}
use Rattle.pg_program.specs.declared.syntax.Stmt.{Stmt}
use Rattle.pg_program.specs.declared.point.PointId.{PointId}
use Rattle.pg_program.specs.NameTable.{NameTable, initial}
use Rattle.pg_program.specs.Block.{block}
use Rattle.pg_program.specs.Graph.{size, statements}
use Rattle.pg_program.specs.Fault.{Fault, first_of, in_thread, in_threads, first_fault, domain_fault, unknown_thread, unknown_owner, value_out_of_domain, first_outside, own_registers, no_auxiliaries, distinct_targets, numbers_inside, few_names}
use Rattle.pg_program.specs.Program.{ProgramTable, IsProgram, IsThread, IsStmt}
use Rattle.pg_program.proofs.GraphLemmas.{length-statements}
use Rattle.pg_program.proofs.ProgramLemmas.{none_of, both_none, Faultless, faultless}
use Rattle.pg_outline.specs.Erasure.{erased, erased_names, erased_stmt, new_place}
use Rattle.pg_outline.proofs.EraseNames.{owners_stay}
use Rattle.pg_outline.proofs.EraseStmts.{statements_erased}
use Rattle.pg_outline.proofs.EraseClauses as clause

-- ---- one after another

-- a clause of the erased statements, by two of the statements
module _ (a b c : PointId → Stmt → Option Fault) (erase : Stmt → Stmt)
    (stmt : (at : PointId) (s : Stmt) → a at s ≡ None → b at s ≡ None → c at (erase s) ≡ None)
    (stmts : (ss : List Stmt) → statements (block (map erase ss)) ≡ map erase (statements (block ss))) where
  in_one : (t k : ℕ) (ss : List Stmt) → in_thread a t k ss ≡ None → in_thread b t k ss ≡ None → in_thread c t k (map erase ss) ≡ None
  in_one t k [] h e = refl
  in_one t k (s ∷ ss) h e =
      let at : PointId = record { thread = t; point = k } in
      let p = none_of (a at s) (in_thread a t (k + 1) ss) h in
      let q = none_of (b at s) (in_thread b t (k + 1) ss) e in
      both_none (c at (erase s)) (in_thread c t (k + 1) (map erase ss)) (stmt at s p.0 q.0) (in_one t (k + 1) ss p.1 q.1)

  pub in_all : (t : ℕ) (ts : List (List Stmt)) → in_threads a t ts ≡ None → in_threads b t ts ≡ None → in_threads c t (map (map erase) ts) ≡ None
  in_all t [] h e = refl
  in_all t (ss ∷ ts) h e =
      let p = none_of (in_thread a t 1 (statements (block ss))) (in_threads a (t + 1) ts) h in
      let q = none_of (in_thread b t 1 (statements (block ss))) (in_threads b (t + 1) ts) e in
      both_none (in_thread c t 1 (statements (block (map erase ss)))) (in_threads c (t + 1) (map (map erase) ts))
      (ap (in_thread c t 1) (stmts ss) ∙ in_one t 1 (statements (block ss)) p.0 q.0)
      (in_all (t + 1) ts p.1 q.1)

-- ---- the faults

all_none : (a b c d e f g h : Option Fault) → a ≡ None → b ≡ None → c ≡ None → d ≡ None → e ≡ None → f ≡ None → g ≡ None → h ≡ None
    → first_of a (first_of b (first_of c (first_of d (first_of e (first_of f (first_of g h)))))) ≡ None
all_none a b c d e f g h ia ib ic id ie if ig ih =
    both_none a (first_of b (first_of c (first_of d (first_of e (first_of f (first_of g h)))))) ia
    (both_none b (first_of c (first_of d (first_of e (first_of f (first_of g h))))) ib
    (both_none c (first_of d (first_of e (first_of f (first_of g h)))) ic
    (both_none d (first_of e (first_of f (first_of g h))) id
    (both_none e (first_of f (first_of g h)) ie
    (both_none f (first_of g h) if
    (both_none g h ig ih))))))

no_fault : (names : NameTable) (threads : List (List Stmt)) → Faultless names threads → first_fault names threads ≡ None
no_fault names threads h =
    all_none (domain_fault names.version names.domain) (option_map unknown_thread (unknown_owner (length threads) names.scalars)) (in_threads (own_registers names) 1 threads) (in_threads (no_auxiliaries names) 1 threads) (in_threads (distinct_targets names) 1 threads)
    (option_map value_out_of_domain (first_outside names.domain (initial names))) (in_threads (numbers_inside names) 1 threads) (in_threads (few_names names) 1 threads)
    h.domain h.owners h.own h.bare h.apart h.initial h.inside h.few

owner_of : (o : Option ℕ) → option_map unknown_thread o ≡ None → o ≡ None
owner_of None h = refl
owner_of (Some t) h = cc

module _ (names : NameTable) where
  abbrev erase : Stmt → Stmt
  erase = erased_stmt (new_place names)

  abbrev erase_all : List (List Stmt) → List (List Stmt)
  erase_all ts = map (map erase) ts

  stmts : (ss : List Stmt) → statements (block (map erase ss)) ≡ map erase (statements (block ss))
  stmts = statements_erased (new_place names)

  clause_all : (a c : PointId → Stmt → Option Fault) → ((at : PointId) (s : Stmt) → a at s ≡ None → no_auxiliaries names at s ≡ None → c at (erase s) ≡ None)
      → (ts : List (List Stmt)) → in_threads a 1 ts ≡ None → in_threads (no_auxiliaries names) 1 ts ≡ None → in_threads c 1 (erase_all ts) ≡ None
  clause_all a c stmt ts = in_all a (no_auxiliaries names) c erase stmt stmts 1 ts

  erased_faultless : (ts : List (List Stmt)) → Faultless names ts → Faultless (erased_names names) (erase_all ts)
  erased_faultless ts h = record {
    domain = h.domain;
    owners =
        ap (λ (n : ℕ). option_map unknown_thread (unknown_owner n (erased_names names).scalars)) (length-map ts (map erase))
        ∙ ap (option_map unknown_thread) (owners_stay (length ts) names.scalars (owner_of (unknown_owner (length ts) names.scalars) h.owners));
    own = clause_all (own_registers names) (own_registers (erased_names names)) (clause.own names) ts h.own h.bare;
    bare = clause_all (no_auxiliaries names) (no_auxiliaries (erased_names names)) (clause.bare names) ts h.bare h.bare;
    apart = clause_all (distinct_targets names) (distinct_targets (erased_names names)) (clause.apart names) ts h.apart h.bare;
    initial = h.initial;
    inside = clause_all (numbers_inside names) (numbers_inside (erased_names names)) (clause.inside names) ts h.inside h.bare;
    few = clause_all (few_names names) (few_names (erased_names names)) (clause.few names) ts h.few h.bare;
  }

  -- ---- threads

  are_stmts : (t k : ℕ) (ss : List Stmt) → All (IsStmt names) ss → in_thread (no_auxiliaries names) t k ss ≡ None → All (IsStmt (erased_names names)) (map erase ss)
  are_stmts t k [] all h = All-nil (IsStmt (erased_names names))
  are_stmts t k (s ∷ ss) all h =
      let at : PointId = record { thread = t; point = k } in
      let p = none_of (no_auxiliaries names at s) (in_thread (no_auxiliaries names) t (k + 1) ss) h in
      All-cons (IsStmt (erased_names names)) (erase s) (map erase ss) (clause.is_stmt names at s (All-head (IsStmt names) s ss all) p.0) (are_stmts t (k + 1) ss (All-tail (IsStmt names) s ss all) p.1)

  same_size : (ss : List Stmt) → size (block (map erase ss)) ≡ size (block ss)
  same_size ss =
      sym (length-statements (block (map erase ss))) ∙ ap (λ (l : List Stmt). length l) (stmts ss) ∙ length-map (statements (block ss)) erase ∙ length-statements (block ss)

  is_thread : (t : ℕ) (ss : List Stmt) → IsThread names ss → in_thread (no_auxiliaries names) t 1 (statements (block ss)) ≡ None → IsThread (erased_names names) (map erase ss)
  is_thread t ss h none = record {
    few = let same = same_size ss in let short = h.few in omega (arith, same, short);
    stmts = subst (All (IsStmt (erased_names names))) (sym (stmts ss)) (are_stmts t 1 (statements (block ss)) h.stmts none);
  }

  are_threads : (t : ℕ) (ts : List (List Stmt)) → All (IsThread names) ts → in_threads (no_auxiliaries names) t ts ≡ None → All (IsThread (erased_names names)) (erase_all ts)
  are_threads t [] all h = All-nil (IsThread (erased_names names))
  are_threads t (ss ∷ ts) all h =
      let p = none_of (in_thread (no_auxiliaries names) t 1 (statements (block ss))) (in_threads (no_auxiliaries names) (t + 1) ts) h in
      All-cons (IsThread (erased_names names)) (map erase ss) (erase_all ts) (is_thread t ss (All-head (IsThread names) ss ts all) p.0) (are_threads (t + 1) ts (All-tail (IsThread names) ss ts all) p.1)

pub erased_is_program : (p : ProgramTable) → IsProgram p → IsProgram (erased p)
erased_is_program p h =
    let clauses = faultless p.names p.threads h.faultless in
    let same = length-map p.threads (map (erased_stmt (new_place p.names))) in
    let some = h.threads.some in
    let few = h.threads.few in
    record {
      threads = record { some = omega (arith, same, some); few = omega (arith, same, few); each = are_threads p.names 1 p.threads h.threads.each clauses.bare };
      faultless = no_fault (erased_names p.names) (map (map (erased_stmt (new_place p.names))) p.threads) (erased_faultless p.names p.threads clauses);
    }
