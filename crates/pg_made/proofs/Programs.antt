-- The program of a made outline is one, and keeps the limits of a text.
use Rattle.std.proofs.Common.{◌≡◌, ℕ, zero, suc, ◌≤◌, [], ◌∷◌, Option, Some, None, inl, refl, sym, ap, ap₂, subst, ◌∙◌, arith}
use Rattle.std.specs.List.{All, range_with_len, slice_get}
use Rattle.std.proofs.lemmas.List.FromFn.{length-range_with_len}
use Rattle.std.proofs.lemmas.List.Elements.{All-nil, All-cons}
use Rattle.pg_program.specs.declared.syntax.Stmt.{Stmt}
use Rattle.pg_program.specs.declared.point.PointId.{PointId}
use Rattle.pg_program.specs.declared.name_table.NameRef.TheVariants as place
use Rattle.pg_program.specs.NameTable.{Location, IsNameTable, find}
use Rattle.pg_program.specs.Block.{block}
use Rattle.pg_program.specs.Graph.{size}
use Rattle.pg_program.specs.Graph as graph
use Rattle.pg_program.specs.Fault.{Fault, first_of, in_thread, in_threads, own_registers, no_auxiliaries, distinct_targets, numbers_inside, few_names, first_fault}
use Rattle.pg_program.specs.Program.{IsStmt, IsThread, IsProgram}
use Rattle.pg_made.specs.Made.{names, statement, statements, program}
use Rattle.pg_made.proofs.Statements.{is_stmt, own, none_used, apart, inside, narrow, statements_are, size_is, each, quiet}

-- ---- the names

own_location : (x : ℕ) (l : Location) → slice_get names.locations x ≡ Some l → find l.name names ≡ Some (place.Location x)
own_location zero l h = let same : record { name = 120 ∷ []; init = 0; line = 0 } ≡ l = cc in ap (λ (k : Location). find k.name names) (sym same)
own_location (suc zero) l h = let same : record { name = 121 ∷ []; init = 0; line = 1 } ≡ l = cc in ap (λ (k : Location). find k.name names) (sym same)
own_location (suc (suc x)) l h = cc

own_line : (x : ℕ) (l : Location) → slice_get names.locations x ≡ Some l → l.line ≡ x
own_line zero l h = let same : record { name = 120 ∷ []; init = 0; line = 0 } ≡ l = cc in ap (λ (k : Location). k.line) (sym same)
own_line (suc zero) l h = let same : record { name = 121 ∷ []; init = 0; line = 1 } ≡ l = cc in ap (λ (k : Location). k.line) (sym same)
own_line (suc (suc x)) l h = cc

pub is_table : IsNameTable names
is_table = record {
  version = inl refl;
  few_locations = omega arith;
  few_scalars = omega arith;
  own_location = own_location;
  own_scalar = λ r is name h. cc;
  grouped = (omega arith, omega arith, (omega arith, omega arith, tt));
  apart = λ one. own_line;
}

-- ---- the threads

pub size_of : (n : ℕ) → size (block (statements n)) ≡ n
size_of n = size_is (range_with_len 1 n) ∙ length-range_with_len 1 n

is_thread : (n : ℕ) → n ≤ 15 → IsThread names (statements n)
is_thread n few = record {
  few = let long = size_of n in omega (arith, long, few);
  stmts = subst (All (IsStmt names)) (sym (statements_are (range_with_len 1 n))) (each (IsStmt names) is_stmt (range_with_len 1 n));
}

silent : (C : PointId → Stmt → Option Fault) → ((at : PointId) (j : ℕ) → C at (statement j) ≡ None) → (n : ℕ) → in_threads C 1 (program n).threads ≡ None
silent C h n =
    let js = range_with_len 1 n in
    let one : (t : ℕ) → in_thread C t 1 (graph.statements (block (statements n))) ≡ None = λ t. ap (in_thread C t 1) (statements_are js) ∙ quiet C h t 1 js in
    ap₂ (λ (f g : Option Fault). first_of f (first_of g None)) (one 1) (one 2)

faultless : (n : ℕ) → first_fault names (program n).threads ≡ None
faultless n =
    let ts = (program n).threads in
    ap₂ (λ (f g : Option Fault). first_of f (first_of g (first_of (in_threads (distinct_targets names) 1 ts) (first_of (in_threads (numbers_inside names) 1 ts) (in_threads (few_names names) 1 ts)))))
    (silent (own_registers names) own n) (silent (no_auxiliaries names) none_used n)
    ∙ (ap₂ (λ (f g : Option Fault). first_of f (first_of g (in_threads (few_names names) 1 ts)))
    (silent (distinct_targets names) apart n) (silent (numbers_inside names) inside n)
    ∙ silent (few_names names) narrow n)

pub is_program : (n : ℕ) → n ≤ 15 → IsProgram (program n)
is_program n few = record {
  threads = record {
    some = omega arith;
    few = omega arith;
    each = All-cons (IsThread names) (statements n) (statements n ∷ []) (is_thread n few) (All-cons (IsThread names) (statements n) [] (is_thread n few) (All-nil (IsThread names)));
  };
  faultless = faultless n;
}
