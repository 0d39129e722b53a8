-- What stands in a statement of a made outline, and in a block of them.
use Rattle.std.proofs.Common.{◌≡◌, ℕ, ◌+◌, ◌%◌, ◌==◌, ◌<◌, ◌≤◌, Bool, true, false, cond, List, [], ◌∷◌, ◌++◌, length, map, Option, Some, None, option_map, max, refl, sym, ap, ap₂, subst, ◌∙◌, arith}
use Rattle.std.specs.List.{All, find, list_any}
use Rattle.std.proofs.lemmas.List.Elements.{All-nil, All-cons}
use Rattle.pg_program.specs.declared.syntax.AuxAssign.{AuxAssign}
use Rattle.pg_program.specs.declared.syntax.Expr.{fold-roll-Expr}
use Rattle.pg_program.specs.declared.syntax.Expr.TheOpen.{Value}
use Rattle.pg_program.specs.declared.syntax.Stmt.{Stmt, out-Stmt, out-roll-Stmt}
use Rattle.pg_program.specs.declared.syntax.Act.{Act, out-Act, roll-Act, out-roll-Act}
use Rattle.pg_program.specs.declared.syntax.Act.TheOpen.{Act-F, Stmt-F, Store, Flush}
use Rattle.pg_program.specs.declared.point.PointId.{PointId}
use Rattle.pg_program.specs.NameTable.{is_foreign, is_auxiliary, scalar_name}
use Rattle.pg_program.specs.Expr.{reads, reads_step, numbers, numbers_step}
use Rattle.pg_program.specs.Block.{done, node, block, first_in, second_in, first_list, second_list}
use Rattle.pg_program.specs.Graph.{size, is_test, is_test_in}
use Rattle.pg_program.specs.Graph as graph
use Rattle.pg_program.specs.Fault.{Fault, foreign_register, aux_in_program, aux_twice, value_out_of_domain, expression_names, first_of, first_outside, own_registers, no_auxiliaries, distinct_targets, numbers_inside, few_names, in_thread}
use Rattle.pg_program.specs.Words.{outside, outside_in, scalars_of, bracket_scalars, targets, numbers_in, bracket_numbers, groups_in, locations_of, locations_in, repeated, is_wide}
use Rattle.pg_program.specs.Program.{IsStmt}
use Rattle.pg_program.proofs.BlockLemmas.{block-nests}
use Rattle.pg_program_text.specs.SpellingLaws.{WholeExpr, WholeAct, WholeAssignment, WholeStmt}
use Rattle.pg_program_text.specs.Spelling.{Tree, number, tree, tree_step}
use Rattle.pg_program_text.specs.DeclaredNames.{Declared}
use Rattle.pg_program_text.specs.Measures.{opens, nodes, NumbersFit, nesting}
use Rattle.pg_made.specs.Made.{x, y, names, one, act, statement}

-- ---- the three acts

-- what holds of the three acts holds of the act of each turn
by_turn : (P : Act-F Act Stmt → Type 0) → P (Store x one) → P (Flush x) → P (Store y one) → (j : ℕ) → P (act j)
by_turn P first second third j = by (j % 3 == 1) (j % 3 == 2)
  where
    by : (b c : Bool) → P (cond b (Store x one) (cond c (Flush x) (Store y one)))
    by true c = first
    by false true = second
    by false false = third

-- ---- the number 1

no_reads : reads one ≡ []
no_reads = fold-roll-Expr (List ℕ) reads_step (Value 1)

one_number : numbers one ≡ 1 ∷ []
one_number = fold-roll-Expr (List ℕ) numbers_step (Value 1)

one_tree : tree one ≡ number 1
one_tree = fold-roll-Expr Tree tree_step (Value 1)

abbrev Readable : Tree → Type 0
Readable t = Declared names t × NumbersFit t × (opens t ≤ 32) × (nodes t ≤ 32)

number_readable : Readable (number 1)
unfolding Declared NumbersFit opens nodes
number_readable = (tt, omega arith, omega arith, omega arith)

one_whole : WholeExpr names one
one_whole =
    let r = subst Readable (sym one_tree) number_readable in
    record { writable = (r.0, r.1); shallow = r.2; few = r.3 }

-- ---- a statement

opened : (j : ℕ) → out-Stmt (statement j) ≡ record { act = roll-Act (act j); aux = [] }
opened j = out-roll-Stmt (record { act = roll-Act (act j); aux = [] })

act_is : (j : ℕ) → out-Act (out-Stmt (statement j)).act ≡ act j
act_is j = ap (λ (s : Stmt-F Act Stmt). out-Act s.act) (opened j) ∙ out-roll-Act (act j)

bare : (j : ℕ) → (out-Stmt (statement j)).aux ≡ []
bare j = ap (λ (s : Stmt-F Act Stmt). s.aux) (opened j)

-- what holds of the three acts holds of the act of a statement
by_act : (P : Act-F Act Stmt → Type 0) → P (Store x one) → P (Flush x) → P (Store y one) → (j : ℕ) → P (out-Act (out-Stmt (statement j)).act)
by_act P first second third j = subst P (sym (act_is j)) (by_turn P first second third j)

no_test : (j : ℕ) → is_test (statement j) ≡ false
no_test = by_act (λ a. is_test_in a ≡ false) refl refl refl

no_first : (j : ℕ) → first_list (statement j) ≡ []
no_first = by_act (λ a. first_in a ≡ []) refl refl refl

no_second : (j : ℕ) → second_list (statement j) ≡ []
no_second = by_act (λ a. second_in a ≡ []) refl refl refl

none_outside : (j : ℕ) → outside (statement j) ≡ []
none_outside = by_act (λ a. outside_in a ≡ []) no_reads refl no_reads

no_scalars : (j : ℕ) → scalars_of (statement j) ≡ []
no_scalars j = ap₂ (λ (l : List ℕ) (a : List AuxAssign). l ++ bracket_scalars a) (none_outside j) (bare j)

no_targets : (j : ℕ) → targets (statement j) ≡ []
no_targets j = ap (map (λ (a : AuxAssign). a.target)) (bare j)

few_numbers : (j : ℕ) → first_outside 2 (numbers_in (out-Act (out-Stmt (statement j)).act) ++ []) ≡ None
few_numbers =
    by_act (λ a. first_outside 2 (numbers_in a ++ []) ≡ None) (ap (λ (l : List ℕ). first_outside 2 (l ++ [])) one_number) refl
    (ap (λ (l : List ℕ). first_outside 2 (l ++ [])) one_number)

no_groups : (j : ℕ) → list_any is_wide (groups_in (out-Act (out-Stmt (statement j)).act) ++ []) ≡ false
no_groups =
    by_act (λ a. list_any is_wide (groups_in a ++ []) ≡ false) (ap (λ (l : List ℕ). list_any is_wide (l ∷ [])) no_reads) refl
    (ap (λ (l : List ℕ). list_any is_wide (l ∷ [])) no_reads)

abbrev Below : List ℕ → Type 0
Below = All (λ (v : ℕ). v < 2)

one_place : (v : ℕ) → v < 2 → Below (v ∷ [])
one_place v lt = All-cons (λ (w : ℕ). w < 2) v [] lt (All-nil (λ (w : ℕ). w < 2))

declared_places : (j : ℕ) → Below (locations_of (statement j))
declared_places = by_act (λ a. Below (locations_in a)) (one_place x (omega arith)) (one_place x (omega arith)) (one_place y (omega arith))

pub is_stmt : (j : ℕ) → IsStmt names (statement j)
is_stmt j = record {
  scalars = subst (All (λ (r : ℕ). r < 0)) (sym (no_scalars j)) (All-nil (λ (r : ℕ). r < 0));
  locations = declared_places j;
  targets = subst (All (λ (r : ℕ). is_auxiliary names r ≡ true)) (sym (no_targets j)) (All-nil (λ (r : ℕ). is_auxiliary names r ≡ true));
  bare = λ h. bare j;
}

pub is_whole : (j : ℕ) → WholeStmt names (statement j)
is_whole j = record {
  act = by_act (WholeAct names) (omega arith, one_whole) (omega arith) (omega arith, one_whole) j;
  assignments = subst (All (WholeAssignment names)) (sym (bare j)) (All-nil (WholeAssignment names));
  few = let none = ap length (bare j) in omega (arith, none);
  bare = λ h. bare j;
}

-- ---- its clauses

pub own : (at : PointId) (j : ℕ) → own_registers names at (statement j) ≡ None
own at j = ap (λ (l : List ℕ). option_map (λ r. foreign_register (scalar_name names r)) (find (is_foreign names at.thread) l)) (no_scalars j)

pub none_used : (at : PointId) (j : ℕ) → no_auxiliaries names at (statement j) ≡ None
none_used at j = ap (λ (l : List ℕ). option_map (λ r. aux_in_program (scalar_name names r)) (find (is_auxiliary names) l)) (none_outside j)

pub apart : (at : PointId) (j : ℕ) → distinct_targets names at (statement j) ≡ None
apart at j = ap (λ (l : List ℕ). option_map (λ r. aux_twice (scalar_name names r)) (repeated [] l)) (no_targets j)

pub inside : (at : PointId) (j : ℕ) → numbers_inside names at (statement j) ≡ None
inside at j =
    ap (λ (a : List AuxAssign). option_map value_out_of_domain (first_outside 2 (numbers_in (out-Act (out-Stmt (statement j)).act) ++ bracket_numbers a))) (bare j)
    ∙ ap (option_map value_out_of_domain) (few_numbers j)

pub narrow : (at : PointId) (j : ℕ) → few_names names at (statement j) ≡ None
narrow at j =
    ap (λ (a : List AuxAssign). cond (list_any is_wide (groups_in (out-Act (out-Stmt (statement j)).act) ++ map (λ b. reads b.expr) a)) (Some (expression_names at)) None) (bare j)
    ∙ ap (λ (b : Bool). cond b (Some (expression_names at)) None) (no_groups j)

-- ---- a block of statements

pub flat : (j : ℕ) (ss : List Stmt) → block (statement j ∷ ss) ≡ node (statement j) done done (block ss)
flat j ss = block-nests (statement j) ss ∙ ap₂ (λ (a b : List Stmt). node (statement j) (block a) (block b) (block ss)) (no_first j) (no_second j)

pub statements_are : (js : List ℕ) → graph.statements (block (map statement js)) ≡ map statement js
statements_are [] = refl
statements_are (j ∷ js) = ap graph.statements (flat j (map statement js)) ∙ ap (λ (l : List Stmt). statement j ∷ l) (statements_are js)

pub size_is : (js : List ℕ) → size (block (map statement js)) ≡ length js
size_is [] = refl
size_is (j ∷ js) = let here = ap size (flat j (map statement js)) in let rest = size_is js in omega (arith, here, rest)

pub not_nested : (js : List ℕ) → nesting (block (map statement js)) ≡ 0
unfolding nesting
not_nested [] = refl
not_nested (j ∷ js) =
    ap nesting (flat j (map statement js))
    ∙ ap₂ (λ (b : Bool) (n : ℕ). max (cond b 1 0) n) (no_test j) (not_nested js)

pub each : (P : Stmt → Type 0) → ((j : ℕ) → P (statement j)) → (js : List ℕ) → All P (map statement js)
each P h [] = All-nil P
each P h (j ∷ js) = All-cons P (statement j) (map statement js) (h j) (each P h js)

-- a clause that no statement breaks is met
pub quiet : (C : PointId → Stmt → Option Fault) → ((at : PointId) (j : ℕ) → C at (statement j) ≡ None) → (t k : ℕ) (js : List ℕ) → in_thread C t k (map statement js) ≡ None
quiet C h t k [] = refl
quiet C h t k (j ∷ js) =
    ap (λ (f : Option Fault). first_of f (in_thread C t (k + 1) (map statement js))) (h (record { thread = t; point = k }) j)
    ∙ quiet C h t (k + 1) js
