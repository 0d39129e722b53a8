-- The erasure has the points and the steps of the program.
use Rattle.std.proofs.Common.{◌≡◌, ℕ, zero, suc, ◌+◌, ◌-◌, ◌≤◌, Bool, List, [], ◌∷◌, ◌++◌, map, slice_get, slice_index_or, refl, sym, ap, ap₂, subst, ◌∙◌, arith}
use Rattle.std.proofs.lemmas.Option.{slice_get-map}
use Rattle.pg_program.specs.declared.syntax.Stmt.{Stmt, out-Stmt}
use Rattle.pg_program.specs.declared.syntax.Act.{Act, out-Act}
use Rattle.pg_program.specs.declared.syntax.Act.TheOpen.{Act-F, Assign, Store, Load, Cas, Mfence, Sfence, Flush, Flushopt, If, While}
use Rattle.pg_program.specs.declared.point.Step.{Step}
use Rattle.pg_program.specs.Block.{Block, node, block, first_list, second_list}
use Rattle.pg_program.specs.Graph.{size, statements, is_test, is_loop, is_test_in, is_loop_in, into, own_steps, exit_of, steps, thread_steps}
use Rattle.pg_program.specs.Program.{thread_of}
use Rattle.pg_program.proofs.BlockLemmas.{block-nests}
use Rattle.pg_outline.specs.Erasure.{erased_stmt, new_place}
use Rattle.pg_outline.specs.ErasureLaws.{StatementsAreErased, StepsStay}
use Rattle.pg_outline.proofs.EraseStmts.{act_is, moved_act, first_is, second_is, statements_erased}

module _ (place : ℕ → ℕ) where
  abbrev erase : List Stmt → List Stmt
  erase ss = map (erased_stmt place) ss

  test_stays : (x : Act-F Act Stmt) → is_test_in (moved_act place x) ≡ is_test_in x
  test_stays (Assign r e) = refl
  test_stays (Store x e) = refl
  test_stays (Load r x) = refl
  test_stays (Cas r x e d) = refl
  test_stays Mfence = refl
  test_stays Sfence = refl
  test_stays (Flush x) = refl
  test_stays (Flushopt x) = refl
  test_stays (If test a b) = refl
  test_stays (While test a) = refl

  loop_stays : (x : Act-F Act Stmt) → is_loop_in (moved_act place x) ≡ is_loop_in x
  loop_stays (Assign r e) = refl
  loop_stays (Store x e) = refl
  loop_stays (Load r x) = refl
  loop_stays (Cas r x e d) = refl
  loop_stays Mfence = refl
  loop_stays Sfence = refl
  loop_stays (Flush x) = refl
  loop_stays (Flushopt x) = refl
  loop_stays (If test a b) = refl
  loop_stays (While test a) = refl

  same_test : (s : Stmt) → is_test (erased_stmt place s) ≡ is_test s
  same_test s = ap (λ (x : Act-F Act Stmt). is_test_in x) (act_is place s) ∙ test_stays (out-Act (out-Stmt s).act)

  same_loop : (s : Stmt) → is_loop (erased_stmt place s) ≡ is_loop s
  same_loop s = ap (λ (x : Act-F Act Stmt). is_loop_in x) (act_is place s) ∙ loop_stays (out-Act (out-Stmt s).act)

  -- ---- blocks of the same form

  record Alike (a b : Block) : Type 0 where
    size_is : size a ≡ size b
    into_is : (first exit : ℕ) → into a first exit ≡ into b first exit
    steps_are : (t first exit : ℕ) → steps t first exit a ≡ steps t first exit b

  own_alike : (t first : ℕ) (p q : Bool) → p ≡ q → {x y z u v w : ℕ} → x ≡ u → y ≡ v → z ≡ w → {a b c d e f : List (List Step)} → a ≡ d → b ≡ e → c ≡ f
      → own_steps p t first x y z ∷ (a ++ (b ++ c)) ≡ own_steps q t first u v w ∷ (d ++ (e ++ f))
  own_alike t first p q is {x} {y} {z} {u} {v} {w} one two three {a} {b} {c} {d} {e} {f} inner second rest =
      ap₂ (λ (l : List Step) (m : List (List Step)). l ∷ m)
      (ap (λ (r : Bool). own_steps r t first x y z) is ∙ ap₂ (λ (m n : ℕ). own_steps q t first m n z) one two ∙ ap (λ (n : ℕ). own_steps q t first u v n) three)
      (ap₂ (λ (l m : List (List Step)). l ++ m) inner (ap₂ (λ (l m : List (List Step)). l ++ m) second rest))

  alike_nodes : (s u : Stmt) (a b rest c d more : Block) → is_test s ≡ is_test u → is_loop s ≡ is_loop u → Alike a c → Alike b d → Alike rest more → Alike (node s a b rest) (node u c d more)
  alike_nodes s u a b rest c d more test loop one two three = record {
    size_is = let p = one.size_is in let q = two.size_is in let r = three.size_is in omega (arith, p, q, r);
    into_is = λ first exit. refl;
    steps_are = λ t first exit.
        let second : first + 1 + size a ≡ first + 1 + size c = ap (λ (n : ℕ). first + 1 + n) one.size_is in
        let later : first + 1 + size a + size b ≡ first + 1 + size c + size d = ap₂ (λ (m n : ℕ). m + n) second two.size_is in
        let next : into rest (first + 1 + size a + size b) exit ≡ into more (first + 1 + size c + size d) exit = ap (λ (n : ℕ). into rest n exit) later ∙ three.into_is (first + 1 + size c + size d) exit in
        let i = into more (first + 1 + size c + size d) exit in
        let back : exit_of (is_loop s) first (into rest (first + 1 + size a + size b) exit) ≡ exit_of (is_loop u) first i = ap₂ (λ (q : Bool) (n : ℕ). exit_of q first n) loop next in
        let j = exit_of (is_loop u) first i in
        let k = first + 1 + size c in
        own_alike t first (is_test s) (is_test u) test (ap (λ (n : ℕ). into a (first + 1) n) back ∙ one.into_is (first + 1) j) (ap₂ (λ (m n : ℕ). into b m n) second next ∙ two.into_is k i) next
        (ap (λ (n : ℕ). steps t (first + 1) n a) back ∙ one.steps_are t (first + 1) j)
        (ap₂ (λ (m n : ℕ). steps t m n b) second next ∙ two.steps_are t k i)
        (ap (λ (n : ℕ). steps t n exit rest) later ∙ three.steps_are t (k + size d) exit);
  }

  -- by the number of its statements
  by_size : (n : ℕ) (ss : List Stmt) → size (block ss) ≤ n → Alike (block (erase ss)) (block ss)
  by_size n [] h = record { size_is = refl; into_is = λ first exit. refl; steps_are = λ t first exit. refl }
  by_size zero (s ∷ ss) h = absurd (omega arith)
  by_size (suc n) (s ∷ ss) h =
      let first = first_list s in
      let second = second_list s in
      let e = erased_stmt place s in
      let few : size (block (s ∷ ss)) ≡ 1 + (size (block first) + (size (block second) + size (block ss))) = ap size (block-nests s ss) in
      let nest : block (erase (s ∷ ss)) ≡ node e (block (erase first)) (block (erase second)) (block (erase ss)) =
      block-nests e (erase ss) ∙ ap₂ (λ (a b : List Stmt). node e (block a) (block b) (block (erase ss))) (first_is place s) (second_is place s)
      in
      let alike = alike_nodes e s (block (erase first)) (block (erase second)) (block (erase ss)) (block first) (block second) (block ss) (same_test s) (same_loop s) (by_size n first (omega arith)) (by_size n second (omega arith)) (by_size n ss (omega arith)) in
      subst (λ (b : Block). Alike b (block (s ∷ ss))) (sym nest)
      (subst (λ (b : Block). Alike (node e (block (erase first)) (block (erase second)) (block (erase ss))) b) (sym (block-nests s ss)) alike)

  same_steps : (t : ℕ) (ss : List Stmt) → thread_steps t (erase ss) ≡ thread_steps t ss
  same_steps t ss =
      let alike = by_size (size (block ss)) ss (omega arith) in
      ap (λ (n : ℕ). steps t 1 (n + 1) (block (erase ss))) alike.size_is ∙ alike.steps_are t 1 (size (block ss) + 1)

  erased_thread : (ts : List (List Stmt)) (i : ℕ) → slice_index_or (map erase ts) i [] ≡ erase (slice_index_or ts i [])
  erased_thread [] i = refl
  erased_thread (ss ∷ ts) zero = refl
  erased_thread (ss ∷ ts) (suc i) = erased_thread ts i

pub statements_are_erased : StatementsAreErased
statements_are_erased p t k =
    let place = new_place p.names in
    let ss = thread_of p t in
    ap (λ (l : List Stmt). slice_get (statements (block l)) (k - 1)) (erased_thread place p.threads (t - 1))
    ∙ ap (λ (l : List Stmt). slice_get l (k - 1)) (statements_erased place ss)
    ∙ slice_get-map (erased_stmt place) (statements (block ss)) (k - 1)

pub steps_stay : StepsStay
steps_stay p t k =
    let place = new_place p.names in
    ap (λ (l : List Stmt). slice_index_or (thread_steps t l) (k - 1) []) (erased_thread place p.threads (t - 1))
    ∙ ap (λ (l : List (List Step)). slice_index_or l (k - 1) []) (same_steps place t (thread_of p t))
