-- A statement of a program is over its names, and none of its expressions reads many.
use Rattle.std.proofs.Common.{◌≡◌, ℕ, zero, suc, ◌+◌, ◌-◌, ◌<◌, ◌≤◌, ◌==◌, Bool, true, false, cond, ◌||◌, List, [], ◌∷◌, ◌++◌, length, map, get_or, Option, Some, None, option_map, slice_get, find, refl, sym, ap, ◌∙◌, subst, arith}
use Rattle.std.specs.List.{All, filter, list_any, range_with_len}
use Rattle.std.proofs.lemmas.Bool.{eqb-true, ltb-false, true≢false}
use Rattle.std.proofs.lemmas.List.Elements.{All-nil, All-cons, All-head, All-tail}
use Rattle.pg_assertion.specs.Layout.{Sizes, sizes}
use Rattle.pg_program.specs.declared.syntax.AuxAssign.{AuxAssign}
use Rattle.pg_program.specs.declared.syntax.Stmt.{Stmt, out-Stmt}
use Rattle.pg_program.specs.declared.syntax.Act.{Act, out-Act}
use Rattle.pg_program.specs.declared.syntax.Act.TheOpen.{Act-F, Assign, Store, Load, Cas, Mfence, Sfence, Flush, Flushopt, If, While}
use Rattle.pg_program.specs.declared.point.PointId.{PointId}
use Rattle.pg_program.specs.Block.{block}
use Rattle.pg_program.specs.Graph.{statements}
use Rattle.pg_program.specs.Expr.{reads}
use Rattle.pg_program.specs.NameTable.{is_auxiliary}
use Rattle.pg_program.specs.Fault.{Fault, no_auxiliaries, distinct_targets, few_names, expression_names, in_thread, in_threads}
use Rattle.pg_program.specs.Words.{is_in, different, repeated, is_wide, groups, groups_in, outside, outside_in, locations_in, bracket_scalars, targets}
use Rattle.pg_program.specs.Program.{ProgramTable, IsProgram, thread_of, stmt_at}
use Rattle.pg_program.proofs.ProgramLemmas.{none_of, faultless, stmt_of}
use Rattle.pg_rules_access.specs.Values.{AreScalars, AreFew, AreAssigns}
use Rattle.pg_rules_access.specs.Access.{IsActOver, IsStmtOver}

-- ---- the scalars in order are no more than the different ones

no_more : (p q : ℕ → Bool) → ((k : ℕ) → p k ≡ true → q k ≡ true) → (xs : List ℕ) → length (filter p xs) ≤ length (filter q xs)
no_more p q h [] = omega arith
no_more p q h (x ∷ xs) = by (no_more p q h xs) (p x) (q x) (h x)
  where
    by : length (filter p xs) ≤ length (filter q xs) → (b c : Bool) → (b ≡ true → c ≡ true)
        → length (cond b (x ∷ filter p xs) (filter p xs)) ≤ length (cond c (x ∷ filter q xs) (filter q xs))
    by ih true true f = omega (arith, ih)
    by ih true false f = let e = f refl in cc
    by ih false true f = omega (arith, ih)
    by ih false false f = ih

in_both : (p q : ℕ → Bool) (xs : List ℕ) → length (filter (λ k. p k || q k) xs) ≤ length (filter p xs) + length (filter q xs)
in_both p q [] = omega arith
in_both p q (x ∷ xs) = by (in_both p q xs) (p x) (q x)
  where
    by : length (filter (λ k. p k || q k) xs) ≤ length (filter p xs) + length (filter q xs) → (b c : Bool)
        → length (cond (b || c) (x ∷ filter (λ k. p k || q k) xs) (filter (λ k. p k || q k) xs)) ≤ length (cond b (x ∷ filter p xs) (filter p xs)) + length (cond c (x ∷ filter q xs) (filter q xs))
    by ih true true = omega (arith, ih)
    by ih true false = omega (arith, ih)
    by ih false true = omega (arith, ih)
    by ih false false = ih

none_later : (r a n : ℕ) → r < a → length (filter (λ k. r == k) (range_with_len a n)) ≡ 0
none_later r a zero h = refl
none_later r a (suc n) h = by (none_later r (a + 1) n (omega arith)) (r == a) refl
  where
    by : length (filter (λ k. r == k) (range_with_len (a + 1) n)) ≡ 0 → (b : Bool) → (r == a) ≡ b
        → length (cond b (a ∷ filter (λ k. r == k) (range_with_len (a + 1) n)) (filter (λ k. r == k) (range_with_len (a + 1) n))) ≡ 0
    by ih true e = let q = eqb-true r a e in absurd (omega arith)
    by ih false e = ih

one_at_most : (r a n : ℕ) → length (filter (λ k. r == k) (range_with_len a n)) ≤ 1
one_at_most r a zero = omega arith
one_at_most r a (suc n) = by (one_at_most r (a + 1) n) (r == a) refl
  where
    by : length (filter (λ k. r == k) (range_with_len (a + 1) n)) ≤ 1 → (b : Bool) → (r == a) ≡ b
        → length (cond b (a ∷ filter (λ k. r == k) (range_with_len (a + 1) n)) (filter (λ k. r == k) (range_with_len (a + 1) n))) ≤ 1
    by ih true e =
        let q = eqb-true r a e in
        let z = none_later r (a + 1) n (omega arith) in
        omega (arith, z)
    by ih false e = ih

none_at_all : (xs : List ℕ) → length (filter (λ k. false) xs) ≡ 0
none_at_all [] = refl
none_at_all (x ∷ xs) = none_at_all xs

different_are_all : (rs : List ℕ) (a n : ℕ) → length (filter (λ k. is_in k rs) (range_with_len a n)) ≤ length (different rs)
different_are_all [] a n = let z = none_at_all (range_with_len a n) in omega (arith, z)
different_are_all (r ∷ rs) a n = by (different_are_all rs a n) (is_in r rs) refl
  where
    old : is_in r rs ≡ true → (k : ℕ) → is_in k (r ∷ rs) ≡ true → is_in k rs ≡ true
    old is k h = at (r == k) refl h
      where
        at : (b : Bool) → (r == k) ≡ b → (b || is_in k rs) ≡ true → is_in k rs ≡ true
        at true e g = subst (λ (j : ℕ). is_in j rs ≡ true) (eqb-true r k e) is
        at false e g = g

    by : length (filter (λ k. is_in k rs) (range_with_len a n)) ≤ length (different rs) → (b : Bool) → is_in r rs ≡ b → length (filter (λ k. is_in k (r ∷ rs)) (range_with_len a n)) ≤ length (cond b (different rs) (r ∷ different rs))
    by ih true is =
        let more = no_more (λ k. is_in k (r ∷ rs)) (λ k. is_in k rs) (old is) (range_with_len a n) in
        omega (arith, more, ih)
    by ih false is =
        let both = in_both (λ k. r == k) (λ k. is_in k rs) (range_with_len a n) in
        let one = one_at_most r a n in
        omega (arith, both, one, ih)

few_of : (l : Sizes) (rs : List ℕ) → is_wide rs ≡ false → AreFew l rs
few_of l rs h =
    let small : length (different rs) ≤ 4 = ltb-false 4 (length (different rs)) h in
    let all = different_are_all rs 0 l.scalars in
    omega (arith, small, all)

-- ---- no expression of a statement reads many

pub at_thread : (C : PointId → Stmt → Option Fault) (t : ℕ) (threads : List (List Stmt)) (i : ℕ) → in_threads C t threads ≡ None → i < length threads
    → in_thread C (t + i) 1 (statements (block (get_or threads i []))) ≡ None
at_thread C t [] i h lt = absurd (omega arith)
at_thread C t (ss ∷ threads) zero h lt =
    ap (λ (n : ℕ). in_thread C n 1 (statements (block ss))) (let q : t + zero ≡ t = omega arith in q)
    ∙ (none_of (in_thread C t 1 (statements (block ss))) (in_threads C (t + 1) threads) h).0
at_thread C t (ss ∷ threads) (suc i) h lt =
    ap (λ (n : ℕ). in_thread C n 1 (statements (block (get_or threads i [])))) (let q : t + suc i ≡ t + 1 + i = omega arith in q)
    ∙ at_thread C (t + 1) threads i (none_of (in_thread C t 1 (statements (block ss))) (in_threads C (t + 1) threads) h).1 (omega arith)

pub at_stmt : (C : PointId → Stmt → Option Fault) (t k : ℕ) (ss : List Stmt) (i : ℕ) (s : Stmt) → in_thread C t k ss ≡ None → slice_get ss i ≡ Some s
    → C (record { thread = t; point = k + i }) s ≡ None
at_stmt C t k [] i s h at = cc
at_stmt C t k (u ∷ ss) zero s h at =
    let same : u ≡ s = cc in
    ap (λ (n : ℕ). C (record { thread = t; point = n }) s) (let q : k + zero ≡ k = omega arith in q)
    ∙ (sym (ap (C (record { thread = t; point = k })) same) ∙ (none_of (C (record { thread = t; point = k }) u) (in_thread C t (k + 1) ss) h).0)
at_stmt C t k (u ∷ ss) (suc i) s h at =
    ap (λ (n : ℕ). C (record { thread = t; point = n }) s) (let q : k + suc i ≡ k + 1 + i = omega arith in q)
    ∙ at_stmt C t (k + 1) ss i s (none_of (C (record { thread = t; point = k }) u) (in_thread C t (k + 1) ss) h).1 at

-- a clause without a fault has none at a statement
clause_of : (p : ProgramTable) (C : PointId → Stmt → Option Fault) (t k : ℕ) (s : Stmt) → 1 ≤ t → t ≤ length p.threads → stmt_at p t k ≡ Some s → in_threads C 1 p.threads ≡ None
    → C (record { thread = 1 + (t - 1); point = 1 + (k - 1) }) s ≡ None
clause_of p C t k s low high at none =
    at_stmt C (1 + (t - 1)) 1 (statements (block (thread_of p t))) (k - 1) s (at_thread C 1 p.threads (t - 1) none (omega arith)) at

each_few : (l : Sizes) (gs : List (List ℕ)) → list_any is_wide gs ≡ false → All (AreFew l) gs
each_few l [] h = All-nil (AreFew l)
each_few l (g ∷ gs) h = by (each_few l gs) (is_wide g) refl h
  where
    by : (list_any is_wide gs ≡ false → All (AreFew l) gs) → (b : Bool) → is_wide g ≡ b → (b || list_any is_wide gs) ≡ false → All (AreFew l) (g ∷ gs)
    by rest true e k = cc
    by rest false e k = All-cons (AreFew l) g gs (few_of l g e) (rest k)

not_wide : (b : Bool) (f : Fault) → cond b (Some f) None ≡ None → b ≡ false
not_wide true f h = cc
not_wide false f h = refl

groups_few : (p : ProgramTable) → IsProgram p → (l : Sizes) (t k : ℕ) (s : Stmt) → 1 ≤ t → t ≤ length p.threads → stmt_at p t k ≡ Some s → All (AreFew l) (groups s)
groups_few p h l t k s low high at =
    let here = clause_of p (few_names p.names) t k s low high at (faultless p.names p.threads h.faultless).few in
    each_few l (groups s) (not_wide (list_any is_wide (groups s)) (expression_names (record { thread = 1 + (t - 1); point = 1 + (k - 1) })) here)

-- ---- a statement is over its names

both_of : {A : Type 0} (P : A → Type 0) (xs ys : List A) → All P (xs ++ ys) → All P xs × All P ys
both_of P [] ys h = (All-nil P, h)
both_of P (x ∷ xs) ys h =
    let rest = both_of P xs ys (All-tail P x (xs ++ ys) h) in
    (All-cons P x xs (All-head P x (xs ++ ys) h) rest.0, rest.1)

scalars_of : (n : ℕ) → n ≤ 16 → (rs : List ℕ) → All (λ r. r < n) rs → AreScalars rs
scalars_of n few rs h = λ k d lt. let q = h k d lt in omega (arith, q, few)

act_over : (l : Sizes) → l.scalars ≤ 16 → (act : Act-F Act Stmt) → All (λ r. r < l.scalars) (outside_in act) → All (λ x. x < l.locations) (locations_in act)
    → All (AreFew l) (groups_in act) → IsActOver l act
act_over l few (Assign r e) names at groups = (
  All-head (λ q. q < l.scalars) r (reads e) names,
  scalars_of l.scalars few (reads e) (All-tail (λ q. q < l.scalars) r (reads e) names),
  All-head (AreFew l) (reads e) [] groups,
)
act_over l few (Store x e) names at groups =
    (All-head (λ z. z < l.locations) x [] at, scalars_of l.scalars few (reads e) names, All-head (AreFew l) (reads e) [] groups)
act_over l few (Load r x) names at groups = (All-head (λ q. q < l.scalars) r [] names, All-head (λ z. z < l.locations) x [] at)
act_over l few (Cas r x e d) names at groups =
    let parts = both_of (λ q. q < l.scalars) (reads e) (reads d) (All-tail (λ q. q < l.scalars) r (reads e ++ reads d) names) in (
      All-head (λ q. q < l.scalars) r (reads e ++ reads d) names,
      All-head (λ z. z < l.locations) x [] at,
      scalars_of l.scalars few (reads e) parts.0,
      All-head (AreFew l) (reads e) (reads d ∷ []) groups,
      scalars_of l.scalars few (reads d) parts.1,
      All-head (AreFew l) (reads d) [] (All-tail (AreFew l) (reads e) (reads d ∷ []) groups),
    )
act_over l few Mfence names at groups = tt
act_over l few Sfence names at groups = tt
act_over l few (Flush x) names at groups = tt
act_over l few (Flushopt x) names at groups = tt
act_over l few (If test a b) names at groups =
    let parts = both_of (λ q. q < l.scalars) (reads test.left) (reads test.right) names in (
      scalars_of l.scalars few (reads test.left) parts.0,
      scalars_of l.scalars few (reads test.right) parts.1,
      All-head (AreFew l) (reads test.left ++ reads test.right) [] groups,
    )
act_over l few (While test a) names at groups =
    let parts = both_of (λ q. q < l.scalars) (reads test.left) (reads test.right) names in (
      scalars_of l.scalars few (reads test.left) parts.0,
      scalars_of l.scalars few (reads test.right) parts.1,
      All-head (AreFew l) (reads test.left ++ reads test.right) [] groups,
    )

assigns_over : (l : Sizes) → l.scalars ≤ 16 → (aux : List AuxAssign) → All (λ r. r < l.scalars) (bracket_scalars aux)
    → All (AreFew l) (map (λ a. reads a.expr) aux) → AreAssigns l aux
assigns_over l few [] names groups = tt
assigns_over l few (a ∷ rest) names groups =
    let P : ℕ → Type 0 = λ r. r < l.scalars in
    let parts = both_of P (reads a.expr) (bracket_scalars rest) (All-tail P a.target (reads a.expr ++ bracket_scalars rest) names) in (
      All-head P a.target (reads a.expr ++ bracket_scalars rest) names,
      scalars_of l.scalars few (reads a.expr) parts.0,
      All-head (AreFew l) (reads a.expr) (map (λ b. reads b.expr) rest) groups,
      assigns_over l few rest parts.1 (All-tail (AreFew l) (reads a.expr) (map (λ b. reads b.expr) rest) groups),
    )

pub stmt_over : (p : ProgramTable) → IsProgram p → length p.names.scalars ≤ 16 → (t k : ℕ) (s : Stmt) → 1 ≤ t → t ≤ length p.threads → stmt_at p t k ≡ Some s
    → IsStmtOver (sizes p.names (length p.threads)) s
stmt_over p h few t k s low high at =
    let l = sizes p.names (length p.threads) in
    let is = stmt_of p h t k s low high at in
    let act = out-Act (out-Stmt s).act in
    let names = both_of (λ r. r < length p.names.scalars) (outside_in act) (bracket_scalars (out-Stmt s).aux) is.scalars in
    let reads_few = both_of (AreFew l) (groups_in act) (map (λ a. reads a.expr) (out-Stmt s).aux) (groups_few p h l t k s low high at) in
    (act_over l few act names.0 is.locations reads_few.0, assigns_over l few (out-Stmt s).aux names.1 reads_few.1)

-- ---- its bracket, and the scalar that a cas reads into

-- the scalar that a cas reads into
abbrev pub writes : Act-F Act Stmt → Option ℕ
writes (Cas r x e d) = Some r
writes _ = None

none_mapped : {A B : Type 0} (f : A → B) (o : Option A) → option_map f o ≡ None → o ≡ None
none_mapped f None h = refl
none_mapped f (Some a) h = cc

not_first : (p : ℕ → Bool) (r : ℕ) (rs : List ℕ) → find p (r ∷ rs) ≡ None → p r ≡ false
not_first p r rs h = by (p r) h
  where
    by : (b : Bool) → cond b (Some r) (find p rs) ≡ None → b ≡ false
    by true e = cc
    by false e = refl

is_in_none : (p : ℕ → Bool) (r : ℕ) (rs : List ℕ) → p r ≡ false → All (λ q. p q ≡ true) rs → is_in r rs ≡ false
is_in_none p r [] h each = refl
is_in_none p r (q ∷ rs) h each = by (q == r) refl (is_in_none p r rs h (All-tail (λ k. p k ≡ true) q rs each))
  where
    by : (b : Bool) → (q == r) ≡ b → is_in r rs ≡ false → (b || is_in r rs) ≡ false
    by true e rest = absurd (true≢false (sym (All-head (λ k. p k ≡ true) q rs each) ∙ (ap p (eqb-true q r e) ∙ h)))
    by false e rest = rest

targets_of : (n : ℕ) (aux : List AuxAssign) → All (λ r. r < n) (bracket_scalars aux) → All (λ r. r < n) (map (λ a. a.target) aux)
targets_of n [] h = All-nil (λ (r : ℕ). r < n)
targets_of n (a ∷ rest) h =
    let P : ℕ → Type 0 = λ r. r < n in
    let parts = both_of P (reads a.expr) (bracket_scalars rest) (All-tail P a.target (reads a.expr ++ bracket_scalars rest) h) in
    All-cons P a.target (map (λ b. b.target) rest) (All-head P a.target (reads a.expr ++ bracket_scalars rest) h) (targets_of n rest parts.1)

module _ (p : ProgramTable) (is : IsProgram p) (t k : ℕ) (s : Stmt) (low : 1 ≤ t) (high : t ≤ length p.threads) (at : stmt_at p t k ≡ Some s) where
  pub targets_inside : All (λ r. r < length p.names.scalars) (targets s)
  targets_inside =
      let names = both_of (λ r. r < length p.names.scalars) (outside s) (bracket_scalars (out-Stmt s).aux) (stmt_of p is t k s low high at).scalars in
      targets_of (length p.names.scalars) (out-Stmt s).aux names.1

  pub targets_differ : repeated [] (targets s) ≡ None
  targets_differ = none_mapped _ (repeated [] (targets s)) (clause_of p (distinct_targets p.names) t k s low high at (faultless p.names p.threads is.faultless).apart)

  pub target_is_free : (r : ℕ) → writes (out-Act (out-Stmt s).act) ≡ Some r → is_in r (targets s) ≡ false
  target_is_free r h =
      is_in_none (is_auxiliary p.names) r (targets s)
      (by (out-Act (out-Stmt s).act) h (none_mapped _ (find (is_auxiliary p.names) (outside s)) (clause_of p (no_auxiliaries p.names) t k s low high at (faultless p.names p.threads is.faultless).bare)))
      (stmt_of p is t k s low high at).targets
    where
      by : (act : Act-F Act Stmt) → writes act ≡ Some r → find (is_auxiliary p.names) (outside_in act) ≡ None → is_auxiliary p.names r ≡ false
      by (Cas q x e d) h none = let same : q ≡ r = cc in not_first (is_auxiliary p.names) r (reads e ++ reads d) (subst (λ (j : ℕ). find (is_auxiliary p.names) (j ∷ (reads e ++ reads d)) ≡ None) same none)
      by (Assign q e) h none = cc
      by (Store x e) h none = cc
      by (Load q x) h none = cc
      by Mfence h none = cc
      by Sfence h none = cc
      by (Flush x) h none = cc
      by (Flushopt x) h none = cc
      by (If test a b) h none = cc
      by (While test a) h none = cc
