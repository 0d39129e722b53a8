-- How many access rules a step has at most, and how many literals in them. A clause of n literals weighs g n.
use Rattle.std.proofs.Common.{◌≡◌, ℕ, ◌+◌, ◌-◌, ◌*◌, ◌<◌, ◌≤◌, Bool, true, false, ◌==◌, ◌&&◌, List, [], ◌++◌, map, length, None, Some, refl, ap₂, arith, sum_by}
use Rattle.std.specs.List.{All, filter, range_with_len}
use Rattle.std.proofs.lemmas.Bool.{and_left, and_right}
use Rattle.std.proofs.lemmas.List.{length-map}
use Rattle.std.proofs.lemmas.List.Sums.{sum_by-append}
use Rattle.std.proofs.Math.Nat.{mul-le-mul_right}
use Rattle.pg_assertion.specs.declared.atom.ViewAtom.{ViewAtom}
use Rattle.pg_assertion.specs.declared.atom.ViewAtom.TheVariants.{Scalar, Last, Read, Then, Newest, Ordered, Fenced}
use Rattle.pg_assertion.specs.declared.step_atom.StepAtom.TheVariants.{Value, Expected}
use Rattle.pg_assertion.specs.Layout.{Sizes, IsThreadNumber}
use Rattle.pg_program.specs.declared.point.Branch.{Branch}
use Rattle.pg_program.specs.declared.syntax.AuxAssign.{AuxAssign}
use Rattle.pg_program.specs.declared.syntax.Stmt.{Stmt}
use Rattle.pg_program.specs.declared.syntax.Act.{Act}
use Rattle.pg_program.specs.declared.syntax.Act.TheOpen.{Act-F, Assign, Store, Load, Cas, Mfence, Sfence, Flush, Flushopt, If, While}
use Rattle.pg_program.specs.declared.syntax.Cond.{Cond}
use Rattle.pg_program.specs.Expr.{reads}
use Rattle.pg_program.specs.NameTable.{NameTable}
use Rattle.pg_program.specs.Words.{is_in, repeated}
use Rattle.pg_tables.specs.declared.clause.StepLiteral.{StepLiteral}
use Rattle.pg_tables.specs.Shapes.{frame}
use Rattle.pg_tables.specs.Steps.{same_line}
use Rattle.pg_tables.specs.Table.{per_thread, per_location, per_value, per_scalar}
use Rattle.pg_tables.specs.Bound.{AreWithin}
use Rattle.pg_tables.proofs.Bounds.{IsAtMost, most-none, most-append, most-threads, most-locations, most-values}
use Rattle.pg_rules_access.specs.Atoms.{scalar_rows, access_rows}
use Rattle.pg_rules_access.specs.Values.{AreFew, AreAssigns, value_rules, expects_last, test_rules, bracket_rules}
use Rattle.pg_rules_access.specs.Store.{store, store_then}
use Rattle.pg_rules_access.specs.Load.{assign, load}
use Rattle.pg_rules_access.specs.Fence.{mfence, sfence}
use Rattle.pg_rules_access.specs.Cas.{cas}
use Rattle.pg_rules_access.specs.Access.{rules, act_values, act_row, IsActOver}
use Rattle.pg_rules_access.proofs.StmtOver.{writes}
use Rattle.pg_rules_access.proofs.Special.{only-this, only-that, each_location, each_value, one_thread, one_location, one_value}
use Rattle.pg_rules_access.proofs.Targets.{as_many, most-shared, most-shared_all}
use Rattle.pg_rules_access.proofs.TuplesFew.{tuples_bound, value_bound, most-value_rules, most-expects_last, most-test_rules, most-bracket}
use Rattle.pg_rules_access.proofs.RowsFew.{more, most-frame, most-frame_more, most-store_last, most-store_read, most-any_then, store_then_most, most-store_newest, most-store_ordered, most-store_fenced, most-assign, most-load_scalar, most-load_read, most-load_then, most-load_view, most-fence_loses, most-fence_view, by2, scalar_most, last_most, read_most, own_most, other_most, view_most, fenced_most, most-cas_scalar, most-cas_last, most-cas_read, most-cas_own_then, most-cas_other_then, most-cas_newest, most-cas_ordered, most-cas_fenced}

-- ---- numbers

module _ (g : ℕ → ℕ) (m : Sizes) where
  abbrev a_tuple : ℕ
  a_tuple = tuples_bound g m.domain

  abbrev a_value : ℕ
  a_value = value_bound g m.domain

  -- of each thread and location, by whether they are those of the step
  abbrev each_most : (Bool → Bool → ℕ) → ℕ
  each_most most =
      (most true true + (m.locations - 1) * most true false) + (m.threads - 1) * (most false true + (m.locations - 1) * most false false)

  abbrev lasts_most : ℕ
  lasts_most = m.domain * last_most g true + (m.locations - 1) * (m.domain * last_most g false)

  abbrev reads_most : ℕ
  reads_most = each_most (λ own here. m.domain * read_most g m.domain own here)

  -- the pairs of the acting thread, and those of another one
  abbrev same : ℕ
  same = own_most g true

  abbrev others : ℕ
  others = own_most g false

  abbrev own_pairs : ℕ
  own_pairs = m.locations * (m.domain * ((same + (m.domain - 1) * others) + (m.locations - 1) * (m.domain * others)))

  abbrev pair_most : Bool → Bool → Bool → ℕ
  pair_most = other_most g

  abbrev other_pairs : ℕ
  other_pairs =
      m.domain * ((pair_most true true true + (m.domain - 1) * pair_most true true false) + (m.locations - 1) * (m.domain * pair_most true false false))
      + (m.locations - 1) * (m.domain * (m.domain * pair_most false true false + (m.locations - 1) * (m.domain * pair_most false false false)))

  abbrev views_most : ℕ
  views_most = each_most (view_most g)

  abbrev cas_memory_most : ℕ
  cas_memory_most =
      lasts_most + (reads_most + ((own_pairs + (m.threads - 1) * other_pairs) + (views_most + (views_most + each_most (fenced_most g)))))

  -- all rules of a cas
  abbrev pub cas_most : ℕ
  cas_most = (a_value + (a_value + m.domain * g 3)) + ((m.domain * scalar_most g true + (m.scalars - 1) * a_tuple) + cas_memory_most)

  -- the pairs of all threads at a store, and at another act
  abbrev store_pairs : ℕ
  store_pairs =
      m.threads * (m.domain * (m.domain * store_then_most g true true + (m.locations - 1) * (m.domain * store_then_most g true false))
      + (m.locations - 1) * (m.domain * (m.domain * store_then_most g false true + (m.locations - 1) * (m.domain * store_then_most g false false))))

  abbrev plain_pairs : ℕ
  plain_pairs = m.threads * (m.locations * (m.domain * (m.locations * (m.domain * (g 2 + g 3)))))

  abbrev plain_views : ℕ
  plain_views = m.threads * (m.locations * (g 2 + g 3))

  abbrev plain_memory : ℕ → ℕ
  plain_memory pairs =
      m.locations * (m.domain * (2 * g 2))
      + (m.threads * (m.locations * (m.domain * (2 * g 2 + (m.domain * g 3 + g 3))))
      + (pairs + (plain_views + (plain_views + plain_views))))

  -- all rules of an act but a cas, with these pairs
  abbrev plain_most : ℕ → ℕ
  plain_most pairs = (a_value + g 1) + (m.scalars * a_tuple + plain_memory pairs)

  -- what is needed of the numbers: the rows of a scalar are no more than an assignment, and a cas has the most rules
  pub record AreOrdered : Type 0 where
    pub cheap : m.domain * (2 * g 2) ≤ a_tuple
    pub store : plain_most store_pairs ≤ cas_most
    pub plain : plain_most plain_pairs ≤ cas_most

-- ---- tables

-- the four parts of a step, where the second and the third are counted together
parts : (g : ℕ → ℕ) (values scalars bracket memory : List (List StepLiteral)) (v x a : ℕ) → IsAtMost g values v
    → sum_by (λ c. g (length c)) scalars + sum_by (λ c. g (length c)) bracket ≤ x → IsAtMost g memory a → IsAtMost g (values ++ (scalars ++ (bracket ++ memory))) (v + (x + a))
parts g values scalars bracket memory v x a h k j =
    let weight : List StepLiteral → ℕ = λ c. g (length c) in
    record {
      bound = omega (arith, sum_by-append weight values (scalars ++ (bracket ++ memory)), sum_by-append weight scalars (bracket ++ memory), sum_by-append weight bracket memory, h.bound, k, j.bound);
    }

-- the facts on the bracket of a statement of a program
pub record IsBracket (l : Sizes) (names : NameTable) (aux : List AuxAssign) : Type 0 where
  pub assigns : AreAssigns l aux
  pub inside : All (λ r. r < l.scalars) (map (λ a. a.target) aux)
  pub different : repeated [] (map (λ a. a.target) aux) ≡ None

module _ (g : ℕ → ℕ) (up : (m n : ℕ) → m ≤ n → g m ≤ g n) {l m : Sizes} (w : AreWithin l m) (some : 1 ≤ m.domain) (names : NameTable) (s : ℕ) (thread : IsThreadNumber l s) where
  -- ---- a bracket and the scalars

  bracket : (aux : List AuxAssign) → IsBracket l names aux
      → sum_by (λ c. g (length c)) (bracket_rules l names aux) ≤ length (filter (λ q. is_in q (map (λ a. a.target) aux)) (range_with_len 0 l.scalars)) * a_tuple g m
  bracket aux h =
      let ts = map (λ a. a.target) aux in
      let few = as_many l.scalars ts h.inside h.different in
      let le : length aux ≤ length (filter (λ q. is_in q ts) (range_with_len 0 l.scalars)) = omega (arith, few, length-map aux (λ a. a.target)) in
      (more g (mul-le-mul_right (a_tuple g m) le) (most-bracket g up w some names aux h.assigns)).bound

  abbrev targets : List AuxAssign → List ℕ
  targets aux = map (λ a. a.target) aux

  together : (a b c d : ℕ) → a + c ≤ d → b ≤ c → a + b ≤ d
  together a b c d h k = omega (arith, h, k)

  module _ (cheap : m.domain * (2 * g 2) ≤ a_tuple g m) where
    -- where each row of a scalar is short
    scalars_each : (row : ViewAtom → List (List StepLiteral)) (aux : List AuxAssign) → IsBracket l names aux → ((q k : ℕ) → IsAtMost g (row (Scalar q k)) (2 * g 2))
        → sum_by (λ c. g (length c)) (scalar_rows l (targets aux) row) + sum_by (λ c. g (length c)) (bracket_rules l names aux) ≤ m.scalars * a_tuple g m
    unfolding per_scalar
    scalars_each row aux h each =
        together _ _ _ _ (most-shared_all g (λ q. is_in q (targets aux)) (λ q. per_value l (λ k. row (Scalar q k))) (a_tuple g m) l.scalars m.scalars w.scalars
        (λ q. more g cheap (most-values g w (λ k. each q k)))) (bracket aux h)

    -- at a cas, whose scalar is not assigned
    scalars_cas : (r x : ℕ) (aux : List AuxAssign) → IsBracket l names aux → r < l.scalars → is_in r (targets aux) ≡ false
        → sum_by (λ c. g (length c)) (scalar_rows l (targets aux) (cas l names s r x)) + sum_by (λ c. g (length c)) (bracket_rules l names aux)
        ≤ m.domain * scalar_most g true + (m.scalars - 1) * a_tuple g m
    unfolding per_scalar
    scalars_cas r x aux h inside free =
        together _ _ _ _ (most-shared g (λ q. is_in q (targets aux)) (λ q. per_value l (λ k. cas l names s r x (Scalar q k))) (a_tuple g m) l.scalars m.scalars r
        (m.domain * scalar_most g true) w.scalars inside free (λ q e. most-values g w (λ k. most-cas_scalar g w names s r x q k true e))
        (λ q e. more g cheap (most-values g w (λ k. most-cas_scalar g w names s r x q k false e)))) (bracket aux h)

  -- ---- the atoms of memory, at a cas

  by_place : (x : ℕ) → x < l.locations → (f : ℕ → ℕ → List (List StepLiteral)) (most : Bool → Bool → ℕ)
      → ((t z : ℕ) (own here : Bool) → (t == s) ≡ own → (z == x) ≡ here → IsAtMost g (f t z) (most own here))
      → IsAtMost g (per_thread l (λ t. per_location l (λ z. f t z))) (each_most g m most)
  by_place x inside f most each =
      one_thread g w (only-this s) thread (λ t. per_location l (λ z. f t z)) _ _ (λ t e. of_thread t true e) (λ t e. of_thread t false e)
    where
      of_thread : (t : ℕ) (own : Bool) → (t == s) ≡ own → IsAtMost g (per_location l (λ z. f t z)) (most own true + (m.locations - 1) * most own false)
      of_thread t own e = one_location g w (only-this x) inside (λ z. f t z) _ _ (λ z h. each t z own true e h) (λ z h. each t z own false e h)

  module _ (r x : ℕ) (inside : x < l.locations) where
    abbrev row : ViewAtom → List (List StepLiteral)
    row = cas l names s r x

    cas_lasts : IsAtMost g (per_location l (λ z. per_value l (λ v. row (Last z v)))) (lasts_most g m)
    cas_lasts = one_location g w (only-this x) inside (λ z. per_value l (λ v. row (Last z v))) _ _ (λ z h. of_location z true h) (λ z h. of_location z false h)
      where
        of_location : (z : ℕ) (here : Bool) → (z == x) ≡ here → IsAtMost g (per_value l (λ v. row (Last z v))) (m.domain * last_most g here)
        of_location z here h = most-values g w (λ v. most-cas_last g w names s r x z v here h)

    cas_reads : IsAtMost g (per_thread l (λ t. per_location l (λ z. per_value l (λ v. row (Read t z v))))) (reads_most g m)
    cas_reads =
        by_place x inside (λ t z. per_value l (λ v. row (Read t z v))) (λ own here. m.domain * read_most g m.domain own here)
        (λ t z own here e h. most-values g w (λ v. most-cas_read g w names s r x t z v own here e h))

    cas_own_pairs : (t : ℕ) → (t == s) ≡ true
        → IsAtMost g (per_location l (λ z. per_value l (λ v. per_location l (λ u. per_value l (λ k. row (Then t z v u k)))))) (own_pairs g m)
    cas_own_pairs t e =
        each_location g w _ _ (λ z z_in. each_value g w _ _ (λ v v_in.
        one_location g w (only-that z) z_in (λ u. per_value l (λ k. row (Then t z v u k))) _ _
        (λ u h. one_value g w (only-that v) v_in (λ k. row (Then t z v u k)) (same g m) (others g m)
        (λ k i. most-cas_own_then g w names s r x t z v u k e true (ap₂ (λ (a b : Bool). a && b) h i))
        (λ k i. most-cas_own_then g w names s r x t z v u k e false (and_right (z == u) (v == k) i)))
        (λ u h. most-values g w (λ k. most-cas_own_then g w names s r x t z v u k e false (and_left (z == u) (v == k) h)))))

    cas_other_pairs : (t : ℕ) → (t == s) ≡ false
        → IsAtMost g (per_location l (λ z. per_value l (λ v. per_location l (λ u. per_value l (λ k. row (Then t z v u k)))))) (other_pairs g m)
    cas_other_pairs t e =
        one_location g w (only-this x) inside (λ z. per_value l (λ v. per_location l (λ u. per_value l (λ k. row (Then t z v u k))))) _ _
        (λ z f. each_value g w _ _ (λ v v_in.
        one_location g w (only-this x) inside (λ u. per_value l (λ k. row (Then t z v u k))) _ _
        (λ u h. one_value g w (only-that v) v_in (λ k. row (Then t z v u k)) (pair_most g m true true true) (pair_most g m true true false)
        (λ k i. at t z v u k e true true true f h i) (λ k i. at t z v u k e true true false f h i))
        (λ u h. most-values g w (λ k. at t z v u k e true false (v == k) f h refl))))
        (λ z f. each_value g w _ _ (λ v v_in.
        one_location g w (only-this x) inside (λ u. per_value l (λ k. row (Then t z v u k))) _ _
        (λ u h. most-values g w (λ k. at t z v u k e false true (v == k) f h refl))
        (λ u h. most-values g w (λ k. at t z v u k e false false (v == k) f h refl))))
      where
        at : (t z v u k : ℕ) → (t == s) ≡ false → (here there same : Bool) → (z == x) ≡ here → (u == x) ≡ there → (v == k) ≡ same
            → IsAtMost g (row (Then t z v u k)) (pair_most g m here there same)
        at = most-cas_other_then g w names s r x

    cas_pairs : IsAtMost g (per_thread l (λ t. per_location l (λ z. per_value l (λ v. per_location l (λ u. per_value l (λ k. row (Then t z v u k)))))))
        (own_pairs g m + (m.threads - 1) * other_pairs g m)
    cas_pairs =
        one_thread g w (only-this s) thread (λ t. per_location l (λ z. per_value l (λ v. per_location l (λ u. per_value l (λ k. row (Then t z v u k)))))) _ _
        cas_own_pairs cas_other_pairs

    cas_memory : IsAtMost g (access_rows l row) (cas_memory_most g m)
    cas_memory =
        most-append g _ _ _ _ cas_lasts
        (most-append g _ _ _ _ cas_reads
        (most-append g _ _ _ _ cas_pairs
        (most-append g _ _ _ _ (by_place x inside (λ t z. row (Newest t z)) (view_most g) (most-cas_newest g w names s r x))
        (most-append g _ _ _ _ (by_place x inside (λ t z. row (Ordered t z)) (view_most g) (most-cas_ordered g w names s r x))
        (by_place x inside (λ t z. row (Fenced t z)) (fenced_most g) (most-cas_fenced g w names s r x))))))

  cas_rules : (x r : ℕ) → AreOrdered g m → x < l.locations → r < l.scalars → (values : List (List StepLiteral)) → IsAtMost g values (a_value g m + (a_value g m + m.domain * g 3))
      → (aux : List AuxAssign) → IsBracket l names aux → is_in r (targets aux) ≡ false → IsAtMost g (rules l names aux values (cas l names s r x)) (cas_most g m)
  cas_rules x r ordered x_in r_in values few aux h free =
      parts g values _ _ _ _ _ _ few (scalars_cas ordered.cheap r x aux h r_in free) (cas_memory r x x_in)

  -- ---- the atoms of memory, at another act

  record ArePlain (row : ViewAtom → List (List StepLiteral)) : Type 0 where
    scalar : (q k : ℕ) → IsAtMost g (row (Scalar q k)) (2 * g 2)
    last : (z v : ℕ) → IsAtMost g (row (Last z v)) (2 * g 2)
    read : (t z v : ℕ) → IsAtMost g (row (Read t z v)) (2 * g 2 + (m.domain * g 3 + g 3))
    newest : (t z : ℕ) → IsAtMost g (row (Newest t z)) (g 2 + g 3)
    ordered : (t z : ℕ) → IsAtMost g (row (Ordered t z)) (g 2 + g 3)
    fenced : (t z : ℕ) → IsAtMost g (row (Fenced t z)) (g 2 + g 3)

  abbrev pair_rows : (ViewAtom → List (List StepLiteral)) → List (List StepLiteral)
  pair_rows row = per_thread l (λ t. per_location l (λ z. per_value l (λ v. per_location l (λ u. per_value l (λ k. row (Then t z v u k))))))

  plain_rules : (row : ViewAtom → List (List StepLiteral)) → AreOrdered g m → ArePlain row → (pairs : ℕ) → IsAtMost g (pair_rows row) pairs → (values : List (List StepLiteral))
      → IsAtMost g values (a_value g m + g 1) → (aux : List AuxAssign) → IsBracket l names aux → IsAtMost g (rules l names aux values row) (plain_most g m pairs)
  plain_rules row ordered plain pairs few values h aux bracket_is =
      parts g values _ _ _ _ _ _ h (scalars_each ordered.cheap row aux bracket_is plain.scalar)
      (most-append g _ _ _ _ (most-locations g w (λ z. most-values g w (λ v. plain.last z v)))
      (most-append g _ _ _ _ (most-threads g w (λ t. most-locations g w (λ z. most-values g w (λ v. plain.read t z v))))
      (most-append g _ _ _ _ few
      (most-append g _ _ _ _ (most-threads g w (λ t. most-locations g w (λ z. plain.newest t z)))
      (most-append g _ _ _ _ (most-threads g w (λ t. most-locations g w (λ z. plain.ordered t z))) (most-threads g w (λ t. most-locations g w (λ z. plain.fenced t z))))))))

  few_pairs : (row : ViewAtom → List (List StepLiteral)) → ((t z v u k : ℕ) → IsAtMost g (row (Then t z v u k)) (g 2 + g 3)) → IsAtMost g (pair_rows row) (plain_pairs g m)
  few_pairs row each = most-threads g w (λ t. most-locations g w (λ z. most-values g w (λ v. most-locations g w (λ u. most-values g w (λ k. each t z v u k)))))

  few_store_pairs : (x : ℕ) → x < l.locations → IsAtMost g (pair_rows (store names s x)) (store_pairs g m)
  few_store_pairs x inside =
      most-threads g w (λ t.
      one_location g w (only-this x) inside (λ z. per_value l (λ v. per_location l (λ u. per_value l (λ k. store names s x (Then t z v u k))))) _ _
      (λ z f. most-values g w (λ v. at t z true f v)) (λ z f. most-values g w (λ v. at t z false f v)))
    where
      at : (t z : ℕ) (here : Bool) → (z == x) ≡ here → (v : ℕ)
          → IsAtMost g (per_location l (λ u. per_value l (λ k. store names s x (Then t z v u k)))) (m.domain * store_then_most g here true + (m.locations - 1) * (m.domain * store_then_most g here false))
      at t z here f v =
          one_location g w (only-this x) inside (λ u. per_value l (λ k. store names s x (Then t z v u k))) _ _
          (λ u h. most-values g w (λ k. row u k true h)) (λ u h. most-values g w (λ k. row u k false h))
        where
          row : (u k : ℕ) (there : Bool) → (u == x) ≡ there → IsAtMost g (store names s x (Then t z v u k)) (store_then_most g here there)
          row u k there h =
              by2 (λ (a b : Bool). IsAtMost g (store_then (t == s) a b (v == k) t z v u k) (store_then_most g here there)) f h
              (most-any_then g up (t == s) here there (v == k) t z v u k)

  plain_store : (x : ℕ) → ArePlain (store names s x)
  plain_store x = record {
    scalar = λ q k. most-frame g (Scalar q k);
    last = λ z v. most-store_last g (z == x) z v;
    read = λ t z v. more g (omega arith) (most-store_read g (t == s) (z == x) t z v);
    newest = λ t z. most-store_newest g up (t == s) (z == x) t z;
    ordered = λ t z. most-store_ordered g up (t == s) (z == x) (same_line names x z) t z;
    fenced = λ t z. most-store_fenced g up (t == s) (z == x) t z;
  }

  framed_read : (t z v : ℕ) → IsAtMost g (frame (Read t z v)) (2 * g 2 + (m.domain * g 3 + g 3))
  framed_read t z v = more g (omega arith) (most-frame g (Read t z v))

  plain_frame : ArePlain frame
  plain_frame = record {
    scalar = λ q k. most-frame g (Scalar q k);
    last = λ z v. most-frame g (Last z v);
    read = framed_read;
    newest = λ t z. most-frame_more g up (Newest t z);
    ordered = λ t z. most-frame_more g up (Ordered t z);
    fenced = λ t z. most-frame_more g up (Fenced t z);
  }

  plain_assign : (r : ℕ) → ArePlain (assign r)
  plain_assign r = record {
    scalar = λ q k. most-assign g up (q == r) q k;
    last = λ z v. most-frame g (Last z v);
    read = framed_read;
    newest = λ t z. most-frame_more g up (Newest t z);
    ordered = λ t z. most-frame_more g up (Ordered t z);
    fenced = λ t z. most-frame_more g up (Fenced t z);
  }

  plain_load : (r x : ℕ) → ArePlain (load l s r x)
  plain_load r x = record {
    scalar = λ q k. most-load_scalar g up (q == r) s x q k;
    last = λ z v. most-frame g (Last z v);
    read = λ t z v. most-load_read g w (t == s) s r x t z v;
    newest = λ t z. most-load_view g up (t == s) s x (Newest t z);
    ordered = λ t z. most-load_view g up (t == s) s x (Ordered t z);
    fenced = λ t z. most-load_view g up (t == s) s x (Fenced t z);
  }

  low : 2 * g 2 ≤ g 2 + g 3
  low = let h = up 2 3 (omega arith) in omega (arith, h)

  plain_mfence : ArePlain (mfence s)
  plain_mfence = record {
    scalar = λ q k. most-frame g (Scalar q k);
    last = λ z v. most-frame g (Last z v);
    read = λ t z v. more g (omega arith) (most-fence_loses g up (t == s) (Read t z v));
    newest = λ t z. more g low (most-fence_view g up (t == s) t z (Newest t z));
    ordered = λ t z. more g low (most-fence_view g up (t == s) t z (Ordered t z));
    fenced = λ t z. most-frame_more g up (Fenced t z);
  }

  plain_sfence : ArePlain (sfence s)
  plain_sfence = record {
    scalar = λ q k. most-frame g (Scalar q k);
    last = λ z v. most-frame g (Last z v);
    read = framed_read;
    newest = λ t z. most-frame_more g up (Newest t z);
    ordered = λ t z. more g low (most-fence_view g up (t == s) t z (Ordered t z));
    fenced = λ t z. most-frame_more g up (Fenced t z);
  }

  -- ---- an act

  module _ (ordered : AreOrdered g m) (aux : List AuxAssign) (bracket_is : IsBracket l names aux) where
    plainly : (row : ViewAtom → List (List StepLiteral)) → ArePlain row → ((t z v u k : ℕ) → IsAtMost g (row (Then t z v u k)) (g 2 + g 3)) → (values : List (List StepLiteral))
        → IsAtMost g values (a_value g m + g 1) → IsAtMost g (rules l names aux values row) (cas_most g m)
    plainly row plain pairs values few = more g ordered.plain (plain_rules row ordered plain (plain_pairs g m) (few_pairs row pairs) values few aux bracket_is)

    none : IsAtMost g [] (a_value g m + g 1)
    none = more g (omega arith) (most-none g)

    valued : {cs : List (List StepLiteral)} → IsAtMost g cs (a_value g m) → IsAtMost g cs (a_value g m + g 1)
    valued h = more g (omega arith) h

    framed : (t z v u k : ℕ) → IsAtMost g (frame (Then t z v u k)) (g 2 + g 3)
    framed t z v u k = most-frame_more g up (Then t z v u k)

    tested : (test : Cond) (branch : Branch) → AreFew l (reads test.left ++ reads test.right) → IsAtMost g (rules l names aux (test_rules l test branch) frame) (cas_most g m)
    tested test branch few = plainly frame plain_frame framed (test_rules l test branch) (more g (omega arith) (most-test_rules g up w some test branch few))

    pub few_act : (branch : Branch) (act : Act-F Act Stmt) → IsActOver l act → ((r : ℕ) → writes act ≡ Some r → is_in r (map (λ a. a.target) aux) ≡ false)
        → IsAtMost g (rules l names aux (act_values l branch act) (act_row l names s act)) (cas_most g m)
    few_act branch (Assign r e) h free = plainly (assign r) (plain_assign r) framed (value_rules l e Value) (valued (most-value_rules g up w some e Value h.2))
    few_act branch (Store x e) h free =
        more g ordered.store
        (plain_rules (store names s x) ordered (plain_store x) (store_pairs g m) (few_store_pairs x h.0) (value_rules l e Value) (valued (most-value_rules g up w some e Value h.2)) aux bracket_is)
    few_act branch (Load r x) h free = plainly (load l s r x) (plain_load r x) (λ t z v u k. most-load_then g up (t == s) s x (Then t z v u k)) [] none
    few_act branch (Cas r x e d) h free =
        cas_rules x r ordered h.1 h.0 (value_rules l e Expected ++ (value_rules l d Value ++ expects_last l x))
        (most-append g _ _ _ _ (most-value_rules g up w some e Expected h.3) (most-append g _ _ _ _ (most-value_rules g up w some d Value h.5) (most-expects_last g up w some x)))
        aux bracket_is (free r refl)
    few_act branch Mfence h free = plainly (mfence s) plain_mfence (λ t z v u k. more g low (most-fence_loses g up (t == s) (Then t z v u k))) [] none
    few_act branch Sfence h free = plainly (sfence s) plain_sfence framed [] none
    few_act branch (Flush x) h free = plainly frame plain_frame framed [] none
    few_act branch (Flushopt x) h free = plainly frame plain_frame framed [] none
    few_act branch (If test a b) h free = tested test branch h.2
    few_act branch (While test a) h free = tested test branch h.2
