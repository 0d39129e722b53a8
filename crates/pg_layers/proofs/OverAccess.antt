-- The access rules of a step are over its layout.
use Rattle.std.proofs.Common.{◌≡◌, ℕ, ◌<◌, ◌==◌, ◌&&◌, ◌||◌, Bool, true, false, List, [], ◌∷◌, ◌++◌, Option, Some, None, length, cond, refl, sym, subst, arith}
use Rattle.std.specs.Prelude.{replicate, slice_set}
use Rattle.std.specs.List.{All}
use Rattle.std.proofs.lemmas.List.Elements.{All-nil, All-head, All-tail, All-push, All-set}
use Rattle.pg_assertion.specs.declared.atom.ViewAtom.{ViewAtom}
use Rattle.pg_assertion.specs.declared.atom.ViewAtom.TheVariants.{Scalar, Last, Read, Persist, Async, Then, Newest, Ordered, Fenced}
use Rattle.pg_assertion.specs.declared.layout.Side.{Side}
use Rattle.pg_assertion.specs.declared.step_atom.StepAtom.{StepAtom}
use Rattle.pg_assertion.specs.declared.step_atom.StepAtom.TheVariants.{On, Value, Expected, Taken}
use Rattle.pg_assertion.specs.Layout.{Sizes, sizes, IsAtom, IsThreadNumber}
use Rattle.pg_assertion.specs.StepAtom.{IsStepAtom}
use Rattle.pg_program.specs.declared.syntax.Expr.{Expr, out-Expr, fold_out-Expr}
use Rattle.pg_program.specs.declared.syntax.Expr.TheFolds.{map-Expr}
use Rattle.pg_program.specs.declared.syntax.Expr.TheOpen as expr
use Rattle.pg_program.specs.declared.syntax.Cond.{Cond}
use Rattle.pg_program.specs.declared.syntax.AuxAssign.{AuxAssign}
use Rattle.pg_program.specs.declared.point.Branch.{Branch}
use Rattle.pg_program.specs.declared.point.Branch.TheVariants.{Plain, Yes, No}
use Rattle.pg_program.specs.declared.point.Step.{Step}
use Rattle.pg_program.specs.declared.syntax.Stmt.{Stmt, out-Stmt}
use Rattle.pg_program.specs.declared.syntax.Act.{Act, out-Act}
use Rattle.pg_program.specs.declared.syntax.Act.TheOpen.{Act-F, Assign, Store, Load, Cas, Mfence, Sfence, Flush, Flushopt, If, While}
use Rattle.pg_program.specs.Expr.{reads, value, value_step, test_holds}
use Rattle.pg_program.specs.Limits.{most_scalars}
use Rattle.pg_program.specs.NameTable.{NameTable}
use Rattle.pg_program.specs.Program.{ProgramTable, IsProgram, stmt_at}
use Rattle.pg_program.specs.Words.{outside_in, bracket_scalars, locations_in}
use Rattle.pg_program.proofs.ExprLemmas.{All-front, All-behind}
use Rattle.pg_program.proofs.ProgramLemmas.{has_values, stmt_of}
use Rattle.pg_machine.proofs.Uses.{get-below}
use Rattle.pg_tables.specs.declared.clause.StepLiteral.{StepLiteral}
use Rattle.pg_tables.specs.declared.clause.Case.TheVariants.{Succeeds, Fails}
use Rattle.pg_tables.specs.Clause.{implies, yes, no}
use Rattle.pg_tables.specs.Steps.{IsStepOf, same_line}
use Rattle.pg_tables.specs.Shapes.{before, after, only_where, frame, becomes}
use Rattle.pg_tables.specs.Table.{IsOneOf, under}
use Rattle.pg_rules_access.specs.Atoms.{scalar_rows, access_rows}
use Rattle.pg_rules_access.specs.Values.{per_tuple, in_order, tuples, value_rules, says_test, taken, test_rules, bracket_rules}
use Rattle.pg_rules_access.specs.Store.{store, store_last, store_read, store_then, store_newest, store_ordered, store_fenced}
use Rattle.pg_rules_access.specs.Load.{assign, assign_scalar, load, load_scalar, load_read, load_then, load_view, read_then}
use Rattle.pg_rules_access.specs.Fence.{mfence, sfence, fence_loses, fence_view}
use Rattle.pg_rules_access.specs.Cas.{cas, if_stored, cas_scalar, cas_read, own_then, cas_then, cas_view, own_fenced, cas_fenced}
use Rattle.pg_rules_access.specs.Access.{act_values, act_row, rules, rules_of, access}
use Rattle.pg_rules_access.proofs.TupleLists.{said_atoms, in_order_known, zeros_below}
use Rattle.pg_layers.proofs.Over.{IsOver, written_out, over-none, over-clause, over-append, over-when, over-under, over-threads, over-locations, over-values, over-scalars, over-exactly_one, over-frame, over-becomes, over-becomes_both, over-gains, over-gains_both}
use Rattle.pg_layers.proofs.OverAxioms.{is_thread, is_below}

-- ---- values are in the domain

step-below : (d : ℕ) (r : List ℕ) → 0 < d → All (λ v. v < d) r → (e : expr.Expr-F ℕ) → value_step r d e < d
step-below d r some h (expr.Value v) = omega arith
step-below d r some h (expr.Scalar q) = get-below d r q some h
step-below d r some h (expr.Add a b) = omega arith
step-below d r some h (expr.Sub a b) = omega arith
step-below d r some h (expr.Mul a b) = omega arith

value-below : (d : ℕ) (r : List ℕ) (e : Expr) → 0 < d → All (λ v. v < d) r → value r d e < d
value-below d r e some h =
    subst (λ (n : ℕ). n < d) (sym (fold_out-Expr ℕ (value_step r d) e)) (step-below d r some h (map-Expr Expr ℕ (value r d) (out-Expr e)))

module _ (l : Sizes) where
  -- a row for each atom of the layout
  abbrev RowsOver : (ViewAtom → List (List StepLiteral)) → Type 0
  RowsOver row = (a : ViewAtom) → IsAtom l a → IsOver l (row a)

  access_rows_over : (row : ViewAtom → List (List StepLiteral)) → RowsOver row → IsOver l (access_rows l row)
  access_rows_over row h =
      over-append l (over-locations l (λ z o. over-values l (λ v p. h (Last z v) (X z o, V v p))))
      (over-append l (over-threads l (λ t q. over-locations l (λ z o. over-values l (λ v p. h (Read t z v) (T t q, X z o, V v p)))))
      (over-append l
      (over-threads l (λ t q. over-locations l (λ z o. over-values l (λ v p. over-locations l (λ u m. over-values l (λ w n.
      h (Then t z v u w) (T t q, X z o, V v p, X u m, V w n)))))))
      (over-append l (over-threads l (λ t q. over-locations l (λ z o. h (Newest t z) (T t q, X z o))))
      (over-append l (over-threads l (λ t q. over-locations l (λ z o. h (Ordered t z) (T t q, X z o))))
      (over-threads l (λ t q. over-locations l (λ z o. h (Fenced t z) (T t q, X z o))))))))
    where
      T : (t : ℕ) → IsOneOf 1 l.threads t → IsThreadNumber l t
      T t o = is_thread l t o

      X : (x : ℕ) → IsOneOf 0 l.locations x → x < l.locations
      X x o = is_below l.locations x o

      V : (v : ℕ) → IsOneOf 0 l.domain v → v < l.domain
      V v o = is_below l.domain v o

  scalar_rows_over : (assigned : List ℕ) (row : ViewAtom → List (List StepLiteral)) → RowsOver row → IsOver l (scalar_rows l assigned row)
  scalar_rows_over assigned row h =
      over-scalars l (λ r o. over-when l _ (over-values l (λ k p. h (Scalar r k) (is_below l.scalars r o, is_below l.domain k p))))

  frames : RowsOver (λ a. frame a)
  frames a h = over-frame l h

  -- ---- what expressions say

  module _ (some : 0 < l.domain) where
    tuple_over : (side : ℕ → Side) (says : List ℕ → StepLiteral) → ((values : List ℕ) → All (λ v. v < l.domain) values → IsStepAtom l (says values).atom)
        → (rs : List ℕ) (given : List StepAtom) (values : List ℕ) → All (λ r. r < l.scalars) rs → All (IsStepAtom l) given → All (λ v. v < l.domain) values
        → IsOver l (per_tuple l side says rs given values)
    tuple_over side says h [] given values known atoms below =
        over-clause l (said_atoms l given (implies given []) (says values).atom (says values).positive refl atoms (h values below))
    tuple_over side says h (r ∷ rs) given values known atoms below =
        over-values l (λ k o.
        tuple_over side says h rs (given ++ (On (Scalar r k) (side r) ∷ [])) (slice_set values r k)
        (All-tail (λ q. q < l.scalars) r rs known)
        (All-push (IsStepAtom l) given (On (Scalar r k) (side r)) atoms (All-head (λ q. q < l.scalars) r rs known, is_below l.domain k o))
        (All-set (λ v. v < l.domain) values r k (is_below l.domain k o) below))

    tuples_over : (side : ℕ → Side) (says : List ℕ → StepLiteral) (rs : List ℕ) → ((values : List ℕ) → All (λ v. v < l.domain) values → IsStepAtom l (says values).atom)
        → IsOver l (tuples l side rs says)
    tuples_over side says rs h =
        tuple_over side says h (in_order l rs) [] (replicate most_scalars 0) (in_order_known l rs) (All-nil (IsStepAtom l)) (zeros_below l.domain most_scalars some)

    value_over : (e : Expr) (a : ℕ → StepAtom) → ((v : ℕ) → v < l.domain → IsStepAtom l (a v)) → IsOver l (value_rules l e a)
    value_over e a h = over-append l (tuples_over _ _ (reads e) (λ values below. h _ (value-below l.domain values e some below))) (over-exactly_one l a h)

    test_over : (test : Cond) (branch : Branch) → IsOver l (test_rules l test branch)
    test_over test branch = over-append l (tuples_over _ (says_test l test) _ (λ values below. said (test_holds values l.domain test))) (on branch)
      where
        said : (b : Bool) → IsStepAtom l (cond b (yes Taken) (no Taken)).atom
        said true = tt
        said false = tt

        on : (b : Branch) → IsOver l (taken b)
        on Yes = written_out l ((tt, tt), tt)
        on No = written_out l ((tt, tt), tt)
        on Plain = over-none l

    bracket_over : (names : NameTable) (aux : List AuxAssign) → All (λ r. r < l.scalars) (bracket_scalars aux) → IsOver l (bracket_rules l names aux)
    bracket_over names [] h = over-none l
    bracket_over names (a ∷ rest) h =
        let all = reads a.expr ++ bracket_scalars rest in
        let target = All-head (λ r. r < l.scalars) a.target all h in
        over-append l (tuples_over _ _ (reads a.expr) (λ values below. (target, value-below l.domain values a.expr some below)))
        (bracket_over names rest (All-behind (λ r. r < l.scalars) (reads a.expr) (bracket_scalars rest) (All-tail (λ r. r < l.scalars) a.target all h)))

  module _ (names : NameTable) (s : ℕ) (own : IsThreadNumber l s) (x : ℕ) (here : x < l.locations) where
    -- ---- a store

    last_over : (b : Bool) (z v : ℕ) → IsAtom l (Last z v) → IsOver l (store_last b z v)
    last_over true z v h = over-becomes l h h.1
    last_over false z v h = over-frame l h

    read_over : (b c : Bool) (t z v : ℕ) → IsAtom l (Read t z v) → IsOver l (store_read b c t z v)
    read_over true true t z v h = over-becomes l h h.2
    read_over false true t z v h = over-gains l h h h.2
    read_over true false t z v h = over-frame l h
    read_over false false t z v h = over-frame l h

    then_over : (b c d e : Bool) (t z v u w : ℕ) → IsAtom l (Then t z v u w) → IsOver l (store_then b c d e t z v u w)
    then_over true true true true t z v u w h = over-becomes l h h.2
    then_over true true true false t z v u w h = over-becomes_both l h h.2 h.4
    then_over true true false e t z v u w h = over-becomes_both l h h.2 (h.0, h.3, h.4)
    then_over true false true e t z v u w h = over-becomes_both l h (h.0, h.1, h.2) h.4
    then_over false true false e t z v u w h = over-gains_both l h h h.2 (h.3, h.4)
    then_over false false true e t z v u w h = over-gains_both l h h (h.0, h.1, h.2) h.4
    then_over false true true true t z v u w h =
        let r : IsAtom l (Read t z v) = (h.0, h.1, h.2) in
        let a = h.2 in
        let b = h.4 in
        written_out l ((h, (h, (b, tt))), ((h, (h, (r, (a, tt)))), ((h, (h, tt)), ((r, (b, (h, tt))), ((a, (h, tt)), tt)))))
    then_over false true true false t z v u w h =
        let r : IsAtom l (Read t z v) = (h.0, h.1, h.2) in
        let a = h.2 in
        let b = h.4 in
        written_out l ((h, (h, (b, tt))), ((h, (h, (r, (a, tt)))), ((h, (h, tt)), ((r, (b, (h, tt))), ((a, (b, (h, tt))), tt)))))
    then_over true false false e t z v u w h = over-frame l h
    then_over false false false e t z v u w h = over-frame l h

    newest_over : (b c : Bool) (t z : ℕ) → IsAtom l (Newest t z) → IsOver l (store_newest b c t z)
    newest_over true true t z h = written_out l ((h, tt), tt)
    newest_over false true t z h = written_out l ((h, tt), tt)
    newest_over true false t z h = over-frame l h
    newest_over false false t z h = over-frame l h

    ordered_over : (b c d : Bool) (t z : ℕ) → IsAtom l (Ordered t z) → IsOver l (store_ordered b c d t z)
    ordered_over true c true t z h = written_out l ((h, tt), tt)
    ordered_over true c false t z h = over-frame l h
    ordered_over false true d t z h = written_out l ((h, tt), tt)
    ordered_over false false d t z h = over-frame l h

    fenced_over : (b c : Bool) (t z : ℕ) → IsAtom l (Fenced t z) → IsOver l (store_fenced b c t z)
    fenced_over true c t z h = written_out l ((h, tt), tt)
    fenced_over false true t z h = written_out l ((h, tt), tt)
    fenced_over false false t z h = over-frame l h

    store_over : RowsOver (store names s x)
    store_over (Scalar q k) h = over-frame l h
    store_over (Last z v) h = last_over (z == x) z v h
    store_over (Read t z v) h = read_over (t == s) (z == x) t z v h
    store_over (Persist z v) h = over-frame l h
    store_over (Async t z v) h = over-frame l h
    store_over (Then t z v u w) h = then_over (t == s) (z == x) (u == x) (v == w) t z v u w h
    store_over (Newest t z) h = newest_over (t == s) (z == x) t z h
    store_over (Ordered t z) h = ordered_over (t == s) (z == x) (same_line names x z) t z h
    store_over (Fenced t z) h = fenced_over (t == s) (z == x) t z h

    -- ---- a load

    module _ (r : ℕ) (target : r < l.scalars) where
      read_then_over : (z w : ℕ) → z < l.locations → w < l.domain → IsOver l (read_then l s r x z w)
      read_then_over z w h k = over-values l (λ v o. let low = is_below l.domain v o in written_out l (((target, low), ((own, h, k), ((own, here, low, h, k), tt))), tt))

      load_scalar_over : (b : Bool) (q k : ℕ) → IsAtom l (Scalar q k) → IsOver l (load_scalar b s x q k)
      load_scalar_over true q k h = written_out l ((h, ((own, here, h.1), tt)), tt)
      load_scalar_over false q k h = over-frame l h

      load_read_over : (b : Bool) (t z w : ℕ) → IsAtom l (Read t z w) → IsOver l (load_read l b s r x t z w)
      load_read_over true t z w h =
          over-append l {cs = only_where (after (Read t z w)) (before (Read t z w))} (written_out l ((h, (h, tt)), tt))
          (over-append l {cs = read_then l s r x z w} (read_then_over z w h.1 h.2) (written_out l (((own, here), (h, (h, tt))), tt)))
      load_read_over false t z w h = over-frame l h

      load_then_over : (b : Bool) (a : ViewAtom) → IsAtom l a → IsOver l (load_then b s x a)
      load_then_over true a h = written_out l ((h, (h, tt)), (((own, here), (h, (h, tt))), tt))
      load_then_over false a h = over-frame l h

      load_view_over : (b : Bool) (a : ViewAtom) → IsAtom l a → IsOver l (load_view b s x a)
      load_view_over true a h = written_out l ((h, (h, tt)), (((own, here), (h, (h, tt))), tt))
      load_view_over false a h = over-frame l h

      load_over : RowsOver (load l s r x)
      load_over (Scalar q k) h = load_scalar_over (q == r) q k h
      load_over (Last z v) h = over-frame l h
      load_over (Read t z v) h = load_read_over (t == s) t z v h
      load_over (Persist z v) h = over-frame l h
      load_over (Async t z v) h = over-frame l h
      load_over (Then t z v u w) h = load_then_over (t == s) (Then t z v u w) h
      load_over (Newest t z) h = load_view_over (t == s) (Newest t z) h
      load_over (Ordered t z) h = load_view_over (t == s) (Ordered t z) h
      load_over (Fenced t z) h = load_view_over (t == s) (Fenced t z) h

      -- ---- a cas

      stored_over : (b : Bool) (a : ViewAtom) → IsAtom l a → IsOver l (if_stored b names s x a)
      stored_over true a h = over-append l (over-under l Succeeds (store_over a h)) (over-under l Fails (over-frame l h))
      stored_over false a h = over-frame l h

      cas_scalar_over : (b : Bool) (q k : ℕ) → IsAtom l (Scalar q k) → IsOver l (cas_scalar b s x q k)
      cas_scalar_over true q k h =
          let e = h.1 in
          let m : IsAtom l (Read s x k) = (own, here, h.1) in
          let f : IsAtom l (Fenced s x) = (own, here) in
          let a : IsAtom l (Last x k) = (here, h.1) in
          written_out l ((tt, (h, (e, tt))), ((tt, (e, (h, tt))), ((tt, (h, (e, tt))), ((tt, (h, (m, tt))), ((tt, (h, (f, (a, tt)))), tt)))))
      cas_scalar_over false q k h = over-frame l h

      cas_read_over : (b c : Bool) (t z w : ℕ) → IsAtom l (Read t z w) → IsOver l (cas_read l b c names s r x t z w)
      cas_read_over true c t z w h =
          let mine : IsAtom l (Read s z w) = (own, h.1, h.2) in
          let a : IsAtom l (Last z w) = (h.1, h.2) in
          over-append l {cs = under Succeeds (becomes (after (Read s z w)) (after (Last z w)))} (written_out l ((tt, (mine, (a, tt))), ((tt, (a, (mine, tt))), tt)))
          (over-under l Fails {cs = only_where (after (Read s z w)) (before (Read s z w)) ++ read_then l s r x z w}
          (over-append l {cs = only_where (after (Read s z w)) (before (Read s z w))} (written_out l ((mine, (mine, tt)), tt)) (read_then_over z w h.1 h.2)))
      cas_read_over false c t z w h = stored_over c (Read t z w) h

      own_then_over : (b : Bool) (t z v u w : ℕ) → IsAtom l (Then t z v u w) → IsOver l (own_then b t z v u w)
      own_then_over true t z v u w h =
          let a : IsAtom l (Last z v) = (h.1, h.2) in
          written_out l ((tt, (h, (a, tt))), ((tt, (a, (h, tt))), ((tt, (h, (h, tt))), tt)))
      own_then_over false t z v u w h =
          let a : IsAtom l (Last z v) = (h.1, h.2) in
          let b : IsAtom l (Last u w) = (h.3, h.4) in
          written_out l ((tt, (h, (a, tt))), ((tt, (h, (b, tt))), ((tt, (a, (b, (h, tt)))), ((tt, (h, (h, tt))), tt))))

      cas_then_over : (b c d : Bool) (t z v u w : ℕ) → IsAtom l (Then t z v u w) → IsOver l (cas_then b c d names s x t z v u w)
      cas_then_over true c d t z v u w h = own_then_over d t z v u w h
      cas_then_over false c d t z v u w h = stored_over c (Then t z v u w) h

      cas_view_over : (b c : Bool) (t z : ℕ) (a : ViewAtom) → IsAtom l (Fenced t z) → IsAtom l a → IsOver l (cas_view b c names s x t z a)
      cas_view_over true c t z a f h = written_out l ((tt, (h, tt)), ((tt, (h, (f, tt))), ((tt, (f, (h, tt))), tt)))
      cas_view_over false c t z a f h = stored_over c a h

      own_fenced_over : (b : Bool) (z : ℕ) → z < l.locations → IsOver l (own_fenced b s x z)
      own_fenced_over true z h =
          let f : IsAtom l (Fenced s z) = (own, h) in
          written_out l ((tt, (f, tt)), ((tt, (f, (f, tt))), tt))
      own_fenced_over false z h =
          let f : IsAtom l (Fenced s z) = (own, h) in
          let e : IsAtom l (Fenced s x) = (own, here) in
          written_out l ((tt, (f, tt)), ((tt, (f, (f, tt))), ((tt, (e, (f, (f, tt)))), tt)))

      cas_fenced_over : (b c : Bool) (t z : ℕ) → IsAtom l (Fenced t z) → IsOver l (cas_fenced b c names s x t z)
      cas_fenced_over true c t z h = own_fenced_over c z h.1
      cas_fenced_over false c t z h = stored_over c (Fenced t z) h

      cas_over : RowsOver (cas l names s r x)
      cas_over (Scalar q k) h = cas_scalar_over (q == r) q k h
      cas_over (Last z v) h = stored_over (z == x) (Last z v) h
      cas_over (Read t z v) h = cas_read_over (t == s) (z == x) t z v h
      cas_over (Persist z v) h = over-frame l h
      cas_over (Async t z v) h = over-frame l h
      cas_over (Then t z v u w) h = cas_then_over (t == s) (z == x || u == x) (z == u && v == w) t z v u w h
      cas_over (Newest t z) h = cas_view_over (t == s) (z == x) t z (Newest t z) h h
      cas_over (Ordered t z) h = cas_view_over (t == s) (z == x) t z (Ordered t z) h h
      cas_over (Fenced t z) h = cas_fenced_over (t == s) (z == x) t z h

  -- ---- an assignment, and fences

  assigned_over : (b : Bool) (q k : ℕ) → IsAtom l (Scalar q k) → IsOver l (assign_scalar b q k)
  assigned_over true q k h = over-becomes l h h.1
  assigned_over false q k h = over-frame l h

  assign_over : (r : ℕ) → RowsOver (assign r)
  assign_over r (Scalar q k) h = assigned_over (q == r) q k h
  assign_over r (Last z v) h = over-frame l h
  assign_over r (Read t z v) h = over-frame l h
  assign_over r (Persist z v) h = over-frame l h
  assign_over r (Async t z v) h = over-frame l h
  assign_over r (Then t z v u w) h = over-frame l h
  assign_over r (Newest t z) h = over-frame l h
  assign_over r (Ordered t z) h = over-frame l h
  assign_over r (Fenced t z) h = over-frame l h

  loses_over : (b : Bool) (a : ViewAtom) → IsAtom l a → IsOver l (fence_loses b a)
  loses_over true a h = written_out l ((h, (h, tt)), tt)
  loses_over false a h = over-frame l h

  view_over : (b : Bool) (t z : ℕ) (a : ViewAtom) → IsAtom l (Fenced t z) → IsAtom l a → IsOver l (fence_view b t z a)
  view_over true t z a f h = over-becomes l h f
  view_over false t z a f h = over-frame l h

  mfence_over : (s : ℕ) → RowsOver (mfence s)
  mfence_over s (Scalar q k) h = over-frame l h
  mfence_over s (Last z v) h = over-frame l h
  mfence_over s (Read t z v) h = loses_over (t == s) (Read t z v) h
  mfence_over s (Persist z v) h = over-frame l h
  mfence_over s (Async t z v) h = over-frame l h
  mfence_over s (Then t z v u w) h = loses_over (t == s) (Then t z v u w) h
  mfence_over s (Newest t z) h = view_over (t == s) t z (Newest t z) h h
  mfence_over s (Ordered t z) h = view_over (t == s) t z (Ordered t z) h h
  mfence_over s (Fenced t z) h = over-frame l h

  sfence_over : (s : ℕ) → RowsOver (sfence s)
  sfence_over s (Scalar q k) h = over-frame l h
  sfence_over s (Last z v) h = over-frame l h
  sfence_over s (Read t z v) h = over-frame l h
  sfence_over s (Persist z v) h = over-frame l h
  sfence_over s (Async t z v) h = over-frame l h
  sfence_over s (Then t z v u w) h = over-frame l h
  sfence_over s (Newest t z) h = over-frame l h
  sfence_over s (Ordered t z) h = view_over (t == s) t z (Ordered t z) h h
  sfence_over s (Fenced t z) h = over-frame l h

  -- ---- any act

  module _ (some : 0 < l.domain) (names : NameTable) (s : ℕ) (own : IsThreadNumber l s) where
    first_scalar : (r : ℕ) (rs : List ℕ) → All (λ q. q < l.scalars) (r ∷ rs) → r < l.scalars
    first_scalar r rs h = All-head (λ q. q < l.scalars) r rs h

    first_location : (x : ℕ) → All (λ z. z < l.locations) (x ∷ []) → x < l.locations
    first_location x h = All-head (λ z. z < l.locations) x [] h

    act_rows_over : (act : Act-F Act Stmt) → All (λ q. q < l.scalars) (outside_in act) → All (λ z. z < l.locations) (locations_in act) → RowsOver (act_row l names s act)
    act_rows_over (Assign r e) h k = assign_over r
    act_rows_over (Store x e) h k = store_over names s own x (first_location x k)
    act_rows_over (Load r x) h k = load_over names s own x (first_location x k) r (first_scalar r [] h)
    act_rows_over (Cas r x e d) h k = cas_over names s own x (first_location x k) r (first_scalar r (reads e ++ reads d) h)
    act_rows_over Mfence h k = mfence_over s
    act_rows_over Sfence h k = sfence_over s
    act_rows_over (Flush x) h k = frames
    act_rows_over (Flushopt x) h k = frames
    act_rows_over (If test a b) h k = frames
    act_rows_over (While test a) h k = frames

    act_values_over : (branch : Branch) (act : Act-F Act Stmt) → All (λ z. z < l.locations) (locations_in act) → IsOver l (act_values l branch act)
    act_values_over branch (Assign r e) k = value_over some e Value (λ v low. low)
    act_values_over branch (Store x e) k = value_over some e Value (λ v low. low)
    act_values_over branch (Cas r x e d) k =
        over-append l (value_over some e Expected (λ v low. low))
        (over-append l (value_over some d Value (λ v low. low))
        (over-under l Succeeds (over-values l (λ v o. let low = is_below l.domain v o in written_out l ((low, ((first_location x k, low), tt)), tt)))))
    act_values_over branch (If test a b) k = test_over some test branch
    act_values_over branch (While test a) k = test_over some test branch
    act_values_over branch (Load r x) k = over-none l
    act_values_over branch Mfence k = over-none l
    act_values_over branch Sfence k = over-none l
    act_values_over branch (Flush x) k = over-none l
    act_values_over branch (Flushopt x) k = over-none l

    stmt_rules_over : (branch : Branch) (act : Act-F Act Stmt) (aux : List AuxAssign) → All (λ q. q < l.scalars) (outside_in act ++ bracket_scalars aux)
        → All (λ z. z < l.locations) (locations_in act) → IsOver l (rules l names aux (act_values l branch act) (act_row l names s act))
    stmt_rules_over branch act aux h k =
        let outside = All-front (λ q. q < l.scalars) (outside_in act) (bracket_scalars aux) h in
        over-append l (act_values_over branch act k)
        (over-append l (scalar_rows_over _ (act_row l names s act) (act_rows_over act outside k))
        (over-append l (bracket_over some names aux (All-behind (λ q. q < l.scalars) (outside_in act) (bracket_scalars aux) h))
        (access_rows_over (act_row l names s act) (act_rows_over act outside k))))

pub access_over : (p : ProgramTable) (step : Step) → IsProgram p → IsStepOf p step → IsOver (sizes p.names (length p.threads)) (access p step)
access_over p step built is = by (stmt_at p step.thread step.point) refl
  where
    l : Sizes
    l = sizes p.names (length p.threads)

    by : (o : Option Stmt) → stmt_at p step.thread step.point ≡ o → IsOver l (rules_of l p.names step.thread step.branch o)
    by None at = over-none l
    by (Some stmt) at =
        let it = stmt_of p built step.thread step.point stmt is.thread.0 is.thread.1 at in
        stmt_rules_over l (has_values p built) p.names step.thread (record { first = is.thread.0; last = is.thread.1 }) step.branch (out-Act (out-Stmt stmt).act) (out-Stmt stmt).aux it.scalars it.locations
