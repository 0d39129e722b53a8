-- The persistency rules of a step are over its layout.
use Rattle.std.proofs.Common.{ℕ, ◌<◌, ◌==◌, Bool, true, false, List, Option, Some, None, length}
use Rattle.pg_assertion.specs.declared.atom.ViewAtom.{ViewAtom}
use Rattle.pg_assertion.specs.declared.atom.ViewAtom.TheVariants.{Persist, Async}
use Rattle.pg_assertion.specs.Layout.{Sizes, sizes, IsAtom, IsThreadNumber}
use Rattle.pg_program.specs.declared.point.Step.{Step}
use Rattle.pg_program.specs.declared.syntax.Stmt.{Stmt, out-Stmt}
use Rattle.pg_program.specs.declared.syntax.Act.{Act, out-Act}
use Rattle.pg_program.specs.declared.syntax.Act.TheOpen.{Act-F, Assign, Store, Load, Cas, Mfence, Sfence, Flush, Flushopt, If, While}
use Rattle.pg_program.specs.NameTable.{NameTable}
use Rattle.pg_program.specs.Program.{ProgramTable, stmt_at}
use Rattle.pg_tables.specs.declared.clause.StepLiteral.{StepLiteral}
use Rattle.pg_tables.specs.Shapes.{frame}
use Rattle.pg_tables.specs.Steps.{IsStepOf, same_line}
use Rattle.pg_rules_persist.specs.Rows.{store, fence, flush, flushopt, cas, store_gains, fence_async, flush_persist, flush_async, flushopt_async, cas_persist, cas_async}
use Rattle.pg_rules_persist.specs.Persist.{act_row, persist_rows, rules_of, persist}
use Rattle.pg_layers.proofs.Over.{IsOver, written_out, over-none, over-append, over-threads, over-locations, over-values, over-frame, over-becomes, over-becomes_both, over-gains}
use Rattle.pg_layers.proofs.OverAxioms.{is_thread, is_below}

module _ (l : Sizes) where
  -- the rows of the atoms of what a crash may leave
  rows_over : (row : ViewAtom → List (List StepLiteral)) → ((z v : ℕ) → z < l.locations → v < l.domain → IsOver l (row (Persist z v)))
      → ((t z v : ℕ) → IsThreadNumber l t → z < l.locations → v < l.domain → IsOver l (row (Async t z v))) → IsOver l (persist_rows l row)
  rows_over row h k =
      over-append l
      (over-locations l (λ z o. over-values l (λ v p. h z v (is_below l.locations z o) (is_below l.domain v p))))
      (over-threads l (λ t q. over-locations l (λ z o. over-values l (λ v p. k t z v (is_thread l t q) (is_below l.locations z o) (is_below l.domain v p)))))

  frames_over : IsOver l (persist_rows l (λ a. frame a))
  frames_over = rows_over (λ a. frame a) (λ z v h k. over-frame l {a = Persist z v} (h, k)) (λ t z v i h k. over-frame l {a = Async t z v} (i, h, k))

  gained : (b : Bool) (a : ViewAtom) (v : ℕ) → IsAtom l a → v < l.domain → IsOver l (store_gains b a v)
  gained true a v h k = over-gains l h h k
  gained false a v h k = over-frame l h

  store_over : (x : ℕ) → IsOver l (persist_rows l (store x))
  store_over x = rows_over (store x) (λ z v h k. gained (z == x) (Persist z v) v (h, k) k) (λ t z v i h k. gained (z == x) (Async t z v) v (i, h, k) k)

  module _ (s : ℕ) (own : IsThreadNumber l s) where
    fenced : (b : Bool) (t z v : ℕ) → IsThreadNumber l t → z < l.locations → v < l.domain → IsOver l (fence_async b s t z v)
    fenced true t z v i h k = over-frame l (i, h, k)
    fenced false t z v i h k = over-becomes_both l (i, h, k) (i, h, k) (own, h, k)

    fence_over : IsOver l (persist_rows l (fence s))
    fence_over = rows_over (fence s) (λ z v h k. over-becomes l (h, k) (own, h, k)) (λ t z v i h k. fenced (t == s) t z v i h k)

    flushed : (b : Bool) (z v : ℕ) → z < l.locations → v < l.domain → IsOver l (flush_persist b s z v)
    flushed true z v h k =
        written_out l (((h, k), ((h, k), tt)), (((h, k), ((own, h, k), tt)), (((h, k), ((own, h, k), tt)), (((own, h), ((h, k), ((h, k), tt))), tt))))
    flushed false z v h k = over-frame l (h, k)

    flushed_next : (b : Bool) (t z v : ℕ) → IsThreadNumber l t → z < l.locations → v < l.domain → IsOver l (flush_async b t z v)
    flushed_next true t z v i h k = over-becomes_both l (i, h, k) (i, h, k) (h, k)
    flushed_next false t z v i h k = over-frame l (i, h, k)

    flush_over : (names : NameTable) (x : ℕ) → IsOver l (persist_rows l (flush names s x))
    flush_over names x = rows_over (flush names s x) (λ z v h k. flushed (same_line names x z) z v h k) (λ t z v i h k. flushed_next (same_line names x z) t z v i h k)

    begun : (b c : Bool) (t z v : ℕ) → IsThreadNumber l t → z < l.locations → v < l.domain → IsOver l (flushopt_async b c t z v)
    begun true true t z v i h k = written_out l (((i, h, k), ((i, h, k), tt)), (((i, h, k), ((i, h, k), tt)), (((i, h), ((i, h, k), ((h, k), tt))), tt)))
    begun true false t z v i h k = over-frame l (i, h, k)
    begun false c t z v i h k = over-frame l (i, h, k)

    flushopt_over : (names : NameTable) (x : ℕ) → IsOver l (persist_rows l (flushopt names s x))
    flushopt_over names x = rows_over (flushopt names s x) (λ z v h k. over-frame l (h, k)) (λ t z v i h k. begun (t == s) (same_line names x z) t z v i h k)

    swapped : (b : Bool) (z v : ℕ) → z < l.locations → v < l.domain → IsOver l (cas_persist b s z v)
    swapped true z v h k =
        let p : IsAtom l (Persist z v) = (h, k) in
        let a : IsAtom l (Async s z v) = (own, h, k) in
        written_out l ((tt, (p, (a, (k, tt)))), ((tt, (a, (p, tt))), ((tt, (k, (p, tt))), ((tt, (p, (a, tt))), ((tt, (a, (p, tt))), tt)))))
    swapped false z v h k = over-becomes l (h, k) (own, h, k)

    swapped_next : (b c : Bool) (t z v : ℕ) → IsThreadNumber l t → z < l.locations → v < l.domain → IsOver l (cas_async b c s t z v)
    swapped_next true true t z v i h k =
        let a : IsAtom l (Async t z v) = (i, h, k) in
        written_out l ((tt, (a, (a, (k, tt)))), ((tt, (a, (a, tt))), ((tt, (k, (a, tt))), ((tt, (a, (a, tt))), ((tt, (a, (a, tt))), tt)))))
    swapped_next true false t z v i h k = over-frame l (i, h, k)
    swapped_next false true t z v i h k =
        let a : IsAtom l (Async t z v) = (i, h, k) in
        let b : IsAtom l (Async s z v) = (own, h, k) in
        written_out l (
          (tt, (a, (a, (k, tt)))),
          (
            (tt, (a, (b, (k, tt)))),
            (
              (tt, (a, (b, (a, tt)))),
              (
                (tt, (k, (a, tt))),
                ((tt, (a, (a, tt))), ((tt, (a, (b, tt))), ((tt, (a, (b, (a, tt)))), tt))),
              ),
            ),
          ),
        )
    swapped_next false false t z v i h k = over-becomes_both l (i, h, k) (i, h, k) (own, h, k)

    cas_over : (x : ℕ) → IsOver l (persist_rows l (cas s x))
    cas_over x = rows_over (cas s x) (λ z v h k. swapped (z == x) z v h k) (λ t z v i h k. swapped_next (t == s) (z == x) t z v i h k)

    act_over : (names : NameTable) (act : Act-F Act Stmt) → IsOver l (persist_rows l (act_row names s act))
    act_over names (Store x e) = store_over x
    act_over names (Cas r x e k) = cas_over x
    act_over names Mfence = fence_over
    act_over names Sfence = fence_over
    act_over names (Flush x) = flush_over names x
    act_over names (Flushopt x) = flushopt_over names x
    act_over names (Assign r e) = frames_over
    act_over names (Load r x) = frames_over
    act_over names (If test j k) = frames_over
    act_over names (While test j) = frames_over

pub persist_over : (p : ProgramTable) (step : Step) → IsStepOf p step → IsOver (sizes p.names (length p.threads)) (persist p step)
persist_over p step is = by (stmt_at p step.thread step.point)
  where
    l : Sizes
    l = sizes p.names (length p.threads)

    by : (o : Option Stmt) → IsOver l (rules_of l p.names step.thread o)
    by None = over-none l
    by (Some stmt) = act_over l step.thread (record { first = is.thread.0; last = is.thread.1 }) p.names (out-Act (out-Stmt stmt).act)
