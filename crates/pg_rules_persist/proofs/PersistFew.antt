-- How many persistency rules a step has at most, and how many literals in them. A clause of n literals weighs g n.
use Rattle.std.proofs.Common.{◌≡◌, ◌≢◌, ℕ, zero, suc, ◌+◌, ◌-◌, ◌*◌, ◌<◌, ◌≤◌, ◌==◌, Bool, true, false, Option, Some, None, List, [], length, inl, inr, refl, sym, subst, arith}
use Rattle.std.proofs.lemmas.Bool.{cases_eq, ne_eqb, eq-eqb}
use Rattle.std.proofs.Math.Nat.{mul-le-mul_right}
use Rattle.std.specs.List.{flat_map, range_with_len}
use Rattle.pg_assertion.specs.declared.atom.ViewAtom.{ViewAtom}
use Rattle.pg_assertion.specs.declared.atom.ViewAtom.TheVariants.{Persist, Async}
use Rattle.pg_assertion.specs.Layout.{Sizes, sizes, IsThreadNumber}
use Rattle.pg_program.specs.declared.point.Step.{Step}
use Rattle.pg_program.specs.declared.syntax.Stmt.{Stmt, out-Stmt}
use Rattle.pg_program.specs.declared.syntax.Act.{Act, out-Act}
use Rattle.pg_program.specs.declared.syntax.Act.TheOpen.{Act-F, Assign, Store, Load, Cas, Mfence, Sfence, Flush, Flushopt, If, While}
use Rattle.pg_program.specs.NameTable.{NameTable}
use Rattle.pg_program.specs.Program.{ProgramTable, IsProgram, stmt_at}
use Rattle.pg_tables.specs.declared.clause.StepLiteral.{StepLiteral}
use Rattle.pg_tables.specs.Shapes.{frame}
use Rattle.pg_tables.specs.Table.{per_thread, per_location, per_value, IsOneOf}
use Rattle.pg_tables.specs.Bound.{AreWithin, largest}
use Rattle.pg_tables.specs.Steps.{IsStepOf, same_line}
use Rattle.pg_tables.proofs.Bounds.{IsAtMost, are-few, most-none, most-append, most-threads, most-locations, most-values}
use Rattle.pg_rules_persist.specs.Rows.{store, fence, flush, flushopt, cas, store_gains, fence_async, flush_persist, flush_async, flushopt_async, cas_persist, cas_async}
use Rattle.pg_rules_persist.specs.Persist.{IsActOver, act_row, persist_rows, rules_of, persist}
use Rattle.pg_rules_persist.specs.Bound.{HasAtMost, CasHas, FlushHas, most_persist_1, most_persist_literals_1, most_persist_2, most_persist_literals_2}
use Rattle.pg_rules_persist.proofs.Acts.{stmt_over}

module _ (g : ℕ → ℕ) where
  weaker : {cs : List (List StepLiteral)} {m n : ℕ} → m ≤ n → IsAtMost g cs m → IsAtMost g cs n
  weaker le h = record { bound = omega (arith, le, h.bound) }

  -- ---- one number has other rows than all the others

  all_past : (f : ℕ → List (List StepLiteral)) (x a n m : ℕ) → x < a → ((j : ℕ) → j ≢ x → IsAtMost g (f j) m) → IsAtMost g (flat_map f (range_with_len a n)) (n * m)
  all_past f x a zero m past others = record { bound = omega arith }
  all_past f x a (suc n) m past others =
      let first = others a (λ same. absurd (omega (arith, same, past))) in
      let t = most-append g (f a) (flat_map f (range_with_len (a + 1) n)) m (n * m) first (all_past f x (a + 1) n m (omega (arith, past)) others) in
      record { bound = omega (arith, t.bound) }

  -- of n + 1 numbers
  all_but : (f : ℕ → List (List StepLiteral)) (x a n k m : ℕ) → IsOneOf a (suc n) x → IsAtMost g (f x) k → ((j : ℕ) → j ≢ x → IsAtMost g (f j) m)
      → IsAtMost g (flat_map f (range_with_len a (suc n))) (k + n * m)
  all_but f x a zero k m i one others =
      let low = i.from in
      let high = i.to in
      let here : x ≡ a = omega (arith, low, high) in
      let first = subst (λ (j : ℕ). IsAtMost g (f j) k) here one in
      record { bound = omega (arith, (most-append g (f a) [] k 0 first (most-none g)).bound) }
  all_but f x a (suc n) k m i one others = elim (cases_eq a x) [
    | inl here ↦
        let rest = all_past f x (a + 1) (suc n) m (omega (arith, here)) others in
        let first = subst (λ (j : ℕ). IsAtMost g (f j) k) (sym here) one in
        most-append g (f a) (flat_map f (range_with_len (a + 1) (suc n))) k (suc n * m) first rest
    | inr there ↦
        let low = i.from in
        let high = i.to in
        let rest = all_but f x (a + 1) n k m (record { from = omega (arith, low, there); to = omega (arith, high) }) one others in
        let t = most-append g (f a) (flat_map f (range_with_len (a + 1) (suc n))) m (k + n * m) (others a there) rest in
        record { bound = omega (arith, t.bound) }
  ]

  all_but_within : (f : ℕ → List (List StepLiteral)) (x a n h k m : ℕ) → IsOneOf a n x → n ≤ h → IsAtMost g (f x) k → ((j : ℕ) → j ≢ x → IsAtMost g (f j) m)
      → IsAtMost g (flat_map f (range_with_len a n)) (k + (h - 1) * m)
  all_but_within f x a n h k m i few one others =
      let low = i.from in
      let high = i.to in
      let e : suc (n - 1) ≡ n = omega (arith, low, high) in
      let less : n - 1 ≤ h - 1 = omega (arith, few) in
      let t = all_but f x a (n - 1) k m (subst (λ (j : ℕ). IsOneOf a j x) (sym e) i) one others in
      let u = subst (λ (j : ℕ). IsAtMost g (flat_map f (range_with_len a j)) (k + (n - 1) * m)) e t in
      record { bound = omega (arith, u.bound, mul-le-mul_right m less) }

  module _ (m : Sizes) where
    abbrev each_bound : ℕ → ℕ → ℕ
    each_bound a b = m.locations * (m.domain * a) + m.threads * (m.locations * (m.domain * b))

    -- of a cas, whose rows differ for its thread and for its location
    abbrev cas_part : ℕ → ℕ → ℕ
    cas_part a b = m.domain * a + (m.locations - 1) * (m.domain * b)

    abbrev cas_bound : ℕ
    cas_bound =
        cas_part (4 * g 3 + g 4) (2 * g 2)
        + (cas_part (4 * g 3 + g 4) (2 * g 2) + (m.threads - 1) * cas_part (3 * g 3 + 4 * g 4) (2 * g 2 + g 3))

  module _ (l m : Sizes) (w : AreWithin l m) where
    but_one_location : (f : ℕ → List (List StepLiteral)) (x k n : ℕ) → x < l.locations → IsAtMost g (f x) k → ((j : ℕ) → j ≢ x → IsAtMost g (f j) n)
        → IsAtMost g (per_location l f) (k + (m.locations - 1) * n)
    unfolding per_location
    but_one_location f x k n inside = all_but_within f x 0 l.locations m.locations k n (record { from = omega arith; to = omega (arith, inside) }) w.locations

    but_one_thread : (f : ℕ → List (List StepLiteral)) (s k n : ℕ) → IsThreadNumber l s → IsAtMost g (f s) k → ((j : ℕ) → j ≢ s → IsAtMost g (f j) n)
        → IsAtMost g (per_thread l f) (k + (m.threads - 1) * n)
    unfolding per_thread
    but_one_thread f s k n i = let last = i.last in all_but_within f s 1 l.threads m.threads k n (record { from = i.first; to = omega (arith, last) }) w.threads

    -- ---- rows that are bounded alike

    each : (row : ViewAtom → List (List StepLiteral)) (a b : ℕ) → ((z v : ℕ) → IsAtMost g (row (Persist z v)) a) → ((t z v : ℕ) → IsAtMost g (row (Async t z v)) b)
        → IsAtMost g (persist_rows l row) (each_bound m a b)
    each row a b h k = most-append g _ _ _ _ (most-locations g w (λ z. most-values g w (λ v. h z v))) (most-threads g w (λ t. most-locations g w (λ z. most-values g w (λ v. k t z v))))

    frames : IsAtMost g (persist_rows l (λ a. frame a)) (each_bound m (2 * g 2) (2 * g 2))
    frames = each (λ a. frame a) (2 * g 2) (2 * g 2) (λ z v. record { bound = omega arith }) (λ t z v. record { bound = omega arith })

    few_gained : (b : Bool) (a : ViewAtom) (v : ℕ) → IsAtMost g (store_gains b a v) (2 * g 2 + g 3)
    few_gained true a v = record { bound = omega arith }
    few_gained false a v = record { bound = omega arith }

    stores : (x : ℕ) → IsAtMost g (persist_rows l (store x)) (each_bound m (2 * g 2 + g 3) (2 * g 2 + g 3))
    stores x = each (store x) (2 * g 2 + g 3) (2 * g 2 + g 3) (λ z v. few_gained (z == x) (Persist z v) v) (λ t z v. few_gained (z == x) (Async t z v) v)

    few_fenced : (b : Bool) (s t z v : ℕ) → IsAtMost g (fence_async b s t z v) (2 * g 2 + g 3)
    few_fenced true s t z v = record { bound = omega arith }
    few_fenced false s t z v = record { bound = omega arith }

    fences : (s : ℕ) → IsAtMost g (persist_rows l (fence s)) (each_bound m (2 * g 2) (2 * g 2 + g 3))
    fences s = each (fence s) (2 * g 2) (2 * g 2 + g 3) (λ z v. record { bound = omega arith }) (λ t z v. few_fenced (t == s) s t z v)

    few_flushed : (b : Bool) (s z v : ℕ) → IsAtMost g (flush_persist b s z v) (3 * g 2 + g 3)
    few_flushed true s z v = record { bound = omega arith }
    few_flushed false s z v = record { bound = omega arith }

    few_flushed_next : (b : Bool) (t z v : ℕ) → IsAtMost g (flush_async b t z v) (2 * g 2 + g 3)
    few_flushed_next true t z v = record { bound = omega arith }
    few_flushed_next false t z v = record { bound = omega arith }

    flushes : (names : NameTable) (s x : ℕ) → IsAtMost g (persist_rows l (flush names s x)) (each_bound m (3 * g 2 + g 3) (2 * g 2 + g 3))
    flushes names s x = each (flush names s x) (3 * g 2 + g 3) (2 * g 2 + g 3) (λ z v. few_flushed (same_line names x z) s z v) (λ t z v. few_flushed_next (same_line names x z) t z v)

    few_begun : (b c : Bool) (t z v : ℕ) → IsAtMost g (flushopt_async b c t z v) (2 * g 2 + g 3)
    few_begun true true t z v = record { bound = omega arith }
    few_begun true false t z v = record { bound = omega arith }
    few_begun false c t z v = record { bound = omega arith }

    flushopts : (names : NameTable) (s x : ℕ) → IsAtMost g (persist_rows l (flushopt names s x)) (each_bound m (2 * g 2) (2 * g 2 + g 3))
    flushopts names s x = each (flushopt names s x) (2 * g 2) (2 * g 2 + g 3) (λ z v. record { bound = omega arith }) (λ t z v. few_begun (t == s) (same_line names x z) t z v)

    -- ---- a cas, whose rows differ for its thread and for its location

    part : (f : ℕ → ℕ → List (List StepLiteral)) (x a b : ℕ) → x < l.locations → ((v : ℕ) → IsAtMost g (f x v) a) → ((z v : ℕ) → z ≢ x → IsAtMost g (f z v) b)
        → IsAtMost g (per_location l (λ z. per_value l (f z))) (cas_part m a b)
    part f x a b inside one others =
        but_one_location (λ z. per_value l (f z)) x (m.domain * a) (m.domain * b) inside (most-values g w one) (λ z other. most-values g w (λ v. others z v other))

    few_cas : (s x : ℕ) → IsThreadNumber l s → x < l.locations → IsAtMost g (persist_rows l (cas s x)) (cas_bound m)
    few_cas s x thread inside =
        most-append g _ _ _ _
        (part (λ z v. cas s x (Persist z v)) x (4 * g 3 + g 4) (2 * g 2) inside (λ v. at_persist (x == x) v (eq-eqb x x refl)) (λ z v other. off_persist (z == x) z v (ne_eqb z x other)))
        (but_one_thread (λ t. per_location l (λ z. per_value l (λ v. cas s x (Async t z v)))) s (cas_part m (4 * g 3 + g 4) (2 * g 2)) (cas_part m (3 * g 3 + 4 * g 4) (2 * g 2 + g 3)) thread
        (part (λ z v. cas s x (Async s z v)) x (4 * g 3 + g 4) (2 * g 2) inside (λ v. own_here (s == s) (x == x) v (eq-eqb s s refl) (eq-eqb x x refl)) (λ z v other. own_off (s == s) (z == x) z v (eq-eqb s s refl) (ne_eqb z x other)))
        (λ t apart. part (λ z v. cas s x (Async t z v)) x (3 * g 3 + 4 * g 4) (2 * g 2 + g 3) inside (λ v. other_here (t == s) (x == x) t v (ne_eqb t s apart) (eq-eqb x x refl)) (λ z v other. other_off (t == s) (z == x) t z v (ne_eqb t s apart) (ne_eqb z x other))))
      where
        at_persist : (b : Bool) (v : ℕ) → b ≡ true → IsAtMost g (cas_persist b s x v) (4 * g 3 + g 4)
        at_persist true v e = record { bound = omega arith }
        at_persist false v e = cc

        off_persist : (b : Bool) (z v : ℕ) → b ≡ false → IsAtMost g (cas_persist b s z v) (2 * g 2)
        off_persist false z v e = record { bound = omega arith }
        off_persist true z v e = cc

        own_here : (b c : Bool) (v : ℕ) → b ≡ true → c ≡ true → IsAtMost g (cas_async b c s s x v) (4 * g 3 + g 4)
        own_here true true v e f = record { bound = omega arith }
        own_here true false v e f = cc
        own_here false c v e f = cc

        own_off : (b c : Bool) (z v : ℕ) → b ≡ true → c ≡ false → IsAtMost g (cas_async b c s s z v) (2 * g 2)
        own_off true false z v e f = record { bound = omega arith }
        own_off true true z v e f = cc
        own_off false c z v e f = cc

        other_here : (b c : Bool) (t v : ℕ) → b ≡ false → c ≡ true → IsAtMost g (cas_async b c s t x v) (3 * g 3 + 4 * g 4)
        other_here false true t v e f = record { bound = omega arith }
        other_here false false t v e f = cc
        other_here true c t v e f = cc

        other_off : (b c : Bool) (t z v : ℕ) → b ≡ false → c ≡ false → IsAtMost g (cas_async b c s t z v) (2 * g 2 + g 3)
        other_off false false t z v e f = record { bound = omega arith }
        other_off false true t z v e f = cc
        other_off true c t z v e f = cc

    -- ---- any act

    few_act : (names : NameTable) (s : ℕ) (act : Act-F Act Stmt) (n : ℕ) → IsThreadNumber l s → IsActOver l act
        → each_bound m (2 * g 2 + g 3) (2 * g 2 + g 3) ≤ n → each_bound m (3 * g 2 + g 3) (2 * g 2 + g 3) ≤ n → cas_bound m ≤ n
        → each_bound m (2 * g 2) (2 * g 2 + g 3) ≤ n → each_bound m (2 * g 2) (2 * g 2) ≤ n
        → IsAtMost g (persist_rows l (act_row names s act)) n
    few_act names s (Store x e) n i over a b c d f = weaker a (stores x)
    few_act names s (Cas r x e k) n i over a b c d f = weaker c (few_cas s x i over)
    few_act names s Mfence n i over a b c d f = weaker d (fences s)
    few_act names s Sfence n i over a b c d f = weaker d (fences s)
    few_act names s (Flush x) n i over a b c d f = weaker b (flushes names s x)
    few_act names s (Flushopt x) n i over a b c d f = weaker d (flushopts names s x)
    few_act names s (Assign r e) n i over a b c d f = weaker f frames
    few_act names s (Load r x) n i over a b c d f = weaker f frames
    few_act names s (If test j k) n i over a b c d f = weaker f frames
    few_act names s (While test j) n i over a b c d f = weaker f frames

-- ---- a step of a program

module _ (g : ℕ → ℕ) (m : Sizes) (n : ℕ) where
  few_step : (p : ProgramTable) (step : Step) → IsProgram p → IsStepOf p step → AreWithin (sizes p.names (length p.threads)) m
      → each_bound g m (2 * g 2 + g 3) (2 * g 2 + g 3) ≤ n → each_bound g m (3 * g 2 + g 3) (2 * g 2 + g 3) ≤ n → cas_bound g m ≤ n
      → each_bound g m (2 * g 2) (2 * g 2 + g 3) ≤ n → each_bound g m (2 * g 2) (2 * g 2) ≤ n
      → IsAtMost g (persist p step) n
  few_step p step built is w a b c d f = by (stmt_at p step.thread step.point) refl
    where
      l : Sizes
      l = sizes p.names (length p.threads)

      by : (o : Option Stmt) → stmt_at p step.thread step.point ≡ o → IsAtMost g (rules_of l p.names step.thread o) n
      by None at = weaker g (omega arith) (most-none g)
      by (Some stmt) at =
          few_act g l m w p.names step.thread (out-Act (out-Stmt stmt).act) n (record { first = is.thread.0; last = is.thread.1 })
          (stmt_over p built step.thread step.point stmt is.thread.0 is.thread.1 at) a b c d f

pub few_1 : HasAtMost 1 most_persist_1 most_persist_literals_1
few_1 p step built is w =
    are-few _ _ _ (few_step (λ n. 1) (largest 1) 384 p step built is w (omega arith) (omega arith) (omega arith) (omega arith) (omega arith))
    (few_step (λ n. n) (largest 1) 1008 p step built is w (omega arith) (omega arith) (omega arith) (omega arith) (omega arith))

pub few_2 : HasAtMost 2 most_persist_2 most_persist_literals_2
few_2 p step built is w =
    are-few _ _ _ (few_step (λ n. 1) (largest 2) 768 p step built is w (omega arith) (omega arith) (omega arith) (omega arith) (omega arith))
    (few_step (λ n. n) (largest 2) 1860 p step built is w (omega arith) (omega arith) (omega arith) (omega arith) (omega arith))

-- these are computed

pub cas_1 : CasHas 1 384 1008
unfolding per_thread per_location per_value
cas_1 = (refl, refl)

pub cas_2 : CasHas 2 732 1860
unfolding per_thread per_location per_value
cas_2 = (refl, refl)

pub flush_2 : FlushHas 2 768 1776
unfolding per_thread per_location per_value
flush_2 = (refl, refl)
