-- How large the parts of an obligation's clauses are, and that they fit in.
use Rattle.std.proofs.Common.{◌≡◌, ℕ, suc, ◌+◌, ◌*◌, ◌<◌, ◌≤◌, List, [], ◌∷◌, ◌++◌, length, Option, Some, None, refl, sym, ap, ◌∙◌, arith, length-append}
use Rattle.std.proofs.lemmas.Bool.{le-leb, lt-ltb, and_from, true≢false}
use Rattle.std.proofs.lemmas.List.{length-map}
use Rattle.pg_program.specs.declared.point.Step.{Step}
use Rattle.pg_program.specs.NameTable.{NameTable}
use Rattle.pg_assertion.specs.declared.atom.ViewAtom.{ViewAtom}
use Rattle.pg_assertion.specs.declared.layout.Side.{Side}
use Rattle.pg_assertion.specs.declared.layout.Side.TheVariants.{Before, After}
use Rattle.pg_assertion.specs.Formula.{Plain, nodes}
use Rattle.pg_assertion.specs.Layout.{Sizes, IsWithinLimits}
use Rattle.pg_assertion.specs.Limits.{most_nodes, most_expansion_nodes}
use Rattle.pg_outline.specs.Outline.{OutlineTable, note_at}
use Rattle.pg_outline.specs.Made.{IsOutline}
use Rattle.pg_region.specs.Literal.{Literal}
use Rattle.pg_region.specs.Pieces.{total}
use Rattle.pg_region.specs.Region.{RegionTable}
use Rattle.pg_region.specs.Sink.{Capacity, SinkView, Stopped, takes_in, sink_of}
use Rattle.pg_tables.specs.declared.clause.StepLiteral.{StepLiteral}
use Rattle.pg_tables.specs.Bound.{AreWithin, AreFew, largest}
use Rattle.pg_tables.specs.Clause.{numbered}
use Rattle.pg_tables.specs.Steps.{IsStepOf}
use Rattle.pg_tables.proofs.Bounds.{IsAtMost, are-few, most-append, most-none, most-cons, most-when, most-threads, most-locations, most-values, most-scalars}
use Rattle.pg_rules_access.specs.Access.{access}
use Rattle.pg_rules_persist.specs.Persist.{persist}
use Rattle.pg_obligations.specs.declared.obligation.Obligation.{Obligation}
use Rattle.pg_obligations.specs.declared.obligation.Obligation.TheVariants.{Fresh, Entry, EntryCrash, Local, Crash, Interfere}
use Rattle.pg_obligations.specs.Follow.{on, crash_of, axioms_of}
use Rattle.pg_layers.specs.Clauses.{top_part, by_number, by_numbers, first_new, layout_of, rules_of}
use Rattle.pg_layers.specs.Needs.{most_top_nodes}
use Rattle.pg_layers.specs.Layers.{side_axioms, base_of, rules_if, top_for}
use Rattle.pg_layers.specs.Laid.{AreBounded, IsStepIf, Fit}
use Rattle.pg_layers.specs.Top.{fresh_units}
use Rattle.pg_layers.proofs.Formulas.{total-append}
use Rattle.pg_layers.proofs.Parts.{pre_small, note_few, crash_part}
use Rattle.pg_layers.proofs.Tops.{nodes_of, nodes-on, top-few, top-words, fresh_top}

-- a layout within the limits is within the largest one
pub within : (l : Sizes) → IsWithinLimits l → AreWithin l (largest 2)
within l h = record { domain = h.few_values; scalars = h.few_scalars; locations = h.few_locations; threads = h.few_threads }

-- ---- clauses by their numbers are as many, and as long

pub length-numbers : (l : Sizes) (cs : List (List StepLiteral)) → length (by_numbers l cs) ≡ length cs
length-numbers l [] = refl
length-numbers l (c ∷ cs) = ap (λ (n : ℕ). suc n) (length-numbers l cs)

pub total-numbers : (l : Sizes) (cs : List (List StepLiteral)) → total (by_numbers l cs) ≡ total cs
total-numbers l [] = refl
total-numbers l (c ∷ cs) = let rest = total-numbers l cs in let one = length-map c (numbered l) in omega (arith, rest, one)

-- clauses by their numbers, with at most so many clauses and literals
pub record AreAtMost (cs : List (List Literal)) (m n : ℕ) : Type 0 where
  pub clauses : length cs ≤ m
  pub literals : total cs ≤ n

numbers-few : (l : Sizes) (cs : List (List StepLiteral)) (m n : ℕ) → AreFew cs m n → AreAtMost (by_numbers l cs) m n
numbers-few l cs m n h = record { clauses = omega (arith, length-numbers l cs, h.clauses); literals = omega (arith, total-numbers l cs, h.literals) }

both-few : (cs ds : List (List Literal)) (m n i j : ℕ) → AreAtMost cs m n → AreAtMost ds i j → AreAtMost (cs ++ ds) (m + i) (n + j)
both-few cs ds m n i j h k = record { clauses = omega (arith, length-append cs ds, h.clauses, k.clauses); literals = omega (arith, total-append cs ds, h.literals, k.literals) }

both-tables : (cs ds : List (List StepLiteral)) (m n i j : ℕ) → AreFew cs m n → AreFew ds i j → AreFew (cs ++ ds) (m + i) (n + j)
both-tables cs ds m n i j h k = record { clauses = omega (arith, length-append cs ds, h.clauses, k.clauses); literals = omega (arith, table_total cs ds, h.literals, k.literals) }
  where
    table_total : (xs ys : List (List StepLiteral)) → total (xs ++ ys) ≡ total xs + total ys
    table_total [] ys = omega arith
    table_total (x ∷ xs) ys = ap (λ (n : ℕ). length x + n) (table_total xs ys) ∙ omega arith

-- ---- the layers

module _ (o : OutlineTable) (bounded : AreBounded o) where
  pub side_few : (side : Side) → AreAtMost (by_numbers (layout_of o) (axioms_of o.program side)) 46960 139136
  side_few side = numbers-few (layout_of o) (axioms_of o.program side) 46960 139136 (bounded.axioms side)

  pub base_few : AreAtMost (base_of o) 93920 278272
  base_few = both-few (side_axioms o).0 (side_axioms o).1 46960 139136 46960 139136 (side_few Before) (side_few After)

  pub step_few : (step : Step) → IsStepOf o.program step → AreAtMost (by_numbers (layout_of o) (rules_of o.program step)) 53554 200812
  step_few step is =
      numbers-few (layout_of o) (rules_of o.program step) 53554 200812
      (both-tables (access o.program step) (persist o.program step) 52786 198952 768 1860 (bounded.access step is) (bounded.persist step is))

  pub rules_few : (step : Option Step) → IsStepIf o step → AreAtMost (rules_if o step) 53554 200812
  rules_few None is = record { clauses = omega arith; literals = omega arith }
  rules_few (Some step) is = step_few step is

-- ---- top parts

part_few : (n : ℕ) (fs : List (Plain ℕ)) (g : Plain ℕ) → nodes_of fs + nodes g ≤ most_top_nodes → AreAtMost (top_part n fs g) 33792 67584
part_few n fs g h = let a = top-few n fs g in let b = top-words n fs g in record { clauses = omega (arith, a, h); literals = omega (arith, b, h) }

one_literal : (g : ℕ → ℕ) (c : List StepLiteral) → IsAtMost g (c ∷ []) (g (length c))
one_literal g c = let t = most-cons g c [] 0 (most-none g) in record { bound = omega (arith, t.bound) }

-- 16 scalars, 8 locations, and of these 4 threads and 6 values
units_most : (g : ℕ → ℕ) (l : Sizes) (names : NameTable) → AreWithin l (largest 2) → IsAtMost g (fresh_units l names) (16 * g 1 + (8 * g 1 + (4 * (8 * g 1) + 8 * (6 * g 1))))
units_most g l names w =
    most-append g _ _ _ _ (most-scalars g w (λ r. one_literal g _))
    (most-append g _ _ _ _ (most-locations g w (λ x. one_literal g _))
    (most-append g _ _ _ _ (most-threads g w (λ t. most-locations g w (λ x. one_literal g _)))
    (most-locations g w (λ x. most-values g w (λ v. most-when g _ (one_literal g _))))))

units_few : (l : Sizes) (names : NameTable) → AreWithin l (largest 2) → AreAtMost (by_numbers l (fresh_units l names)) 104 104
units_few l names w = numbers-few l (fresh_units l names) 104 104 (are-few _ _ _ (units_most (λ n. 1) l names w) (units_most (λ n. n) l names w))

module _ (o : OutlineTable) (made : IsOutline o) (limits : IsWithinLimits (layout_of o)) where
  abbrev l : Sizes
  l = layout_of o

  abbrev B : Plain ViewAtom → Plain ℕ
  B f = by_number l (on Before f)

  abbrev A : Plain ViewAtom → Plain ℕ
  A f = by_number l (on After f)

  small_pre : (side : Side) → nodes (by_number l (on side o.pre)) ≤ most_nodes
  small_pre side = let e = nodes-on l side o.pre in let s = pre_small o made in omega (arith, e, s)

  small_note : (side : Side) (t k : ℕ) → nodes (by_number l (on side (note_at o t k))) ≤ most_nodes
  small_note side t k = let e = nodes-on l side (note_at o t k) in let s = note_few o made t k in omega (arith, e, s)

  small_crash : (side : Side) → nodes (by_number l (on side (crash_of o))) ≤ most_expansion_nodes
  small_crash side = let e = nodes-on l side (crash_of o) in let s = (crash_part o made).few in omega (arith, e, s)

  pub top_few : (ob : Obligation) → AreAtMost (top_for o ob) 33792 67584
  top_few Fresh =
      let goal = by_number l (on Before o.pre) in
      let e = small_pre Before in
      let a = top-few (first_new l) [] goal in
      let b = top-words (first_new l) [] goal in
      let u = units_few l o.program.names (within l limits) in
      let n = length-append (by_numbers l (fresh_units l o.program.names)) (top_part (first_new l) [] goal) in
      let m = total-append (by_numbers l (fresh_units l o.program.names)) (top_part (first_new l) [] goal) in
      let p = ap length (fresh_top o) in
      let q = ap (λ (cs : List (List Literal)). total cs) (fresh_top o) in
      record { clauses = omega (arith, e, a, u.clauses, n, p); literals = omega (arith, e, b, u.literals, m, q) }
  top_few (Entry t) =
      let a = small_pre Before in let b = small_note Before t 1 in
      part_few (first_new l) (B o.pre ∷ []) (B (note_at o t 1)) (omega (arith, a, b))
  top_few EntryCrash =
      let a = small_pre Before in let b = small_crash Before in
      part_few (first_new l) (B o.pre ∷ []) (B (crash_of o)) (omega (arith, a, b))
  top_few (Local step) =
      let a = small_note Before step.thread step.point in let b = small_crash Before in let c = small_note After step.thread step.target in
      part_few (first_new l) (B (note_at o step.thread step.point) ∷ B (crash_of o) ∷ []) (A (note_at o step.thread step.target)) (omega (arith, a, b, c))
  top_few (Crash step) =
      let a = small_note Before step.thread step.point in let b = small_crash Before in let c = small_crash After in
      part_few (first_new l) (B (note_at o step.thread step.point) ∷ B (crash_of o) ∷ []) (A (crash_of o)) (omega (arith, a, b, c))
  top_few (Interfere step at) =
      let a = small_note Before step.thread step.point in let b = small_crash Before in let c = small_note Before at.thread at.point in let d = small_note After at.thread at.point in
      part_few (first_new l) (B (note_at o step.thread step.point) ∷ B (note_at o at.thread at.point) ∷ B (crash_of o) ∷ []) (A (note_at o at.thread at.point)) (omega (arith, a, b, c, d))

-- ---- clauses that fit in are taken

total_step : (xs : List (List Literal)) (y : List Literal) (ys : List (List Literal)) → total (xs ++ (y ∷ ys)) ≡ total xs + (length y + total ys)
total_step xs y ys = total-append xs (y ∷ ys)

pub never_full : (r : RegionTable) (b : SinkView) (cs : List (List Literal)) → Fit r cs → Stopped takes_in (sink_of r) b cs → ⊥
never_full r b cs fit st =
    let w = ap (λ (x : List (List Literal)). total x) st.parts ∙ total_step st.done st.next st.rest in
    let s = ap (λ (x : List (List Literal)). length x) st.parts ∙ length-append st.done (st.next ∷ st.rest) in
    let lw = ap (λ (x : List (List Literal)). total x) st.appended.list ∙ total-append r.clauses st.done in
    let ls = ap (λ (x : List (List Literal)). length x) st.appended.list ∙ length-append r.clauses st.done in
    let cw = ap (λ (c : Capacity). c.words) st.appended.capacity in
    let cs' = ap (λ (c : Capacity). c.spans) st.appended.capacity in
    let fw = fit.words in
    let fs = fit.spans in
    let a : total b.list + length st.next ≤ b.capacity.words = omega (arith, w, lw, cw, fw) in
    let c : length b.list < b.capacity.spans = omega (arith, s, ls, cs', fs) in
    true≢false (sym (and_from _ _ (le-leb (total b.list + length st.next) b.capacity.words a) (lt-ltb (length b.list) b.capacity.spans c)) ∙ st.refused)
