-- How many obligations an outline has at most, and how many atoms and clauses each of them has.
use Rattle.std.proofs.Common.{◌≡◌, ℕ, ◌-◌, ◌*◌, ◌<◌, ◌≤◌, ◌^◌, ◌==◌, Bool, true, false, cond, ◌&&◌, nat_le, List, [], ◌++◌, length, map, get_or, Option, Some, None, refl, ap, arith, length-append, inl, inr}
use Rattle.std.specs.List.{flat_map}
use Rattle.std.proofs.Math.Nat.{mul-le-mul}
use Rattle.std.proofs.lemmas.List.{length-map, get_or_past}
use Rattle.std.proofs.lemmas.List.Concat.{length-flat_map}
use Rattle.std.proofs.lemmas.List.Elements.{All-get_or}
use Rattle.std.proofs.lemmas.List.Sums.{sum_by-le}
use Rattle.std.proofs.lemmas.Bool.{leb-true, cases_lt}
use Rattle.std.proofs.lemmas.List.FromFn.{length-range_with_len}
use Rattle.pg_program.specs.declared.syntax.Stmt.{Stmt}
use Rattle.pg_program.specs.declared.point.Step.{Step}
use Rattle.pg_program.specs.Block.{block}
use Rattle.pg_program.specs.Fault.{domain_size}
use Rattle.pg_program.specs.Graph.{size}
use Rattle.pg_program.specs.Limits.{least_domain, largest_domain, largest_domain_1, largest_domain_2, most_locations_1, most_locations_2, most_points}
use Rattle.pg_program.specs.NameTable.{IsNameTable}
use Rattle.pg_program.specs.Program.{ProgramTable, IsProgram, IsThread, points, steps_at}
use Rattle.pg_program.proofs.ProgramLemmas.{faultless}
use Rattle.pg_assertion.specs.Layout.{Sizes, IsWithinLimits, scalar_cells, cells, seen_cells, cell_pairs, thread_locations}
use Rattle.pg_assertion.specs.Limits.{most_nodes, most_expansion_nodes, most_step_atoms}
use Rattle.pg_assertion.specs.StepAtom.{step_atoms}
use Rattle.pg_axioms.specs.Bound as axioms
use Rattle.pg_rules_access.specs.Bound as access
use Rattle.pg_rules_persist.specs.Bound as persist
use Rattle.pg_outline.specs.Outline.{OutlineTable, note_at}
use Rattle.pg_outline.specs.Made.{IsOutline}
use Rattle.pg_obligations.specs.declared.obligation.Obligation.{Obligation}
use Rattle.pg_obligations.specs.declared.obligation.Obligation.TheVariants.{Fresh, Entry, EntryCrash, Local, Crash, Interfere}
use Rattle.pg_obligations.specs.Follow.{crash_of}
use Rattle.pg_obligations.specs.Obligations.{threads_of, points_of, against, of_step, of_point, of_thread, obligations}
use Rattle.pg_obligations.proofs.Counts.{few_steps, counted}
use Rattle.pg_layers.specs.Clauses.{layout_of, obligation_atoms, obligation_clauses}
use Rattle.pg_layers.specs.Laid.{AreBounded, IsStepIf}
use Rattle.pg_layers.specs.Layers.{base_of, rules_if, top_for, left_by, or_before}
use Rattle.pg_layers.specs.Members.{IsObligationOf, step_in}
use Rattle.pg_layers.specs.Top.{taken, new_in}
use Rattle.pg_layers.proofs.Formulas.{taken-few}
use Rattle.pg_layers.proofs.Loads.{step_is}
use Rattle.pg_layers.proofs.Parts.{pre_small, note_few, crash_part}
use Rattle.pg_layers.proofs.Sizes.{within, base_few, rules_few, top_few}
use Rattle.pg_layers.proofs.Tops.{atoms-are}
use Rattle.pg_judge.proofs.Loaded.{clauses-few}

-- how many clauses the axioms of a side and the rules of a step have at most
pub record AreCounted : Type 0 where
  pub axioms : axioms.HasAtMost 2 axioms.most_axioms_2 axioms.most_axiom_literals_2
  pub access : access.HasAtMost 2 access.most_access_rules_2 access.most_access_literals_2
  pub persist : persist.HasAtMost 2 persist.most_persist_2 persist.most_persist_literals_2

-- ---- the layout

domain-in : (d most : ℕ) (a b : Bool) → nat_le least_domain d ≡ a → nat_le d most ≡ b → cond (a && b) None (Some (domain_size d)) ≡ None → (least_domain ≤ d) × (d ≤ most)
domain-in d most true true low high h = (leb-true least_domain d low, leb-true d most high)
domain-in d most true false low high h = cc
domain-in d most false b low high h = cc

domain-most : (b : Bool) → cond b largest_domain_1 largest_domain_2 ≤ largest_domain_2
domain-most true = omega arith
domain-most false = omega arith

locations-most : (b : Bool) → cond b most_locations_1 most_locations_2 ≤ most_locations_2
locations-most true = omega arith
locations-most false = omega arith

pub within-limits : (o : OutlineTable) → IsOutline o → IsNameTable o.program.names → IsWithinLimits (layout_of o)
within-limits o made table =
    let p = o.program in
    let is = made.draft.program in
    let d = domain-in p.names.domain (largest_domain p.names.version) (nat_le least_domain p.names.domain) (nat_le p.names.domain (largest_domain p.names.version)) refl refl
    (faultless p.names p.threads is.faultless).domain in
    record {
      some_values = d.0;
      few_values = omega (arith, d.1, domain-most (p.names.version == 1));
      few_scalars = table.few_scalars;
      few_locations = omega (arith, table.few_locations, locations-most (p.names.version == 1));
      some_threads = is.threads.some;
      few_threads = is.threads.few;
    }

-- ---- obligations

flat-few : {X A : Type 0} (f : X → List A) (n : ℕ) (xs : List X) → ((x : X) → length (f x) ≤ n) → length (flat_map f xs) ≤ length xs * n
flat-few f n xs h = omega (arith, length-flat_map f xs, sum_by-le (λ x. length (f x)) n xs (λ k d lt. h (get_or xs k d)))

module _ (p : ProgramTable) (is : IsProgram p) where
  points-few : (t : ℕ) → points p t ≤ most_points
  points-few t = elim (cases_lt (t - 1) (length p.threads)) [
    | inl lt ↦ let few = (All-get_or (IsThread p.names) p.threads (t - 1) [] lt is.threads.each).few in omega (arith, few)
    | inr ge ↦ let none = ap (λ (ss : List Stmt). size (block ss)) (get_or_past p.threads (t - 1) [] ge) in omega (arith, none)
  ]

  threads-few : length (threads_of p) ≤ 4
  threads-few = omega (arith, length-range_with_len 1 (length p.threads), is.threads.few)

  against-few : (step : Step) (u : ℕ) → length (against p step u) ≤ 32
  against-few step u = by (u == step.thread)
    where
      all : length (points_of p u) ≤ 32
      all = omega (arith, length-range_with_len 1 (points p u), points-few u)

      by : (b : Bool) → length (cond b [] (map (λ k. Interfere step (record { thread = u; point = k })) (points_of p u))) ≤ 32
      by true = omega arith
      by false = omega (arith, length-map (points_of p u) (λ k. Interfere step (record { thread = u; point = k })), all)

  step-few : (step : Step) → length (of_step p step) ≤ 130
  step-few step = omega (arith, flat-few (against p step) 32 (threads_of p) (against-few step), threads-few)

  point-few : (t k : ℕ) → length (of_point p t k) ≤ 260
  point-few t k = omega (arith, flat-few (of_step p) 130 (steps_at p t k) step-few, few_steps p t k)

  thread-few : (t : ℕ) → length (of_thread p t) ≤ 8320
  thread-few t = omega (arith, flat-few (of_point p t) 260 (points_of p t) (point-few t), length-range_with_len 1 (points p t), points-few t)

  pub obligations-few : length (obligations p) < 2 ^ 31
  obligations-few = omega (arith, counted p, flat-few (of_thread p) 8320 (threads_of p) thread-few, threads-few, is.threads.few)

-- ---- the atoms of an obligation

module _ (l : Sizes) (limits : IsWithinLimits l) where
  cells-few : cells l ≤ 48
  cells-few = mul-le-mul limits.few_values limits.few_locations

  seen-few : seen_cells l ≤ 192
  seen-few = mul-le-mul cells-few limits.few_threads

  step-atoms-few : step_atoms l ≤ most_step_atoms
  step-atoms-few =
      let scalars : scalar_cells l ≤ 96 = mul-le-mul limits.few_values limits.few_scalars in
      let pairs : cell_pairs l ≤ 9216 = mul-le-mul cells-few seen-few in
      let places : thread_locations l ≤ 32 = mul-le-mul limits.few_locations limits.few_threads in
      omega (arith, scalars, cells-few, seen-few, pairs, places, limits.few_values)

module _ (o : OutlineTable) (made : IsOutline o) where
  pre-takes : taken o.pre ≤ most_nodes
  pre-takes = omega (arith, taken-few o.pre, pre_small o made)

  note-takes : (t k : ℕ) → taken (note_at o t k) ≤ most_nodes
  note-takes t k = omega (arith, taken-few (note_at o t k), note_few o made t k)

  crash-takes : taken (crash_of o) ≤ most_expansion_nodes
  crash-takes = let few = (crash_part o made).few in omega (arith, taken-few (crash_of o), few)

  new-few : (ob : Obligation) → new_in o ob ≤ 3 * most_expansion_nodes
  new-few Fresh = omega (arith, pre-takes)
  new-few (Entry t) = omega (arith, pre-takes, note-takes t 1)
  new-few EntryCrash = omega (arith, pre-takes, crash-takes)
  new-few (Local step) = omega (arith, note-takes step.thread step.point, crash-takes, note-takes step.thread step.target)
  new-few (Crash step) = omega (arith, note-takes step.thread step.point, crash-takes)
  new-few (Interfere step at) = omega (arith, note-takes step.thread step.point, note-takes at.thread at.point, crash-takes)

  module _ (limits : IsWithinLimits (layout_of o)) where
    pub atoms-few : (ob : Obligation) → obligation_atoms o ob < 2 ^ 31
    atoms-few ob = omega (arith, atoms-are o ob, step-atoms-few (layout_of o) limits, new-few ob)

    -- ---- its clauses

    bounded : AreCounted → AreBounded o
    bounded most =
        let few = within (layout_of o) limits in
        record {
          axioms = λ side. most.axioms (layout_of o) side few;
          access = λ step at. most.access o.program step made.draft.program at few;
          persist = λ step at. most.persist o.program step made.draft.program at few;
        }

    laid-few : AreBounded o → (ob : Obligation) (step : Option Step) → IsStepIf o step → length (left_by o (or_before step None) (Some ob)) < 2 ^ 31
    laid-few few ob None is = omega (arith, length-append (base_of o) (top_for o ob), (base_few o few).clauses, (top_few o made limits ob).clauses)
    laid-few few ob (Some step) is =
        let rules = rules_if o (Some step) in
        omega (
          arith,
          length-append (base_of o) (rules ++ top_for o ob),
          length-append rules (top_for o ob),
          (base_few o few).clauses,
          (rules_few o few (Some step) is).clauses,
          (top_few o made limits ob).clauses,
        )

    pub obligation-few : AreCounted → (ob : Obligation) → IsObligationOf o.program ob → length (obligation_clauses o ob) < 2 ^ 31
    obligation-few most ob is = omega (arith, clauses-few o ob None, laid-few (bounded most) ob (step_in ob) (step_is o ob is))
