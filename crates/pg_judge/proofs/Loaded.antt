-- The clauses of an obligation are no more than those that its load leaves on the region.
use Rattle.std.proofs.Common.{◌≡◌, ◌≤◌, List, ◌++◌, length, Some, Option, arith, length-append}
use Rattle.std.proofs.lemmas.List.{length-map}
use Rattle.pg_program.specs.declared.point.Step.{Step}
use Rattle.pg_assertion.specs.declared.layout.Side.TheVariants.{Before, After}
use Rattle.pg_assertion.specs.Layout.{Sizes}
use Rattle.pg_region.specs.Literal.{Literal}
use Rattle.pg_tables.specs.declared.clause.StepLiteral.{StepLiteral}
use Rattle.pg_outline.specs.Outline.{OutlineTable}
use Rattle.pg_obligations.specs.declared.obligation.Obligation.{Obligation}
use Rattle.pg_obligations.specs.declared.obligation.Obligation.TheVariants.{Fresh, Entry, EntryCrash, Local, Crash, Interfere}
use Rattle.pg_obligations.specs.Follow.{axioms_of}
use Rattle.pg_layers.specs.Clauses.{layout_of, rules_of, by_numbers, obligation_clauses}
use Rattle.pg_layers.specs.Layers.{rules_if, top_for, left_by, or_before}
use Rattle.pg_layers.specs.Members.{step_in}

length-numbers : (l : Sizes) (cs : List (List StepLiteral)) → length (by_numbers l cs) ≡ length cs
length-numbers l cs = length-map cs _

module _ (l : Sizes) (top : List (List Literal)) (b a : List (List StepLiteral)) where
  without-step : (rules : List (List Literal)) → length (top ++ by_numbers l b) ≤ length ((by_numbers l b ++ by_numbers l a) ++ (rules ++ top))
  without-step rules =
      omega (arith, length-append top (by_numbers l b), length-append (by_numbers l b ++ by_numbers l a) (rules ++ top), length-append (by_numbers l b) (by_numbers l a), length-append rules top)

  with-step : (r : List (List StepLiteral)) → length (top ++ by_numbers l (r ++ (b ++ a))) ≤ length ((by_numbers l b ++ by_numbers l a) ++ (by_numbers l r ++ top))
  with-step r =
      omega (
        arith,
        length-append top (by_numbers l (r ++ (b ++ a))),
        length-append (by_numbers l b ++ by_numbers l a) (by_numbers l r ++ top),
        length-append (by_numbers l b) (by_numbers l a),
        length-append (by_numbers l r) top,
        length-numbers l (r ++ (b ++ a)),
        length-numbers l r,
        length-numbers l b,
        length-numbers l a,
        length-append r (b ++ a),
        length-append b a,
      )

pub clauses-few : (o : OutlineTable) (ob : Obligation) (before : Option Step) → length (obligation_clauses o ob) ≤ length (left_by o (or_before (step_in ob) before) (Some ob))
clauses-few o ob before = go ob
  where
    state : (ob : Obligation) → length (top_for o ob ++ by_numbers (layout_of o) (axioms_of o.program Before)) ≤ length (left_by o before (Some ob))
    state ob = without-step (layout_of o) (top_for o ob) (axioms_of o.program Before) (axioms_of o.program After) (rules_if o before)

    step : (ob : Obligation) (s : Step)
        → length (top_for o ob ++ by_numbers (layout_of o) (rules_of o.program s ++ (axioms_of o.program Before ++ axioms_of o.program After))) ≤ length (left_by o (Some s) (Some ob))
    step ob s = with-step (layout_of o) (top_for o ob) (axioms_of o.program Before) (axioms_of o.program After) (rules_of o.program s)

    go : (ob : Obligation) → length (obligation_clauses o ob) ≤ length (left_by o (or_before (step_in ob) before) (Some ob))
    go Fresh = state Fresh
    go (Entry t) = state (Entry t)
    go EntryCrash = state EntryCrash
    go (Local s) = step (Local s) s
    go (Crash s) = step (Crash s) s
    go (Interfere s at) = step (Interfere s at) s
