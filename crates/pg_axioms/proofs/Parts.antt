-- The axioms in the parts in which the code gives them to a sink.
use Rattle.std.proofs.Common.{◌≡◌, Bool, List, ◌++◌, None, Result, Ok, Err, sym, ap, subst, ◌∙◌, append_assoc}
use Rattle.std.proofs.lemmas.List.{map-append}
use Rattle.pg_assertion.specs.declared.layout.Side.{Side}
use Rattle.pg_assertion.specs.Layout.{Sizes}
use Rattle.pg_region.specs.Literal.{Literal}
use Rattle.pg_region.specs.Sink.{Capacity, SinkView, Appended, Stopped, Emitted}
use Rattle.pg_tables.specs.declared.clause.StepLiteral.{StepLiteral}
use Rattle.pg_tables.specs.Clause.{written}
use Rattle.pg_tables.proofs.Sinks.{Appended-then, Stopped-first, Stopped-later}
use Rattle.pg_axioms.specs.Axioms.{one_value, last_is_shown, pending_may_persist, newest_read_is_last, newest_is_covered, then_was_readable, last_is_read_then, newest_load_keeps, sets_nest, axioms}

module _ (l : Sizes) (side : Side) where
  abbrev of_last_values : List (List StepLiteral)
  of_last_values = one_value l side ++ last_is_shown l side

  abbrev of_views : List (List StepLiteral)
  of_views = pending_may_persist l side ++ (newest_read_is_last l side ++ newest_is_covered l side)

  abbrev of_loads : List (List StepLiteral)
  of_loads = then_was_readable l side ++ (last_is_read_then l side ++ (newest_load_keeps l side ++ sets_nest l side))

  abbrev in_numbers : List (List StepLiteral) → List (List Literal)
  in_numbers cs = written (record { layout = l; case = None }) cs

  in_order : of_last_values ++ (of_views ++ of_loads) ≡ axioms l side
  in_order =
      append_assoc (one_value l side) (last_is_shown l side) (of_views ++ of_loads)
      ∙ ap (λ (cs : List (List StepLiteral)). one_value l side ++ (last_is_shown l side ++ cs))
      (append_assoc (pending_may_persist l side) (newest_read_is_last l side ++ newest_is_covered l side) of_loads
      ∙ ap (λ (cs : List (List StepLiteral)). pending_may_persist l side ++ cs) (append_assoc (newest_read_is_last l side) (newest_is_covered l side) of_loads))

  parts : in_numbers of_last_values ++ (in_numbers of_views ++ in_numbers of_loads) ≡ in_numbers (axioms l side)
  parts =
      ap (λ (cs : List (List Literal)). in_numbers of_last_values ++ cs) (sym (map-append _ of_views of_loads))
      ∙ sym (map-append _ of_last_values (of_views ++ of_loads))
      ∙ ap in_numbers in_order

  module _ (takes : List (List Literal) → Capacity → List Literal → Bool) where
    pub first-stops : (a b : SinkView) → Stopped takes a b (in_numbers of_last_values) → Stopped takes a b (in_numbers (axioms l side))
    first-stops a b h =
        subst (λ (cs : List (List Literal)). Stopped takes a b cs) parts (Stopped-first takes a b (in_numbers of_last_values) (in_numbers of_views ++ in_numbers of_loads) h)

    pub second-stops : (a b c : SinkView) → Appended a b (in_numbers of_last_values) → Stopped takes b c (in_numbers of_views) → Stopped takes a c (in_numbers (axioms l side))
    second-stops a b c h k =
        subst (λ (cs : List (List Literal)). Stopped takes a c cs) parts
        (Stopped-later takes a b c (in_numbers of_last_values) (in_numbers of_views ++ in_numbers of_loads) h (Stopped-first takes b c (in_numbers of_views) (in_numbers of_loads) k))

    in_turn : {F : Type 0} (r : Result (Unit {0}) F) (a b c d : SinkView) (cs ds es : List (List Literal)) → Appended a b cs → Appended b c ds → Emitted takes r c d es → Emitted takes r a d (cs ++ (ds ++ es))
    in_turn (Ok u) a b c d cs ds es h k e = Appended-then a b d cs (ds ++ es) h (Appended-then b c d ds es k e)
    in_turn (Err f) a b c d cs ds es h k e = Stopped-later takes a b d cs (ds ++ es) h (Stopped-later takes b c d ds es k e)

    pub all-given : {F : Type 0} (r : Result (Unit {0}) F) (a b c d : SinkView) → Appended a b (in_numbers of_last_values) → Appended b c (in_numbers of_views) → Emitted takes r c d (in_numbers of_loads)
        → Emitted takes r a d (in_numbers (axioms l side))
    all-given r a b c d h k e =
        subst (λ (cs : List (List Literal)). Emitted takes r a d cs) parts (in_turn r a b c d (in_numbers of_last_values) (in_numbers of_views) (in_numbers of_loads) h k e)
