use Rattle.std.proofs.Common.{◌++◌, ◌∷◌, [], ◌-◌, length, take}
use Rattle.std.specs.List.{flat_map, range_with_len}
use Rattle.std.specs.Prelude.{slice_set}
use Rattle.pg_assertion.specs.declared.atom.ViewAtom.TheVariants.{Scalar}
use Rattle.pg_assertion.specs.declared.step_atom.StepAtom.TheVariants.{On}
use Rattle.pg_region.specs.Sink.{Appended}
use Rattle.pg_tables.specs.Clause.{written}
use Rattle.pg_rules_access.specs.Values.{per_tuple}
use Rattle.pg_rules_access.proofs.tuples.+offer_tuples.Given as goal

abbrev pub decreases-offer_tuples : goal.decreases-offer_tuples
decreases-offer_tuples g l = length l.names.now

abbrev pub invariant-loop-k : goal.invariant-loop-k
invariant-loop-k g l =
    Appended (g.S.ClauseSink.view l.fn.into) (g.S.ClauseSink.view l.into)
    (written l.setting (flat_map (λ k. per_tuple l.setting.layout (g.T.Says.side l.says) (g.T.Says.says l.setting.layout l.says) l.rest
    (take l.count l.given ++ (On (Scalar l.r k) (g.T.Says.side l.says l.r) ∷ [])) (slice_set l.values l.r k)) (range_with_len 0 (l.k - 0))))
