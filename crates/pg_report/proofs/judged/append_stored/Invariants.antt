use Rattle.std.proofs.Common.{◌≡◌, ◌++◌}
use Rattle.std.specs.List.{flat_map, range_with_len}
use Rattle.pg_assertion.specs.declared.step_atom.StepAtom.TheVariants.{Value}
use Rattle.pg_report.specs.Judged.{true_line}
use Rattle.pg_report.proofs.judged.append_stored.Given as goal

abbrev pub invariant-values : goal.invariant-values
invariant-values l = l.text.items ≡ l.initial.text.items ++ flat_map (λ v. true_line l.o l.truths (Value v)) (range_with_len 0 l.v)
