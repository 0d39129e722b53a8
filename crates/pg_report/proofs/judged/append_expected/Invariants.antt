use Rattle.std.proofs.Common.{◌≡◌, ◌++◌}
use Rattle.std.specs.List.{flat_map, range_with_len}
use Rattle.pg_assertion.specs.declared.step_atom.StepAtom.TheVariants.{Expected}
use Rattle.pg_report.specs.Judged.{true_line}
use Rattle.pg_report.proofs.judged.append_expected.Given as goal

abbrev pub invariant-values : goal.invariant-values
invariant-values l = l.text.items ≡ l.initial.text.items ++ flat_map (λ v. true_line l.o l.truths (Expected v)) (range_with_len 0 l.v)
