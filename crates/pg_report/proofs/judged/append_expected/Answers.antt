use Rattle.pg_assertion.specs.declared.step_atom.StepAtom.TheVariants.{Expected}
use Rattle.pg_report.specs.Judged.{true_line}
use Rattle.pg_report.proofs.FreshLines.{append-from_0}
use Rattle.pg_report.proofs.judged.append_expected.Goals as goal

pub values-preserved : goal.values-preserved
values-preserved c =
    append-from_0 (λ v. true_line c.args.o.now c.args.truths.now (Expected v)) c.values.v c.args.text.now.items c.values.text.items c.append_if_true.new.text.items c.values.invariant
    c.in_ok-append_if_true.ensures
