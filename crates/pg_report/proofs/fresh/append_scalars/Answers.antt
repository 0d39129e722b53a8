use Rattle.pg_assertion.specs.declared.atom.ViewAtom.TheVariants.{Scalar}
use Rattle.pg_report.specs.Fresh.{true_line}
use Rattle.pg_report.proofs.FreshLines.{append-from_0}
use Rattle.pg_report.proofs.fresh.append_scalars.Goals as goal

pub scalars-preserved : goal.scalars-preserved
scalars-preserved c =
    append-from_0 (λ r. true_line c.args.names.now (Scalar r 0)) c.scalars.r c.args.text.now.items c.scalars.text.items c.append_true.new.text.items c.scalars.invariant
    c.in_ok-append_true.ensures
