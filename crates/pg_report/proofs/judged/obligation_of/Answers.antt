use Rattle.std.proofs.Common.{◌≡◌, ◌-◌, Some, subst}
use Rattle.std.specs.List.{slice_get}
use Rattle.pg_outline.specs.Outline.{OutlineTable}
use Rattle.pg_obligations.specs.declared.obligation.Obligation.TheVariants.{Fresh}
use Rattle.pg_obligations.specs.Obligations.{obligations}
use Rattle.pg_report.proofs.TrueAtoms.{obligation-is}
use Rattle.pg_report.proofs.judged.obligation_of.Goals as goal

pub returns : goal.returns
returns c =
    obligation-is (obligations c.args.o.now.program) (c.args.i - 1) c.shape.result Fresh
    (subst (λ (q : OutlineTable). slice_get (obligations q.program) (c.args.i - 1) ≡ Some c.shape.result) c.of.ensures c.shape.ensures)
