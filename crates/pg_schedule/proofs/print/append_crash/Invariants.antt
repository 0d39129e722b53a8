use Rattle.std.proofs.Common.{◌≡◌, ◌++◌, drop}
use Rattle.std.specs.Prelude.{codes}
use Rattle.pg_schedule.specs.Printing.{positions_text}
use Rattle.pg_schedule.proofs.print.append_crash.Given as goal

abbrev pub invariant-loop-position : goal.invariant-loop-position
invariant-loop-position l =
    l.into.items ++ positions_text (drop l.position-index l.positions) ≡ l.fn.into.items ++ (codes "crash at" ++ positions_text l.positions)
