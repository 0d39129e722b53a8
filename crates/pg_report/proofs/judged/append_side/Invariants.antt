use Rattle.std.proofs.Common.{◌≡◌, ◌++◌}
use Rattle.pg_report.proofs.TrueAtoms.{first_lines}
use Rattle.pg_report.proofs.judged.append_side.Given as goal

abbrev pub invariant-atoms : goal.invariant-atoms
invariant-atoms l = l.text.items ≡ l.initial.text.items ++ first_lines l.o l.truths l.side l.n
