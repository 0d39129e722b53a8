use Rattle.std.proofs.Common.{◌≡◌, ◌++◌, take}
use Rattle.pg_derivation.specs.Text.{numbers_text}
use Rattle.pg_derivation.proofs.lines.append_numbers.Given as goal

abbrev pub invariant-loop-number : goal.invariant-loop-number
invariant-loop-number l = l.line.items ≡ l.initial.line.items ++ numbers_text (take l.number-index l.numbers)
