use Rattle.std.proofs.Common.{◌≡◌, ◌+◌, ◌≤◌, drop, length}
use Rattle.pg_program.specs.Words.{different}
use Rattle.pg_program.proofs.words.different.Given as goal

-- the different numbers among the others are still to be counted
abbrev pub invariant-loop-i : goal.invariant-loop-i
invariant-loop-i l = (l.count + length (different (drop l.i l.numbers)) ≡ length (different l.numbers)) × (l.count ≤ l.i)
