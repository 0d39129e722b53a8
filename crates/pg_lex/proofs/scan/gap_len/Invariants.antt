use Rattle.std.proofs.Common.{◌≡◌, ◌+◌, false, drop}
use Rattle.pg_lex.specs.Piece.{gap_len}
use Rattle.pg_lex.proofs.scan.gap_len.Given as goal

abbrev pub invariant-loop-passed : goal.invariant-loop-passed
invariant-loop-passed l =
    gap_len false l.bytes ≡ l.passed + gap_len l.in_comment (drop l.passed l.bytes)
