use Rattle.std.proofs.Common.{◌≡◌, ◌^◌, ◌<◌, drop}
use Rattle.pg_lex.specs.Piece.{value, value_from}
use Rattle.pg_lex.proofs.scan.value.Given as goal

abbrev pub invariant-loop-byte : goal.invariant-loop-byte
invariant-loop-byte l =
    (value_from l.n (drop l.byte-index l.digits) ≡ value l.digits) × (l.n < 2 ^ 32)
