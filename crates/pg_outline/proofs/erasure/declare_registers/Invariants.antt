use Rattle.std.proofs.Common.{◌≡◌}
use Rattle.pg_outline.proofs.EraseNames.{registered}
use Rattle.pg_outline.proofs.erasure.declare_registers.Given as goal

-- the locations are declared, and then the registers so far
abbrev pub invariant-loop-r : goal.invariant-loop-r
invariant-loop-r l = l.kept ≡ registered l.names l.r
