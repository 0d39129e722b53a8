use Rattle.std.proofs.Common.{◌≡◌}
use Rattle.pg_outline.specs.Erasure.{first_locations}
use Rattle.pg_outline.proofs.erasure.declare_locations.Given as goal

-- the locations so far are declared
abbrev pub invariant-loop-x : goal.invariant-loop-x
invariant-loop-x l = l.kept ≡ first_locations l.x l.names
