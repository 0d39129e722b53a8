use Rattle.std.proofs.Common.{◌≡◌, drop}
use Rattle.pg_program.specs.Fault.{unknown_owner}
use Rattle.pg_program.proofs.clause.check_owners.Given as goal

-- the owners so far are threads
abbrev pub invariant-loop-r : goal.invariant-loop-r
invariant-loop-r l = unknown_owner l.threads (drop l.r l.names.scalars) ≡ unknown_owner l.threads l.names.scalars
