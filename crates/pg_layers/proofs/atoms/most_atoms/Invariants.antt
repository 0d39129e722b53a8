use Rattle.std.proofs.Common.{map}
use Rattle.pg_obligations.specs.Obligations.{obligations}
use Rattle.pg_layers.specs.Clauses.{obligation_atoms}
use Rattle.pg_layers.proofs.Greatest.{IsSoFar}
use Rattle.pg_layers.proofs.atoms.most_atoms.Given as goal

abbrev pub invariant-loop-i : goal.invariant-loop-i
invariant-loop-i l = IsSoFar (map (obligation_atoms l.o) (obligations l.o.program)) l.i l.most
