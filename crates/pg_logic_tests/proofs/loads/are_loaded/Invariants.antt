use Rattle.std.proofs.Common.{◌≡◌}
use Rattle.pg_layers.specs.Layers.{left}
use Rattle.pg_logic_tests.proofs.loads.are_loaded.Given as goal

abbrev pub invariant-loop-case : goal.invariant-loop-case
invariant-loop-case l = (l.loader.outline ≡ l.o) × (l.region.clauses ≡ left l.loader)
