use Rattle.std.proofs.Common.{ap, sym, ◌∙◌}
use Rattle.pg_layers.specs.Layers.{left}
use Rattle.pg_logic_tests.proofs.loads.load.Goals as goal

pub returns-clause-laid : goal.returns-clause-laid
returns-clause-laid c = c.in_ok-load.ensures.1.laid ∙ ap left (sym c.in_ok-load.ensures.0)
