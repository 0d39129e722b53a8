use Rattle.std.proofs.Common.{ap, sym}
use Rattle.pg_program.specs.Graph.{into}
use Rattle.pg_program.proofs.graph.entry.Goals as goal

pub returns-in-Some : goal.returns-in-Some
returns-in-Some c = sym (ap (λ b. into b c.args.first c.args.exit) c.in-Some.ensures)

pub returns-in-None : goal.returns-in-None
returns-in-None c = sym (ap (λ b. into b c.args.first c.args.exit) c.in-None.ensures)
