use Rattle.std.proofs.Common.{ap, arith}
use Rattle.pg_decider.specs.Held.{LogTable}
use Rattle.pg_judge.proofs.Ready.{first-ready}
use Rattle.pg_judge.proofs.bench.Bench.make.Goals as goal

pub returns : goal.returns
returns c =
    first-ready c.args.o.now c.args.nodes c.needs-needs.result.words c.needs-needs.result.spans c.needs-needs.result.atoms c.of-loader.result c.in_ok-region.region
    c.in_ok-workspace.workspace c.in_ok-log.log c.of-loader.ensures c.needs-needs.ensures.words c.needs-needs.ensures.spans c.needs-needs.ensures.atoms
    c.in_ok-region.ensures c.in_ok-workspace.ensures.0 c.in_ok-workspace.ensures.1 (omega (arith, ap (λ (l : LogTable). l.room) c.in_ok-log.ensures))
