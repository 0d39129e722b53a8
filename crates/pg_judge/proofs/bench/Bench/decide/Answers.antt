use Rattle.std.proofs.Common.{ap, arith}
use Rattle.pg_region.specs.Reading.{Reading}
use Rattle.pg_layers.specs.Clauses.{obligation}
use Rattle.pg_judge.proofs.Ready.{atoms-few, stays-ready}
use Rattle.pg_judge.proofs.bench.Bench.decide.Goals as goal

pub decide-verdict-requires-clause-atoms : goal.decide-verdict-requires-clause-atoms
decide-verdict-requires-clause-atoms c =
    let o = c.args.self.now.loader.outline in
    let few = atoms-few o c.args.self.now.workspace.atoms c.args.i c.requires.ready.atoms c.requires.number.0 c.requires.number.1 in
    omega (arith, ap (λ (r : Reading). r.atoms) c.of-reader.ensures, c.in-Ok.ensures.1.atoms, few)

pub returns-clause-ready : goal.returns-clause-ready
returns-clause-ready c =
    let k = c.args.self.now.loader in
    stays-ready k.outline c.args.budget k c.load.new.self (obligation k.outline c.args.i) c.args.self.now.region c.load.new.region
    c.args.self.now.workspace c.decide-verdict.new.self c.args.self.now.log c.decide-verdict.new.log c.in-Ok.loaded
    c.requires.ready c.in-Ok.ensures.0 c.in-Ok.ensures.1 c.decide-verdict.ensures.made.0 c.decide-verdict.ensures.made.1 c.decide-verdict.ensures.room

pub returns-clause-few : goal.returns-clause-few
returns-clause-few c =
    let o = c.args.self.now.loader.outline in
    let few = atoms-few o c.args.self.now.workspace.atoms c.args.i c.requires.ready.atoms c.requires.number.0 c.requires.number.1 in
    omega (arith, c.decide-verdict.ensures.made.0, c.in-Ok.ensures.1.atoms, few)
