use Rattle.std.proofs.Common.{sym, ◌∙◌, arith}
use Rattle.std.proofs.lemmas.Result.{MatchResult-weaker}
use Rattle.pg_region.specs.Range.{listed}
use Rattle.pg_layers.specs.Clauses.{obligation}
use Rattle.pg_judge.proofs.Ready.{atoms-few}
use Rattle.pg_derive.proofs.Desks.{still-set, fault-here}
use Rattle.pg_derive.proofs.desk.Desk.check.Goals as goal

pub returns-clause-set : goal.returns-clause-set
returns-clause-set c =
    let k = c.args.self.now.loader in
    still-set k.outline k c.load.new.self (obligation k.outline c.args.i) c.args.self.now.region c.load.new.region c.args.self.now.trail c.check_tree.new.trail c.in-Ok.loaded c.requires.set
    c.in-Ok.ensures.0 c.in-Ok.ensures.1 c.check_tree.ensures.kept

pub returns-clause-fault : goal.returns-clause-fault
returns-clause-fault c =
    let o = c.args.self.now.loader.outline in
    let trail = c.args.self.now.trail in
    let loaded = c.in-Ok.loaded in
    let few = atoms-few o trail c.args.i c.requires.set.most c.requires.number.0 c.requires.number.1 in
    let here = fault-here o c.args.i trail loaded.atoms (listed c.load.new.region.clauses loaded.range) c.args.tree.now c.in-Ok.ensures.1.atoms c.in-Ok.ensures.1.clauses
    (omega (arith, few, c.in-Ok.ensures.1.atoms)) in
    MatchResult-weaker c.check_tree.result c.check_tree.ensures.exact (λ u e. sym here ∙ e) (λ f e. sym here ∙ e)
