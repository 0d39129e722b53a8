use Rattle.pg_derive.proofs.Desks.{first-set}
use Rattle.pg_derive.proofs.desk.Desk.make.Goals as goal

pub returns : goal.returns
returns c =
    first-set c.args.o.now c.needs-needs.result.words c.needs-needs.result.spans c.needs-needs.result.atoms c.in_ok-trail.trail c.of-loader.result c.in_ok-region.region c.of-loader.ensures
    c.needs-needs.ensures.words c.needs-needs.ensures.spans c.needs-needs.ensures.atoms c.in_ok-region.ensures c.in_ok-trail.ensures
