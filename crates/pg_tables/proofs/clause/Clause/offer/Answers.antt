use Rattle.std.proofs.Common.{ap, ◌∙◌, take, arith}
use Rattle.pg_tables.specs.Clause.{in_front, numbered}
use Rattle.pg_tables.proofs.Lists.{whole_clause}
use Rattle.pg_tables.proofs.Sinks.{Emitted-one}
use Rattle.pg_tables.proofs.clause.Clause.offer.Goals as goal

pub returns : goal.returns
returns g c =
    Emitted-one g.S.ClauseSink.takes _ _ _ _ _
    (whole_clause (numbered c.args.setting.now.layout) c.loop-i.lits (in_front c.args.setting.now.case) c.self.inside.literals c.args.self.now
    c.in_front-lits.result.1 c.loop-i.i c.from.result c.loop-i.invariant.1 (omega arith)
    (ap (λ n. take n c.self.inside.literals) c.from.ensures ∙ c.self.view_is))
    c.clause.ensures
