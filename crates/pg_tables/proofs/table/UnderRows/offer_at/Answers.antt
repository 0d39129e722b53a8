use Rattle.pg_tables.proofs.Lists.{under-written}
use Rattle.pg_tables.proofs.table.UnderRows.offer_at.Goals as goal

pub returns : goal.returns
returns g c = rw (← under-written c.args.setting.now c.args.self.now.0 (g.A.Rows.rows c.args.setting.now.layout c.args.self.now.1 c.args.i) c.requires.0) c.offer_at.ensures
