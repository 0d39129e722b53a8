use Rattle.pg_axioms.proofs.SetPairs.{sets-by-place}
use Rattle.pg_axioms.proofs.sets.SetsNestRowsTuple2UnitU8.offer_at.Goals as goal

pub returns : goal.returns
returns g c = rw (← sets-by-place c.args.setting.now.layout c.args.self.now.side c.args.i.1) c.offer_at.ensures
