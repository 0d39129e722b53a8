use Rattle.pg_assertion_text.proofs.Whole.{one_reading}
use Rattle.pg_assertion_text.proofs.laws.a_formula_has_one_reading.Goals as goal

pub returns : goal.returns
returns g c = let a = g.T.ReadAtom in let law = c.agrees.ensures in one_reading a.read a.stands law.found law.again law.begins
