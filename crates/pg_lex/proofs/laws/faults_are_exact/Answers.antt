use Rattle.pg_lex.proofs.Cursors.{faults_are_exact}
use Rattle.pg_lex.proofs.laws.faults_are_exact.Goals as goal

pub returns : goal.returns
returns c = faults_are_exact
