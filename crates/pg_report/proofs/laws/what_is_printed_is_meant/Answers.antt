use Rattle.pg_report.proofs.Meant.{printed_is_meant}
use Rattle.pg_report.proofs.laws.what_is_printed_is_meant.Goals as goal

pub returns : goal.returns
returns c = printed_is_meant
