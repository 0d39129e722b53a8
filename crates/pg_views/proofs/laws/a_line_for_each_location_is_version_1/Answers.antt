use Rattle.pg_views.proofs.OwnLines.{lines_of_their_own_agree, version_1_has_own_lines}
use Rattle.pg_views.proofs.laws.a_line_for_each_location_is_version_1.Goals as goal

pub returns : goal.returns
returns c = record { agree = lines_of_their_own_agree; own = version_1_has_own_lines }
