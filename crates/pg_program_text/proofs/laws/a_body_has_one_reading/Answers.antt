use Rattle.pg_program_text.proofs.ThreadComplete.{one_reading}
use Rattle.pg_program_text.proofs.laws.a_body_has_one_reading.Goals as goal

pub returns : goal.returns
returns c = one_reading
