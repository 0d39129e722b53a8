use Rattle.pg_program_text.proofs.Again.{read_again}
use Rattle.pg_program_text.proofs.laws.threads_are_read_again.Goals as goal

pub returns : goal.returns
returns c = read_again
