use Rattle.pg_program_text.proofs.Declared.{bodies_are_threads}
use Rattle.pg_cases.proofs.texts.thread.Goals as goal

pub returns : goal.returns
returns c = (bodies_are_threads _ _ _ _ c.in_ok-stmts.ensures.found).thread
