use Rattle.pg_program_text.proofs.Blamed.{answer_blames}
use Rattle.pg_program_text.proofs.ThreadComplete.{answer_found, answer_only}
use Rattle.pg_program_text.proofs.thread.parse_thread.Goals as goal

pub returns-clause-found : goal.returns-clause-found
returns-clause-found c = answer_found c.args.names.now c.args.lexer.now c.read_thread.new.lexer c.read_thread.result c.read_thread.ensures.exact

pub returns-clause-only : goal.returns-clause-only
returns-clause-only c = answer_only c.args.names.now c.args.lexer.now c.read_thread.new.lexer c.read_thread.result c.read_thread.ensures.exact

pub returns-clause-blames : goal.returns-clause-blames
returns-clause-blames c = answer_blames c.args.names.now c.args.lexer.now c.read_thread.new.lexer c.read_thread.result c.read_thread.ensures.exact
