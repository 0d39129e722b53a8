use Rattle.pg_assertion_text.proofs.FirstsAtoms.{crash_answer_is_first}
use Rattle.pg_assertion_text.proofs.parse.parse_crash.Goals as goal

pub returns-clause-first : goal.returns-clause-first
returns-clause-first c = crash_answer_is_first c.args.names.now c.locations-locations.ensures.distinct c.args.lexer.now c.parsed.new.lexer c.parsed.result c.parsed.ensures.exact
