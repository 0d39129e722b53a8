use Rattle.pg_assertion_text.proofs.Whole.{answer_found, answer_only}
use Rattle.pg_assertion_text.proofs.parse.parsed.Goals as goal

pub returns-clause-found : goal.returns-clause-found
returns-clause-found g c =
    let a = g.T.ReadAtom in let law = c.agrees.ensures in
    answer_found a.read a.stands law.found law.again law.begins c.args.names.now c.args.lexer.now c.read_whole.new.lexer c.read_whole.result c.read_whole.ensures.exact

pub returns-clause-only : goal.returns-clause-only
returns-clause-only g c =
    let a = g.T.ReadAtom in let law = c.agrees.ensures in
    answer_only a.read a.stands law.found law.again law.begins c.args.names.now c.args.lexer.now c.read_whole.new.lexer c.read_whole.result c.read_whole.ensures.exact
