use Rattle.pg_program.specs.Block.{block}
use Rattle.pg_program_text.proofs.SpellingDeclared.{block_declared}
use Rattle.pg_assertion.specs.Formula.{plain}
use Rattle.std.proofs.Common.{map}
use Rattle.pg_program_text.proofs.Again.{read_again}
use Rattle.pg_program_text.proofs.print.print_thread.Goals as goal

pub spell_block-requires-clause-stmts : goal.spell_block-requires-clause-stmts
spell_block-requires-clause-stmts c = block_declared c.args.names.now (block c.args.stmts.now) c.requires.stmts

pub returns-clause-again : goal.returns-clause-again
returns-clause-again c = read_again c.args.names.now c.args.stmts.now (map plain c.args.notes.now)

pub returns-in_err-rest-clause-again : goal.returns-in_err-rest-clause-again
returns-in_err-rest-clause-again c = read_again c.args.names.now c.args.stmts.now (map plain c.args.notes.now)

pub returns-in_err-_rest-clause-again : goal.returns-in_err-_rest-clause-again
returns-in_err-_rest-clause-again c = read_again c.args.names.now c.args.stmts.now (map plain c.args.notes.now)
