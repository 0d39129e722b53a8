use Rattle.std.proofs.Common.{rules}
use Rattle.pg_assertion_text.specs.Parsing.{formula_at}
use Rattle.pg_program_text.specs.Stmt.{formula}
use Rattle.pg_program_text.proofs.stmt.formula.Goals as goal

pub returns-in_err-f : goal.returns-in_err-f
unfolding formula formula_at
returns-in_err-f c = search rules

pub returns : goal.returns
unfolding formula formula_at
returns c = search rules
