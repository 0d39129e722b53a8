use Rattle.std.proofs.Common.{[], ◌∷◌, ◌++◌, ap, ◌∙◌, arith}
use Rattle.pg_program.specs.declared.syntax.Stmt.{Stmt}
use Rattle.pg_made.specs.Made.{statement}
use Rattle.pg_made.proofs.Turns.{one_more}
use Rattle.pg_made.proofs.program.statements.Goals as goal

pub turns-preserved : goal.turns-preserved
turns-preserved c =
    one_more statement c.turns.j c.turns.statements.items c.push.new.self.items (omega arith) c.turns.invariant
    (c.in_ok-push.ensures.items ∙ ap (λ (s : Stmt). c.turns.statements.items ++ s ∷ []) c.statement.ensures)
