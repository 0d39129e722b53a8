use Rattle.pg_program.proofs.GraphLemmas.{back_to_loop, back_to_next}
use Rattle.pg_program.proofs.graph.leads.Goals as goal
use Rattle.pg_program.proofs.graph.leads.Goals.{then-is_loop, else-is_loop}

pub returns-clause-back : goal.returns-clause-back
returns-clause-back c = elim c.if-is_loop.branch [
  | then-is_loop w ↦ back_to_loop _ c.is_loop.result c.args.first c.entry-next.result c.if-is_loop.back w.back-is w.if-is_loop.true c.is_loop.ensures
  | else-is_loop w ↦ back_to_next _ c.is_loop.result c.args.first c.entry-next.result c.if-is_loop.back w.back-is w.if-is_loop.false c.is_loop.ensures
]
