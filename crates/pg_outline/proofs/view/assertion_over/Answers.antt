use Rattle.pg_assertion.specs.Formula.{plain}
use Rattle.pg_outline.proofs.Speaks.{made_speaks}
use Rattle.pg_outline.proofs.view.assertion_over.Goals as goal

pub returns-clause-speaks : goal.returns-clause-speaks
returns-clause-speaks c = made_speaks c.args.program.now (plain c.args.f.now) c.viewed.result (rw (c.of.ensures.domain, c.of.ensures.threads) at c.viewed.ensures)
