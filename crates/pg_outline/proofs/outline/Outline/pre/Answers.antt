use Rattle.std.proofs.Common.{subst, map}
use Rattle.pg_assertion.specs.Formula.{plain}
use Rattle.pg_outline.specs.Outline.{OutlineTable}
use Rattle.pg_outline.specs.Speaks.{IsOver}
use Rattle.pg_outline.proofs.Speaks.{pre_speaks}
use Rattle.pg_outline.proofs.outline.Outline.pre.Goals as goal

pub returns-clause-speaks : goal.returns-clause-speaks
returns-clause-speaks c =
    let o = c.self.inside in
    let table : OutlineTable = record { program = o.program; pre = plain o.pre; crash = plain o.crash; notes = map (λ t. map plain t.items) o.notes.items } in
    subst (λ (q : OutlineTable). IsOver q.program (plain o.pre)) c.self.view_is (pre_speaks table c.self.invariant.0)
