use Rattle.std.proofs.Common.{subst, map, sym}
use Rattle.pg_assertion.specs.Formula.{plain}
use Rattle.pg_outline.specs.Outline.{OutlineTable}
use Rattle.pg_outline.specs.Speaks.{IsOver}
use Rattle.pg_outline.proofs.Speaks.{expansion_speaks}
use Rattle.pg_outline.proofs.outline.Outline.crash_expanded.Goals as goal

pub returns-clause-speaks : goal.returns-clause-speaks
returns-clause-speaks c =
    let o = c.self.inside in
    let table : OutlineTable = record { program = o.program; pre = plain o.pre; crash = plain o.crash; notes = map (λ t. map plain t.items) o.notes.items } in
    subst (λ (q : OutlineTable). IsOver q.program (plain o.expanded)) c.self.view_is (subst (IsOver o.program) (sym c.self.invariant.1) (expansion_speaks table c.self.invariant.0))
