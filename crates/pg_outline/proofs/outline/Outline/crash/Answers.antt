use Rattle.std.proofs.Common.{subst, map}
use Rattle.pg_assertion.specs.Formula.{plain}
use Rattle.pg_outline.specs.Outline.{OutlineTable}
use Rattle.pg_outline.specs.Speaks.{IsCrashOver}
use Rattle.pg_outline.proofs.Speaks.{crash_speaks}
use Rattle.pg_outline.proofs.outline.Outline.crash.Goals as goal

pub returns-clause-speaks : goal.returns-clause-speaks
returns-clause-speaks c =
    let o = c.self.inside in
    let table : OutlineTable = record { program = o.program; pre = plain o.pre; crash = plain o.crash; notes = map (λ t. map plain t.items) o.notes.items } in
    subst (λ (q : OutlineTable). IsCrashOver q.program (plain o.crash)) c.self.view_is (crash_speaks table c.self.invariant.0)
