use Rattle.std.proofs.Common.{ap, arith}
use Rattle.pg_decider.specs.Held.{WorkspaceTable}
use Rattle.pg_decider.proofs.Existing.{closed-log, outcome, within-more}
use Rattle.pg_decider.proofs.workspace.Workspace.decide.Goals as goal

pub run-requires-clause-over : goal.run-requires-clause-over
run-requires-clause-over c =
    within-more c.args.reader.now.atoms c.self.inside.trail.atoms c.args.reader.now.clauses c.atoms-atoms.ensures.over
    (omega (arith, c.requires.atoms, ap (λ (w : WorkspaceTable). w.atoms) c.self.view_is))

pub returns-clause-outcome : goal.returns-clause-outcome
returns-clause-outcome c =
    outcome c.args.reader.now.atoms c.args.reader.now.clauses _ c.args.budget _ _
    (within-more c.args.reader.now.atoms c.args.reader.now.atoms c.args.reader.now.clauses c.atoms-atoms.ensures.over (omega arith)) c.run.ensures.says

pub returns-clause-closed : goal.returns-clause-closed
returns-clause-closed c =
    closed-log c.args.reader.now.clauses _ c.args.budget _ _
    (outcome c.args.reader.now.atoms c.args.reader.now.clauses _ c.args.budget _ _
    (within-more c.args.reader.now.atoms c.args.reader.now.atoms c.args.reader.now.clauses c.atoms-atoms.ensures.over (omega arith)) c.run.ensures.says)
