use Rattle.std.proofs.Common.{ℕ, ◌+◌, ap, sym, subst, ◌∙◌, arith}
use Rattle.pg_decider.specs.Assignment.{on}
use Rattle.pg_outline.specs.Outline.{OutlineTable}
use Rattle.pg_layers.specs.Clauses.{obligation, obligation_atoms}
use Rattle.pg_layers.specs.Needs.{IsMostAtoms}
use Rattle.pg_judge.specs.Bench.{IsReady, AreDone}
use Rattle.pg_judge.proofs.Steps.{of-alike, truths-alike, one-more, met-here, spent-here, all-done}
use Rattle.pg_judge.proofs.judging.end_of.Goals as goal

pub returns-in-Model-clause-end : goal.returns-in-Model-clause-end
returns-in-Model-clause-end c =
    let d = c.decide-decided.ensures in
    let p = c.obligations.bench.loader.outline in
    let o = c.args.bench.now.loader.outline in
    let same = c.obligations.invariant.0.outline in
    let found = on c.decide-decided.new.self.workspace.literals in
    let is = of-alike p o (c.obligations.i + 1) c.args.budget _ _ c.decide-decided.new.self.log.lines found same c.in-Model.is d.decided in
    truths-alike o c.args.budget (c.obligations.i + 1) c.decide-decided.result.loaded.atoms found (d.loaded.atoms ∙ ap (λ (q : OutlineTable). obligation_atoms q (obligation q (c.obligations.i + 1))) same)
    (met-here o c.args.budget c.obligations.i c.obligations.nodes c.in-Model.field-0 c.decide-decided.new.self.log.lines found c.obligations.invariant.1 (omega (arith, c.obligations-test.true, c.requires.count)) is)

pub returns-in-Model-clause-room : goal.returns-in-Model-clause-room
returns-in-Model-clause-room c = (subst (λ (q : OutlineTable). IsMostAtoms q c.decide-decided.new.self.workspace.atoms) c.obligations.invariant.0.outline c.decide-decided.ensures.ready.atoms)

pub returns-in-Spent-clause-end : goal.returns-in-Spent-clause-end
returns-in-Spent-clause-end c =
    let p = c.obligations.bench.loader.outline in
    let o = c.args.bench.now.loader.outline in
    let found = on c.decide-decided.new.self.workspace.literals in
    let is = of-alike p o (c.obligations.i + 1) c.args.budget _ _ c.decide-decided.new.self.log.lines found c.obligations.invariant.0.outline c.in-Spent.is c.decide-decided.ensures.decided in
    spent-here o c.args.budget c.obligations.i c.obligations.nodes c.decide-decided.new.self.log.lines found c.obligations.invariant.1 (omega (arith, c.obligations-test.true, c.requires.count)) is

pub returns-in-Spent-clause-room : goal.returns-in-Spent-clause-room
returns-in-Spent-clause-room c = (subst (λ (q : OutlineTable). IsMostAtoms q c.decide-decided.new.self.workspace.atoms) c.obligations.invariant.0.outline c.decide-decided.ensures.ready.atoms)

pub obligations-preserved : goal.obligations-preserved
obligations-preserved c =
    let p = c.obligations.bench.loader.outline in
    let o = c.args.bench.now.loader.outline in
    let same = c.obligations.invariant.0.outline in
    let new = c.decide-decided.new.self in
    let found = on new.workspace.literals in
    let is = of-alike p o (c.obligations.i + 1) c.args.budget _ _ new.log.lines found same c.in-Closed.is c.decide-decided.ensures.decided in (
      subst (λ (q : OutlineTable). IsReady q c.args.budget new.loader new.region new.workspace new.log) same c.decide-decided.ensures.ready,
      subst (λ (n : ℕ). AreDone o c.args.budget (c.obligations.i + 1) (c.obligations.nodes + n)) (sym c.from-nodes.ensures)
          (one-more o c.args.budget c.obligations.i c.obligations.nodes c.in-Closed.visited new.log.lines found c.obligations.invariant.1 c.requires.budget.1 is),
    )

pub returns-clause-end : goal.returns-clause-end
returns-clause-end c =
    let o = c.args.bench.now.loader.outline in
    all-done o c.args.budget c.args.count c.obligations.nodes
    (subst (λ (k : ℕ). AreDone o c.args.budget k c.obligations.nodes) (omega (arith, c.obligations.auto.i-end, c.obligations-test.false)) c.obligations.invariant.1) c.requires.count
