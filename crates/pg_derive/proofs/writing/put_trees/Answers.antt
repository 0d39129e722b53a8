use Rattle.std.proofs.Common.{ℕ, ◌+◌, ◌-◌, ◌≤◌, List, length, ap, sym, subst, ◌∙◌, arith}
use Rattle.std.specs.Prelude.{Err}
use Rattle.std.proofs.lemmas.Result.{err_from_is_err_and}
use Rattle.pg_decider.specs.Assignment.{on}
use Rattle.pg_decider.specs.Leaf.{IsLog}
use Rattle.pg_decider.specs.Outcome.{IfClosed}
use Rattle.pg_decider.specs.declared.verdict.Verdict.{Verdict}
use Rattle.pg_outline.specs.Outline.{OutlineTable}
use Rattle.pg_layers.specs.Clauses.{obligation, obligation_atoms, obligation_clauses}
use Rattle.pg_layers.specs.Needs.{IsMostAtoms}
use Rattle.pg_judge.specs.Bench.{IsReady, IsAt, AreDone}
use Rattle.pg_judge.specs.declared.bench.End.{End}
use Rattle.pg_judge.proofs.Steps.{of-alike, truths-alike, none-done, one-more, met-here, spent-here, all-done}
use Rattle.pg_derive.specs.Puts.{Puts, PutsText}
use Rattle.pg_derive.specs.Begun.{IsWholeText, IsPartText, AreTexts, closed_at}
use Rattle.pg_derive.proofs.Parts.{closed-here, turned-ready, header-begun, header-put, tree-begun, tree-put, trees-put}
use Rattle.pg_derive.proofs.writing.put_trees.Goals as goal

pub returns-in_err-put_header-clause-trees : goal.returns-in_err-put_header-clause-trees
returns-in_err-put_header-clause-trees g c =
    let p = err_from_is_err_and c.from_residual.result c.from_residual.ensures.1 in
    let o = c.args.bench.now.loader.outline in
    rw (p.1, p.2)
    (header-begun o c.args.budget (λ (end : End) (text : List ℕ). AreTexts o (closed_at end) text) c.in_err-put_header.field-0.0 (g.K.Sink.written c.args.out.now) (g.K.Sink.written c.put_header.new.out)
    (g.K.Sink.faults c.args.out.now) (g.K.Sink.faults c.put_header.new.out) c.in_err-put_header.ensures.line)

pub obligations-init : goal.obligations-init
obligations-init g c =
    let o = c.args.bench.now.loader.outline in (
      c.requires.ready,
      none-done o c.args.budget,
      header-put o c.args.budget (g.K.Sink.written c.args.out.now) (g.K.Sink.written c.put_header.new.out) (g.K.Sink.faults c.args.out.now) (g.K.Sink.faults c.put_header.new.out)
          c.in_ok-put_header.ensures.line c.in_ok-put_header.ensures.faults,
    )

pub put_part-requires-clause-at : goal.put_part-requires-clause-at
put_part-requires-clause-at g c =
    let new = c.decide-decided.new.self in
    subst (λ (q : OutlineTable). IsAt q (c.obligations.i + 1) new.region.clauses c.decide-decided.result.loaded) (sym c.decide-decided.ensures.ready.outline) c.decide-decided.ensures.loaded

pub put_part-requires-clause-clauses : goal.put_part-requires-clause-clauses
put_part-requires-clause-clauses g c =
    let i = c.obligations.i + 1 in
    subst (λ (q : OutlineTable). length (obligation_clauses q (obligation q i)) ≤ c.decide-decided.new.self.workspace.clauses) (sym c.decide-decided.ensures.ready.outline) c.decide-decided.ensures.fit

pub put_part-requires-clause-log : goal.put_part-requires-clause-log
put_part-requires-clause-log g c =
    let i = c.obligations.i + 1 in
    let p = c.obligations.bench.loader.outline in
    let lines = c.decide-decided.new.self.log.lines in
    subst (λ (q : OutlineTable). IsLog (obligation_clauses q (obligation q i)) lines) (sym c.decide-decided.ensures.ready.outline)
    (subst (λ (v : Verdict). IfClosed v (IsLog (obligation_clauses p (obligation p i)) lines)) c.in-Closed.is c.decide-decided.ensures.closed)

pub returns-in_err-put_part-in-Closed-clause-trees : goal.returns-in_err-put_part-in-Closed-clause-trees
returns-in_err-put_part-in-Closed-clause-trees g c =
    let e = err_from_is_err_and c.from_residual-in_err-put_part-in-Closed.result c.from_residual-in_err-put_part-in-Closed.ensures.1 in
    let i = c.obligations.i in
    let p = c.obligations.bench.loader.outline in
    let o = c.args.bench.now.loader.outline in
    let new = c.decide-decided.new.self in
    let found = on new.workspace.literals in
    let same = c.obligations.invariant.0.outline in
    let is = of-alike p o (i + 1) c.args.budget _ _ new.log.lines found same c.in-Closed.is c.decide-decided.ensures.decided in
    let mid = g.K.Sink.written c.obligations.out in
    let after = g.K.Sink.written c.put_part.new.out in
    let between = g.K.Sink.faults c.obligations.out in
    let now = g.K.Sink.faults c.put_part.new.out in
    let fault = c.in_err-put_part-in-Closed.field-0.0 in
    let part = subst (λ (q : OutlineTable). Puts (λ (_ : Unit {0}) (text : List ℕ). IsWholeText q (i + 1) text) (IsPartText q (i + 1)) (Err fault) mid after between now)
    (c.decide-decided.ensures.ready.outline ∙ same) c.in_err-put_part-in-Closed.ensures.part in
    rw (e.1, e.2)
    (tree-begun o c.args.budget (λ (end : End) (text : List ℕ). AreTexts o (closed_at end) text) i c.obligations.nodes c.in-Closed.visited fault (g.K.Sink.written c.args.out.now) mid after
    (g.K.Sink.faults c.args.out.now) between now c.obligations.invariant.2 c.obligations.invariant.1.closed (closed-here o c.args.budget (i + 1) c.in-Closed.visited new.log.lines found is)
    (omega (arith, c.obligations-test.true, c.requires.count)) part)

pub obligations-preserved : goal.obligations-preserved
obligations-preserved g c =
    let i = c.obligations.i in
    let p = c.obligations.bench.loader.outline in
    let o = c.args.bench.now.loader.outline in
    let same = c.obligations.invariant.0.outline in
    let new = c.decide-decided.new.self in
    let turned = c.put_part.new.bench in
    let found = on new.workspace.literals in
    let is = of-alike p o (i + 1) c.args.budget _ _ new.log.lines found same c.in-Closed.is c.decide-decided.ensures.decided in
    let mid = g.K.Sink.written c.obligations.out in
    let after = g.K.Sink.written c.put_part.new.out in
    let part = subst (λ (q : OutlineTable). PutsText (IsWholeText q (i + 1)) mid after) (c.decide-decided.ensures.ready.outline ∙ same) c.in_ok-put_part-in-Closed.ensures.part in (
      turned-ready o c.args.budget new.loader turned.loader new.region turned.region new.workspace turned.workspace new.log turned.log
          (subst (λ (q : OutlineTable). IsReady q c.args.budget new.loader new.region new.workspace new.log) same c.decide-decided.ensures.ready) c.in_ok-put_part-in-Closed.ensures.bench,
      subst (λ (n : ℕ). AreDone o c.args.budget (i + 1) (c.obligations.nodes + n)) (sym c.from-nodes.ensures)
          (one-more o c.args.budget i c.obligations.nodes c.in-Closed.visited new.log.lines found c.obligations.invariant.1 c.requires.budget.1 is),
      tree-put o c.args.budget i (g.K.Sink.written c.args.out.now) mid after (g.K.Sink.faults c.args.out.now) (g.K.Sink.faults c.obligations.out) (g.K.Sink.faults c.put_part.new.out)
          c.obligations.invariant.2 part c.in_ok-put_part-in-Closed.ensures.faults,
    )

pub returns-in-Model-clause-end : goal.returns-in-Model-clause-end
returns-in-Model-clause-end g c =
    let d = c.decide-decided.ensures in
    let p = c.obligations.bench.loader.outline in
    let o = c.args.bench.now.loader.outline in
    let same = c.obligations.invariant.0.outline in
    let found = on c.decide-decided.new.self.workspace.literals in
    let is = of-alike p o (c.obligations.i + 1) c.args.budget _ _ c.decide-decided.new.self.log.lines found same c.in-Model.is d.decided in
    truths-alike o c.args.budget (c.obligations.i + 1) c.decide-decided.result.loaded.atoms found
    (d.loaded.atoms ∙ ap (λ (q : OutlineTable). obligation_atoms q (obligation q (c.obligations.i + 1))) same)
    (met-here o c.args.budget c.obligations.i c.obligations.nodes c.in-Model.field-0 c.decide-decided.new.self.log.lines found c.obligations.invariant.1
    (omega (arith, c.obligations-test.true, c.requires.count)) is)

pub returns-in-Model-clause-room : goal.returns-in-Model-clause-room
returns-in-Model-clause-room g c =
    (subst (λ (q : OutlineTable). IsMostAtoms q c.decide-decided.new.self.workspace.atoms) c.obligations.invariant.0.outline c.decide-decided.ensures.ready.atoms)

pub returns-in-Model-clause-trees : goal.returns-in-Model-clause-trees
returns-in-Model-clause-trees g c =
    trees-put c.args.bench.now.loader.outline c.args.budget c.obligations.i (c.obligations.i + 1 - 1) (g.K.Sink.written c.args.out.now) (g.K.Sink.written c.obligations.out)
    (g.K.Sink.faults c.args.out.now) (g.K.Sink.faults c.obligations.out) (omega arith) c.obligations.invariant.2

pub returns-in-Spent-clause-end : goal.returns-in-Spent-clause-end
returns-in-Spent-clause-end g c =
    let p = c.obligations.bench.loader.outline in
    let o = c.args.bench.now.loader.outline in
    let found = on c.decide-decided.new.self.workspace.literals in
    let is = of-alike p o (c.obligations.i + 1) c.args.budget _ _ c.decide-decided.new.self.log.lines found c.obligations.invariant.0.outline c.in-Spent.is c.decide-decided.ensures.decided in
    spent-here o c.args.budget c.obligations.i c.obligations.nodes c.decide-decided.new.self.log.lines found c.obligations.invariant.1 (omega (arith, c.obligations-test.true, c.requires.count)) is

pub returns-in-Spent-clause-room : goal.returns-in-Spent-clause-room
returns-in-Spent-clause-room g c =
    (subst (λ (q : OutlineTable). IsMostAtoms q c.decide-decided.new.self.workspace.atoms) c.obligations.invariant.0.outline c.decide-decided.ensures.ready.atoms)

pub returns-in-Spent-clause-trees : goal.returns-in-Spent-clause-trees
returns-in-Spent-clause-trees g c =
    trees-put c.args.bench.now.loader.outline c.args.budget c.obligations.i (c.obligations.i + 1 - 1) (g.K.Sink.written c.args.out.now) (g.K.Sink.written c.obligations.out)
    (g.K.Sink.faults c.args.out.now) (g.K.Sink.faults c.obligations.out) (omega arith) c.obligations.invariant.2

pub returns-clause-end : goal.returns-clause-end
returns-clause-end g c =
    let o = c.args.bench.now.loader.outline in
    all-done o c.args.budget c.args.count c.obligations.nodes
    (subst (λ (k : ℕ). AreDone o c.args.budget k c.obligations.nodes) (omega (arith, c.obligations.auto.i-end, c.obligations-test.false)) c.obligations.invariant.1) c.requires.count

pub returns-clause-trees : goal.returns-clause-trees
returns-clause-trees g c =
    trees-put c.args.bench.now.loader.outline c.args.budget c.obligations.i c.args.count (g.K.Sink.written c.args.out.now) (g.K.Sink.written c.obligations.out) (g.K.Sink.faults c.args.out.now)
    (g.K.Sink.faults c.obligations.out) (omega (arith, c.obligations.auto.i-end, c.obligations-test.false)) c.obligations.invariant.2
