use Rattle.std.proofs.Common.{List, sym, ap, subst, length, arith}
use Rattle.std.proofs.lemmas.Result.{err_from_is_err_and}
use Rattle.pg_region.specs.Literal.{Literal}
use Rattle.pg_region.specs.Range.{listed}
use Rattle.pg_decider.specs.Leaf.{IsLog}
use Rattle.pg_derive.proofs.Parts.{part-begun, part-tree}
use Rattle.pg_derive.proofs.writing.put_part.Goals as goal

pub put_tree-requires-clause-clauses : goal.put_tree-requires-clause-clauses
put_tree-requires-clause-clauses g c = omega (arith, ap (λ (cs : List (List Literal)). length cs) c.requires.at.clauses, c.requires.clauses)

pub put_tree-requires-clause-log : goal.put_tree-requires-clause-log
put_tree-requires-clause-log g c = subst (λ (cs : List (List Literal)). IsLog cs c.args.bench.now.log.lines) (sym c.requires.at.clauses) c.requires.log

pub returns-in_err-put_obligation-clause-part : goal.returns-in_err-put_obligation-clause-part
returns-in_err-put_obligation-clause-part g c =
    let p = err_from_is_err_and c.from_residual.result c.from_residual.ensures.1 in
    let before = g.K.Sink.written c.args.out.now in
    let after = g.K.Sink.written c.put_obligation.new.out in
    let first = g.K.Sink.faults c.args.out.now in
    let next = g.K.Sink.faults c.put_obligation.new.out in
    rw (p.1, p.2)
    (part-begun c.args.bench.now.loader.outline c.args.i c.args.bench.now.log.lines c.requires.log before after after first next next c.in_err-put_obligation.field-0.0 c.in_err-put_obligation.ensures.line)

pub returns-clause-part : goal.returns-clause-part
returns-clause-part g c =
    part-tree c.args.bench.now.loader.outline c.args.i c.args.bench.now.log.lines c.requires.log (g.K.Sink.written c.args.out.now) (g.K.Sink.written c.put_obligation.new.out)
    (g.K.Sink.written c.put_tree.new.out) (g.K.Sink.faults c.args.out.now) (g.K.Sink.faults c.put_obligation.new.out) (g.K.Sink.faults c.put_tree.new.out) c.put_tree.result
    (listed c.args.bench.now.region.clauses c.args.loaded.range) c.requires.at.clauses c.in_ok-put_obligation.ensures.line c.in_ok-put_obligation.ensures.faults c.put_tree.ensures.lines
