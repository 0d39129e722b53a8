use Rattle.std.proofs.Common.{List, ℕ}
use Rattle.std.proofs.lemmas.Result.{err_from_is_err_and}
use Rattle.pg_decider.specs.Assignment.{on}
use Rattle.pg_judge.specs.declared.bench.End.{End}
use Rattle.pg_judge.proofs.Rejected.{clauses-over}
use Rattle.pg_derive.specs.Begun.{AreTexts, IsEndText, closed_at}
use Rattle.pg_derive.proofs.Parts.{begun-under, end-fault, end-put}
use Rattle.pg_derive.proofs.writing.put_derivation.Goals as goal

pub returns-in_err-end-clause-derivation : goal.returns-in_err-end-clause-derivation
returns-in_err-end-clause-derivation g c =
    let p = err_from_is_err_and c.from_residual.result c.from_residual.ensures.1 in
    let o = c.args.bench.now.loader.outline in
    rw (p.1, p.2)
    (begun-under o c.args.budget (λ i from to. clauses-over o i c.requires.made from to) (λ (end : End) (text : List ℕ). AreTexts o (closed_at end) text)
    (λ (end : End) (text : List ℕ). IsEndText o end text) c.in_err-end.field-0.0 (g.K.Sink.written c.args.out.now) (g.K.Sink.written c.put_trees.new.out)
    (g.K.Sink.faults c.args.out.now) (g.K.Sink.faults c.put_trees.new.out) c.in_err-end.ensures.trees)

pub returns-in_err-put_end-clause-derivation : goal.returns-in_err-put_end-clause-derivation
returns-in_err-put_end-clause-derivation g c =
    let p = err_from_is_err_and c.from_residual-in_err-put_end.result c.from_residual-in_err-put_end.ensures.1 in
    let o = c.args.bench.now.loader.outline in
    rw (p.1, p.2)
    (end-fault o c.args.budget (λ (end : End) (text : List ℕ). IsEndText o end text) (on c.put_trees.new.bench.workspace.literals) c.in_ok-end.end c.in_err-put_end.field-0.0
    (g.K.Sink.written c.args.out.now) (g.K.Sink.written c.put_trees.new.out) (g.K.Sink.written c.put_end.new.out) (g.K.Sink.faults c.args.out.now)
    (g.K.Sink.faults c.put_trees.new.out) (g.K.Sink.faults c.put_end.new.out) c.in_ok-end.ensures.end c.in_ok-end.ensures.trees c.in_ok-end.ensures.faults c.in_err-put_end.ensures.line)

pub returns-clause-derivation : goal.returns-clause-derivation
returns-clause-derivation g c =
    end-put c.args.bench.now.loader.outline c.args.budget c.in_ok-end.end (g.K.Sink.written c.args.out.now) (g.K.Sink.written c.put_trees.new.out) (g.K.Sink.written c.put_end.new.out)
    c.in_ok-end.ensures.trees c.in_ok-put_end.ensures.line
