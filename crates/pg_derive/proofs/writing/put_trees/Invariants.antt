use Rattle.pg_judge.specs.Bench.{IsReady, AreDone}
use Rattle.pg_derive.specs.SoFar.{IsSoFar}
use Rattle.pg_derive.proofs.writing.put_trees.Given as goal

abbrev pub invariant-obligations : goal.invariant-obligations
invariant-obligations g l =
    let o = l.fn.bench.loader.outline in
    IsReady o l.budget l.bench.loader l.bench.region l.bench.workspace l.bench.log × AreDone o l.budget l.i l.nodes
    × IsSoFar o l.i (g.K.Sink.written l.fn.out) (g.K.Sink.written l.out) (g.K.Sink.faults l.fn.out) (g.K.Sink.faults l.out)
