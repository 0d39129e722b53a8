use Rattle.pg_judge.specs.Bench.{IsReady, AreDone}
use Rattle.pg_judge.proofs.judging.end_of.Given as goal

abbrev pub invariant-obligations : goal.invariant-obligations
invariant-obligations l =
    let o = l.fn.bench.loader.outline in
    IsReady o l.budget l.bench.loader l.bench.region l.bench.workspace l.bench.log × AreDone o l.budget l.i l.nodes
