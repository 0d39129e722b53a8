use Rattle.std.proofs.Common.{◌≤◌, length, ap, subst, arith}
use Rattle.pg_decider.specs.Assignment.{on}
use Rattle.pg_outline.specs.Outline.{OutlineTable}
use Rattle.pg_program.specs.Limits.{most_scalars}
use Rattle.pg_program.specs.NameTable.{NameTable}
use Rattle.pg_program.specs.Program.{ProgramTable}
use Rattle.pg_judge.specs.Outcome.{outcome_of}
use Rattle.pg_judge.specs.Bench.{IsEnd}
use Rattle.pg_judge.proofs.Ready.{most-few}
use Rattle.pg_judge.proofs.Said.{outcome-true}
use Rattle.pg_judge.proofs.judging.check.Goals as goal

pub judgement-requires-clause-room : goal.judgement-requires-clause-room
judgement-requires-clause-room c =
    let o = c.in_ok-bench.bench.loader.outline in
    let most = most-few o c.end_of-end.new.bench.workspace.atoms c.needs.result.atoms c.end_of-end.ensures.room c.needs.ensures.atoms in
    omega (arith, most, c.in_ok-truths.ensures.capacity)

pub returns : goal.returns
returns c =
    let o = c.args.o.now in
    let end = subst (λ (q : OutlineTable). IsEnd q c.args.budget (on c.end_of-end.new.bench.workspace.literals) c.end_of-end.result) c.in_ok-bench.ensures.outline c.end_of-end.ensures.end in
    let few : length o.program.names.scalars ≤ most_scalars = omega (arith, ap (λ (p : ProgramTable). length p.names.scalars) c.program.ensures.program, ap (λ (n : NameTable). length n.scalars) c.names.ensures.names, c.scalars-scalars.ensures.count, c.scalars-scalars.ensures.few) in
    let outcome = c.judgement.ensures o c.args.budget end in
    record { outcome = outcome; says = outcome-true o c.args.budget (outcome_of c.judgement.result) c.program.ensures.made few outcome }
