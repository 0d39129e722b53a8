use Rattle.std.proofs.Common.{◌≤◌, ℕ, List, length, ap, subst, arith}
use Rattle.std.specs.Prelude.{Err}
use Rattle.std.proofs.lemmas.Result.{err_from_is_err_and}
use Rattle.pg_decider.specs.Assignment.{on}
use Rattle.pg_program.specs.Limits.{most_scalars}
use Rattle.pg_program.specs.NameTable.{NameTable}
use Rattle.pg_program.specs.Program.{ProgramTable}
use Rattle.pg_outline.specs.Outline.{OutlineTable}
use Rattle.pg_judge.specs.Outcome.{outcome_of}
use Rattle.pg_judge.specs.Bench.{IsEnd}
use Rattle.pg_judge.specs.declared.bench.End.{End}
use Rattle.pg_judge.specs.declared.judgement.Judgement.{Judgement}
use Rattle.pg_judge.proofs.Ready.{most-few}
use Rattle.pg_judge.proofs.Rejected.{clauses-over}
use Rattle.pg_judge.proofs.Said.{outcome-true}
use Rattle.pg_derive.specs.Puts.{Puts, PutsText}
use Rattle.pg_derive.specs.Derived.{IsDerivation, IsDerivationUnder}
use Rattle.pg_derive.specs.Begun.{IsEndText}
use Rattle.pg_derive.proofs.Parts.{nothing-under, fault-same, end-is}
use Rattle.pg_derive.proofs.writing.derive.Goals as goal

pub returns-in_err-bench-clause-derivation : goal.returns-in_err-bench-clause-derivation
returns-in_err-bench-clause-derivation g c =
    let p = err_from_is_err_and c.from_residual.result c.from_residual.ensures.1 in
    let o = c.args.o.now in
    rw (p.1, p.2)
    (nothing-under o c.args.budget (λ i from to. clauses-over o i c.program.ensures.made from to) (λ (j : Judgement) (text : List ℕ). IsDerivation o (outcome_of j) text)
    (g.K.Sink.written c.args.out.now) (g.K.Sink.faults c.args.out.now) (g.K.Sink.faults c.args.out.now))

pub returns-in_err-truths-clause-derivation : goal.returns-in_err-truths-clause-derivation
returns-in_err-truths-clause-derivation g c =
    let p = err_from_is_err_and c.from_residual-in_err-truths.result c.from_residual-in_err-truths.ensures.1 in
    let o = c.args.o.now in
    rw (p.1, p.2)
    (nothing-under o c.args.budget (λ i from to. clauses-over o i c.program.ensures.made from to) (λ (j : Judgement) (text : List ℕ). IsDerivation o (outcome_of j) text)
    (g.K.Sink.written c.args.out.now) (g.K.Sink.faults c.args.out.now) (g.K.Sink.faults c.args.out.now))

pub returns-in_err-end-clause-derivation : goal.returns-in_err-end-clause-derivation
returns-in_err-end-clause-derivation g c =
    let p = err_from_is_err_and c.from_residual-in_err-end.result c.from_residual-in_err-end.ensures.1 in
    let o = c.args.o.now in
    let q = c.in_ok-bench.bench.loader.outline in
    let fault = c.in_err-end.field-0.0 in
    let before = g.K.Sink.written c.args.out.now in
    let after = g.K.Sink.written c.put_derivation.new.out in
    let first = g.K.Sink.faults c.args.out.now in
    let now = g.K.Sink.faults c.put_derivation.new.out in
    rw (p.1, p.2)
    (fault-same (λ (end : End) (text : List ℕ). IsEndText o end text) (λ (j : Judgement) (text : List ℕ). IsDerivation o (outcome_of j) text) (IsDerivationUnder o c.args.budget) fault before after
    first now
    (subst (λ (x : OutlineTable). Puts (λ (end : End) (text : List ℕ). IsEndText x end text) (IsDerivationUnder x c.args.budget) (Err fault) before after first now) c.in_ok-bench.ensures.outline
    c.in_err-end.ensures.derivation))

pub judgement-requires-clause-room : goal.judgement-requires-clause-room
judgement-requires-clause-room g c =
    let o = c.in_ok-bench.bench.loader.outline in
    let most = most-few o c.put_derivation.new.bench.workspace.atoms c.needs.result.atoms c.in_ok-end.ensures.room c.needs.ensures.atoms in
    omega (arith, most, c.in_ok-truths.ensures.capacity)

pub returns : goal.returns
returns g c =
    let o = c.args.o.now in
    let found = on c.put_derivation.new.bench.workspace.literals in
    let end = c.in_ok-end.end in
    let before = g.K.Sink.written c.args.out.now in
    let after = g.K.Sink.written c.put_derivation.new.out in
    let same = c.in_ok-bench.ensures.outline in
    let is = subst (λ (q : OutlineTable). IsEnd q c.args.budget found end) same c.in_ok-end.ensures.end in
    let text = subst (λ (q : OutlineTable). PutsText (λ (t : List ℕ). IsEndText q end t) before after) same c.in_ok-end.ensures.derivation in
    let few : length o.program.names.scalars ≤ most_scalars = omega (arith, ap (λ (p : ProgramTable). length p.names.scalars) c.program.ensures.program, ap (λ (n : NameTable). length n.scalars) c.names.ensures.names, c.scalars-scalars.ensures.count, c.scalars-scalars.ensures.few) in
    let outcome = c.judgement.ensures o c.args.budget is in
    record {
      outcome = outcome;
      says = outcome-true o c.args.budget (outcome_of c.judgement.result) c.program.ensures.made few outcome;
      derivation = end-is o c.args.budget found end (outcome_of c.judgement.result) before after is outcome text;
      faults = c.in_ok-end.ensures.faults;
    }
